use Rattle.std.proofs.Common.{◌++◌, ◌∷◌, [], refl, sym, subst, arith}
use Rattle.kex_moves.specs.declared.edges.Pair.{Pair}
use Rattle.kex_moves.specs.Known.{Known, IsOrdered}
use Rattle.kex_moves.proofs.AddedRows.{widens_none, ordered_wider, last_row}
use Rattle.kex_moves.proofs.edges.Edges.add.Goals as goal

pub returns-then-not-has_room-clause-wider : goal.returns-then-not-has_room-clause-wider
returns-then-not-has_room-clause-wider c = widens_none c.args.self.now c.args.state c.args.node

pub invariant_of-self : goal.invariant_of-self
invariant_of-self c =
    let e = c.self.inside in
    let k : Known = record { classes = e.classes; width = e.width; shift = e.shift; pairs = e.pairs.items; edges = e.edges.items; text = e.text.items; acts = e.acts.items } in
    let p : Pair = record { state = c.args.state; node = c.args.node; earlier = c.head_of.result } in
    let pushed = c.in-Ok.ensures {u = tt} in
    let wide = ordered_wider k p pushed.edges.0 c.self.invariant pushed.edges.2 pushed.edges.3 in
    subst (λ q. IsOrdered (record { classes = e.classes; width = e.width; shift = e.shift; pairs = q; edges = c.push_row.new.edges.items; text = e.text.items; acts = e.acts.items })) (sym pushed.pairs) (subst (λ q. IsOrdered (record { classes = e.classes; width = e.width; shift = e.shift; pairs = e.pairs.items ++ p ∷ []; edges = q; text = e.text.items; acts = e.acts.items })) (sym pushed.edges.1) wide)

pub returns-in-Ok-clause-ordered : goal.returns-in-Ok-clause-ordered
returns-in-Ok-clause-ordered c = invariant_of-self c

pub returns-in-Ok-clause-row : goal.returns-in-Ok-clause-row
returns-in-Ok-clause-row c =
    let e = c.self.inside in
    let k : Known = record { classes = e.classes; width = e.width; shift = e.shift; pairs = e.pairs.items; edges = e.edges.items; text = e.text.items; acts = e.acts.items } in
    let k' : Known = record { classes = e.classes; width = e.width; shift = e.shift; pairs = c.push_row.new.pairs.items; edges = c.push_row.new.edges.items; text = e.text.items; acts = e.acts.items } in
    let p : Pair = record { state = c.args.state; node = c.args.node; earlier = c.head_of.result } in
    (p, last_row k k' p c.len-row.result c.self.invariant (c.in-Ok.ensures {u = tt}).pairs refl (omega (arith, c.len-row.ensures)), refl, refl)
