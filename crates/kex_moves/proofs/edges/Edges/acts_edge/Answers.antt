use Rattle.std.proofs.Common.{refl, subst, arith}
use Rattle.kex_moves.specs.Known.{Known, Lengthens}
use Rattle.kex_moves.proofs.PlacedTexts.{lengthens_acts, settles_acts}
use Rattle.kex_moves.proofs.edges.Edges.acts_edge.Goals as goal

pub returns-clause-longer : goal.returns-clause-longer
returns-clause-longer c =
    let e = c.self.inside in
    let k : Known = record { classes = e.classes; width = e.width; shift = e.shift; pairs = e.pairs.items; edges = e.edges.items; text = e.text.items; acts = e.acts.items } in
    let acts = c.extend_from_slice.new.self.items in
    subst (λ q. Lengthens q (record { classes = e.classes; width = e.width; shift = e.shift; pairs = e.pairs.items; edges = e.edges.items; text = e.text.items; acts = acts })) c.self.view_is (lengthens_acts k acts c.args.deeds.now (c.in_ok-extend_from_slice.ensures {u = tt}).items)

pub returns-clause-settles : goal.returns-clause-settles
returns-clause-settles c = λ nodes told.
    let e = c.self.inside in
    let k : Known = record { classes = e.classes; width = e.width; shift = e.shift; pairs = e.pairs.items; edges = e.edges.items; text = e.text.items; acts = c.extend_from_slice.new.self.items } in
    settles_acts nodes k e.acts.items c.args.deeds.now c.args.next _ (c.in_ok-extend_from_slice.ensures {u = tt}).items refl (omega (arith, c.in-Some.ensures {u = tt}, c.len.ensures)) (omega (arith, c.in-Ok.ensures)) c.kind_of_acts.ensures.acts refl (λ q. told (c.kind_of_acts.ensures.opens q))
