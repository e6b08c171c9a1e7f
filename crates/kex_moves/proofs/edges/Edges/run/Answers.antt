use Rattle.std.proofs.Common.{◌+◌, subst, sym}
use Rattle.std.specs.Prelude.{IfSome}
use Rattle.std.proofs.lemmas.Option.{IfSome_then}
use Rattle.kex_moves.specs.Known.{Known, IsEdge, IsPairRow}
use Rattle.kex_moves.specs.Runs.{HasEdgeRow, LeadsBack, AreEdgesWithin, StopsAt}
use Rattle.kex_moves.proofs.KnownEdges.{at_of, row_in, back_in, rows_within}
use Rattle.kex_moves.proofs.edges.Edges.run.Goals as goal

pub run-requires-clause-row : goal.run-requires-clause-row
run-requires-clause-row c =
    let e = c.self.inside in
    let k : Known = record { classes = e.classes; width = e.width; shift = e.shift; pairs = e.pairs.items; edges = e.edges.items; text = e.text.items; acts = e.acts.items } in
    subst (λ l. HasEdgeRow e.classes l c.args.row) (sym c.deref.ensures.value) (row_in k c.args.row c.requires.row.0 c.self.invariant (subst (λ k. IsPairRow k c.args.row c.requires.row.0) (sym c.self.view_is) c.requires.row.1))

pub run-requires-clause-rows : goal.run-requires-clause-rows
run-requires-clause-rows c =
    let e = c.self.inside in
    let k : Known = record { classes = e.classes; width = e.width; shift = e.shift; pairs = e.pairs.items; edges = e.edges.items; text = e.text.items; acts = e.acts.items } in
    subst (λ t. AreEdgesWithin (record { classes = e.classes; edges = c.deref.result.now; text = t })) (sym c.deref-2.ensures.value) (subst (λ l. AreEdgesWithin (record { classes = e.classes; edges = l; text = k.text })) (sym c.deref.ensures.value) (rows_within k c.self.invariant))

pub run-requires-clause-back : goal.run-requires-clause-back
run-requires-clause-back c =
    let e = c.self.inside in
    let k : Known = record { classes = e.classes; width = e.width; shift = e.shift; pairs = e.pairs.items; edges = e.edges.items; text = e.text.items; acts = e.acts.items } in
    let row = subst (λ k. IsPairRow k c.args.row c.requires.row.0) (sym c.self.view_is) c.requires.row.1 in
    subst (λ l. LeadsBack e.classes l c.args.row) (sym c.deref.ensures.value) (back_in k c.args.row row.number c.self.invariant row.begins)

pub returns-clause-edge : goal.returns-clause-edge
returns-clause-edge c =
    let e = c.self.inside in
    let k : Known = record { classes = e.classes; width = e.width; shift = e.shift; pairs = e.pairs.items; edges = e.edges.items; text = e.text.items; acts = e.acts.items } in
    let halt = c.run.result in
    let piece = c.args.piece.now in
    let stops = subst (λ l. IfSome halt.edge (StopsAt e.classes l halt.row halt.at piece)) c.deref.ensures.value c.run.ensures.edge in
    let both = IfSome_then halt.edge stops (λ x s. (s, at_of (IsEdge k) k.edges (halt.row + s.1.class) x c.self.invariant.edges s.1.at)) in
    subst (λ k. IfSome halt.edge (λ x. StopsAt k.classes k.edges halt.row halt.at piece x × IsEdge k x)) c.self.view_is both
