use Rattle.std.proofs.Common.{◌+◌, ◌≤◌, length, sym, subst}
use Rattle.kex_moves.specs.Known.{Known, IsPairRow}
use Rattle.kex_moves.proofs.KnownEdges.{row_fits}
use Rattle.kex_moves.proofs.edges.Edges.follow.Goals as goal

pub follow-requires-clause-row : goal.follow-requires-clause-row
follow-requires-clause-row c =
    let e = c.self.inside in
    let k : Known = record { classes = e.classes; width = e.width; shift = e.shift; pairs = e.pairs.items; edges = e.edges.items; text = e.text.items; acts = e.acts.items } in
    subst (λ l. c.args.row + e.width ≤ length l) (sym c.deref.ensures.value) (row_fits k c.args.row c.requires.row.0 c.self.invariant (subst (λ k. IsPairRow k c.args.row c.requires.row.0) (sym c.self.view_is) c.requires.row.1))
