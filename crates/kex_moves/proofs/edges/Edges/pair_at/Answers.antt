use Rattle.std.proofs.Common.{◌∙◌, ◌<◌, ◌/◌, ◌^◌, length, subst, sym, arith}
use Rattle.kex_moves.specs.Known.{Known, IsPairRow}
use Rattle.kex_moves.proofs.AddedRows.{number_in, pair_of_row}
use Rattle.kex_moves.proofs.edges.Edges.pair_at.Goals as goal

pub overflow_shr-row : goal.overflow_shr-row
overflow_shr-row c = omega (arith, c.self.invariant.few)

pub index-requires : goal.index-requires
index-requires c =
    let e = c.self.inside in
    let k : Known = record { classes = e.classes; width = e.width; shift = e.shift; pairs = e.pairs.items; edges = e.edges.items; text = e.text.items; acts = e.acts.items } in
    let within : c.args.row / 2 ^ e.shift < length e.pairs.items = number_in k c.args.row c.requires.0 c.self.invariant (subst (λ k. IsPairRow k c.args.row c.requires.0) (sym c.self.view_is) c.requires.1) in
    omega (arith, within, e.pairs.ok.0)

pub returns : goal.returns
returns c = λ p h.
    let e = c.self.inside in
    let k : Known = record { classes = e.classes; width = e.width; shift = e.shift; pairs = e.pairs.items; edges = e.edges.items; text = e.text.items; acts = e.acts.items } in
    c.index.ensures ∙ pair_of_row k c.args.row p c.index.result.now c.self.invariant (subst (λ k. IsPairRow k c.args.row p) (sym c.self.view_is) h)
