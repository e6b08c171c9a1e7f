use Rattle.std.proofs.Common.{◌∙◌, ◌<◌, ◌+◌, Some, length, ap, sym, subst, arith}
use Rattle.std.specs.Prelude.{slice_get}
use Rattle.std.proofs.lemmas.Option.{slice_get-get_or}
use Rattle.std.proofs.lemmas.List.Elements.{All-get_or}
use Rattle.kex_moves.specs.Known.{Known, IsEdge, IsPairRow}
use Rattle.kex_moves.proofs.KnownEdges.{index_in}
use Rattle.kex_moves.proofs.edges.Edges.edge_at.Goals as goal

abbrev known : goal.After-self → Known
known c = let e = c.self.inside in record { classes = e.classes; width = e.width; shift = e.shift; pairs = e.pairs.items; edges = e.edges.items; text = e.text.items; acts = e.acts.items }

index : (c : goal.After-self) → c.args.row + c.args.class < length c.self.inside.edges.items
index c = index_in (known c) c.args.row c.requires.row.0 c.args.class c.self.invariant (subst (λ k. IsPairRow k c.args.row c.requires.row.0) (sym c.self.view_is) c.requires.row.1) (omega (arith, ap (λ k. k.width) c.self.view_is, c.requires.class))

pub overflow_add-row : goal.overflow_add-row
overflow_add-row c = omega (arith, index c, c.self.inside.edges.ok.0)

pub index-requires : goal.index-requires
index-requires c = omega (arith, index c, c.self.inside.edges.ok.0)

pub returns-clause-edge : goal.returns-clause-edge
returns-clause-edge c =
    let e = c.self.inside in
    let known : Known = record { classes = e.classes; width = e.width; shift = e.shift; pairs = e.pairs.items; edges = e.edges.items; text = e.text.items; acts = e.acts.items } in
    let index = index_in known c.args.row c.requires.row.0 c.args.class c.self.invariant (subst (λ k. IsPairRow k c.args.row c.requires.row.0) (sym c.self.view_is) c.requires.row.1) (omega (arith, ap (λ k. k.width) c.self.view_is, c.requires.class)) in
    ap (λ k. slice_get k.edges (c.args.row + c.args.class)) (sym c.self.view_is) ∙ slice_get-get_or c.self.inside.edges.items (c.args.row + c.args.class) c.index.result.now index ∙ ap (λ e. Some e) (sym c.index.ensures)

pub returns-clause-ordered : goal.returns-clause-ordered
returns-clause-ordered c =
    let e = c.self.inside in
    let known : Known = record { classes = e.classes; width = e.width; shift = e.shift; pairs = e.pairs.items; edges = e.edges.items; text = e.text.items; acts = e.acts.items } in
    let index = index_in known c.args.row c.requires.row.0 c.args.class c.self.invariant (subst (λ k. IsPairRow k c.args.row c.requires.row.0) (sym c.self.view_is) c.requires.row.1) (omega (arith, ap (λ k. k.width) c.self.view_is, c.requires.class)) in
    subst (λ k. IsEdge k c.index.result.now) c.self.view_is (subst (λ x. IsEdge known x) (sym c.index.ensures) (All-get_or (IsEdge known) e.edges.items (c.args.row + c.args.class) c.index.result.now index c.self.invariant.edges))
