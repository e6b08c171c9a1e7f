use Rattle.std.proofs.Common.{◌≡◌, false, Some, get_or, length, sym, ap, subst, ◌∙◌, arith}
use Rattle.std.specs.Prelude.{slice_get}
use Rattle.std.proofs.lemmas.Option.{slice_get-get_or}
use Rattle.kex_paths.specs.KeptLeaves.{IsRestricted}
use Rattle.kex_cover.proofs.LeftLeaves.{some_is}
use Rattle.kex_cover.proofs.LeftWays.{begins, is_start, machine_of, many_lefts, some_start, some_states}
use Rattle.kex_cover.proofs.rows.first_update.Goals as goal
use Rattle.kex_cover.proofs.rows.first_update.Goals.{After-index-lefts-0, In_ok-left}

there : (c : After-index-lefts-0) → slice_get c.args.lefts.now 0 ≡ Some c.index-lefts-0.result
there c =
    let k = c.requires.left.0 in
    let lt = some_states c.args.tools.now.workspace c.args.table.now c.args.lefts.now k in
    slice_get-get_or c.args.lefts.now 0 c.index-lefts-0.result (omega (arith, lt, many_lefts c.args.tools.now.workspace c.args.table.now c.args.lefts.now k)) ∙ ap (λ z. Some z) (sym c.index-lefts-0.is)

pub mark_leaves-requires : goal.mark_leaves-requires
mark_leaves-requires c =
    let top = (goal.at.mark_leaves-requires c).After-index-lefts-0 in
    c.requires.long ∙ ap (λ z. length z.nodes) (sym (machine_of c.args.tools.now.workspace c.args.table.now c.args.lefts.now c.requires.left.0 0 c.index-lefts-0.result (there top)))

here : (c : In_ok-left) → slice_get c.args.trees.now 0 ≡ Some c.index-trees-0.result
here c =
    let k = c.requires.left.0 in
    let lt = some_states c.args.tools.now.workspace c.args.table.now c.args.lefts.now k in
    slice_get-get_or c.args.trees.now 0 c.index-trees-0.result (omega (arith, lt, c.requires.left.1.count, k.determined.rows.count)) ∙ ap (λ z. Some z) (sym c.index-trees-0.is)

left : (c : In_ok-left) → IsRestricted (λ p. get_or c.mark_leaves.new.marks p false) c.index-trees-0.result c.args.table.now.initial c.in_ok-left.left
left c = subst (λ z. IsRestricted (λ p. get_or c.mark_leaves.new.marks p false) c.index-trees-0.result z c.in_ok-left.left) c.initial.ensures.same c.in_ok-left.ensures.left

pub unwrap-tree-requires : goal.unwrap-tree-requires
unwrap-tree-requires c =
    let at = goal.at.unwrap-tree-requires c in
    let k = c.requires.left.0 in
    let b = begins c.args.tools.now.workspace c.args.table.now c.args.lefts.now k c.args.trees.now c.requires.left.1 c.index-trees-0.result c.index-lefts-0.result (here at.In_ok-left) (there at.After-index-lefts-0) in
    some_is c.in_ok-left.left (some_start c.args.tools.now.workspace c.args.table.now c.args.lefts.now k c.index-trees-0.result c.index-lefts-0.result b (λ p. get_or c.mark_leaves.new.marks p false) c.mark_leaves.ensures.marked c.in_ok-left.left (left at.In_ok-left))

pub returns-clause-first : goal.returns-clause-first
returns-clause-first c = λ k are.
    let at = goal.at.returns-clause-first c in
    let b = begins c.args.tools.now.workspace c.args.table.now c.args.lefts.now k c.args.trees.now are c.index-trees-0.result c.index-lefts-0.result (here at.In_ok-left) (there at.After-index-lefts-0) in
    is_start c.args.tools.now.workspace c.args.table.now c.args.lefts.now k c.index-trees-0.result c.index-lefts-0.result b (λ p. get_or c.mark_leaves.new.marks p false) c.mark_leaves.ensures.marked c.in_ok-left.left c.unwrap-tree.result.0 c.unwrap-tree.result.1 (left at.In_ok-left) c.unwrap-tree.ensures
