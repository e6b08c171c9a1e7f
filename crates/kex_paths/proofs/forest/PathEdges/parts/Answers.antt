use Rattle.std.proofs.Common.{◌≡◌, ◌-◌, ◌++◌, [], get_or, ap, sym, subst, append-nil, ◌∙◌, arith}
use Rattle.kex_paths.specs.Forests.{IsLabel}
use Rattle.kex_paths.proofs.EdgeLabels.{label_end, label_next}
use Rattle.kex_paths.proofs.forest.PathEdges.parts.Goals as goal

pub loop-left-preserved : goal.loop-left-preserved
loop-left-preserved c = λ xs h.
    let cells = c.args.self.now.cells in
    let cell = c.index-cell.result.now in
    let is : cell ≡ get_or cells (c.loop-left.left - 1) cell = subst (λ z. cell ≡ get_or z (c.loop-left.left - 1) cell) (ap (λ z. z.cells) c.self.view_is) c.index-cell.ensures in
    let old = c.loop-left.invariant xs h in
    let new = label_next cells c.loop-left.left cell c.loop-left.parts xs old.0 c.loop-left-test.true is old.1 old.2 in
    (new.0, new.1, ap (λ z. z ++ new.0) c.in_ok-push.ensures.added ∙ new.2)

pub returns : goal.returns
returns c = λ xs h.
    let old = c.loop-left.invariant xs h in
    let none : c.loop-left.left ≡ 0 = omega (arith, c.loop-left-test.false) in
    let rest : old.0 ≡ [] = label_end c.args.self.now.cells old.0 (subst (λ z. IsLabel c.args.self.now.cells z old.0) none old.1) in
    sym (append-nil c.loop-left.parts) ∙ ap (λ z. c.loop-left.parts ++ z) (sym rest) ∙ old.2
