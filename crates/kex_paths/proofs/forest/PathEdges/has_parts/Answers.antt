use Rattle.std.proofs.Common.{◌≡◌, ◌-◌, ◌++◌, ◌<◌, [], ◌∷◌, take, get_or, ap, sym, subst, append-nil, ◌∙◌, arith}
use Rattle.std.proofs.lemmas.Bool.{eqb-true}
use Rattle.std.proofs.lemmas.List.{take_all}
use Rattle.kex_code.specs.declared.symbol.Symbol.TheVariants.{L}
use Rattle.kex_sst.specs.declared.parts.Part.TheVariants.{Put}
use Rattle.kex_paths.specs.Forests.{IsLabel}
use Rattle.kex_paths.proofs.EdgeLabels.{label_end, label_next, take_next, one_part}
use Rattle.kex_paths.proofs.forest.PathEdges.has_parts.Goals as goal

pub loop-part-preserved : goal.loop-part-preserved
loop-part-preserved c = λ xs h.
    let cells = c.args.self.now.cells in
    let parts = c.args.parts.now in
    let i = c.loop-part.part-index in
    let cell = c.index-cell.result.now in
    let some : 0 < c.loop-part.left = omega (arith, c.if-left-eq0.false) in
    let is : cell ≡ get_or cells (c.loop-part.left - 1) cell = subst (λ z. cell ≡ get_or z (c.loop-part.left - 1) cell) (ap (λ z. z.cells) c.self.view_is) c.index-cell.ensures in
    let old = c.loop-part.invariant xs h in
    let new = label_next cells c.loop-part.left cell (take i parts) xs old.0 some is old.1 old.2 in
    let same : cell.part ≡ get_or parts i (Put L) = one_part cell.part (get_or parts i (Put L)) (c.are_same.ensures c.if-not-are_same.false) in
    (new.0, new.1, ap (λ z. z ++ new.0) (take_next parts i c.loop-part-test.true ∙ ap (λ z. take i parts ++ z ∷ []) (sym same)) ∙ new.2)

pub returns : goal.returns
returns c = λ yes xs h.
    let cells = c.args.self.now.cells in
    let old = c.loop-part.invariant xs h in
    let none : c.loop-part.left ≡ 0 = eqb-true c.loop-part.left 0 yes in
    let rest : old.0 ≡ [] = label_end cells old.0 (subst (λ z. IsLabel cells z old.0) none old.1) in
    sym (take_all c.loop-part.part-index c.args.parts.now c.loop-part-test.false) ∙ sym (append-nil (take c.loop-part.part-index c.args.parts.now)) ∙ ap (λ z. take c.loop-part.part-index c.args.parts.now ++ z) (sym rest) ∙ old.2
