use Rattle.std.proofs.Common.{◌≡◌, true, false, sym, ◌∙◌}
use Rattle.std.specs.Cmp.{booleans_Decides}
use Rattle.std.proofs.lemmas.Bool.Decides.{Decides-eqb}
use Rattle.std.proofs.lemmas.Slice.Eq.{slice_eq-Decides}
use Rattle.kex_tabfile.proofs.targets.are_same_trees.Goals as goal

pub returns-then-eq-clause-same : goal.returns-then-eq-clause-same
returns-then-eq-clause-same c = λ e. (
  sym c.shape.ensures.same ∙ (slice_eq-Decides booleans_Decides _ _ _ c.eq.ensures).0 c.if-eq.true ∙ c.shape-2.ensures.same,
  sym c.leaves.ensures ∙ (slice_eq-Decides Decides-eqb _ _ _ c.eq-then-eq.ensures).0 e ∙ c.leaves-then-eq.ensures,
)

clash : true ≡ false → ⊥
clash e = cc

pub returns-else-eq-clause-other : goal.returns-else-eq-clause-other
returns-else-eq-clause-other c = λ e f h.
    let t = (slice_eq-Decides booleans_Decides _ _ _ c.eq.ensures).1 (c.shape.ensures.same ∙ f ∙ sym c.shape-2.ensures.same) in
    clash (sym t ∙ e)
