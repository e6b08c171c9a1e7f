use Rattle.std.proofs.Common.{◌≡◌, ℕ, ◌+◌, ◌<◌, ◌≤◌, ◌++◌, ◌∷◌, [], List, suc, length, take, drop, map, get_or, sym, ap, ap₂, subst, ◌∙◌, arith}
use Rattle.kex_model.specs.Trees.{root_of}
use Rattle.kex_model.specs.declared.program.Start.{Start}
use Rattle.kex_compile.specs.Stages.{AreFirsts, AreLowered, HasEachMachine, roots_of}
use Rattle.kex_compile.proofs.FirstStages.{all-refused}
use Rattle.kex_compile.proofs.StageRoots.{all-roots, roots-apart, roots-more, start_at}
use Rattle.kex_compile.proofs.stages.lower_stages.Goals as goal

pub stages-preserved : goal.stages-preserved
stages-preserved c =
    let P = c.args.program.now in
    let l = c.stages in
    let i = l.start-index in
    let d : Start = record { name = 0; at = 0 } in
    let r = c.root_of-root.result in
    let new = c.add.new.self in
    let added = c.in_ok-add.ensures in
    let within : i < length P.stages = omega (arith, c.stages-test.true, ap length c.stages-start-items.ensures) in
    let root : r ≡ start_at P (get_or P.stages i d) = c.root_of-root.ensures ∙ ap (λ (z : List Start). root_of P (get_or z i d).name) c.stages-start-items.ensures in
    let behind : List ℕ = map (start_at P) (drop (suc i) P.stages) in
    let split : roots_of P ≡ l.lowering.roots.items ++ r ∷ behind = roots-apart P i d within ∙ sym (ap₂ (λ (x : List ℕ) (y : ℕ). x ++ y ∷ behind) l.invariant.roots root) in
    let so_far : l.lowering.roots.items ++ r ∷ [] ≡ map (start_at P) (take (i + 1) P.stages) = ap₂ (λ (x : List ℕ) (y : ℕ). x ++ y ∷ []) l.invariant.roots root ∙ sym (roots-more P i d within) in
    record {
      roots = added.roots ∙ so_far;
      each = subst (λ (z : List ℕ). HasEachMachine z new.firsts new.lowered) (sym added.roots) added.each;
      lowered = subst (λ (z : List ℕ). AreLowered P z new.firsts new.lowered) (sym added.roots) (added.lowered behind split l.invariant.lowered);
    }

pub returns-in-Some-clause-refused : goal.returns-in-Some-clause-refused
returns-in-Some-clause-refused c = λ limits.
    let P = c.args.program.now in
    let l = c.stages in
    let past : length P.stages ≤ l.start-index = subst (λ (z : List Start). length z ≤ l.start-index) c.stages-start-items.ensures c.stages-test.false in
    all-refused limits P l.lowering.firsts c.in-Some.refusal
    (subst (λ (z : List ℕ). AreFirsts P z l.lowering.firsts) (l.invariant.roots ∙ all-roots P l.start-index past) l.invariant.lowered.firsts)
    (sym c.least.ensures ∙ c.in-Some.is)
