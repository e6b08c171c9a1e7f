use Rattle.std.proofs.Common.{◌≡◌, ℕ, ◌+◌, ◌++◌, ◌∷◌, [], List, suc, length, refl, sym, ap, subst, ◌∙◌, arith}
use Rattle.std.specs.Prelude.{Result, Ok, Err, OnOk, is_some}
use Rattle.kex_code.specs.Codes.{IsAmong}
use Rattle.kex_machine.specs.Nodes.{Graph}
use Rattle.kex_compile.specs.Stages.{AreLowered, IsStage, least, roots_of}
use Rattle.kex_compile.proofs.FirstStages.{not-none, one-behind, one-planned, one-refused, planned-more}
use Rattle.kex_compile.proofs.StageTables.{on_ok}
use Rattle.kex_compile.proofs.lowering.Lowering.lower.Goals.{In-Ok}
use Rattle.kex_compile.proofs.lowering.Lowering.lower.Goals as goal

module _ (c : In-Ok) where
  number : c.in-Ok.made.machine.stage ≡ suc (length c.args.self.now.roots.items)
  number = omega (arith, c.in-Ok.ensures.stage, c.len.ensures, c.args.self.now.roots.ok.0)

  is_stage : (behind : List ℕ) → roots_of c.args.program.now ≡ c.args.self.now.roots.items ++ c.args.root ∷ behind → (IsAmong c.args.self.now.roots.items c.args.root → ⊥) → IsStage c.args.program.now c.args.root c.in-Ok.made.machine
  is_stage behind split none = record {
    can_run = record { few = c.in-Ok.ensures.fits; some_text = c.in-Ok.ensures.carries.some_text };
    carries = c.in-Ok.ensures.carries;
    kept = c.in-Ok.ensures.kept;
    numbered = record {
      before = c.args.self.now.roots.items;
      at = c.args.root;
      behind = behind;
      split = split;
      number_is = number;
      is_so = refl;
      none_before = λ x i e. none (subst (λ z. IsAmong c.args.self.now.roots.items z) e i);
    };
  }

both : {A B : Type 0} (r : Result A B) (P Q R : Type 0) → (P → Q → R) → OnOk r P → OnOk r Q → OnOk r R
both (Ok x) P Q R f p q = f p q
both (Err e) P Q R f p q = p

pub returns-then-is_some-clause-lowered : goal.returns-then-is_some-clause-lowered
returns-then-is_some-clause-lowered c = λ behind split none so_far.
    let top = (goal.at.returns-then-is_some-clause-lowered c).In-Ok in
    let now = c.args.self.now in
    let is = is_stage top behind split none in
    one-behind c.args.program.now now.roots.items now.firsts now.lowered c.args.root so_far
    (planned-more c.args.program.now now.roots.items now.firsts c.args.root is.can_run so_far.firsts)
    (not-none (least now.firsts) (ap is_some (sym c.least.ensures) ∙ sym c.is_some.ensures ∙ c.if-is_some.true))

pub returns-in_ok-machine-in-Ok-clause-lowered : goal.returns-in_ok-machine-in-Ok-clause-lowered
returns-in_ok-machine-in-Ok-clause-lowered c = λ behind split none so_far.
    let top = (goal.at.returns-in_ok-machine-in-Ok-clause-lowered c).In-Ok in
    let P = c.args.program.now in
    let now = c.args.self.now in
    let m = c.in_ok-machine-in-Ok.machine in
    let is : IsStage P c.args.root m = subst (λ (z : Graph). IsStage P c.args.root z) (sym c.in_ok-machine-in-Ok.ensures) (is_stage top behind split none) in
    on_ok c.push.result _ (AreLowered P (now.roots.items ++ c.args.root ∷ []) now.firsts c.push.new.self)
    (λ pushed. one-planned P now.roots.items now.firsts now.lowered c.args.root so_far m c.in-Ok.made.places c.push.new.self is c.in-Ok.ensures.places pushed)
    c.push.ensures.pushed

pub returns-in-Err-clause-lowered : goal.returns-in-Err-clause-lowered
returns-in-Err-clause-lowered c = λ behind split none so_far.
    let P = c.args.program.now in
    let now = c.args.self.now in
    let number : c.len.result + 1 ≡ suc (length now.roots.items) = omega (arith, c.len.ensures, now.roots.ok.0) in
    both c.note.result _ _ (AreLowered P (now.roots.items ++ c.args.root ∷ []) c.note.new.self now.lowered)
    (λ noted some. one-refused P now.roots.items now.firsts now.lowered c.args.root so_far c.in-Err.why (c.len.result + 1) c.note.new.self number some noted c.in-Err.ensures.refused)
    c.note.ensures.noted c.note.ensures.rule
