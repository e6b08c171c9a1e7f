use Rattle.std.proofs.Common.{◌≡◌, ℕ, ◌-◌, ◌<◌, ◌≤◌, ◌++◌, ◌∷◌, [], ◌+◌, List, length, suc, sym, ap, subst, ◌∙◌, append_assoc, length-append, arith}
use Rattle.kex_code.specs.Codes.{HasNumber}
use Rattle.kex_machine.specs.Nodes.{Graph}
use Rattle.kex_lowering.proofs.Causes.{if_err}
use Rattle.kex_compile.specs.Stages.{IsUntabled, stage_of}
use Rattle.kex_compile.proofs.ItemNumbers.{stand-at}
use Rattle.kex_compile.proofs.StageTables.{untabled}
use Rattle.kex_compile.proofs.tables.plan_machines.Goals.{In-Some, In_ok-add_again}
use Rattle.kex_compile.proofs.tables.plan_machines.Goals as goal

module _ (c : In-Some) where
  abbrev ms : List Graph
  ms = c.args.lowered.machines

  abbrev rest : List Graph
  rest = c.next.new.self.rest.items

  whole : ms ≡ c.machines.yielded ++ c.in-Some.machine ∷ rest
  whole = c.machines.invariant.machines ∙ ap (λ (z : List Graph). c.machines.yielded ++ z) c.in-Some.ensures.steps.0

  split : ms ≡ (c.machines.yielded ++ c.in-Some.machine ∷ []) ++ rest
  split = whole ∙ sym (append_assoc c.machines.yielded (c.in-Some.machine ∷ []) rest)

  stands : (n : ℕ) × (c.in-Some.machine.stage ≡ suc n) × (n ≤ length c.machines.yielded) × (n < length c.machines.yielded → HasNumber c.machines.yielded c.in-Some.machine n)
  stands = stand-at stage_of ms c.machines.yielded rest c.in-Some.machine whole c.machines.invariant.stand

pub add-requires-clause-number : goal.add-requires-clause-number
add-requires-clause-number c =
    let s = stands (goal.at.add-requires-clause-number c).In-Some in
    let first : c.stage-first.result ≡ c.in-Some.machine.stage = c.stage-first.ensures ∙ ap (λ (z : Graph). z.stage) (c.machine-in-machines.ensures.same ∙ c.get.ensures) in
    omega (arith, first, s.1, s.2, c.machines.invariant.stage, c.if-first-stage.false)

pub returns-in_err-add-clause-refused : goal.returns-in_err-add-clause-refused
returns-in_err-add-clause-refused c =
    let top = (goal.at.returns-in_err-add-clause-refused c).In-Some in
    let l = c.machines in
    let e = c.in_err-add.field-0.0 in
    let m = c.in-Some.machine in
    let number : l.stage + 1 ≡ suc (length l.yielded) = omega (arith, l.invariant.stage) in
    if_err c.from_residual-in_err-add.result e (λ x. IsUntabled c.args.limits.now (ms top) x) c.from_residual-in_err-add.ensures.1
    (untabled c.args.limits.now l.yielded m (rest top) (ms top) (l.stage + 1) l.planning.too_many_pairs l.planning.compiled e (whole top) number l.invariant.plans (c.in_err-add.ensures.refused l.yielded l.invariant.plans))

pub machines-preserved : goal.machines-preserved
machines-preserved c =
    let l = c.machines in
    let m = c.in-Some.machine in
    let added = c.in_ok-add.ensures in
    let number : l.stage + 1 ≡ suc (length l.yielded) = omega (arith, l.invariant.stage) in
    record {
      machines = split (goal.at.machines-preserved c).In-Some;
      stand = l.invariant.stand;
      count = l.invariant.count;
      places = added.places ∙ l.invariant.places;
      stage = omega (arith, l.invariant.stage, length-append l.yielded (m ∷ []));
      told = added.told ∙ l.invariant.told;
      plans = added.plans l.yielded number l.invariant.plans;
      few = omega (arith, l.invariant.few, added.few);
      each = λ k. let e = added.each k in omega (arith, e);
    }

-- the machine is one before
earlier : (c : In_ok-add_again) → (s : (n : ℕ) × (c.in-Some.machine.stage ≡ suc n) × (n ≤ length c.machines.yielded) × (n < length c.machines.yielded → HasNumber c.machines.yielded c.in-Some.machine n)) → HasNumber c.machines.yielded c.in-Some.machine (c.stage-first.result - 1)
earlier c s =
    let first : c.stage-first.result ≡ c.in-Some.machine.stage = c.stage-first.ensures ∙ ap (λ (z : Graph). z.stage) (c.machine-in-machines.ensures.same ∙ c.get.ensures) in
    let number : s.0 ≡ c.stage-first.result - 1 = omega (arith, first, s.1) in
    let within : s.0 < length c.machines.yielded = omega (arith, first, s.1, c.machines.invariant.stage, c.if-first-stage.true) in
    subst (λ k. HasNumber c.machines.yielded c.in-Some.machine k) number (s.3 within)

pub machines-preserved-in_ok-add_again : goal.machines-preserved-in_ok-add_again
machines-preserved-in_ok-add_again c =
    let at = goal.at.machines-preserved-in_ok-add_again c in
    let l = c.machines in
    let m = c.in-Some.machine in
    let added = c.in_ok-add_again.ensures in
    record {
      machines = split at.In-Some;
      stand = l.invariant.stand;
      count = l.invariant.count;
      places = added.places ∙ l.invariant.places;
      stage = omega (arith, l.invariant.stage, length-append l.yielded (m ∷ []));
      told = added.told ∙ l.invariant.told;
      plans = added.plans c.args.limits.now l.yielded m (earlier at.In_ok-add_again (stands at.In-Some)) l.invariant.plans;
      few = omega (arith, l.invariant.few, added.few);
      each = λ k. let e = added.each k in omega (arith, e);
    }

pub machines-preserved-in_ok-add_again-2 : goal.machines-preserved-in_ok-add_again-2
machines-preserved-in_ok-add_again-2 c =
    let at = goal.at.machines-preserved-in_ok-add_again-2 c in
    let l = c.machines in
    let m = c.in-Some.machine in
    let added = c.in_ok-add_again.ensures in
    record {
      machines = split at.In-Some;
      stand = l.invariant.stand;
      count = l.invariant.count;
      places = added.places ∙ l.invariant.places;
      stage = omega (arith, l.invariant.stage, length-append l.yielded (m ∷ []));
      told = added.told ∙ l.invariant.told;
      plans = added.plans c.args.limits.now l.yielded m (earlier at.In_ok-add_again (stands at.In-Some)) l.invariant.plans;
      few = omega (arith, l.invariant.few, added.few);
      each = λ k. let e = added.each k in omega (arith, e);
    }
