-- The laws of places: what two workers that stand at one place do after it, and what a stop means
-- for longer texts.
use Rattle.std.proofs.Common.{◌≡◌, ℕ, List, ◌++◌, Some, inl, ⊎_elim, refl, sym, ap, ap₂, subst, ◌∙◌}
use Rattle.std.proofs.Common.{append_assoc}
use Rattle.kex_code.specs.declared.symbol.Symbol.{Symbol}
use Rattle.kex_model.proofs.Orders.{two_fronts}
use Rattle.kex_machine.specs.Nodes.{Graph}
use Rattle.kex_machine.specs.Answers.{HasRun, MeansByRun, IsViableFor}
use Rattle.kex_sst.specs.Passes.{passes}
use Rattle.kex_action.specs.Actors.{Position}
use Rattle.kex_runner.specs.Places.{StandsAt}
use Rattle.kex_runner.specs.Running.{Running, HasPassed, IsRunOf}
use Rattle.kex_pipe.specs.Working.{SaysViable}
use Rattle.kex_stage.specs.declared.oracle.Oracle.TheVariants.{Table}
use Rattle.kex_plan.specs.declared.plan.Telling.{Telling}
use Rattle.kex_plan.specs.Plans.{IsTableAs, SaysAs}
use Rattle.kex_stage.specs.StageLaws.{told_orderly}
use Rattle.kex_stage.specs.Stages.{StageFollows}
use Rattle.kex_chunk_stage.specs.TableWorkers.{TableState, table_plan_of}

module _ (r s : Running) (state read : ℕ) (table : r.table ≡ s.table)
    (there : StandsAt r state read) (here : StandsAt s state read) where
  states : r.state ≡ s.state
  states = there.state_is ∙ sym here.state_is

  reads : r.read ≡ s.read
  reads = there.read_is ∙ sym here.read_is

  pending : r.pending ≡ s.pending
  pending = there.pending ∙ sym here.pending

  registers : r.registers ≡ s.registers
  registers = there.registers ∙ sym here.registers

  passed_alike : (v : List ℕ) (c : List Symbol) → HasPassed r v c → HasPassed s v c
  passed_alike v c p = record {
    passes = ap (λ t. passes t v) (sym table) ∙ p.passes
        ∙ ap₂ (λ q x. Some (record { state = q; code = c ++ x; registers = r.registers }))
        states pending
        ∙ ap (λ x. Some (record { state = s.state; code = c ++ s.pending; registers = x }))
        registers;
    count = sym reads ∙ p.count;
  }

  run_alike : (w : List ℕ) (c : List Symbol) → IsRunOf r w c → IsRunOf s w c
  run_alike w c run = ⊎_elim
      (λ l. inl (here.dead, passed_alike w c l.1))
      (λ d. let bad = sym there.dead ∙ d.0 in absurd (cc))
      run

-- what follows the one follows the other
pub alike : (a b : TableState) (state read : ℕ) (p : Position)
    → table_plan_of a ≡ table_plan_of b
    → StandsAt a.follower.runner state read × (a.actor ≡ p)
    → StandsAt b.follower.runner state read × (b.actor ≡ p)
    → (a.follower.runner.read ≡ b.follower.runner.read)
    × ((w text : List ℕ) → StageFollows a.telling (Table a.follower) a.actor w text
    → StageFollows b.telling (Table b.follower) b.actor w text)
alike a b state read p same there here = (there.0.read_is ∙ sym here.0.read_is, follows)
  where
    table : a.follower.runner.table ≡ b.follower.runner.table
    table = ap (λ m. m.table) same

    telling : a.telling ≡ b.telling
    telling = ap (λ m. m.telling) same

    actor : a.actor ≡ b.actor
    actor = there.1 ∙ sym here.1

    follows : (w text : List ℕ) → StageFollows a.telling (Table a.follower) a.actor w text
        → StageFollows b.telling (Table b.follower) b.actor w text
    follows w text f =
        let k = f.followed in
        let h = k.hears in
        subst (λ (z : Position). StageFollows b.telling (Table b.follower) z w text) actor
        (subst (λ (k : Telling). StageFollows k (Table b.follower) a.actor w text) telling (record {
          followed = record {
            code = k.code;
            hears = (
              h.0,
              subst (λ t. IsTableAs a.telling a.actor.machine t) table h.1,
              b.follower.same_table,
              run_alike a.follower.runner b.follower.runner state read table there.0 here.0 w
                  k.code h.3,
            );
            performed = k.performed;
            machine = k.machine;
          };
          count = sym (there.0.read_is ∙ sym here.0.read_is) ∙ f.count;
          good = f.good;
        }))

-- what stands after a byte that was refused changes nothing
pub stopped : (k : Telling) (g : Graph) (w v : List ℕ) (at : ℕ) (text : List ℕ)
    → SaysViable (IsViableFor g) (SaysAs k g) (HasRun g) (MeansByRun g) w (Some at) text
    → SaysViable (IsViableFor g) (SaysAs k g) (HasRun g) (MeansByRun g) (w ++ v) (Some at) text
stopped k g w v at text (bad, (u, l, says, is)) = (
  λ good. bad ((told_orderly k g).front w (w ++ v) (v, refl) good),
  (
    u,
    record {
      front = (l.front.0 ++ v, ap (λ z. z ++ v) l.front.1 ∙ append_assoc u l.front.0 v);
      good = l.good;
      longest = λ x b good. ⊎_elim
          (λ q. absurd (bad ((told_orderly k g).front w x q good)))
          (λ q. l.longest x q good)
          (two_fronts x w b.0 v (sym b.1));
    },
    says,
    is,
  ),
)
