-- The end after bytes of which nothing was told, and which the oracle wasn't given.
use Rattle.std.proofs.Common.{◌≡◌, ℕ, true, List, [], ◌++◌, Some, refl, sym, ap, ap₂, subst, ◌∙◌, append_assoc, append-nil}
use Rattle.kex_machine.specs.Nodes.{Graph}
use Rattle.kex_machine.specs.Answers.{IsGreedy}
use Rattle.kex_action.specs.Actors.{Position, BeginsRun, HasPerformed, TookAll}
use Rattle.kex_sst.specs.Passes.{passes, whole_code}
use Rattle.kex_moves.specs.Along.{EndsOn, bare}
use Rattle.kex_moves.specs.Speech.{RefusesCode}
use Rattle.kex_pipe.specs.Working.{CameToEnd}
use Rattle.kex_runner.specs.Following.{pass_at}
use Rattle.kex_stage.specs.declared.follower.Follower.{Follower}
use Rattle.kex_stage.specs.declared.oracle.Oracle.{Oracle}
use Rattle.kex_stage.specs.declared.oracle.Oracle.TheVariants.{Table}
use Rattle.kex_plan.specs.declared.plan.Telling.{Telling}
use Rattle.kex_stage.specs.declared.speak.StageFault.{StageFault}
use Rattle.kex_stage.specs.declared.speak.StageFault.TheVariants as faults
use Rattle.kex_stage.specs.Ahead.{FinishesPast}
use Rattle.kex_plan.specs.Plans.{teller}
use Rattle.kex_stage.specs.Stages.{ClosesAs, StageFollows}
use Rattle.kex_stage.specs.Works.{Followed, RefusesNone}
use Rattle.kex_stage.proofs.OracleAnswers.{means}
use Rattle.kex_stage.proofs.ByTable.{still_live}
use Rattle.kex_stage.proofs.NoRefusals.{by_fault, end_begins}
use Rattle.kex_machine.specs.Answers.{IsViableFor}

module _ (f : Follower) (a b : Position) (bs x y : List ℕ) (none : f.runner.pending ≡ []) (no_registers : f.runner.registers ≡ []) (e : EndsOn f.moves.table a b f.runner.state bs x y) (mb : b.machine ≡ a.machine) where
  module _ (k : Telling) (g : Graph) (w text : List ℕ) (fol : Followed k g (Table f) a w text) (v : IsViableFor g w) where
    -- the code that is said in all is that of the greedy parse
    pub greedy_past : IsGreedy g (w ++ bs) (fol.code ++ e.said)
    greedy_past =
        let h = fol.hears in
        let live = still_live k g f.runner.table h.0 h.1 f.runner w fol.code refl h.3 v in
        let here : passes f.runner.table w ≡ Some (bare f.runner.state fol.code) = live.passes ∙ ap₂ (λ c rs. Some (pass_at f.runner.state c rs)) (ap (λ z. fol.code ++ z) none ∙ append-nil fol.code) no_registers in
        let all = e.ended w fol.code (subst (λ t. passes t w ≡ Some (bare f.runner.state fol.code)) (sym h.2) here) in
        let p = all.0 in
        h.1.parsed (w ++ bs) p (fol.code ++ e.said) (subst (λ t. passes t (w ++ bs) ≡ Some p) h.2 all.1) (subst (λ t. whole_code t p ≡ Some (fol.code ++ e.said)) h.2 all.2)

    begins_past : BeginsRun a.machine (fol.code ++ e.said)
    begins_past = end_begins true k g (w ++ bs) (fol.code ++ e.said) a fol.machine greedy_past

  pub ends_past : (c : Position) (z : List ℕ) → TookAll b c [] y z → c.machine ≡ b.machine → FinishesPast (Table f) a bs x z
  ends_past c z took mc k g w text fol v =
      let code = fol.code ++ e.said in
      let went = e.went fol.code fol.code text fol.performed (begins_past k g w text fol v) in
      let one : HasPerformed b code code (text ++ went.more) = went.performed fol.code fol.code text fol.performed in
      let two : HasPerformed c code code ((text ++ went.more) ++ took.went.more) = subst (λ u. HasPerformed c u u ((text ++ went.more) ++ took.went.more)) (append-nil code) (took.went.performed code code (text ++ went.more) one) in
      record {
        more = went.more ++ took.went.more;
        written = took.went.written ∙ ap (λ u. u ++ took.went.more) went.written ∙ append_assoc x went.more took.went.more;
        means = means g c (mc ∙ mb ∙ fol.machine) took.settled code (text ++ (went.more ++ took.went.more)) (subst (λ u. HasPerformed c code code u) (append_assoc text went.more took.went.more) two) (w ++ bs) (greedy_past k g w text fol v);
      }

  -- and nothing of it is refused
  pub past_refuses : (fault : StageFault) → (fault ≡ faults.Refused → RefusesCode b []) → RefusesNone (Table f) a fault
  past_refuses fault refuses k g w text fol v =
      let code = fol.code ++ e.said in
      let begins = begins_past k g w text fol v in
      let went = e.went fol.code fol.code text fol.performed begins in
      let still = subst (λ z. BeginsRun b.machine z) (sym (append-nil code)) (subst (λ m. BeginsRun m code) (sym mb) begins) in
      by_fault fault (λ is. refuses is code code (text ++ went.more) (went.performed fol.code fol.code text fol.performed) still)

-- so the stage comes to its end
pub comes_past : (k : Telling) (o : Oracle) (a : Position) (w text bs x y : List ℕ) → StageFollows k o a w text → FinishesPast o a bs x y → CameToEnd (ClosesAs (teller k a.machine)) (w ++ bs) text true x y
comes_past k o a w text bs x y f past =
    let m = past k a.machine w text f.followed f.good in
    record { more = m.more; written = m.written; closes = m.means }
