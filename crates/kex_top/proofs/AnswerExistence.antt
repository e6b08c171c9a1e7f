-- On each input there is an answer.
use Rattle.std.proofs.Common.{◌≡◌, ◌<◌, ◌∙◌, ◌∷◌, [], ◌++◌, ℕ, List, Bool, length, inl, inr, refl, sym, ap, subst}
use Rattle.std.specs.Prelude.{Option, Some, None}
use Rattle.kex_code.specs.Codes.{IsAmong, bytes_of}
use Rattle.kex_model.specs.Answers.{Answer, Pipeline, Report, at_byte, at_end, at_limit, bad_byte, cut_off, still_open, too_long, whole}
use Rattle.kex_model.specs.Answers as model
use Rattle.kex_machine.specs.Nodes.{Graph, IsMachineInRange, IsTrimmed}
use Rattle.kex_machine.specs.Answers.{HasRun, MeansByRun, SaysByRun, MachineAnswers}
use Rattle.kex_machine.proofs.Ranges.{stays_within}
use Rattle.kex_lowering.proofs.Existence.{has_answers, pipeline_answers}
use Rattle.kex_pipe.specs.Histories.{why_as}
use Rattle.kex_pipe.specs.Reports.{report_as}
use Rattle.kex_pipe.specs.declared.report.Rejected.{Rejected}
use Rattle.kex_pipe.specs.declared.turn.Why.{Why}
use Rattle.kex_pipe.specs.declared.turn.Why.TheVariants.{Byte, End, Limit}
use Rattle.kex_single.specs.Singles.{MachineCodeAnswers, MeansRunCode, SaysSharedCode}
use Rattle.kex_plan.specs.declared.plan.Telling.{Telling}
use Rattle.kex_plan.specs.declared.plan.Telling.TheVariants as telling
use Rattle.kex_plan.specs.Plans.{IsTableFor, Planned, teller, teller_of}
use Rattle.kex_stage.specs.Stages.{Gives}
use Rattle.kex_stage.proofs.TableAnswers.{tables_answer}
use Rattle.kex_sst.specs.Tables.{Transducer}
use Rattle.kex_pipeline.specs.Sayings.{AlwaysAnswers, AlwaysSays, StagesSay}

module _ (g : Graph) (limit : ℕ) (range : IsMachineInRange g.start g.nodes g.registers) (trimmed : IsTrimmed g) where
  pub machine-answers : (w : List ℕ) (e : Bool) → (a : Answer) × MachineAnswers g limit w e a
  machine-answers w e = has_answers g (stays_within g range) range.start_in trimmed limit w e

  says-code : (w s : List ℕ) → SaysByRun g w s → (text : List ℕ) × SaysSharedCode g w text
  says-code w s h = (_, (h.agreed, h.is_agreed, refl))

  means-code : (w s : List ℕ) → MeansByRun g w s → (text : List ℕ) × MeansRunCode g w text
  means-code w s m =
      let r = m.is_greedy.2.reached in
      let parse : HasRun g w = (m.run, m.runs, ap (λ z. bytes_of z) (m.codes ∙ sym r.2) ∙ r.1.reads) in
      (_, (m.greedy, record { parse = parse; greedy = m.is_greedy; least = m.least }, refl))

  coded : {w : List ℕ} {e : Bool} {a : Answer} → MachineAnswers g limit w e a → (b : Answer) × MachineCodeAnswers g limit w e b
  coded (bad_byte {text = s} v bad l h) = (_, bad_byte v bad (record { front = l.front; good = l.good; longest = l.longest }) (says-code v s h).1)
  coded (too_long {text = s} lt good h) = (_, too_long lt good (says-code _ s h).1)
  coded (cut_off {text = s} le good none h) = (_, cut_off le good none (says-code _ s h).1)
  coded (whole {text = s} le m) = (_, whole le (means-code _ s m).1)
  coded (still_open {text = s} le good h) = (_, still_open le good (says-code _ s h).1)

  pub code-answers : (w : List ℕ) (e : Bool) → (a : Answer) × MachineCodeAnswers g limit w e a
  code-answers w e = coded (machine-answers w e).1

-- a stage of a plan has an answer on each text: by its machine, or by its table where it tells what is best
pub plan-answers : (p : Planned) (limit : ℕ) → IsMachineInRange p.machine.start p.machine.nodes p.machine.registers → IsTrimmed p.machine → IsTableFor p.telling p.machine p.table → AlwaysAnswers (λ q w e a. Gives q w e a) (record { machine = teller_of p; limit = limit })
plan-answers p limit range trimmed has = by p.telling p.table has
  where
    by : (k : Telling) (o : Option Transducer) → IsTableFor k p.machine o → AlwaysAnswers (λ q w e a. Gives q w e a) (record { machine = teller k p.machine; limit = limit })
    by telling.Agreed o h w e = machine-answers p.machine limit range trimmed w e
    by telling.Best None h w e = absurd h
    by telling.Best (Some t) h w e = tables_answer telling.Best p.machine t trimmed h limit w e

reason : (y : model.Why) → (x : Why) × (why_as x ≡ y)
reason at_byte = (Byte, refl)
reason at_end = (End, refl)
reason at_limit = (Limit, refl)

-- each report is that of some stage
reported : (r : Option Report) → (x : Option Rejected) × (report_as x ≡ r)
reported None = (None, refl)
reported (Some r) =
    let y = reason r.stop.why in
    (Some (record { stage = r.stage; at = r.stop.at; why = y.0 }), ap (λ z. Some (record { stage = r.stage; stop = record { at = r.stop.at; why = z } })) y.1)

-- stages say something where each of them has an answer
pub always-says : {T : Type 0} (Gives : T → List ℕ → Bool → Answer → Type 0) (ps : List T) → 0 < length ps → ((p : T) → IsAmong ps p → AlwaysAnswers Gives p) → AlwaysSays (StagesSay Gives ps)
always-says Gives ps some each w e =
    let (text, report, says) = pipeline_answers Gives ps each 1 w e in
    let r = reported report in
    (record { text = text; report = r.0 }, (some, subst (λ z. Pipeline Gives 1 ps w e text z) (sym r.1) says))

-- one more that has answers
pub one-more : {T : Type 0} (P : T → Type 0) (xs : List T) (x : T) → ((p : T) → IsAmong xs p → P p) → P x → (p : T) → IsAmong (xs ++ x ∷ []) p → P p
one-more P [] x each last p (inl same) = subst P same last
one-more P [] x each last p (inr none) = absurd none
one-more P (y ∷ xs) x each last p (inl same) = each p (inl same)
one-more P (y ∷ xs) x each last p (inr among) = one-more P xs x (λ q h. each q (inr h)) last p among
