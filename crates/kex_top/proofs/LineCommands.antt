-- From a run by lines over nodes to what a call answers.
use Rattle.std.proofs.Common.{ℕ, List, [], ◌∷◌, Bool, true, false}
use Rattle.std.specs.Prelude.{Option, None}
use Rattle.kex_ports.specs.Named.{Texts}
use Rattle.kex_ports.specs.Reads.{Reads, last_given}
use Rattle.kex_ports.specs.Shelf.{told_of}
use Rattle.kex_model.specs.Answers.{Answer, Pipeline, Report}
use Rattle.kex_model.specs.Laws.{StageAnswers}
use Rattle.kex_stage.specs.Stages.{Gives}
use Rattle.kex_compile.specs.Stages.{Plans, roots_of}
use Rattle.kex_each.specs.Answers.{AnswersLines}
use Rattle.kex_words.specs.Gains.{StreamChange}
use Rattle.kex_words.specs.Words.Asked.{ToEach}
use Rattle.kex_words.specs.Words.Mode.{running}
use Rattle.kex_pipeline.specs.Sayings.{Said}
use Rattle.kex_top.specs.ByLines.{EndsByLines, LinesSay, NodesSayLines, RanByLines, SaysLines, line_block}
use Rattle.kex_top.specs.Kex.{CommandAnswers}
use Rattle.kex_top.specs.Modes.{limits_to_check}
use Rattle.kex_top.specs.Pipelines.{agreed_plans}
use Rattle.kex_top.specs.Refusals.{HasPlans}
use Rattle.kex_top.specs.declared.status.Status.{Status}
use Rattle.kex_top.specs.declared.status.Status.TheVariants.{Done, Rejected, Usage, Refused, ReadFault, WriteFault, ShelfFault, Memory, TooLong, InputTooLong}
use Rattle.kex_top.proofs.CallAnswers.{all_alike, begun, by_machines, by_plans, carried, carried-back, ends_alike}

-- one saying in place of another that says the same
module _ (says says' : List ℕ → Bool → Said → Type 0) (to : (w : List ℕ) (e : Bool) (s : Said) → says w e s → says' w e s) (from : (w : List ℕ) (e : Bool) (s : Said) → says' w e s → says w e s) where
  lines_end_alike : (n : ℕ) (w : List ℕ) (e : Bool) (source sink : StreamChange) (s : Status) → EndsByLines says n w e source sink s → EndsByLines says' n w e source sink s
  lines_end_alike n w e source sink Done t = (t.0, ends_alike says says' to from n w e source sink Done t.1)
  lines_end_alike n w e source sink ReadFault t = (t.0, ends_alike says says' to from n w e source sink ReadFault t.1)
  lines_end_alike n w e source sink InputTooLong t = (t.0, t.1, all_alike says says' to from w e None sink t.2, t.3, t.4)
  lines_end_alike n w e source sink (Rejected r) t = absurd t
  lines_end_alike n w e source sink (TooLong r) t = absurd t
  lines_end_alike n w e source sink WriteFault t = ends_alike says says' to from n w e source sink WriteFault t
  lines_end_alike n w e source sink Memory t = ends_alike says says' to from n w e source sink Memory t
  lines_end_alike n w e source sink Usage t = absurd t
  lines_end_alike n w e source sink (Refused r) t = absurd t
  lines_end_alike n w e source sink ShelfFault t = absurd t

  lines_alike : (n : ℕ) (source sink : StreamChange) (s : Status) → RanByLines says n source sink s → RanByLines says' n source sink s
  lines_alike n source sink s r = record { w = r.w; e = r.e; read = r.read; ended = r.ended; ends = lines_end_alike n r.w r.e source sink s r.ends }

-- one pipeline in place of another that answers the same
module _ {A B : Type 0} (G : A → List ℕ → Bool → Answer → Type 0) (H : B → List ℕ → Bool → Answer → Type 0) (xs : List A) (ys : List B) (to : (l s : List ℕ) (r : Option Report) → Pipeline G 1 xs l true s r → Pipeline H 1 ys l true s r) where
  answers_alike : (ls ts : List (List ℕ)) → AnswersLines G xs ls ts → AnswersLines H ys ls ts
  answers_alike [] [] h = tt
  answers_alike [] (t ∷ ts) h = absurd h
  answers_alike (l ∷ ls) [] h = absurd h
  answers_alike (l ∷ ls) (t ∷ ts) h =
      let x = h.0 in
      (record { said = x.said; report = x.report; says = to l x.said x.report x.says; answer = x.answer }, answers_alike ls ts h.1)

  pub lines_say_alike : (w : List ℕ) (e : Bool) (said : Said) → LinesSay G xs w e said → LinesSay H ys w e said
  lines_say_alike w e said h = record { texts = h.texts; answers = answers_alike _ h.texts h.answers; text = h.text; unreported = h.unreported }

pub line_served : (name : List ℕ) (states limit workers : ℕ) (texts : Option Texts) (reads : Option Reads) (plans : Plans) (source sink : StreamChange) (s : Status) → HasPlans (limits_to_check states) (told_of texts name) plans → RanByLines (NodesSayLines (agreed_plans limit plans.stages)) (last_given line_block reads) source sink s → CommandAnswers (ToEach name states limit workers) texts reads source sink s
line_served name states limit workers texts reads plans source sink s h r =
    let p = h.compiled in
    let P = p.program in
    let roots = roots_of P in
    let ms = plans.stages in
    begun (ToEach name states limit workers) texts reads source sink s (
    record {
      text = h.text;
      is_told = h.is_told;
      program = P;
      works = p.accepts;
      performs = lines_alike (NodesSayLines (agreed_plans limit ms)) (SaysLines P limit)
          (λ w e said k. lines_say_alike (λ q v d a. Gives q v d a) (λ root v d a. StageAnswers P root limit v d a) (agreed_plans limit ms) roots
          (λ l t o x. carried P (running states false) limit 1 roots ms l true t o p.plans_of.stages (by_machines states false limit 1 ms l true t o x)) w e said k)
          (λ w e said k. lines_say_alike (λ root v d a. StageAnswers P root limit v d a) (λ q v d a. Gives q v d a) roots (agreed_plans limit ms)
          (λ l t o x. by_plans states false limit 1 ms l true t o (carried-back P (running states false) limit 1 roots ms l true t o p.plans_of.stages x)) w e said k)
          (last_given line_block reads) source sink s r;
    }
    )
