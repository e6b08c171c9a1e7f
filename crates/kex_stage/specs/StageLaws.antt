-- The laws of a stage's answers.
use Rattle.std.proofs.Common.{ℕ, List, sym, ap, ◌∙◌}
use Rattle.kex_code.specs.Codes.{bytes_of}
use Rattle.kex_model.proofs.OpenAnswers.{Orderly}
use Rattle.kex_machine.specs.Nodes.{Graph}
use Rattle.kex_machine.specs.Answers.{HasRun, IsViableFor, MeansByRun}
use Rattle.kex_machine.proofs.BestAnswers.{best_orderly}
use Rattle.kex_machine.proofs.NodeAnswers.{one_meaning, orderly}
use Rattle.kex_pipe.specs.Working.{Answering, ClosesParsed, SaysViable}
use Rattle.kex_pipe.proofs.ViableAnswers as viable
use Rattle.kex_plan.specs.Plans.{SaysAs, Teller}
use Rattle.kex_stage.specs.Stages.{TellerAnswers}
use Rattle.kex_plan.specs.declared.plan.Telling.{Telling}
use Rattle.kex_plan.specs.declared.plan.Telling.TheVariants as telling

-- what is said grows, whatever an oracle tells
pub told_orderly : (k : Telling) (g : Graph)
    → Orderly (IsViableFor g) (SaysAs k g) (HasRun g) (MeansByRun g)
told_orderly telling.Agreed g = orderly g
told_orderly telling.Best g = best_orderly g

-- what means something has a parse
has_run_of : (g : Graph) (w text : List ℕ) → MeansByRun g w text → HasRun g w
has_run_of g w text m =
    let r = m.is_greedy.2.reached in
    (m.run, m.runs, ap (λ c. bytes_of c) (m.codes ∙ sym r.2) ∙ r.1.reads)

pub answering : (t : Teller)
    → Answering (SaysViable (IsViableFor t.machine) (SaysAs t.telling t.machine) (HasRun t.machine)
    (MeansByRun t.machine)) (ClosesParsed (IsViableFor t.machine) (SaysAs t.telling t.machine)
    (HasRun t.machine) (MeansByRun t.machine)) (λ n w e a. TellerAnswers t n w e a)
answering t =
    viable.answering (IsViableFor t.machine) (SaysAs t.telling t.machine) (HasRun t.machine)
    (MeansByRun t.machine) (told_orderly t.telling t.machine) (has_run_of t.machine)
    (one_meaning t.machine)
