-- The laws of a tester's answers.
use Rattle.std.proofs.Common.{◌≡◌, ℕ, List, [], sym, ◌∙◌, append-nil, ◌<◌, false, length}
use Rattle.std.specs.Prelude.{IsSome}
use Rattle.kex_code.specs.Codes.{Begins}
use Rattle.kex_model.proofs.OpenAnswers as model
use Rattle.kex_model.specs.Answers.{Answer}
use Rattle.kex_machine.specs.Nodes.{Graph}
use Rattle.kex_machine.specs.Answers.{IsViableFor, HasRun}
use Rattle.kex_machine.proofs.NodeAnswers as nodes
use Rattle.kex_pipe.specs.Working.{Answering, ClosesParsed, SaysViable}
use Rattle.kex_pipe.proofs.ViableAnswers as viable
use Rattle.kex_single.specs.Singles.{MachineTestAnswers, SaysNoText, HasRunAlone}

pub both_nothing : (s t : List ℕ) → s ≡ [] → t ≡ [] → Begins t s
both_nothing s t e f = ([], f ∙ sym e ∙ sym (append-nil s))

module _ (g : Graph) where
  pub orderly : model.Orderly (IsViableFor g) (SaysNoText g) (HasRun g) (HasRunAlone g)
  orderly = record {
    front = (nodes.orderly g).front;
    said = λ w x s t p h k. both_nothing s t h k;
    meant = λ w x s t p h k. both_nothing s t h k.2;
    good = λ w s m. m.0;
  }

  pub answering : Answering (SaysViable (IsViableFor g) (SaysNoText g) (HasRun g) (HasRunAlone g))
      (ClosesParsed (IsViableFor g) (SaysNoText g) (HasRun g) (HasRunAlone g)) (λ n w e a.
      MachineTestAnswers g n w e a)
  answering = viable.answering (IsViableFor g) (SaysNoText g) (HasRun g) (HasRunAlone g) orderly
      (λ u s m. m.1) (λ u s t m k. m.2 ∙ sym k.2)

  -- past the limit there is a stop
  pub past : (n : ℕ) (w : List ℕ) (a : Answer) → MachineTestAnswers g n w false a → n < length w
      → IsSome a.stop
  past n w a h lt = answering.past n w false a h lt
