use Rattle.std.specs.Prelude.{ℕ, Bool, List, [], ◌∷◌}
use Rattle.std.proofs.Common.{⊎_elim, subst}
use Rattle.kex_code.specs.Codes.{IsAmong}
use Rattle.kex_model.specs.Programs.{Grammar}
use Rattle.kex_model.specs.Answers.{Answer}
use Rattle.kex_model.specs.Laws.{StageAnswers}
use Rattle.kex_machine.specs.Nodes.{Graph}
use Rattle.kex_lowering.proofs.Existence.{pipeline_answers, stage_answers}
use Rattle.kex_compile.specs.Stages.{AreStages, roots_of}
use Rattle.kex_compile.proofs.laws.answered.Goals as goal

-- each stage that has a machine has answers
each : (P : Grammar) (limit : ℕ) (rs : List ℕ) (ms : List Graph) → AreStages P rs ms → (r : ℕ) → IsAmong rs r → (w : List ℕ) (e : Bool) → (a : Answer) × StageAnswers P r limit w e a
each P limit [] ms h r k w e = absurd k
each P limit (x ∷ rs) [] h r k w e = absurd h
each P limit (x ∷ rs) (m ∷ ms) h r k w e =
    ⊎_elim
    (λ same. let a = stage_answers P x m h.0.kept limit w e in (a.0, subst (λ z. StageAnswers P z limit w e a.0) same a.1))
    (λ later. each P limit rs ms h.1 r later w e)
    k

pub returns : goal.returns
returns c = λ limits text plans is limit input ended. pipeline_answers (λ root v f a. StageAnswers is.program root limit v f a) (roots_of is.program) (each is.program limit (roots_of is.program) plans.stages is.plans_of.stages) 1 input ended
