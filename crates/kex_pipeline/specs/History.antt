-- What the stages were fed, and what they have said.
use Rattle.std.specs.Prelude.{◌≡◌, ◌++◌, ℕ, Bool, false, List, [], Option, Some, None, IsSome}
use Rattle.std.specs.Io.KnownBytes.{Appends}
use Rattle.kex_ports.specs.Bytes.{AppendsFront}
use Rattle.kex_pipeline.specs.Sayings.{Said}
use Rattle.kex_pipe.specs.declared.turn.Fate.{Fate}
use Rattle.kex_pipe.specs.declared.turn.Fate.TheVariants.{On, Stopped}
use Rattle.kex_pipe.specs.declared.report.Rejected.{Rejected}
use Rattle.kex_pipeline.specs.declared.pass.Trouble.{Trouble}
use Rattle.kex_pipeline.specs.declared.pass.Trouble.TheVariants as trouble

-- The bytes that were fed, whether their end was, and what is said on them.
pub record StagesFed : Type 0 where
  pub bytes : List ℕ
  pub ended : Bool
  pub said : Said

-- Nothing before the first call.
abbrev pub History : Type 0
History = Option StagesFed

abbrev pub bytes_passed : History → List ℕ
bytes_passed None = []
bytes_passed (Some f) = f.bytes

abbrev pub history_text : History → List ℕ
history_text None = []
history_text (Some f) = f.said.text

abbrev pub is_history_ended : History → Bool
is_history_ended None = false
is_history_ended (Some f) = f.ended

-- Stages that have stopped have a report, and those that go on have none.
abbrev pub IsFateOfStages : Option Rejected → Fate → Type 0
IsFateOfStages report On = report ≡ None
IsFateOfStages report Stopped = IsSome report

module _ (says : List ℕ → Bool → Said → Type 0) where
  -- The call brings the stages to w, and gives out what is said there and wasn't yet.
  pub record FeedsStages (stands : History → Type 0) (h : History) (w : List ℕ) (e : Bool)
      (out : List ℕ) (fate : Fate) : Type 0 where
    pub said : Said
    pub is_said : says w e said
    pub stands_for : stands (Some (record { bytes = w; ended = e; said = said }))
    pub whole : said.text ≡ history_text h ++ out
    pub is_fate : IsFateOfStages said.report fate

  -- The same, of what a sink holds.
  pub record WritesSaid (stands : History → Type 0) (h : History) (w : List ℕ) (e : Bool)
      (old new : Option (List ℕ)) (fate : Fate) : Type 0 where
    pub said : Said
    pub is_said : says w e said
    pub stands_for : stands (Some (record { bytes = w; ended = e; said = said }))
    pub added : List ℕ
    pub whole : said.text ≡ history_text h ++ added
    pub appended : Appends old new added
    pub is_fate : IsFateOfStages said.report fate

  -- A front of it.
  pub record WritesSaidFront (h : History) (w : List ℕ) (e : Bool)
      (old new : Option (List ℕ)) : Type 0 where
    pub said : Said
    pub is_said : says w e said
    pub added : List ℕ
    pub whole : said.text ≡ history_text h ++ added
    pub appended : AppendsFront old new added

  abbrev pub IsSaidSoFar : History → Type 0
  IsSaidSoFar None = Unit {0}
  IsSaidSoFar (Some f) = says f.bytes false f.said

  -- What is said of a front of w, so far as it wasn't said yet.
  pub record WritesEarly (h : History) (w : List ℕ) (old new : Option (List ℕ)) : Type 0 where
    pub now : History
    pub rest : List ℕ
    pub cut : w ≡ bytes_passed now ++ rest
    pub is_said : IsSaidSoFar now
    pub added : List ℕ
    pub whole : history_text now ≡ history_text h ++ added
    pub appended : Appends old new added

  -- What was written where memory is wanted, and where the sink fails.
  abbrev pub WritesUpTo : History → List ℕ → Bool → Option (List ℕ) → Option (List ℕ) → Trouble
      → Type 0
  WritesUpTo h w e old new trouble.Memory = WritesEarly h w old new
  WritesUpTo h w e old new trouble.Write = WritesSaidFront h w e old new
