-- What a stage stands for, and what it answers.
use Rattle.std.specs.Prelude.{◌≡◌, ℕ, Bool, true, false, List, IsTrue, ◌++◌, Option, Some, None}
use Rattle.std.specs.Prelude.{length}
use Rattle.kex_model.specs.Answers.{Answer, Answers}
use Rattle.kex_machine.specs.Nodes.{Graph, IsTrimmed}
use Rattle.kex_machine.specs.Answers.{HasRun, IsViableFor, MeansByRun}
use Rattle.kex_sst.specs.Tables.{Transducer}
use Rattle.kex_action.specs.Actors.{Position}
use Rattle.kex_pipe.specs.Working.{BoundedPlan, ClosesParsed, SaysViable}
use Rattle.kex_stage.specs.declared.oracle.Oracle.{Oracle}
use Rattle.kex_plan.specs.declared.plan.Telling.{Telling}
use Rattle.kex_plan.specs.Plans.{IsTableAs, SaysAs, Teller, teller}
use Rattle.kex_stage.specs.Oracles.{IsReady, read_of}
use Rattle.kex_stage.specs.Works.{Followed}

-- a machine with what the oracle tells, and the most bytes that it takes
abbrev pub StagePlan : Type 0
StagePlan = BoundedPlan Teller

-- the answer of a stage by what it works by, within a limit
abbrev pub TellerAnswers : Teller → ℕ → List ℕ → Bool → Answer → Type 0
TellerAnswers t limit w e a = Answers (IsViableFor t.machine) (SaysAs t.telling t.machine)
    (HasRun t.machine) (MeansByRun t.machine) limit w e a

-- the answer of a stage
abbrev pub Gives : StagePlan → List ℕ → Bool → Answer → Type 0
Gives p w e a = TellerAnswers p.machine p.limit w e a

-- where a stage has a table there is an answer on each text, open or ended
abbrev pub TablesAnswer : Type 0
TablesAnswer = (k : Telling) (g : Graph) (t : Transducer) → IsTrimmed g → IsTableAs k g t
    → (limit : ℕ) (w : List ℕ) (e : Bool) → (a : Answer) × TellerAnswers (teller k g) limit w e a

-- the oracle was fed w, with which a parse begins, and the actor has performed what it told, which
-- has written this
pub record StageFollows (k : Telling) (o : Oracle) (a : Position)
    (w out : List ℕ) : Type 0 where
  pub followed : Followed k a.machine o a w out
  pub count : read_of o ≡ length w
  pub good : IsViableFor a.machine w

-- the oracle and the actor of a stage, and what it tells
pub record TeamState : Type 0 where
  pub oracle : Oracle
  pub actor : Position
  pub telling : Telling

-- these were given a text, and this was written of it
abbrev pub TeamFollows : TeamState → List ℕ → List ℕ → Type 0
TeamFollows s w out = StageFollows s.telling s.oracle s.actor w out

-- the same, with the bytes that they weren't given yet
pub record StageState : Type 0 where
  pub team : TeamState
  pub ahead : List ℕ

-- they have followed what comes before those bytes
pub record FollowsBehind (s : StageState) (w out : List ℕ) : Type 0 where
  pub behind : List ℕ
  pub all : w ≡ behind ++ s.ahead
  pub follows : TeamFollows s.team behind out

-- by what the stage works
abbrev pub teller_in : TeamState → Teller
teller_in s = teller s.telling s.actor.machine

-- the number of the byte after the good ones, where it was refused
abbrev pub refused_at : Bool → ℕ → Option ℕ
refused_at true good = Some good
refused_at false good = None

-- given what a stage works by: on these bytes this text is said; they can go on, or stop it at the
-- byte of this number
abbrev pub SaysOf : Teller → List ℕ → Option ℕ → List ℕ → Type 0
SaysOf t w at text = SaysViable (IsViableFor t.machine) (SaysAs t.telling t.machine)
    (HasRun t.machine) (MeansByRun t.machine) w at text

-- at the end of these bytes this text is written; at true they have a parse
abbrev pub ClosesAs : Teller → List ℕ → Bool → List ℕ → Type 0
ClosesAs t w parsed text = ClosesParsed (IsViableFor t.machine) (SaysAs t.telling t.machine)
    (HasRun t.machine) (MeansByRun t.machine) w parsed text

-- it can be given bytes, or the end
abbrev pub IsTeamReady : TeamState → Type 0
IsTeamReady s = IsReady s.oracle × IsTrue s.actor.usable
