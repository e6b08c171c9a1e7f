-- A stage as it is planned.
use Rattle.std.specs.Prelude.{◌≡◌, ℕ, List, Option, Some, None, IfSome, map}
use Rattle.kex_code.specs.Codes.{IsAmong}
use Rattle.kex_code.specs.declared.symbol.Symbol.{Symbol}
use Rattle.kex_model.specs.Survivors.{Agreed}
use Rattle.kex_machine.specs.Nodes.{Graph, node_moves}
use Rattle.kex_machine.specs.Answers.{SaysTold}
use Rattle.kex_machine.specs.Covering.{Best}
use Rattle.kex_sst.specs.Tables.{Transducer}
use Rattle.kex_sst.specs.Machines.{IsBestTableOf, IsTableBy, IsTableOf}
use Rattle.kex_runner.specs.declared.quiet.Guide.{Guide}
use Rattle.kex_runner.specs.Quiet.{IsGuide}
use Rattle.kex_plan.specs.declared.plan.Telling.{Telling}
use Rattle.kex_plan.specs.declared.plan.Telling.TheVariants as telling

-- a stage's machine, its table, if it has one, and what its oracle tells of a text
pub record Planned : Type 0 where
  pub machine : Graph
  pub table : Option Transducer
  pub telling : Telling

-- by what a stage works: a machine, and what its oracle tells of a text
pub record Teller : Type 0 where
  pub machine : Graph
  pub telling : Telling

abbrev pub machine_of : Planned → Graph
machine_of p = p.machine

abbrev pub teller : Telling → Graph → Teller
teller k g = record { machine = g; telling = k }

abbrev pub teller_of : Planned → Teller
teller_of p = teller p.telling p.machine

-- these machines, each with an oracle that tells this
abbrev pub tellers : Telling → List Graph → List Teller
tellers k machines = map (λ m. teller k m) machines

-- each plan tells this
abbrev pub AllTell : Telling → List Planned → Type 0
AllTell k plans = (p : Planned) → IsAmong plans p → p.telling ≡ k

-- an oracle tells this code of a text
abbrev pub ToldBy : Telling → Graph → List ℕ → List Symbol → Type 0
ToldBy telling.Agreed g = Agreed (node_moves g.nodes) g.start
ToldBy telling.Best g = Best g

-- and this text is said
abbrev pub SaysAs : Telling → Graph → List ℕ → List ℕ → Type 0
SaysAs k g w text = SaysTold g (ToldBy k g) w text

-- the table by which stages go: the shorter one, if there is one
abbrev pub shortest : Option Transducer → Option Transducer → Option Transducer
shortest None o = o
shortest (Some t) o = Some t

-- the guide is the table's, if there are both
abbrev pub IsGuideIf : Option Transducer → Option Guide → Type 0
IsGuideIf o guide = IfSome guide (λ g. IfSome o (λ t. IsGuide t g))

-- the table is the machine's, if there is one
abbrev pub IsTableIf : Graph → Option Transducer → Type 0
IsTableIf g None = Unit {0}
IsTableIf g (Some t) = IsTableOf g t

-- the table passes on what the oracle is to tell
abbrev pub IsTableAs : Telling → Graph → Transducer → Type 0
IsTableAs k g t = IsTableBy (ToldBy k g) g t

-- so does a plan's table; where the oracle is to tell what is best, there is one
abbrev pub IsTableFor : Telling → Graph → Option Transducer → Type 0
IsTableFor telling.Agreed g o = IsTableIf g o
IsTableFor telling.Best g None = ⊥
IsTableFor telling.Best g (Some t) = IsBestTableOf g t
