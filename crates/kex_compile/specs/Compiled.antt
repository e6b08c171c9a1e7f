-- What a text is compiled to, and why it isn't.
use Rattle.std.specs.Prelude.{◌↔◌, ℕ, Bool, List, Option}
use Rattle.kex_code.specs.Codes.{HasNumber}
use Rattle.kex_model.specs.Programs.{Grammar}
use Rattle.kex_model.specs.Answers.{Means, Report}
use Rattle.kex_model.specs.Laws.{StagesAnswer}
use Rattle.kex_reader.specs.Spelling.{Spells, IsRefusedAs}
use Rattle.kex_reader.specs.declared.refusal.ReadRefusal.{ReadRefusal}
use Rattle.kex_reader.specs.declared.refusal.ReadRefusal.TheVariants as read
use Rattle.kex_rules.specs.Rules.{IsRuled, IsRuleCause}
use Rattle.kex_rules.specs.declared.refusal.RuleRefusal.{RuleRefusal}
use Rattle.kex_rules.specs.declared.refusal.RuleRefusal.TheVariants as rule
use Rattle.kex_machine.specs.Nodes.{Graph}
use Rattle.kex_compile.specs.Stages.{AllRun, ArePlans, AreStages, IsUnplanned, KeepsToOneStage}
use Rattle.kex_compile.specs.Stages.{KeepsToPairs, KeepsToStates, Plans, roots_of}
use Rattle.kex_compile.specs.declared.limits.Limits.{Limits}
use Rattle.kex_compile.specs.declared.refusal.PlanRefusal.{PlanRefusal}
use Rattle.kex_compile.specs.declared.refusal.PlanRefusal.TheVariants as plan
use Rattle.kex_compile.specs.declared.refusal.CompileRefusal.{CompileRefusal}
use Rattle.kex_compile.specs.declared.refusal.CompileRefusal.TheVariants.{TextTooLong, BadToken}
use Rattle.kex_compile.specs.declared.refusal.CompileRefusal.TheVariants.{Unexpected, BadRegex}
use Rattle.kex_compile.specs.declared.refusal.CompileRefusal.TheVariants.{BadCount, BadSet}
use Rattle.kex_compile.specs.declared.refusal.CompileRefusal.TheVariants.{OverLimit, TwiceDefined}
use Rattle.kex_compile.specs.declared.refusal.CompileRefusal.TheVariants.{Unknown, NoStart, NotTail}
use Rattle.kex_compile.specs.declared.refusal.CompileRefusal.TheVariants.{TooManyPlaces, NoText}
use Rattle.kex_compile.specs.declared.refusal.CompileRefusal.TheVariants.{OneStage, TooManyStates}
use Rattle.kex_compile.specs.declared.refusal.CompileRefusal.TheVariants.{TooManyPairs, Memory}

-- the text spells the program, which keeps the rules and what a command asks, and each of whose
-- stages can run
pub record Accepts (limits : Limits) (text : List ℕ) (P : Grammar) : Type 0 where
  pub spells : Spells text P
  pub ruled : IsRuled P
  pub stages : AllRun P
  pub one_stage : KeepsToOneStage limits P
  pub states : KeepsToStates limits P
  pub pairs : KeepsToPairs limits P

-- the plans are those of a program that the text spells
pub record IsCompiled (limits : Limits) (text : List ℕ) (plans : Plans) : Type 0 where
  pub program : Grammar
  pub accepts : Accepts limits text program
  pub plans_of : ArePlans limits program plans

-- the machines are those of the stages of a program that the text spells
pub record HasMachines (text : List ℕ) (ms : List Graph) : Type 0 where
  pub program : Grammar
  pub spells : Spells text program
  pub ruled : IsRuled program
  pub stages : AreStages program (roots_of program) ms

-- the text spells a program that breaks this rule, and none before it
abbrev pub BreaksRule : List ℕ → RuleRefusal → Type 0
BreaksRule text e = (P : Grammar) × Spells text P × IsRuleCause P e

-- the text spells a program that keeps the rules, and whose stages are refused so
abbrev pub HasNoPlans : Limits → List ℕ → PlanRefusal → Type 0
HasNoPlans limits text e = (P : Grammar) × Spells text P × IsRuled P × IsUnplanned limits P e

-- the rule that is broken, where none of a lower number is
abbrev pub IsRefused : Limits → List ℕ → CompileRefusal → Type 0
IsRefused limits text TextTooLong = IsRefusedAs text read.TextTooLong
IsRefused limits text (BadToken at) = IsRefusedAs text (read.BadToken at)
IsRefused limits text (Unexpected at) = IsRefusedAs text (read.Unexpected at)
IsRefused limits text (BadRegex at) = IsRefusedAs text (read.BadRegex at)
IsRefused limits text (BadCount at) = IsRefusedAs text (read.BadCount at)
IsRefused limits text (BadSet at) = IsRefusedAs text (read.BadSet at)
IsRefused limits text (OverLimit at) = IsRefusedAs text (read.OverLimit at)
IsRefused limits text (TwiceDefined at) = BreaksRule text (rule.TwiceDefined at)
IsRefused limits text (Unknown at) = BreaksRule text (rule.Unknown at)
IsRefused limits text NoStart = BreaksRule text rule.NoStart
IsRefused limits text (NotTail at) = BreaksRule text (rule.NotTail at)
IsRefused limits text (TooManyPlaces n) = HasNoPlans limits text (plan.TooManyPlaces n)
IsRefused limits text (NoText n) = HasNoPlans limits text (plan.NoText n)
IsRefused limits text OneStage = HasNoPlans limits text plan.OneStage
IsRefused limits text (TooManyStates n) = HasNoPlans limits text (plan.TooManyStates n)
IsRefused limits text (TooManyPairs n) = HasNoPlans limits text (plan.TooManyPairs n)
IsRefused limits text Memory = Unit {0}

abbrev pub of_read : ReadRefusal → CompileRefusal
of_read read.TextTooLong = TextTooLong
of_read (read.BadToken at) = BadToken at
of_read (read.Unexpected at) = Unexpected at
of_read (read.BadRegex at) = BadRegex at
of_read (read.BadCount at) = BadCount at
of_read (read.BadSet at) = BadSet at
of_read (read.OverLimit at) = OverLimit at
of_read read.Memory = Memory

abbrev pub of_rule : RuleRefusal → CompileRefusal
of_rule (rule.TwiceDefined at) = TwiceDefined at
of_rule (rule.Unknown at) = Unknown at
of_rule rule.NoStart = NoStart
of_rule (rule.NotTail at) = NotTail at
of_rule rule.Memory = Memory

abbrev pub of_plan : PlanRefusal → CompileRefusal
of_plan (plan.TooManyPlaces n) = TooManyPlaces n
of_plan (plan.NoText n) = NoText n
of_plan plan.OneStage = OneStage
of_plan (plan.TooManyStates n) = TooManyStates n
of_plan (plan.TooManyPairs n) = TooManyPairs n
of_plan plan.Memory = Memory

-- stage by stage the programs mean the same
abbrev pub MeansAlike : Grammar → Grammar → Type 0
MeansAlike P Q = (i r q : ℕ) (input said : List ℕ) → HasNumber (roots_of P) r i
    → HasNumber (roots_of Q) q i → Means P r input said ↔ Means Q q input said

-- their pipelines say and report the same, on an input that is open or ended
abbrev pub AnswersAlike : Grammar → Grammar → Type 0
AnswersAlike P Q = (limit : ℕ) (input : List ℕ) (ended : Bool) (said : List ℕ)
    (report : Option Report) → StagesAnswer P limit (roots_of P) input ended said report
    ↔ StagesAnswer Q limit (roots_of Q) input ended said report

-- on each input, open or ended, the program's pipeline says something
abbrev pub HasAnswers : Grammar → Type 0
HasAnswers P = (limit : ℕ) (input : List ℕ) (ended : Bool) → (said : List ℕ)
    × (report : Option Report) × StagesAnswer P limit (roots_of P) input ended said report
