-- A text is refused for what its reading, its rules or its stages are refused for.
use Rattle.std.proofs.Common.{List, ℕ}
use Rattle.kex_model.specs.Programs.{Grammar}
use Rattle.kex_reader.specs.Spelling.{Spells, IsRefusedAs}
use Rattle.kex_reader.specs.declared.refusal.ReadRefusal.{ReadRefusal}
use Rattle.kex_reader.specs.declared.refusal.ReadRefusal.TheVariants as read
use Rattle.kex_rules.specs.Rules.{IsRuled, IsRuleCause}
use Rattle.kex_rules.specs.declared.refusal.RuleRefusal.{RuleRefusal}
use Rattle.kex_rules.specs.declared.refusal.RuleRefusal.TheVariants as rule
use Rattle.kex_compile.specs.Compiled.{IsRefused, of_plan, of_read, of_rule}
use Rattle.kex_compile.specs.Stages.{IsUnplanned}
use Rattle.kex_compile.specs.declared.limits.Limits.{Limits}
use Rattle.kex_compile.specs.declared.refusal.PlanRefusal.{PlanRefusal}
use Rattle.kex_compile.specs.declared.refusal.PlanRefusal.TheVariants as plan

pub unread : (limits : Limits) (text : List ℕ) (e : ReadRefusal) → IsRefusedAs text e → IsRefused limits text (of_read e)
unread limits text read.TextTooLong h = h
unread limits text (read.BadToken at) h = h
unread limits text (read.Unexpected at) h = h
unread limits text (read.BadRegex at) h = h
unread limits text (read.BadCount at) h = h
unread limits text (read.BadSet at) h = h
unread limits text (read.OverLimit at) h = h
unread limits text read.Memory h = tt

pub unruled : (limits : Limits) (text : List ℕ) (P : Grammar) (e : RuleRefusal) → Spells text P → IsRuleCause P e → IsRefused limits text (of_rule e)
unruled limits text P (rule.TwiceDefined at) s h = (P, s, h)
unruled limits text P (rule.Unknown at) s h = (P, s, h)
unruled limits text P rule.NoStart s h = (P, s, h)
unruled limits text P (rule.NotTail at) s h = (P, s, h)
unruled limits text P rule.Memory s h = tt

pub unplanned : (limits : Limits) (text : List ℕ) (P : Grammar) (e : PlanRefusal) → Spells text P → IsRuled P → IsUnplanned limits P e → IsRefused limits text (of_plan e)
unplanned limits text P (plan.TooManyPlaces n) s r h = (P, s, r, h)
unplanned limits text P (plan.NoText n) s r h = (P, s, r, h)
unplanned limits text P plan.OneStage s r h = (P, s, r, h)
unplanned limits text P (plan.TooManyStates n) s r h = (P, s, r, h)
unplanned limits text P (plan.TooManyPairs n) s r h = (P, s, r, h)
unplanned limits text P plan.Memory s r h = tt
