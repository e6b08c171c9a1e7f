use Rattle.std.proofs.Common.{refl, ◌∙◌}
use Rattle.kex_regexp.proofs.Members.{any_flag, clear_bad}
use Rattle.kex_regexp.proofs.sets.SetSoFar.is_bad.Goals as goal

pub returns-else-self : goal.returns-else-self
returns-else-self c = clear_bad c.args.self.now c.args.negated _ c.if-self.false (c.has_any.ensures ∙ any_flag _ _ 256 c.read.ensures refl)
