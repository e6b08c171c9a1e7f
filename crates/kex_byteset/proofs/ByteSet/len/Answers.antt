use Rattle.std.proofs.Common.{ap, sym, ◌∙◌}
use Rattle.kex_byteset.proofs.Words.{count_words}
use Rattle.std.specs.List.{count_by}
use Rattle.kex_byteset.proofs.ByteSet.len.Goals as goal

pub returns : goal.returns
returns c = c.from.ensures ∙ sym (count_words c.self.inside.words c.self.told c.self.invariant.1) ∙ ap (count_by (λ b. b)) c.self.view_is
