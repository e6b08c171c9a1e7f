use Rattle.std.proofs.Common.{sym, ◌∙◌}
use Rattle.std.proofs.lemmas.Bool.{eqb-true}
use Rattle.kex_regexp.proofs.Members.{no_members, none_within, not_in_set, one_within, within_set, without_set}
use Rattle.kex_regexp.proofs.sets.SetSoFar.take_in.Goals as goal

pub returns-in-Some : goal.returns-in-Some
returns-in-Some c = λ nodes at m es s i. within_set c.args.self.now _ nodes at c.in-InSet.negated c.in-InSet.empty c.in-InSet.part c.in-InSet.from m es c.args.byte (rw c.in-InSet.is at s) i (one_within c.args.self.now _ c.in-InSet.part c.in-Some.member c.args.byte (sym c.ended.ensures ∙ c.in-Some.is) c.add.ensures.bytes c.add.ensures.backward)

pub returns-in_default-ended : goal.returns-in_default-ended
returns-in_default-ended c = λ nodes at m es s i. within_set c.args.self.now _ nodes at c.in-InSet.negated c.in-InSet.empty c.in-InSet.part c.in-InSet.from m es c.args.byte (rw c.in-InSet.is at s) i (none_within c.args.self.now c.in-InSet.part c.args.byte (sym c.ended.ensures ∙ c.in_default-ended.is))

pub returns-then-byte-eq91 : goal.returns-then-byte-eq91
returns-then-byte-eq91 c = λ nodes at m es s i. without_set _ nodes at c.args.wait m es c.args.byte (not_in_set c.args.wait c.in_default.not-InSet) s (λ _. no_members _ c.new.ensures.bytes c.new.ensures.backward)

pub returns-else-byte-eq91 : goal.returns-else-byte-eq91
returns-else-byte-eq91 c = λ nodes at m es s i. without_set _ nodes at c.args.wait m es c.args.byte (not_in_set c.args.wait c.in_default.not-InSet) s (λ e. absurd (c.if-byte-eq91.false (eqb-true c.args.byte 91 e)))
