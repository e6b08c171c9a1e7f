use Rattle.std.proofs.Common.{◌∙◌, ◌-◌, sym, arith}
use Rattle.kex_tokens.specs.Scanning.{Between, literal_step}
use Rattle.kex_tokens.proofs.Loops.{added-zero, goes_on, closes, goes_wrong, never_closes}
use Rattle.kex_tokens.proofs.literals.literal_length.Goals as goal

pub loop-i-init : goal.loop-i-init
loop-i-init c = added-zero _ (c.args.from - c.args.from) (omega arith)

pub loop-i-preserved : goal.loop-i-preserved
loop-i-preserved c = goes_on literal_step Between c.args.text.now c.args.from c.loop-i.i c.loop-i.state c.in-On.next (omega arith) c.loop-i-test.true (sym c.in-On.is ∙ c.literal_step.ensures) c.loop-i.invariant

pub returns-in-Closed-clause-length : goal.returns-in-Closed-clause-length
returns-in-Closed-clause-length c = closes literal_step Between c.args.text.now c.args.from c.loop-i.i _ c.loop-i.state (omega arith) c.loop-i-test.true (omega arith) (sym c.in-Closed.is ∙ c.literal_step.ensures) c.loop-i.invariant

pub returns-in-Wrong-clause-length : goal.returns-in-Wrong-clause-length
returns-in-Wrong-clause-length c = goes_wrong literal_step Between c.args.text.now c.args.from c.loop-i.i c.loop-i.state c.loop-i-test.true (sym c.in-Wrong.is ∙ c.literal_step.ensures) c.loop-i.invariant

pub returns-clause-length : goal.returns-clause-length
returns-clause-length c = never_closes literal_step Between c.args.text.now c.args.from c.loop-i.i c.loop-i.state c.loop-i-test.false c.loop-i.invariant
