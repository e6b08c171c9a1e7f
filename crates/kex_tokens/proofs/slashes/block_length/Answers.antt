use Rattle.std.proofs.Common.{◌∙◌, ◌-◌, sym, arith}
use Rattle.kex_tokens.specs.Scanning.{block_step}
use Rattle.kex_tokens.proofs.Loops.{added-zero, goes_on, closes, goes_wrong, never_closes}
use Rattle.kex_tokens.proofs.slashes.block_length.Goals as goal
use Rattle.std.proofs.Common.{false}

pub loop-i-init : goal.loop-i-init
loop-i-init c = added-zero _ (c.args.from - c.args.from) (omega arith)

pub loop-i-preserved : goal.loop-i-preserved
loop-i-preserved c = goes_on block_step false c.args.text.now c.args.from c.loop-i.i c.loop-i.star c.in-On.next (omega arith) c.loop-i-test.true (sym c.in-On.is ∙ c.block_step.ensures) c.loop-i.invariant

pub returns-in-Closed-clause-length : goal.returns-in-Closed-clause-length
returns-in-Closed-clause-length c = closes block_step false c.args.text.now c.args.from c.loop-i.i _ c.loop-i.star (omega arith) c.loop-i-test.true (omega arith) (sym c.in-Closed.is ∙ c.block_step.ensures) c.loop-i.invariant

pub returns-in-Wrong-clause-length : goal.returns-in-Wrong-clause-length
returns-in-Wrong-clause-length c = goes_wrong block_step false c.args.text.now c.args.from c.loop-i.i c.loop-i.star c.loop-i-test.true (sym c.in-Wrong.is ∙ c.block_step.ensures) c.loop-i.invariant

pub returns-clause-length : goal.returns-clause-length
returns-clause-length c = never_closes block_step false c.args.text.now c.args.from c.loop-i.i c.loop-i.star c.loop-i-test.false c.loop-i.invariant
