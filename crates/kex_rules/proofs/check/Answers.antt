use Rattle.kex_rules.proofs.DefinedNames.{ruled_by}
use Rattle.kex_rules.proofs.check.Goals as goal

pub invariant_of-result : goal.invariant_of-result
invariant_of-result c = ruled_by c.args.program.now c.stages.result.now c.in_ok-at.field-0 c.in_ok-at-2.field-0 c.is_empty.result c.in_ok-roots.ensures.once c.in_ok-at.ensures c.in_default.is c.stages.ensures c.is_empty.ensures c.if-is_empty.false c.in_ok-at-2.ensures c.in-None.is

pub returns-clause-ruled : goal.returns-clause-ruled
returns-clause-ruled c = ruled_by c.args.program.now c.stages.result.now c.in_ok-at.field-0 c.in_ok-at-2.field-0 c.is_empty.result c.in_ok-roots.ensures.once c.in_ok-at.ensures c.in_default.is c.stages.ensures c.is_empty.ensures c.if-is_empty.false c.in_ok-at-2.ensures c.in-None.is
