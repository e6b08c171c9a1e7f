use Rattle.std.proofs.Common.{◌∙◌, ap, arith}
use Rattle.kex_leaps.specs.declared.act.LeapAct.TheVariants.{Text}
use Rattle.kex_leaps.proofs.LeapEffects.{does_more}
use Rattle.kex_leaps.proofs.perform.join.Goals as goal

pub acts-preserved : goal.acts-preserved
acts-preserved c = record {
  does = does_more c.args.acts.now c.acts.count (Text 0 0) c.in-Text.from c.acts.end c.in-Text-acts.to c.acts-test.true (c.in-Text-acts.is ∙ ap (λ n. Text n c.in-Text-acts.to) c.if-next-end.true) c.acts.invariant.does;
  some = omega arith;
  within = omega (arith, c.acts-test.true);
}
