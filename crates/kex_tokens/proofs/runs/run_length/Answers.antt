use Rattle.std.proofs.Common.{◌∙◌, sym, refl, arith}
use Rattle.kex_tokens.specs.Scanning.{belongs}
use Rattle.kex_tokens.proofs.Loops.{run_goes, run_stops, run_ends}
use Rattle.kex_tokens.proofs.runs.run_length.Goals as goal

pub loop-i-preserved : goal.loop-i-preserved
loop-i-preserved c = run_goes (belongs c.args.run) c.args.text.now c.args.from c.loop-i.i (omega arith) c.loop-i-test.true (sym c.belongs.ensures ∙ c.if-not-belongs.false) c.loop-i.invariant

pub returns-then-not-belongs-clause-run : goal.returns-then-not-belongs-clause-run
returns-then-not-belongs-clause-run c = run_stops (belongs c.args.run) c.args.text.now c.args.from c.loop-i.i _ refl c.loop-i-test.true (sym c.belongs.ensures ∙ c.if-not-belongs.true) c.loop-i.invariant

pub returns-clause-run : goal.returns-clause-run
returns-clause-run c = run_ends (belongs c.args.run) c.args.text.now c.args.from c.loop-i.i _ (omega arith) c.loop-i-test.false c.loop-i.invariant
