use Rattle.std.proofs.Common.{refl}
use Rattle.kex_tokens.proofs.Cuts.{cut_begins, cut_goes_on, cut_is_whole, cut_ends}
use Rattle.kex_tokens.proofs.cutting.cut.Goals as goal

pub loop-at-init : goal.loop-at-init
loop-at-init c = cut_begins c.args.text.now c.new-tokens.result.items c.new-tokens.ensures.items

pub returns-in_default-clause-refused : goal.returns-in_default-clause-refused
returns-in_default-clause-refused c = (c.requires, cut_ends c.args.text.now c.loop-at.at c.loop-at.tokens.items c.loop-at.invariant c.loop-at-test.true c.in_default.ensures.none)

pub loop-at-preserved : goal.loop-at-preserved
loop-at-preserved c = cut_goes_on c.args.text.now c.loop-at.at _ c.loop-at.tokens.items c.keep.new.tokens.items c.in-Some.piece c.loop-at.invariant c.in-Some.ensures.found refl c.in-Some.ensures.inside.1 c.in_ok-keep.ensures.kept

pub returns-clause-cut : goal.returns-clause-cut
returns-clause-cut c = cut_is_whole c.args.text.now c.loop-at.at c.loop-at.tokens.items c.loop-at.invariant c.loop-at-test.false
