use Rattle.std.proofs.Common.{sym, ◌∙◌}
use Rattle.kex_tokens.proofs.LiteralValues.{given_more, given_all, given_out, literal_stands}
use Rattle.kex_tokens.proofs.values.literal_bytes.Goals as goal

pub loop-i-preserved : goal.loop-i-preserved
loop-i-preserved c = given_more c.args.spelling.now c.loop-i.bytes.items c.push_some.new.bytes.items c.loop-i.i c.loop-i.state c.in-On.next c.item_end.result c.loop-i-test.true (sym c.in-On.is ∙ c.literal_step.ensures) c.item_end.ensures c.in_ok-push_some.ensures c.loop-i.invariant

pub returns-in_default : goal.returns-in_default
returns-in_default c = literal_stands c.args.spelling.now c.loop-i.bytes.items c.requires (given_all c.args.spelling.now c.loop-i.bytes.items c.loop-i.i c.loop-i.state c.literal_step.result c.loop-i-test.true c.literal_step.ensures c.in_default.not-On c.loop-i.invariant)

pub returns : goal.returns
returns c = literal_stands c.args.spelling.now c.loop-i.bytes.items c.requires (given_out c.args.spelling.now c.loop-i.bytes.items c.loop-i.i c.loop-i.state c.loop-i-test.false c.loop-i.invariant)
