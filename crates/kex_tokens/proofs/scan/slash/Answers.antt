use Rattle.std.proofs.Common.{refl, sym, ◌∙◌}
use Rattle.kex_tokens.proofs.Offsets.{slash_line, block_some, block_none}
use Rattle.kex_tokens.proofs.scan.slash.Goals as goal

pub returns-then-has_byte : goal.returns-then-has_byte
returns-then-has_byte c = slash_line c.args.text.now c.args.next c.run_length-long.result (sym c.has_byte.ensures ∙ c.if-has_byte.true) c.run_length-long.ensures.run

pub returns-in-Some : goal.returns-in-Some
returns-in-Some c = block_some c.args.text.now c.args.next c.in-Some.n _ c.block_length.result _ (sym c.has_byte.ensures ∙ c.if-has_byte.false) (sym c.has_byte-else-has_byte.ensures ∙ c.if-has_byte-2.true) c.block_length.ensures.length c.in-Some.is refl c.behind_one.ensures

pub returns-in-None : goal.returns-in-None
returns-in-None c = block_none c.args.text.now c.args.next c.block_length.result (sym c.has_byte.ensures ∙ c.if-has_byte.false) (sym c.has_byte-else-has_byte.ensures ∙ c.if-has_byte-2.true) c.block_length.ensures.length c.in-None.is
