use Rattle.std.proofs.Common.{◌∷◌, [], ap}
use Rattle.kex_code.specs.declared.symbol.Symbol.TheVariants.{L}
use Rattle.kex_sst.specs.Parts.{olds}
use Rattle.kex_sst.specs.declared.parts.Part.TheVariants.{Put}
use Rattle.kex_script.proofs.Segments.{with_old, without_old}
use Rattle.kex_script.proofs.writer.first_segment.Goals as goal

pub returns-in-Old : goal.returns-in-Old
returns-in-Old c = with_old c.args.parts.now c.in-Old.register c.word_end-end.result (Put L) c.requires c.in-Old.is c.word_end-end.ensures.within.0 c.word_end-end.ensures.within.1 c.word_end-end.ensures.plain

pub returns-in-Put : goal.returns-in-Put
returns-in-Put c = without_old c.args.parts.now c.word_end-end.result (Put L) c.requires (ap (λ z. olds (z ∷ [])) c.in-Put.is) c.word_end-end.ensures.within.0 c.word_end-end.ensures.within.1 c.word_end-end.ensures.plain

pub returns-in-Input : goal.returns-in-Input
returns-in-Input c = without_old c.args.parts.now c.word_end-end.result (Put L) c.requires (ap (λ z. olds (z ∷ [])) c.in-Input.is) c.word_end-end.ensures.within.0 c.word_end-end.ensures.within.1 c.word_end-end.ensures.plain
