use Rattle.std.proofs.Common.{◌∙◌, ap}
use Rattle.std.specs.Prelude.{option_and_then}
use Rattle.std.specs.Str.Parse.{ParsesUnsigned, ExplainsUnsignedError, HasUnsignedDigitsIfOk}
use Rattle.clap.specs.Words.{found_of, one_text}
use Rattle.clap.proofs.WalkLemmas.{one_text-rows}
use Rattle.kex_words.specs.Words.{bounded_number}
use Rattle.kex_words.proofs.Numbers.{number-read}
use Rattle.kex_words.proofs.options.number_in.Goals as goal

pub returns-clause-value : goal.returns-clause-value
returns-clause-value c =
    c.bounded.ensures.value
    ∙ number-read _ (λ bs r. ParsesUnsigned 64 10 bs r × ExplainsUnsignedError 10 bs r × HasUnsignedDigitsIfOk bs r) c.args.low c.args.high
    (one_text (found_of c.args.matches.now) c.args.id.now) c.get_one.result (λ u x g. g.0) c.get_one.ensures.none c.get_one.ensures.value
    ∙ ap (option_and_then (bounded_number c.args.low c.args.high)) (one_text-rows (found_of c.args.matches.now) c.args.id.now)
