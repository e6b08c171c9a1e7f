use Rattle.std.proofs.Common.{refl}
use Rattle.clap.proofs.OnLiterals.{clap_on_literals}
use Rattle.kex_words.specs.Words.{asked_of}
use Rattle.kex_words.specs.Known.{LinesAsk, RefusesWords, known_lines}
use Rattle.kex_words.proofs.known.reads_known_words.Goals as goal

in-form : LinesAsk known_lines
unfolding clap_on_literals asked_of
in-form = refl

refuses-words : RefusesWords
unfolding clap_on_literals asked_of
refuses-words = record {
  no_words = refl;
  no_command = refl;
  other_command = refl;
  help_or_version = refl;
  no_program = refl;
  two_programs = refl;
  unknown_option = refl;
  option_of_another_command = refl;
  option_twice = refl;
  value_of_a_flag = refl;
  no_value = refl;
  below_range = refl;
  above_range = refl;
  no_number = refl;
}

pub returns : goal.returns
returns c = record { in_form = in-form; out_of_form = refuses-words }
