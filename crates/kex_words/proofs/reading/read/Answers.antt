use Rattle.std.proofs.Common.{◌≡◌, ◌∙◌, sym, map, string_bytes}
use Rattle.std.specs.Option.{ok_or}
use Rattle.std.specs.Prelude.{Option, Some, None, IfOk, IsErrOf, option_map}
use Rattle.kex_words.specs.Words.{Asked, asked_by_command}
use Rattle.kex_words.specs.declared.commands.Command.{Command}
use Rattle.kex_words.specs.declared.asked.WordsRefusal.TheVariants.{Usage}
use Rattle.kex_words.proofs.ClapAnswers.{asked-at, refused-at}
use Rattle.kex_words.proofs.reading.read.Goals as goal

asked-some : (a : Option Asked) (o : Option Command) → a ≡ option_map asked_by_command o → IfOk (ok_or o Usage) (λ command. a ≡ Some (asked_by_command command))
asked-some a None is = tt
asked-some a (Some command) is = is

usage-none : (a : Option Asked) (o : Option Command) → a ≡ option_map asked_by_command o → IsErrOf (ok_or o Usage) Usage → a ≡ None
usage-none a None is refused = is
usage-none a (Some command) is refused = cc

pub returns-in-Ok : goal.returns-in-Ok
returns-in-Ok c =
    let m = c.in-Ok in
    let is = asked-at _ (map string_bytes c.args.words.now) m.matches c.in_ok-form.ensures m.ensures.kinds m.ensures.matches ∙ sym c.command_of.ensures in
    rw c.ok_or.ensures.value (record { asked = asked-some _ c.command_of.result is; usage = usage-none _ c.command_of.result is })

pub returns : goal.returns
returns c = record {
  asked = tt;
  usage = λ is. refused-at _ (map string_bytes c.args.words.now) c.in-Err.error c.in_ok-form.ensures c.in-Err.ensures.kinds
      (λ memory. c.in_default.not-OutOfMemory (c.kind.ensures ∙ memory));
}
