use Rattle.std.proofs.Common.{refl, sym, subst}
use Rattle.kex_moves.specs.Known.{IsKnown}
use Rattle.kex_moves.specs.Speech.{words_table}
use Rattle.kex_moves.proofs.tell.tell_some.Goals as goal

pub returns-in_default-clause-known : goal.returns-in_default-clause-known
returns-in_default-clause-known c = (c.in_ok-row.ensures {u = tt}).known (words_table c.args.lexicon.now.words.now) refl c.requires.known

pub tell_from-requires-clause-known : goal.tell_from-requires-clause-known
tell_from-requires-clause-known c =
    let words = c.args.lexicon.now.words.now in
    (words, subst (λ m. IsKnown (words_table words) m c.row_for.new.edges) (sym c.requires.machine) ((c.in_ok-row.ensures {u = tt}).known (words_table words) refl c.requires.known))

pub learn_next-requires-clause-known : goal.learn_next-requires-clause-known
learn_next-requires-clause-known c = (c.in_ok-row.ensures {u = tt}).known (words_table c.args.lexicon.now.words.now) refl c.requires.known

pub returns-clause-performs : goal.returns-clause-performs
returns-clause-performs c =
    let words = c.args.lexicon.now.words.now in
    (c.in_ok-place.ensures {u = tt}).performs words (subst (λ m. IsKnown (words_table words) m c.row_for.new.edges) (sym c.requires.machine) ((c.in_ok-row.ensures {u = tt}).known (words_table words) refl c.requires.known))
