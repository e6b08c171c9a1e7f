-- From what `clap` says of its answer to what the words ask for.
use Rattle.std.proofs.Common.{◌≡◌, List, [], ◌∷◌, true, false, refl, sym, ap, subst, rules, inl, inr}
use Rattle.std.specs.Prelude.{None, Option}
use Rattle.clap.specs.Words.{App, HasMatchesOf, Row, Text, HasKind, IsAmong, Kinds, fault_of, is_simple, is_simple_and_free, subcommand_rows_of}
use Rattle.clap.specs.Walk.{is_empty}
use Rattle.clap.specs.declared.error.kind.ErrorKind.{ErrorKind}
use Rattle.clap.specs.declared.parser.matches.ArgMatches.{ArgMatches}
use Rattle.clap.specs.Values.{kind_of}
use Rattle.clap.specs.declared.error.Error.{Error}
use Rattle.clap.specs.declared.error.kind.ErrorKind.TheVariants.{OutOfMemory}
use Rattle.kex_words.specs.Words.{kex_app}
use Rattle.kex_words.specs.Words.{asked_in, asked_of}

is-simple : is_simple kex_app ≡ true
is-simple = refl

is-simple-and-free : is_simple_and_free kex_app ≡ true
is-simple-and-free = refl

empty-if : (ks : Kinds) → ks ≡ [] → is_empty ks ≡ true
empty-if ks e = rw e refl

full-if : (k : ErrorKind) (ks : Kinds) → IsAmong k ks → is_empty ks ≡ false
full-if k [] h = absurd h
full-if k (x ∷ xs) h = search rules

asked-by : (words : List Text) (m : ArgMatches) → fault_of kex_app words ≡ []
    → HasMatchesOf kex_app words m
    → asked_of words ≡ asked_in (subcommand_rows_of m)
unfolding asked_of
asked-by words m none has =
    rw (empty-if (fault_of kex_app words) none)
    (ap (λ (sub : Option (Text × List Row)). asked_in sub) (sym (has is-simple).1))

refused-by : (words : List Text) (k : ErrorKind) → IsAmong k (fault_of kex_app words) → asked_of words ≡ None
unfolding asked_of
refused-by words k among = rw (full-if k (fault_of kex_app words) among) refl

-- Matches of the form say what the words ask for.
pub asked-at : (a : App) (words : List Text) (m : ArgMatches) → a ≡ kex_app
    → (is_simple_and_free a ≡ true → fault_of a words ≡ []) → HasMatchesOf a words m
    → asked_of words ≡ asked_in (subcommand_rows_of m)
asked-at a words m is none has =
    let F : App → Type 0 = λ x. is_simple_and_free x ≡ true → fault_of x words ≡ [] in
    let H : App → Type 0 = λ x. HasMatchesOf x words m in
    let fault : is_simple_and_free kex_app ≡ true → fault_of kex_app words ≡ [] = subst F is none in
    asked-by words m (fault is-simple-and-free) (subst H is has)

-- An error of the form that isn't want of memory is a fault of the words.
pub refused-at : (a : App) (words : List Text) (e : Error) → a ≡ kex_app
    → (is_simple_and_free a ≡ true → HasKind (fault_of a words) e) → ¬ (kind_of e ≡ OutOfMemory)
    → asked_of words ≡ None
refused-at a words e is has other =
    let F : App → Type 0 = λ x. is_simple_and_free x ≡ true → HasKind (fault_of x words) e in
    let kinds : is_simple_and_free kex_app ≡ true → HasKind (fault_of kex_app words) e = subst F is has in
    elim (kinds is-simple-and-free) [
      | inl memory ↦ absurd (other memory)
      | inr among ↦ refused-by words (kind_of e) among
    ]
