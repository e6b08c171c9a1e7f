-- The subcommand that words in form name.
use Rattle.std.proofs.Common.{◌≡◌, ◌∙◌, List, [], ◌∷◌, Bool, true, false, refl, sym, ap, subst, inl, inr, rules, map}
use Rattle.std.specs.Prelude.{Option, Some, None, ◌&&◌, not, is_some, find, option_map}
use Rattle.std.specs.List.{list_all, list_any}
use Rattle.clap.specs.Words.{Row, Text, Kinds, subcommand_of, fault_of}
use Rattle.clap.specs.Kinds.{check_kinds, or_else}
use Rattle.clap.specs.Simple.{Shape, argument_words, built, entered, names_of, rows_at, label_of}
use Rattle.clap.specs.Facts.{explicit_source}
use Rattle.clap.specs.Faults.{check_fault, defaults_fault, level_fault, settle_fault, walk_fault}
use Rattle.clap.specs.Takes.{is_given}
use Rattle.clap.proofs.WalkLemmas.{both}
use Rattle.clap.specs.Walk.{Held, Names, answers_to, finished, is_empty, settled, stop_after, walk, walk_from}
use Rattle.kex_words.specs.Words.{kex_app}
use Rattle.kex_words.specs.Words.{Asked, asked_by, asked_in, asked_of, is_in_form}
use Rattle.kex_words.specs.Subcommands.{AsksBySubcommand, IsOneOf, subcommands}

-- Where neither of two steps has a fault, the second has none.
last-empty : (a b : Kinds) → or_else a b ≡ [] → b ≡ []
last-empty [] b e = e
last-empty (k ∷ ks) b e = let bad : k ∷ ks ≡ [] = e in cc

-- A missing subcommand that is wanted is a fault.
no-subcommand : (help wants argument : Bool) → wants ≡ true → check_kinds help wants argument ≡ [] → ⊥
no-subcommand true wants argument is e = cc
no-subcommand false true argument is e = cc
no-subcommand false false argument is e = cc

-- A level that wants a subcommand and has no fault has one.
has-subcommand : (s : Shape) (names : Names) (h : Held) (words : List Text) (has : Bool) (below : Kinds)
    → s.subcommand_required ≡ true → level_fault s names h words has below ≡ [] → has ≡ true
has-subcommand s names h words true below wants none = refl
has-subcommand s names h words false below wants none =
    let end = (walk s.rules names h words).held in
    let rows = finished s.rules end in
    let checked : check_fault s rows false ≡ [] =
    last-empty (defaults_fault (settled s.rules end).rows s.rules) _
    (last-empty (settle_fault s.rules s.args_override_self end) _
    (last-empty below _ (last-empty (walk_fault s names (walk_from h) words) _ none))) in
    absurd (no-subcommand (s.arg_required_else_help && not (list_any (λ r. explicit_source r.source) rows)) s.subcommand_required
    (not (s.subcommand_negates_reqs && false) && list_any (λ a. a.required && not (is_given a.id rows)) s.rules) wants checked)

is_some-option_map : {X Y : Type 0} (f : X → Y) (o : Option X) → is_some (option_map f o) ≡ is_some o
is_some-option_map f None = refl
is_some-option_map f (Some x) = refl

-- What is found has one of the names.
found-name : (p : Shape → Bool) (shapes : List Shape) → is_some (find p shapes) ≡ true
    → (s : Shape) × (find p shapes ≡ Some s) × IsOneOf (map (λ x. x.name) shapes) s.name
found-name p [] e = let bad : false ≡ true = e in cc
found-name p (x ∷ xs) e = go (p x) refl (λ k. found-name p xs k) where
  go : (b : Bool) → p x ≡ b → (is_some (find p xs) ≡ true → (s : Shape) × (find p xs ≡ Some s) × IsOneOf (map (λ y. y.name) xs) s.name)
      → (s : Shape) × (find p (x ∷ xs) ≡ Some s) × IsOneOf (map (λ y. y.name) (x ∷ xs)) s.name
  go true is rest = (x, rw is refl, inl refl)
  go false is rest =
      let skips : find p (x ∷ xs) ≡ find p xs = rw is refl in
      let f = rest (ap is_some (sym skips) ∙ e) in
      (f.0, skips ∙ f.1, inr f.2)

named : map (λ x. x.name) (built kex_app).subs ≡ subcommands
named = refl

-- What is entered is one of the subcommands.
entered-name : (stop : Option (Text × List Text)) → is_some (entered (built kex_app) stop) ≡ true
    → (name : Text) × (rows : List Row) × IsOneOf subcommands name × (entered (built kex_app) stop ≡ Some (name, rows))
entered-name None e = let bad : false ≡ true = e in cc
entered-name (Some p) e =
    let met = find (λ s. answers_to p.0 (label_of s)) (built kex_app).subs in
    let f = found-name (λ s. answers_to p.0 (label_of s)) (built kex_app).subs (sym (is_some-option_map (λ s. rows_at s p.1) met) ∙ e) in
    (_, _, subst (λ names. IsOneOf names f.0.name) named f.2, ap (option_map (λ s. rows_at s p.1)) f.1)

empty-of : (ks : Kinds) → is_empty ks ≡ true → ks ≡ []
empty-of [] e = refl
empty-of (k ∷ ks) e = search rules

-- What words in form ask for is what their subcommand asks for.
in-form : (words : List Text) → is_in_form words ≡ true → asked_of words ≡ asked_in (subcommand_of kex_app words)
unfolding asked_of
in-form words is = rw is refl

out-of-form : (words : List Text) → is_in_form words ≡ false → asked_of words ≡ None
unfolding asked_of
out-of-form words is = rw is refl

-- Words that ask for something are in form.
asked-in-form : (words : List Text) (what : Asked) → asked_of words ≡ Some what → is_in_form words ≡ true
asked-in-form words what e = go (is_in_form words) refl where
  go : (b : Bool) → is_in_form words ≡ b → is_in_form words ≡ true
  go true is = is
  go false is = let bad : None ≡ Some what = sym (out-of-form words is) ∙ e in cc

-- Words in form name a subcommand.
pub named-in-form : (words : List Text) → is_in_form words ≡ true
    → (name : Text) × (rows : List Row) × IsOneOf subcommands name × (subcommand_of kex_app words ≡ Some (name, rows))
named-in-form words is =
    let has = has-subcommand _ _ _ _ _ _ refl (empty-of (fault_of kex_app words) is) in
    entered-name (stop_after (built kex_app).top.rules (names_of (built kex_app)) (argument_words kex_app words)) has

-- Each of these names asks for something, whatever its matches are.
some-if : (p : Text → Bool) (names : List Text) (name : Text) → list_all p names ≡ true → IsOneOf names name → p name ≡ true
some-if p [] name all is = absurd is
some-if p (x ∷ xs) name all (inl same) = rw same (both (p x) (list_all p xs) all).0
some-if p (x ∷ xs) name all (inr later) = some-if p xs name (both (p x) (list_all p xs) all).1 later

all-ask : (rows : List Row) → list_all (λ name. is_some (asked_by name rows)) subcommands ≡ true
all-ask rows = refl

held : (o : Option Asked) → is_some o ≡ true → (what : Asked) × (o ≡ Some what)
held None is = let bad : false ≡ true = is in cc
held (Some what) is = (what, refl)

pub asks-by : (words : List Text) (what : Asked) → asked_of words ≡ Some what → AsksBySubcommand words what
asks-by words what e =
    let is = asked-in-form words what e in
    let n = named-in-form words is in
    record { name = n.0; rows = n.1; known = n.2; named = n.3; asks = sym (ap asked_in n.3) ∙ sym (in-form words is) ∙ e }

pub asks-in-form : (words : List Text) → is_in_form words ≡ true → (what : Asked) × (asked_of words ≡ Some what)
asks-in-form words is =
    let n = named-in-form words is in
    let asks = held (asked_by n.0 n.1) (some-if (λ name. is_some (asked_by name n.1)) subcommands n.0 (all-ask n.1) n.2) in
    (asks.0, in-form words is ∙ ap asked_in n.3 ∙ asks.1)
