-- From a word's kind to the machine's step, and from what the code did to the state that it shows.
use Rattle.std.proofs.Common.{◌≡◌, ℕ, ◌+◌, ◌<◌, Bool, true, false, List, [], ◌∷◌, ◌++◌, length, Option, Some, None, Result, Ok, Err, refl, sym, ap, ◌∙◌, subst, arith, length-append}
use Rattle.std.specs.Prelude.{bytes_eq, codes, if◌then◌else◌, IfOk, IfErr, OnOk, IsErrAnd}
use Rattle.kex_tokens.specs.declared.token.TokenKind.{TokenKind}
use Rattle.kex_tokens.specs.declared.token.TokenKind.TheVariants as kinds
use Rattle.kex_tokens.specs.Values.{StandsFor}
use Rattle.kex_model.specs.declared.program.Kind.TheVariants as nodes
use Rattle.kex_regexp.specs.Grammar.{Regex as Body}
use Rattle.kex_regexp.specs.Bodies.{SpellsRegex as BodySpells}
use Rattle.kex_regexp.specs.Shown.{ShowsRegex}
use Rattle.kex_reader.specs.declared.stack.TermConstruct.{TermConstruct}
use Rattle.kex_reader.specs.declared.stack.TermConstruct.TheVariants as constructs
use Rattle.kex_reader.specs.declared.stack.PlacedNode.{PlacedNode as Shown}
use Rattle.kex_regexp.specs.declared.counts.Count.TheVariants as counts
use Rattle.kex_regexp.specs.declared.counts.Bounds.{Bounds}
use Rattle.kex_regexp.specs.Holding.{HoldsBounds, ShowsCount}
use Rattle.kex_regexp.specs.Outcomes.{are_bad}
use Rattle.kex_regexp.specs.Postfixes.{high, low}
use Rattle.kex_regexp.proofs.CappedCounts.{good_bounds}
use Rattle.kex_reader.specs.declared.inside.TermWait.{TermWait}
use Rattle.kex_reader.specs.declared.inside.TermWait.TheVariants as waits
use Rattle.kex_reader.specs.declared.inside.TermFault.{TermFault}
use Rattle.kex_reader.specs.declared.inside.TermFault.TheVariants as faults
use Rattle.kex_reader.specs.declared.word.Name.{Name as Named'}
use Rattle.kex_reader.specs.Syntax.{Word, Name, Number, Literal, Regex, Define, Bar, Tilde, At, Star, Plus, Question, OpenBrace, Bang, OpenBracket, OpenParen, CloseParen, word, Postfix, ZeroOrMore, OneOrMore, Optional, Term, Seq, Once, Turns, Atom, One, Call, Lit, Match, Write, Group, pre, atom, postfix}
use Rattle.kex_reader.specs.Reading.{Entry, Mark, Ended, Done, Muted, Storing, Opened, Mode, Need, Ready, After, Turned, Named, Writing, Bracket, BracketName, Assigning, InCount, Inside, with_pre, take_seq, take_term, goes, on_bar, after_group, on_close, on_number, begin_pre, after_atom, after_term_turns, after_name, on_name, on_sign, entries, entry}
use Rattle.kex_reader.specs.Shown.{Made, IsNode, IsName, IsRegister, ShowsTerm, ShowsPre, ShowsAtom}
use Rattle.kex_reader.specs.Stands.{HoldsTurns, Keeps, ConstructsShow, SeqTaken, TermTaken, ShowsMode, Steps}
use Rattle.kex_reader.proofs.Drafts.{Keeps-trans}
use Rattle.kex_reader.proofs.Sound.{eager_is, put_is}
use Rattle.kex_reader.proofs.Stacks.{constructs_more}

-- ---- outcomes

module _ (made : Made) (at : ℕ → ℕ) (base : ℕ) (fs : List TermConstruct) where
  pub to : (r : Result TermWait TermFault) (o p : Option Inside) → o ≡ p → Steps made at base fs r p → Steps made at base fs r o
  to r o p e s = subst (λ (x : Option Inside). Steps made at base fs r x) (sym e) s

  pub memory : (o : Option Inside) → Steps made at base fs (Err faults.Memory) o
  unfolding Steps
  memory o = tt

  -- out of memory
  pub memory_exit : (r : Result TermWait TermFault) → IsErrAnd r (λ e. e ≡ faults.Memory) → (o : Option Inside) → Steps made at base fs r o
  memory_exit (Ok w) e o = absurd e
  memory_exit (Err f) e o = subst (λ (x : TermFault). Steps made at base fs (Err x) o) (sym e) (memory o)

  pub wrong : Steps made at base fs (Err faults.Wrong) None
  unfolding Steps
  wrong = tt

  pub stood : (w : TermWait) (m : Mode) (es : List Entry) → ConstructsShow made at base fs es → ShowsMode made at (base + length (entries es)) w m → Steps made at base fs (Ok w) (goes m es)
  unfolding Steps
  stood w m es h s = record { below = h; mode = s }

  pub need : (es : List Entry) → ConstructsShow made at base fs es → Steps made at base fs (Ok waits.Need) (goes Need es)
  unfolding ShowsMode
  need es h = stood waits.Need Need es h tt

  pub ready : (es : List Entry) → ConstructsShow made at base fs es → Steps made at base fs (Ok waits.Ready) (goes Ready es)
  unfolding ShowsMode
  ready es h = stood waits.Ready Ready es h tt

  pub after : (es : List Entry) (n a : ℕ) (x : Atom) → ConstructsShow made at base fs es → a ≡ at (base + length (entries es)) → ShowsAtom x made at n (base + length (entries es)) → Steps made at base fs (Ok (waits.After (record { node = n; at = a }))) (goes (After x) es)
  unfolding ShowsMode
  after es n a x h e s = stood (waits.After (record { node = n; at = a })) (After x) es h (e, s)

  pub named_waits : (es : List Entry) (free : Bool) (n : Named') → ConstructsShow made at base fs es → n.at ≡ at (base + length (entries es)) → Steps made at base fs (Ok (waits.Named free n)) (goes (Named free n.bytes.now) es)
  unfolding ShowsMode
  named_waits es free n h e = stood (waits.Named free n) (Named free n.bytes.now) es h (refl, refl, e)

  pub writing : (es : List Entry) (a : ℕ) → ConstructsShow made at base fs es → a ≡ at (base + length (entries es)) → Steps made at base fs (Ok (waits.Writing a)) (goes Writing es)
  unfolding ShowsMode
  writing es a h e = stood (waits.Writing a) Writing es h e

  pub bracket : (es : List Entry) (a : ℕ) → ConstructsShow made at base fs es → a ≡ at (base + length (entries es)) → Steps made at base fs (Ok (waits.Bracket a)) (goes Bracket es)
  unfolding ShowsMode
  bracket es a h e = stood (waits.Bracket a) Bracket es h e

  pub bracket_name : (es : List Entry) (a k : ℕ) (r : List ℕ) → ConstructsShow made at base fs es → a ≡ at (base + length (entries es)) → IsRegister made k r → Steps made at base fs (Ok (waits.BracketName a k)) (goes (BracketName r) es)
  unfolding ShowsMode
  bracket_name es a k r h e s = stood (waits.BracketName a k) (BracketName r) es h (e, s)

  pub turned : (es : List Entry) (part : Shown) (b : Bounds) (x : Atom) (p : Postfix) → ConstructsShow made at base fs es → part.at ≡ at (base + length (entries es)) → ShowsAtom x made at part.node (base + length (entries es)) → HoldsTurns made b p → Steps made at base fs (Ok (waits.Turned part b)) (goes (Turned x p) es)
  unfolding ShowsMode
  turned es part b x p h e s t = stood (waits.Turned part b) (Turned x p) es h (e, s, t)

  -- an atom begins to take turns
  pub begins_turns : (es : List Entry) (w : TermWait) (part : Shown) (b : Bounds) (x : Atom) (p : Postfix) → w ≡ waits.Turned part b → ConstructsShow made at base fs es → part.at ≡ at (base + length (entries es)) → ShowsAtom x made at part.node (base + length (entries es)) → HoldsTurns made b p → Steps made at base fs (Ok w) (goes (Turned x p) es)
  begins_turns es w part b x p q h e s t = subst (λ (v : TermWait). Steps made at base fs (Ok v) (goes (Turned x p) es)) (sym q) (turned es part b x p h e s t)

  pub count_opens : (es : List Entry) (x : Atom) (part : Shown) (brace : ℕ) → ConstructsShow made at base fs es → part.at ≡ at (base + length (entries es)) → ShowsAtom x made at part.node (base + length (entries es)) → brace ≡ at (base + length (entries es) + length (atom x)) → Steps made at base fs (Ok (waits.InCount part counts.Opened brace)) (goes (InCount x Opened) es)
  unfolding ShowsMode ShowsCount
  count_opens es x part brace h e s b = stood (waits.InCount part counts.Opened brace) (InCount x Opened) es h (e, s, tt, b)

-- ---- atoms

pub one_shows : (made : Made) (at : ℕ → ℕ) (n i : ℕ) (a : ℕ) → a ≡ at i → IsNode made n nodes.One a → ShowsAtom One made at n i
unfolding ShowsAtom
one_shows made at n i a e h = subst (λ (y : ℕ). IsNode made n nodes.One y) e h

pub call_shows : (made : Made) (at : ℕ → ℕ) (n i k : ℕ) (a : ℕ) (name : List ℕ) → a ≡ at i → IsNode made n (nodes.Call k) a → IsName made k name → ShowsAtom (Call name) made at n i
unfolding ShowsAtom
call_shows made at n i k a name e h m = (k, subst (λ (y : ℕ). IsNode made n (nodes.Call k) y) e h, m)

pub lit_shows : (made : Made) (at : ℕ → ℕ) (n i : ℕ) (a : ℕ) (s bytes : List ℕ) → a ≡ at i → IsNode made n (nodes.Lit bytes) a → StandsFor s bytes → ShowsAtom (Lit s) made at n i
unfolding ShowsAtom
lit_shows made at n i a s bytes e h m = (bytes, subst (λ (y : ℕ). IsNode made n (nodes.Lit bytes) y) e h, m)

pub write_shows : (made : Made) (at : ℕ → ℕ) (n i k : ℕ) (a : ℕ) (r : List ℕ) → a ≡ at i → IsNode made n (nodes.Write k) a → IsRegister made k r → ShowsAtom (Write r) made at n i
unfolding ShowsAtom
write_shows made at n i k a r e h m = (k, subst (λ (y : ℕ). IsNode made n (nodes.Write k) y) e h, m)

pub match_shows : (made : Made) (at : ℕ → ℕ) (n i : ℕ) (a : ℕ) (b : List ℕ) → a ≡ at i → n < length made.nodes → (made.broken ≡ None → (r : Body) × BodySpells r b × ShowsRegex r made.nodes n (a + 1)) → ShowsAtom (Match b) made at n i
unfolding ShowsAtom
match_shows made at n i a b e l h = (l, λ z. let r = h z in (r.0, r.1, subst (λ (y : ℕ). ShowsRegex r.0 made.nodes n (y + 1)) e r.2))

-- ---- where a pre may begin

module _ (free : Bool) (es : List Entry) (b : List ℕ) where
  pub begin_kind : (k j : TokenKind) (o : Option Inside) → k ≡ j → begin_pre free es (word j b) ≡ o → begin_pre free es (word k b) ≡ o
  begin_kind k j o e f = ap (λ (x : TokenKind). begin_pre free es (word x b)) e ∙ f

  pub begin_other : (k : TokenKind) → (k ≡ kinds.Name → ⊥) → (k ≡ kinds.Number → ⊥) → (k ≡ kinds.Literal → ⊥) → (k ≡ kinds.Regex → ⊥) → (k ≡ kinds.Tilde → ⊥) → (k ≡ kinds.Bang → ⊥) → (k ≡ kinds.OpenBracket → ⊥) → (k ≡ kinds.OpenParen → ⊥) → (k ≡ kinds.Bar → ⊥) → (k ≡ kinds.CloseParen → ⊥) → begin_pre free es (word k b) ≡ None
  unfolding begin_pre
  begin_other kinds.Name n1 n2 n3 n4 n5 n6 n7 n8 n9 n10 = absurd (n1 refl)
  begin_other kinds.Number n1 n2 n3 n4 n5 n6 n7 n8 n9 n10 = absurd (n2 refl)
  begin_other kinds.Literal n1 n2 n3 n4 n5 n6 n7 n8 n9 n10 = absurd (n3 refl)
  begin_other kinds.Regex n1 n2 n3 n4 n5 n6 n7 n8 n9 n10 = absurd (n4 refl)
  begin_other kinds.Tilde n1 n2 n3 n4 n5 n6 n7 n8 n9 n10 = absurd (n5 refl)
  begin_other kinds.Bang n1 n2 n3 n4 n5 n6 n7 n8 n9 n10 = absurd (n6 refl)
  begin_other kinds.OpenBracket n1 n2 n3 n4 n5 n6 n7 n8 n9 n10 = absurd (n7 refl)
  begin_other kinds.OpenParen n1 n2 n3 n4 n5 n6 n7 n8 n9 n10 = absurd (n8 refl)
  begin_other kinds.Bar n1 n2 n3 n4 n5 n6 n7 n8 n9 n10 = absurd (n9 refl)
  begin_other kinds.CloseParen n1 n2 n3 n4 n5 n6 n7 n8 n9 n10 = absurd (n10 refl)
  begin_other _ n1 n2 n3 n4 n5 n6 n7 n8 n9 n10 = refl

pub begin_name : (free : Bool) (es : List Entry) (n : List ℕ) → begin_pre free es (Name n) ≡ goes (Named free n) es
unfolding begin_pre
begin_name free es n = refl

pub begin_literal : (free : Bool) (es : List Entry) (s : List ℕ) → begin_pre free es (Literal s) ≡ goes (After (Lit s)) es
unfolding begin_pre
begin_literal free es s = refl

pub begin_regex : (free : Bool) (es : List Entry) (b : List ℕ) → begin_pre free es (Regex b) ≡ goes (After (Match b)) es
unfolding begin_pre
begin_regex free es b = refl

pub begin_tilde : (free : Bool) (es : List Entry) → begin_pre free es Tilde ≡ goes Need (Muted ∷ es)
unfolding begin_pre
begin_tilde free es = refl

pub begin_bang : (free : Bool) (es : List Entry) → begin_pre free es Bang ≡ goes Writing es
unfolding begin_pre
begin_bang free es = refl

pub begin_bracket : (free : Bool) (es : List Entry) → begin_pre free es OpenBracket ≡ goes Bracket es
unfolding begin_pre
begin_bracket free es = refl

pub begin_paren : (free : Bool) (es : List Entry) → begin_pre free es OpenParen ≡ goes Need (Mark ∷ es)
unfolding begin_pre
begin_paren free es = refl

pub begin_bar : (free : Bool) (es : List Entry) → free ≡ true → begin_pre free es Bar ≡ on_bar (take_seq es)
unfolding begin_pre
begin_bar true es e = refl
begin_bar false es e = absurd cc

pub no_bar : (free : Bool) (es : List Entry) → free ≡ false → begin_pre free es Bar ≡ None
unfolding begin_pre
no_bar false es e = refl
no_bar true es e = absurd cc

pub begin_close : (free : Bool) (es : List Entry) → free ≡ true → begin_pre free es CloseParen ≡ on_close (take_term es)
unfolding begin_pre
begin_close true es e = refl
begin_close false es e = absurd cc

pub no_close : (free : Bool) (es : List Entry) → free ≡ false → begin_pre free es CloseParen ≡ None
unfolding begin_pre
no_close false es e = refl
no_close true es e = absurd cc

pub begin_one : (free : Bool) (es : List Entry) (b : List ℕ) → bytes_eq b (codes "1") ≡ true → begin_pre free es (Number b) ≡ goes (After One) es
unfolding begin_pre on_number
begin_one free es b e = ap (λ (x : Bool). if x then goes (After One) es else None) e

pub begin_number : (free : Bool) (es : List Entry) (b : List ℕ) → bytes_eq b (codes "1") ≡ false → begin_pre free es (Number b) ≡ None
unfolding begin_pre on_number
begin_number free es b e = ap (λ (x : Bool). if x then goes (After One) es else None) e

-- ---- bars and parentheses

pub bar_steps : (a b : Made) (at : ℕ → ℕ) (base : ℕ) (fs gs : List TermConstruct) (part : Shown) (o : Option (Seq × List Entry)) → gs ≡ constructs.Ended part ∷ fs → SeqTaken a at base fs (Some part) o → Steps a at base gs (Ok waits.Need) (on_bar o)
unfolding on_bar ConstructsShow
bar_steps a b at base fs gs part None e h = absurd h
bar_steps a b at base fs gs part (Some t) e h = need a at base gs (Ended t.0 ∷ t.1) (subst (λ (x : List TermConstruct). ConstructsShow a at base x (Ended t.0 ∷ t.1)) (sym e) (h.place, h.shows, h.below))

pub bar_wrong : (a : Made) (at : ℕ → ℕ) (base : ℕ) (fs gs : List TermConstruct) (o : Option (Seq × List Entry)) → SeqTaken a at base fs None o → Steps a at base gs (Err faults.Wrong) (on_bar o)
unfolding on_bar
bar_wrong a at base fs gs None h = wrong a at base gs
bar_wrong a at base fs gs (Some t) h = absurd h

pub close_wrong : (a : Made) (at : ℕ → ℕ) (base : ℕ) (fs gs : List TermConstruct) (o : Option (Term × List Entry)) → TermTaken a at base fs None o → Steps a at base gs (Err faults.Wrong) (on_close o)
unfolding on_close
close_wrong a at base fs gs None h = wrong a at base gs
close_wrong a at base fs gs (Some t) h = absurd h

group_shows : (a : Made) (at : ℕ → ℕ) (n i : ℕ) (t : Term) → ShowsTerm t a at n (i + 1) → ShowsAtom (Group t) a at n i
unfolding ShowsAtom
group_shows a at n i t h = h

closes : (a : Made) (at : ℕ → ℕ) (base : ℕ) (new : List TermConstruct) (part : Shown) (from : ℕ) (t : Term) (es : List Entry) → ShowsTerm t a at part.node (base + length (entries es)) → ConstructsShow a at base (constructs.Mark from ∷ new) es → Steps a at base new (Ok (waits.After (record { node = part.node; at = from }))) (after_group t es)
unfolding after_group ConstructsShow entries entry
closes a at base new part from t (Mark ∷ es) s h =
    let j : base + length (entries es ++ OpenParen ∷ []) ≡ base + length (entries es) + 1 = omega (arith, length-append (entries es) (OpenParen ∷ [])) in
    after a at base new es part.node from (Group t) h.1 h.0 (group_shows a at part.node (base + length (entries es)) t (subst (λ (y : ℕ). ShowsTerm t a at part.node y) j s))
closes a at base new part from t _ s h = absurd h

pub close_steps : (a : Made) (at : ℕ → ℕ) (base : ℕ) (fs new : List TermConstruct) (part : Shown) (from : ℕ) (o : Option (Term × List Entry)) → fs ≡ constructs.Mark from ∷ new → TermTaken a at base fs (Some part) o → Steps a at base new (Ok (waits.After (record { node = part.node; at = from }))) (on_close o)
unfolding on_close
close_steps a at base fs new part from None e h = absurd h
close_steps a at base fs new part from (Some t) e h = closes a at base new part from t.0 t.1 h.shows (subst (λ (x : List TermConstruct). ConstructsShow a at base x t.1) e h.below)

unmarked : (a : Made) (at : ℕ → ℕ) (base : ℕ) (fs gs : List TermConstruct) (t : Term) (es : List Entry) → ((x : ℕ) (hs : List TermConstruct) → fs ≡ constructs.Mark x ∷ hs → ⊥) → ConstructsShow a at base fs es → Steps a at base gs (Err faults.Wrong) (after_group t es)
unfolding after_group ConstructsShow
unmarked a at base fs gs t [] n h = wrong a at base gs
unmarked a at base fs gs t (Ended s ∷ es) n h = wrong a at base gs
unmarked a at base fs gs t (Done p ∷ es) n h = wrong a at base gs
unmarked a at base fs gs t (Muted ∷ es) n h = wrong a at base gs
unmarked a at base fs gs t (Storing r ∷ es) n h = wrong a at base gs
unmarked a at base (constructs.Mark x ∷ fs) gs t (Mark ∷ es) n h = absurd (n x fs refl)
unmarked a at base _ gs t (Mark ∷ es) n h = absurd h

pub unclosed : (a : Made) (at : ℕ → ℕ) (base : ℕ) (fs gs : List TermConstruct) (part : Shown) (o : Option (Term × List Entry)) → ((x : ℕ) (hs : List TermConstruct) → fs ≡ constructs.Mark x ∷ hs → ⊥) → TermTaken a at base fs (Some part) o → Steps a at base gs (Err faults.Wrong) (on_close o)
unfolding on_close
unclosed a at base fs gs part None n h = absurd h
unclosed a at base fs gs part (Some t) n h = unmarked a at base fs gs t.0 t.1 n h.below

-- ---- after an atom

module _ (x : Atom) (es : List Entry) (b : List ℕ) where
  pub after_kind : (k j : TokenKind) (o : Option Inside) → k ≡ j → after_atom x es (word j b) ≡ o → after_atom x es (word k b) ≡ o
  after_kind k j o e f = ap (λ (y : TokenKind). after_atom x es (word y b)) e ∙ f

  pub after_other : (k : TokenKind) → (k ≡ kinds.Star → ⊥) → (k ≡ kinds.Plus → ⊥) → (k ≡ kinds.Question → ⊥) → (k ≡ kinds.OpenBrace → ⊥) → after_atom x es (word k b) ≡ begin_pre true (with_pre (Once x) es) (word k b)
  unfolding after_atom
  after_other kinds.Star n1 n2 n3 n4 = absurd (n1 refl)
  after_other kinds.Plus n1 n2 n3 n4 = absurd (n2 refl)
  after_other kinds.Question n1 n2 n3 n4 = absurd (n3 refl)
  after_other kinds.OpenBrace n1 n2 n3 n4 = absurd (n4 refl)
  after_other _ n1 n2 n3 n4 = refl

pub after_star : (x : Atom) (es : List Entry) → after_atom x es Star ≡ goes (Turned x ZeroOrMore) es
unfolding after_atom
after_star x es = refl

pub after_plus : (x : Atom) (es : List Entry) → after_atom x es Plus ≡ goes (Turned x OneOrMore) es
unfolding after_atom
after_plus x es = refl

pub after_question : (x : Atom) (es : List Entry) → after_atom x es Question ≡ goes (Turned x Optional) es
unfolding after_atom
after_question x es = refl

pub after_brace : (x : Atom) (es : List Entry) → after_atom x es OpenBrace ≡ goes (InCount x Opened) es
unfolding after_atom
after_brace x es = refl

module _ (a : Atom) (p : Postfix) (es : List Entry) (b : List ℕ) where
  pub turned_lazy : (k : TokenKind) → k ≡ kinds.Question → after_term_turns a p es (word k b) ≡ goes Ready (with_pre (Turns a p true) es)
  unfolding after_term_turns
  turned_lazy k e = ap (λ (x : TokenKind). after_term_turns a p es (word x b)) e

  pub turned_other : (k : TokenKind) → (k ≡ kinds.Question → ⊥) → after_term_turns a p es (word k b) ≡ begin_pre true (with_pre (Turns a p false) es) (word k b)
  unfolding after_term_turns
  turned_other kinds.Question n = absurd (n refl)
  turned_other _ n = refl

pub turns_index : (base : ℕ) (x : Atom) (p : Postfix) (es : List Entry) → base + length (entries (with_pre (Turns x p false) es)) ≡ base + length (entries es) + length (atom x ++ postfix p)
turns_index base x p es = omega (arith, ap (λ (w : List Word). length w) (eager_is x p es), length-append (entries es) (atom x ++ postfix p))

pub turns_place : (at : ℕ → ℕ) (base a : ℕ) (x : Atom) (p : Postfix) (es : List Entry) → a ≡ at (base + length (entries es) + length (atom x ++ postfix p)) → a ≡ at (base + length (entries (with_pre (Turns x p false) es)))
turns_place at base a x p es e = e ∙ ap at (sym (turns_index base x p es))

pub once_shows : (made : Made) (at : ℕ → ℕ) (n i : ℕ) (x : Atom) → ShowsAtom x made at n i → ShowsPre (Once x) made at n i
unfolding ShowsPre
once_shows made at n i x h = h

pub turns_show : (made : Made) (at : ℕ → ℕ) (n m i a : ℕ) (b : Bounds) (x : Atom) (p : Postfix) (lazy : Bool) → n < length made.nodes → a ≡ at i → are_bad b ≡ false → HoldsBounds b p → IsNode made n (nodes.Rep m b.low b.high lazy) a → ShowsAtom x made at m i → ShowsPre (Turns x p lazy) made at n i
unfolding ShowsPre
turns_show made at n m i a b x p lazy k e good h d s =
    let u = good_bounds b p good h in
    (k, m, λ _. subst (λ (y : ℕ). IsNode made n (nodes.Rep m (low p) (high p) lazy) y) e (subst (λ (y : Option ℕ). IsNode made n (nodes.Rep m (low p) y lazy) a) u.1 (subst (λ (y : ℕ). IsNode made n (nodes.Rep m y b.high lazy) a) u.0 d)), s)

-- where atoms end
pub put_ends : (x : Atom) (es : List Entry) → length (entries (with_pre (Once x) es)) ≡ length (entries es) + length (atom x)
unfolding pre
put_ends x es = ap (λ (w : List Word). length w) (put_is (Once x) es) ∙ length-append (entries es) (atom x)

pub put_place : (at : ℕ → ℕ) (base a : ℕ) (x : Atom) (es : List Entry) → a ≡ at (base + length (entries es) + length (atom x)) → a ≡ at (base + length (entries (with_pre (Once x) es)))
put_place at base a x es e =
    let j : base + length (entries es) + length (atom x) ≡ base + length (entries (with_pre (Once x) es)) = omega (arith, put_ends x es) in
    e ∙ ap at j

-- ---- after a name

module _ (n : List ℕ) (es : List Entry) (b : List ℕ) where
  pub named_kind : (k j : TokenKind) (o : Option Inside) → k ≡ j → after_name n es (word j b) ≡ o → after_name n es (word k b) ≡ o
  named_kind k j o e f = ap (λ (y : TokenKind). after_name n es (word y b)) e ∙ f

  pub named_other : (k : TokenKind) → (k ≡ kinds.At → ⊥) → (k ≡ kinds.Define → ⊥) → after_name n es (word k b) ≡ after_atom (Call n) es (word k b)
  unfolding after_name
  named_other kinds.At n1 n2 = absurd (n1 refl)
  named_other kinds.Define n1 n2 = absurd (n2 refl)
  named_other _ n1 n2 = refl

pub named_at : (n : List ℕ) (es : List Entry) → after_name n es At ≡ goes Need (Storing n ∷ es)
unfolding after_name
named_at n es = refl

pub named_define : (n : List ℕ) (es : List Entry) → after_name n es Define ≡ None
unfolding after_name
named_define n es = refl

-- constructs that were pushed

pub mark_pushed : (a : Made) (at : ℕ → ℕ) (base : ℕ) (fs gs : List TermConstruct) (es : List Entry) (x : ℕ) → gs ≡ constructs.Mark x ∷ fs → ConstructsShow a at base fs es → x ≡ at (base + length (entries es)) → ConstructsShow a at base gs (Mark ∷ es)
unfolding ConstructsShow
mark_pushed a at base fs gs es x e h p = subst (λ (y : List TermConstruct). ConstructsShow a at base y (Mark ∷ es)) (sym e) (p, h)

pub muted_pushed : (a : Made) (at : ℕ → ℕ) (base : ℕ) (fs gs : List TermConstruct) (es : List Entry) (x : ℕ) → gs ≡ constructs.Muted x ∷ fs → ConstructsShow a at base fs es → x ≡ at (base + length (entries es)) → ConstructsShow a at base gs (Muted ∷ es)
unfolding ConstructsShow
muted_pushed a at base fs gs es x e h p = subst (λ (y : List TermConstruct). ConstructsShow a at base y (Muted ∷ es)) (sym e) (p, h)

pub storing_pushed : (a : Made) (at : ℕ → ℕ) (base : ℕ) (fs gs : List TermConstruct) (es : List Entry) (x k : ℕ) (r : List ℕ) → gs ≡ constructs.Storing (record { register = k; at = x }) ∷ fs → ConstructsShow a at base fs es → x ≡ at (base + length (entries es)) → IsRegister a k r → ConstructsShow a at base gs (Storing r ∷ es)
unfolding ConstructsShow
storing_pushed a at base fs gs es x k r e h p s = subst (λ (y : List TermConstruct). ConstructsShow a at base y (Storing r ∷ es)) (sym e) (p, s, h)

-- ---- a name that has to come

pub name_other : (f : List ℕ → Option Inside) (k : TokenKind) (b : List ℕ) → (k ≡ kinds.Name → ⊥) → on_name f (word k b) ≡ None
unfolding on_name
name_other f kinds.Name b n = absurd (n refl)
name_other f _ b n = refl

pub name_is : (f : List ℕ → Option Inside) (k : TokenKind) (b : List ℕ) → k ≡ kinds.Name → on_name f (word k b) ≡ f b
unfolding on_name
name_is f k b e = ap (λ (y : TokenKind). on_name f (word y b)) e

-- ---- signs

pub sign_other : (r : List ℕ) (es : List Entry) (k : TokenKind) (b : List ℕ) → (k ≡ kinds.Arrow → ⊥) → (k ≡ kinds.PlusEquals → ⊥) → on_sign r es (word k b) ≡ None
unfolding on_sign
sign_other r es kinds.Arrow b n m = absurd (n refl)
sign_other r es kinds.PlusEquals b n m = absurd (m refl)
sign_other r es _ b n m = refl

pub sign_arrow : (r : List ℕ) (es : List Entry) (k : TokenKind) (b : List ℕ) → k ≡ kinds.Arrow → on_sign r es (word k b) ≡ goes (Assigning false r) es
unfolding on_sign
sign_arrow r es k b e = ap (λ (y : TokenKind). on_sign r es (word y b)) e

pub sign_plus : (r : List ℕ) (es : List Entry) (k : TokenKind) (b : List ℕ) → k ≡ kinds.PlusEquals → on_sign r es (word k b) ≡ goes (Assigning true r) es
unfolding on_sign
sign_plus r es k b e = ap (λ (y : TokenKind). on_sign r es (word y b)) e

-- ---- what a call answered

module _ (a b : Made) (at : ℕ → ℕ) (base : ℕ) (fs gs : List TermConstruct) (es : List Entry) where
  -- an atom, over the constructs that were there
  pub atom_steps : (r : Result TermWait TermFault) (x : Atom) (from : ℕ) → OnOk r (Keeps a b) → IfOk r (λ w. (n : ℕ) × (w ≡ waits.After (record { node = n; at = from })) × ShowsAtom x b at n (base + length (entries es))) → IfErr r (λ e. e ≡ faults.Memory) → ConstructsShow a at base fs es → from ≡ at (base + length (entries es)) → Steps b at base fs r (goes (After x) es)
  atom_steps (Ok w) x from k h m f e = subst (λ (y : TermWait). Steps b at base fs (Ok y) (goes (After x) es)) (sym h.1) (after b at base fs es h.0 from x (constructs_more a b at base fs es k f) e h.2)
  atom_steps (Err e) x from k h m f p = subst (λ (y : TermFault). Steps b at base fs (Err y) (goes (After x) es)) (sym m) (memory b at base fs (goes (After x) es))

  opened_steps : (r : Result TermWait TermFault) (top : Entry) → OnOk r (ConstructsShow b at base gs (top ∷ es)) → IfOk r (λ w. w ≡ waits.Need) → IfErr r (λ e. e ≡ faults.Memory) → Steps b at base gs r (goes Need (top ∷ es))
  opened_steps (Ok w) top f h m = subst (λ (y : TermWait). Steps b at base gs (Ok y) (goes Need (top ∷ es))) (sym h) (need b at base gs (top ∷ es) f)
  opened_steps (Err e) top f h m = subst (λ (y : TermFault). Steps b at base gs (Err y) (goes Need (top ∷ es))) (sym m) (memory b at base gs (goes Need (top ∷ es)))

  on_both : {A B C : Type 0} (r : Result TermWait TermFault) → (A → B → C) → OnOk r A → OnOk r B → OnOk r C
  on_both (Ok w) f x y = f x y
  on_both (Err e) f x y = tt

  pub tilde_steps : (r : Result TermWait TermFault) (x : ℕ) → OnOk r (Keeps a b) → OnOk r (gs ≡ constructs.Muted x ∷ fs) → IfOk r (λ w. w ≡ waits.Need) → IfErr r (λ e. e ≡ faults.Memory) → ConstructsShow a at base fs es → x ≡ at (base + length (entries es)) → Steps b at base gs r (goes Need (Muted ∷ es))
  tilde_steps r x k p h m f e = opened_steps r Muted (on_both r (λ k p. muted_pushed b at base fs gs es x p (constructs_more a b at base fs es k f) e) k p) h m

  pub paren_steps : (r : Result TermWait TermFault) (x : ℕ) → OnOk r (Keeps a b) → OnOk r (gs ≡ constructs.Mark x ∷ fs) → IfOk r (λ w. w ≡ waits.Need) → IfErr r (λ e. e ≡ faults.Memory) → ConstructsShow a at base fs es → x ≡ at (base + length (entries es)) → Steps b at base gs r (goes Need (Mark ∷ es))
  paren_steps r x k p h m f e = opened_steps r Mark (on_both r (λ k p. mark_pushed b at base fs gs es x p (constructs_more a b at base fs es k f) e) k p) h m

  pub storing_steps : (r : Result TermWait TermFault) (x k : ℕ) (name : List ℕ) → OnOk r (Keeps a b) → OnOk r (gs ≡ constructs.Storing (record { register = k; at = x }) ∷ fs) → IfOk r (λ w. w ≡ waits.Need) → IfErr r (λ e. e ≡ faults.Memory) → ConstructsShow a at base fs es → x ≡ at (base + length (entries es)) → IsRegister a k name → Steps b at base gs r (goes Need (Storing name ∷ es))
  storing_steps r x k name l p h m f e s = opened_steps r (Storing name) (on_both r (λ l p. storing_pushed b at base fs gs es x k name p (constructs_more a b at base fs es l f) e (l.registers k name s)) l p) h m

pub on_keeps : {A : Type 0} (r : Result A TermFault) (a b d : Made) → Keeps a b → OnOk r (Keeps b d) → OnOk r (Keeps a d)
on_keeps (Ok w) a b d k l = Keeps-trans a b d k l
on_keeps (Err e) a b d k l = tt

-- what is said of the atom that a call answered
pub atom_of : (made : Made) (at : ℕ → ℕ) (i from : ℕ) (x : Atom) (P : ℕ → Type 0) (r : Result TermWait TermFault) → ((n : ℕ) → P n → ShowsAtom x made at n i) → IfOk r (λ w. (n : ℕ) × (w ≡ waits.After (record { node = n; at = from })) × P n) → IfOk r (λ w. (n : ℕ) × (w ≡ waits.After (record { node = n; at = from })) × ShowsAtom x made at n i)
atom_of made at i from x P (Ok w) f h = (h.0, h.1, f h.0 h.2)
atom_of made at i from x P (Err e) f h = tt

pub literal_of : (made : Made) (at : ℕ → ℕ) (i from : ℕ) (s : List ℕ) (r : Result TermWait TermFault) → from ≡ at i → IfOk r (λ w. (n : ℕ) × (bytes : List ℕ) × (w ≡ waits.After (record { node = n; at = from })) × IsNode made n (nodes.Lit bytes) from × StandsFor s bytes) → IfOk r (λ w. (n : ℕ) × (w ≡ waits.After (record { node = n; at = from })) × ShowsAtom (Lit s) made at n i)
literal_of made at i from s (Ok w) e h = (h.0, h.2, lit_shows made at h.0 i from s h.1 e h.3 h.4)
literal_of made at i from s (Err f) e h = tt

pub match_of : (made : Made) (at : ℕ → ℕ) (i from : ℕ) (b : List ℕ) (r : Result TermWait TermFault) → from ≡ at i → IfOk r (λ w. (n : ℕ) × (w ≡ waits.After (record { node = n; at = from })) × (n < length made.nodes) × (made.broken ≡ None → (t : Body) × BodySpells t b × ShowsRegex t made.nodes n (from + 1))) → IfOk r (λ w. (n : ℕ) × (w ≡ waits.After (record { node = n; at = from })) × ShowsAtom (Match b) made at n i)
match_of made at i from b (Ok w) e h = (h.0, h.1, match_shows made at h.0 i from b e h.2 h.3)
match_of made at i from b (Err f) e h = tt

-- ---- signs as counts

pub star_turns : (made : Made) → HoldsTurns made (record { low = 0; high = None }) ZeroOrMore
unfolding low high
star_turns made = ((refl, refl), λ e _. cc)

pub plus_turns : (made : Made) → HoldsTurns made (record { low = 1; high = None }) OneOrMore
unfolding low high
plus_turns made = ((refl, refl), λ e _. cc)

pub optional_turns : (made : Made) → HoldsTurns made (record { low = 0; high = Some 1 }) Optional
unfolding low high
optional_turns made = ((refl, refl), λ e _. cc)

pub put_index : (base : ℕ) (x : Atom) (es : List Entry) → base + length (entries (with_pre (Once x) es)) ≡ base + length (entries es) + length (atom x)
put_index base x es = omega (arith, put_ends x es)
