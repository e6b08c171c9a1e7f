-- Whatever the grammar spells the machine takes, and then holds the tree that was spelled.
use Rattle.std.proofs.Common.{◌≡◌, ℕ, Bool, true, false, List, [], ◌∷◌, ◌++◌, Option, Some, None, refl, sym, ap, ◌∙◌, subst, append_assoc}
use Rattle.std.proofs.lemmas.List.{append-nil}
use Rattle.kex_reader.specs.Syntax.{Word, Name, Number, Literal, Regex, Define, Bar, Tilde, At, Star, Plus, Question, OpenBrace, CloseBrace, Comma, Bang, OpenBracket, CloseBracket, OpenParen, CloseParen, RegisterPart, Text, Held, Postfix, ZeroOrMore, OneOrMore, Optional, Exactly, AtLeast, AtMost, FromTo, Term, Last, Or, Seq, Only, Then, Pre, Mute, Into, Once, Turns, Atom, One, Call, Lit, Match, Write, Assign, Group, Definition, Header, NoStart, Stages, Program, register_part, parts, sign, postfix, word_lazy_mark, term, seq, pre, atom, definitions, stages, header, program}
use Rattle.kex_reader.specs.Reading.{Entry, Mark, Ended, Done, Muted, Storing, Opened, Low, LowComma, LowHigh, OnlyComma, High, Mode, Need, Ready, After, Turned, Named, Writing, Bracket, BracketName, Assigning, Assigned, InCount, State, Begin, StageRead, Within, with_pre, take_more, take_seq, take_branches, term_of, take_term, on_bar, after_group, on_close, on_number, begin_pre, after_atom, after_term_turns, next_head, on_head, after_name, on_name, on_sign, first_part, next_part, count_step, on_count, step_in, lift, on_define, step_within, first_name, head_read, stage_read, name_then, step, next, state_after, program_of_whole, program_of_term, finish_within, finish}

-- ---- runs

pub state_after-append : (o : Option State) (u v : List Word) → state_after o (u ++ v) ≡ state_after (state_after o u) v
unfolding state_after
state_after-append o [] v = refl
state_after-append o (t ∷ u) v = state_after-append (next o t) u v

pub then_reads : (o p q : Option State) (u v : List Word) → state_after o u ≡ p → state_after p v ≡ q → state_after o (u ++ v) ≡ q
then_reads o p q u v e f = state_after-append o u v ∙ ap (λ (x : Option State). state_after x v) e ∙ f

pub one_word : (o p : Option State) (t : Word) → next o t ≡ p → state_after o (t ∷ []) ≡ p
unfolding state_after
one_word o p t e = e

pub word_then : (o p q : Option State) (t : Word) (v : List Word) → next o t ≡ p → state_after p v ≡ q → state_after o (t ∷ v) ≡ q
unfolding state_after
word_then o p q t v e f = ap (λ (x : Option State). state_after x v) e ∙ f

pub reads_none : (w : List Word) → state_after None w ≡ None
unfolding state_after next
reads_none [] = refl
reads_none (t ∷ w) = reads_none w

-- ---- entries

pub seq_onto : Seq → List Entry → List Entry
seq_onto (Only p) es = Done p ∷ es
seq_onto (Then p s) es = seq_onto s (Done p ∷ es)

unfoldable pub term_onto : Term → List Entry → List Entry
term_onto (Last s) es = seq_onto s es
term_onto (Or s t) es = term_onto t (Ended s ∷ es)

-- no prefix is on top
unfoldable pub IsBase : List Entry → Type 0
IsBase [] = Unit {0}
IsBase (Mark ∷ es) = Unit {0}
IsBase (Ended s ∷ es) = Unit {0}
IsBase (Done p ∷ es) = Unit {0}
IsBase (Muted ∷ es) = ⊥
IsBase (Storing n ∷ es) = ⊥

-- nor a pre
unfoldable pub IsFloor : List Entry → Type 0
IsFloor [] = Unit {0}
IsFloor (Mark ∷ es) = Unit {0}
IsFloor (Ended s ∷ es) = Unit {0}
IsFloor (Done p ∷ es) = ⊥
IsFloor (Muted ∷ es) = ⊥
IsFloor (Storing n ∷ es) = ⊥

pub floor_base : (es : List Entry) → IsFloor es → IsBase es
unfolding IsFloor IsBase
floor_base [] h = tt
floor_base (Mark ∷ es) h = tt
floor_base (Ended s ∷ es) h = tt
floor_base (Done p ∷ es) h = absurd h
floor_base (Muted ∷ es) h = absurd h
floor_base (Storing n ∷ es) h = absurd h

pub put_base : (p : Pre) (es : List Entry) → IsBase es → with_pre p es ≡ Done p ∷ es
unfolding with_pre IsBase
put_base p [] h = refl
put_base p (Mark ∷ es) h = refl
put_base p (Ended s ∷ es) h = refl
put_base p (Done q ∷ es) h = refl
put_base p (Muted ∷ es) h = absurd h
put_base p (Storing n ∷ es) h = absurd h

pub more_floor : (es : List Entry) (s : Seq) → IsFloor es → take_more es s ≡ (s, es)
unfolding take_more IsFloor
more_floor [] s h = refl
more_floor (Mark ∷ es) s h = refl
more_floor (Ended t ∷ es) s h = refl
more_floor (Done p ∷ es) s h = absurd h
more_floor (Muted ∷ es) s h = absurd h
more_floor (Storing n ∷ es) s h = absurd h

pub seq_back : (s : Seq) (es : List Entry) → take_seq (seq_onto s es) ≡ Some (take_more es s)
unfolding seq_onto take_seq take_more
seq_back (Only p) es = refl
seq_back (Then p s) es = seq_back s (Done p ∷ es)

pub seq_floor : (s : Seq) (es : List Entry) → IsFloor es → take_seq (seq_onto s es) ≡ Some (s, es)
seq_floor s es h = seq_back s es ∙ ap Some (more_floor es s h)

pub term_back : (t : Term) (es : List Entry) → IsFloor es → take_term (term_onto t es) ≡ Some (take_branches es t)
unfolding term_onto take_term term_of take_branches IsFloor
term_back (Last s) es h = ap term_of (seq_floor s es h)
term_back (Or s t) es h = term_back t (Ended s ∷ es) tt

-- ---- inside a definition

-- once a pre has ended these entries are open
unfoldable pub Settles : Mode → List Entry → List Entry → Type 0
Settles Ready es fs = es ≡ fs
Settles (After a) es fs = with_pre (Once a) es ≡ fs
Settles (Turned a p) es fs = with_pre (Turns a p false) es ≡ fs
Settles (Named free n) es fs = with_pre (Once (Call n)) es ≡ fs
Settles _ es fs = ⊥

-- a pre may begin over these entries; free says that one needn't
unfoldable pub MayBegin : Bool → Mode → List Entry → List Entry → Type 0
MayBegin free Need es fs = (es ≡ fs) × (free ≡ false)
MayBegin free m es fs = Settles m es fs × (free ≡ true)

-- none of the tokens that belong to the atom or the name before them
unfoldable pub IsBeginner : Word → Type 0
IsBeginner Star = ⊥
IsBeginner Plus = ⊥
IsBeginner Question = ⊥
IsBeginner OpenBrace = ⊥
IsBeginner At = ⊥
IsBeginner Define = ⊥
IsBeginner _ = Unit {0}

-- the atom that a mode holds
unfoldable pub Holds : Atom → Mode → Type 0
Holds a (After b) = b ≡ a
Holds a (Named free n) = Call n ≡ a
Holds a _ = ⊥

-- a sign of a postfix
unfoldable pub IsPostfixSign : Word → Type 0
IsPostfixSign Star = Unit {0}
IsPostfixSign Plus = Unit {0}
IsPostfixSign Question = Unit {0}
IsPostfixSign OpenBrace = Unit {0}
IsPostfixSign _ = ⊥

module _ (h : Header) (ds : List Definition) (name : List ℕ) where
  pub after_begins : (a : Atom) (es : List Entry) (t : Word) → IsBeginner t → after_atom a es t ≡ begin_pre true (with_pre (Once a) es) t
  unfolding after_atom IsBeginner
  after_begins a es Star n = absurd n
  after_begins a es Plus n = absurd n
  after_begins a es Question n = absurd n
  after_begins a es OpenBrace n = absurd n
  after_begins a es t n = refl

  pub turned_begins : (a : Atom) (p : Postfix) (es : List Entry) (t : Word) → IsBeginner t → after_term_turns a p es t ≡ begin_pre true (with_pre (Turns a p false) es) t
  unfolding after_term_turns IsBeginner
  turned_begins a p es Question n = absurd n
  turned_begins a p es t n = refl

  pub named_begins : (k : List ℕ) (es : List Entry) (t : Word) → IsBeginner t → after_name k es t ≡ begin_pre true (with_pre (Once (Call k)) es) t
  unfolding after_name IsBeginner
  named_begins k es At n = absurd n
  named_begins k es Define n = absurd n
  named_begins k es t n = after_begins (Call k) es t n

  abbrev pub at : Mode → List Entry → Option State
  at m es = Some (Within h ds name (record { mode = m; entries = es }))

  pub named_lifted : (free : Bool) (n : List ℕ) (es : List Entry) (t : Word) → IsBeginner t → step_within h ds name (Named free n) es t ≡ lift h ds name (after_name n es t)
  unfolding step_within step_in IsBeginner
  named_lifted free n es Define k = absurd k
  named_lifted free n es t k = refl

  pub begins : (free : Bool) (m : Mode) (es fs : List Entry) (t : Word) → MayBegin free m es fs → IsBeginner t → next (at m es) t ≡ lift h ds name (begin_pre free fs t)
  unfolding MayBegin Settles next step step_within step_in lift
  begins free Need es fs t r n = ap (λ (x : List Entry). lift h ds name (begin_pre false x t)) r.0 ∙ ap (λ (x : Bool). lift h ds name (begin_pre x fs t)) (sym r.1)
  begins free Ready es fs t r n = ap (λ (x : List Entry). lift h ds name (begin_pre true x t)) r.0 ∙ ap (λ (x : Bool). lift h ds name (begin_pre x fs t)) (sym r.1)
  begins free (After a) es fs t r n = ap (lift h ds name) (after_begins a es t n) ∙ ap (λ (x : List Entry). lift h ds name (begin_pre true x t)) r.0 ∙ ap (λ (x : Bool). lift h ds name (begin_pre x fs t)) (sym r.1)
  begins free (Turned a p) es fs t r n = ap (lift h ds name) (turned_begins a p es t n) ∙ ap (λ (x : List Entry). lift h ds name (begin_pre true x t)) r.0 ∙ ap (λ (x : Bool). lift h ds name (begin_pre x fs t)) (sym r.1)
  begins free (Named k j) es fs t r n = named_lifted k j es t n ∙ ap (lift h ds name) (named_begins j es t n) ∙ ap (λ (x : List Entry). lift h ds name (begin_pre true x t)) r.0 ∙ ap (λ (x : Bool). lift h ds name (begin_pre x fs t)) (sym r.1)
  begins free _ es fs t r n = absurd r.0

  pub named_signed : (free : Bool) (n : List ℕ) (es : List Entry) (t : Word) → IsPostfixSign t → step_within h ds name (Named free n) es t ≡ lift h ds name (after_atom (Call n) es t)
  unfolding step_within step_in after_name IsPostfixSign lift
  named_signed free n es Star k = refl
  named_signed free n es Plus k = refl
  named_signed free n es Question k = refl
  named_signed free n es OpenBrace k = refl
  named_signed free n es _ k = absurd k

  -- a sign of a postfix is one, whatever holds the atom
  pub signed : (a : Atom) (m : Mode) (es : List Entry) (t : Word) → Holds a m → IsPostfixSign t → next (at m es) t ≡ lift h ds name (after_atom a es t)
  unfolding Holds next step step_within step_in lift
  signed a (After b) es t e k = ap (λ (x : Atom). lift h ds name (after_atom x es t)) e
  signed a (Named free n) es t e k = named_signed free n es t k ∙ ap (λ (x : Atom). lift h ds name (after_atom x es t)) e
  signed a _ es t e k = absurd e

  unfoldable pub Settled : List Entry → Option State → Type 0
  Settled fs o = (m : Mode) × (es : List Entry) × Settles m es fs × (o ≡ at m es)

  unfoldable pub AtomRead : Atom → List Entry → Option State → Type 0
  AtomRead a es o = (m : Mode) × Holds a m × (o ≡ at m es)

  pub free_may : (m : Mode) (es fs : List Entry) → Settles m es fs → MayBegin true m es fs
  unfolding Settles MayBegin
  free_may Need es fs r = absurd r
  free_may Ready es fs r = (r, refl)
  free_may (After a) es fs r = (r, refl)
  free_may (Turned a p) es fs r = (r, refl)
  free_may (Named free n) es fs r = (r, refl)
  free_may _ es fs r = absurd r

  pub held_settles : (a : Atom) (m : Mode) (es : List Entry) → Holds a m → Settles m es (with_pre (Once a) es)
  unfolding Holds Settles
  held_settles a (After b) es e = ap (λ (x : Atom). with_pre (Once x) es) e
  held_settles a (Named free n) es e = ap (λ (x : Atom). with_pre (Once x) es) e
  held_settles a _ es e = absurd e

  pub part_step : (append : Bool) (r : List ℕ) (p : RegisterPart) (ps : List RegisterPart) (q : RegisterPart) (es : List Entry) → next (at (Assigned append r p ps) es) (register_part q) ≡ at (Assigned append r p (ps ++ q ∷ [])) es
  unfolding next step step_within step_in lift next_part register_part
  part_step append r p ps (Text t) es = refl
  part_step append r p ps (Held n) es = refl

  pub first_step : (append : Bool) (r : List ℕ) (p : RegisterPart) (es : List Entry) → next (at (Assigning append r) es) (register_part p) ≡ at (Assigned append r p []) es
  unfolding next step step_within step_in lift first_part register_part
  first_step append r (Text t) es = refl
  first_step append r (Held n) es = refl

  pub sign_step : (append : Bool) (r : List ℕ) (es : List Entry) → next (at (BracketName r) es) (sign append) ≡ at (Assigning append r) es
  unfolding next step step_within step_in lift on_sign sign
  sign_step true r es = refl
  sign_step false r es = refl

  pub finish_settles : (m : Mode) (es fs : List Entry) → Settles m es fs → finish_within h ds name m es ≡ program_of_term h ds name (take_term fs)
  unfolding Settles finish_within
  finish_settles Ready es fs r = ap (λ (x : List Entry). program_of_term h ds name (take_term x)) r
  finish_settles (After a) es fs r = ap (λ (x : List Entry). program_of_term h ds name (take_term x)) r
  finish_settles (Turned a p) es fs r = ap (λ (x : List Entry). program_of_term h ds name (take_term x)) r
  finish_settles (Named free n) es fs r = ap (λ (x : List Entry). program_of_term h ds name (take_term x)) r
  finish_settles _ es fs r = absurd r

  -- the parts of an assignment
  pub parts_read : (append : Bool) (r : List ℕ) (p : RegisterPart) (ps qs : List RegisterPart) (es : List Entry) → state_after (at (Assigned append r p ps) es) (parts qs) ≡ at (Assigned append r p (ps ++ qs)) es
  unfolding parts state_after
  parts_read append r p ps [] es = ap (λ (x : List RegisterPart). at (Assigned append r p x) es) (sym (append-nil ps))
  parts_read append r p ps (q ∷ qs) es = word_then _ _ _ (register_part q) (parts qs) (part_step append r p ps q es) (parts_read append r p (ps ++ q ∷ []) qs es ∙ ap (λ (x : List RegisterPart). at (Assigned append r p x) es) (append_assoc ps (q ∷ []) qs))

  pub assign_reads : (append : Bool) (r : List ℕ) (p : RegisterPart) (ps : List RegisterPart) (es : List Entry) → state_after (at Bracket es) (Name r ∷ sign append ∷ register_part p ∷ (parts ps ++ CloseBracket ∷ [])) ≡ at (After (Assign append r p ps)) es
  unfolding next step step_within step_in lift on_name next_part
  assign_reads append r p ps es =
      word_then _ (at (BracketName r) es) _ (Name r) (sign append ∷ register_part p ∷ (parts ps ++ CloseBracket ∷ [])) refl
      (word_then _ (at (Assigning append r) es) _ (sign append) (register_part p ∷ (parts ps ++ CloseBracket ∷ [])) (sign_step append r es)
      (word_then _ (at (Assigned append r p []) es) _ (register_part p) (parts ps ++ CloseBracket ∷ []) (first_step append r p es)
      (then_reads _ (at (Assigned append r p ps) es) _ (parts ps) (CloseBracket ∷ []) (parts_read append r p [] ps es)
      (one_word _ _ CloseBracket refl))))

  pub postfix_reads : (a : Atom) (p : Postfix) (m : Mode) (es : List Entry) → Holds a m → state_after (at m es) (postfix p) ≡ at (Turned a p) es
  unfolding postfix IsPostfixSign after_atom next step step_within step_in lift count_step on_count
  postfix_reads a ZeroOrMore m es k = one_word _ _ Star (signed a m es Star k tt)
  postfix_reads a OneOrMore m es k = one_word _ _ Plus (signed a m es Plus k tt)
  postfix_reads a Optional m es k = one_word _ _ Question (signed a m es Question k tt)
  postfix_reads a (Exactly n) m es k =
      word_then _ (at (InCount a Opened) es) _ OpenBrace _ (signed a m es OpenBrace k tt)
      (word_then _ (at (InCount a (Low n)) es) _ (Number n) _ refl (one_word _ _ CloseBrace refl))
  postfix_reads a (AtLeast n) m es k =
      word_then _ (at (InCount a Opened) es) _ OpenBrace _ (signed a m es OpenBrace k tt)
      (word_then _ (at (InCount a (Low n)) es) _ (Number n) _ refl
      (word_then _ (at (InCount a (LowComma n)) es) _ Comma _ refl (one_word _ _ CloseBrace refl)))
  postfix_reads a (AtMost n) m es k =
      word_then _ (at (InCount a Opened) es) _ OpenBrace _ (signed a m es OpenBrace k tt)
      (word_then _ (at (InCount a OnlyComma) es) _ Comma _ refl
      (word_then _ (at (InCount a (High n)) es) _ (Number n) _ refl (one_word _ _ CloseBrace refl)))
  postfix_reads a (FromTo n j) m es k =
      word_then _ (at (InCount a Opened) es) _ OpenBrace _ (signed a m es OpenBrace k tt)
      (word_then _ (at (InCount a (Low n)) es) _ (Number n) _ refl
      (word_then _ (at (InCount a (LowComma n)) es) _ Comma _ refl
      (word_then _ (at (InCount a (LowHigh n j)) es) _ (Number j) _ refl (one_word _ _ CloseBrace refl))))

  pub lazy_step : (a : Atom) (p : Postfix) (es : List Entry) → next (at (Turned a p) es) Question ≡ at Ready (with_pre (Turns a p true) es)
  unfolding next step step_within step_in lift after_term_turns
  lazy_step a p es = refl

  pub bar_step : (m : Mode) (es : List Entry) (s : Seq) (fs : List Entry) → Settles m es (seq_onto s fs) → IsFloor fs → next (at m es) Bar ≡ at Need (Ended s ∷ fs)
  unfolding IsBeginner begin_pre on_bar lift
  bar_step m es s fs r k = begins true m es (seq_onto s fs) Bar (free_may m es (seq_onto s fs) r) tt ∙ ap (λ (x : Option (Seq × List Entry)). lift h ds name (on_bar x)) (seq_floor s fs k)

  pub close_step : (m : Mode) (es : List Entry) (t : Term) (fs : List Entry) → Settles m es (term_onto t (Mark ∷ fs)) → next (at m es) CloseParen ≡ at (After (Group t)) fs
  unfolding IsBeginner begin_pre on_close after_group lift IsFloor take_branches
  close_step m es t fs r = begins true m es (term_onto t (Mark ∷ fs)) CloseParen (free_may m es (term_onto t (Mark ∷ fs)) r) tt ∙ ap (λ (x : Option (Term × List Entry)). lift h ds name (on_close x)) (term_back t (Mark ∷ fs) tt)

  mutual
    unfolding term seq pre word_lazy_mark atom term_onto seq_onto with_pre Settled AtomRead Settles MayBegin IsBase IsFloor Holds begin_pre on_number IsBeginner next step step_within step_in lift after_name on_name

    pub term_reads : (t : Term) (free : Bool) (m : Mode) (es fs : List Entry) → MayBegin free m es fs → IsFloor fs → Settled (term_onto t fs) (state_after (at m es) (term t))
    term_reads (Last s) free m es fs r k = seq_reads s free m es fs r (floor_base fs k)
    term_reads (Or s t) free m es fs r k =
        let a = seq_reads s free m es fs r (floor_base fs k) in
        let b = term_reads t false Need (Ended s ∷ fs) (Ended s ∷ fs) (refl, refl) tt in
        (b.0, b.1, b.2, then_reads _ (at a.0 a.1) _ (seq s) (Bar ∷ term t) a.3 (word_then _ (at Need (Ended s ∷ fs)) _ Bar (term t) (bar_step a.0 a.1 s fs a.2 k) b.3))

    pub seq_reads : (s : Seq) (free : Bool) (m : Mode) (es fs : List Entry) → MayBegin free m es fs → IsBase fs → Settled (seq_onto s fs) (state_after (at m es) (seq s))
    seq_reads (Only p) free m es fs r k =
        let a = pre_reads p free m es fs r in
        (a.0, a.1, subst (λ (x : List Entry). Settles a.0 a.1 x) (put_base p fs k) a.2, a.3)
    seq_reads (Then p s) free m es fs r k =
        let a = pre_reads p free m es fs r in
        let q = subst (λ (x : List Entry). Settles a.0 a.1 x) (put_base p fs k) a.2 in
        let b = seq_reads s true a.0 a.1 (Done p ∷ fs) (free_may a.0 a.1 (Done p ∷ fs) q) tt in
        (b.0, b.1, b.2, then_reads _ (at a.0 a.1) _ (pre p) (seq s) a.3 b.3)

    pub pre_reads : (p : Pre) (free : Bool) (m : Mode) (es fs : List Entry) → MayBegin free m es fs → Settled (with_pre p fs) (state_after (at m es) (pre p))
    pre_reads (Mute p) free m es fs r =
        let a = pre_reads p false Need (Muted ∷ fs) (Muted ∷ fs) (refl, refl) in
        (a.0, a.1, a.2, word_then _ (at Need (Muted ∷ fs)) _ Tilde (pre p) (begins free m es fs Tilde r tt) a.3)
    pre_reads (Into n p) free m es fs r =
        let a = pre_reads p false Need (Storing n ∷ fs) (Storing n ∷ fs) (refl, refl) in
        (a.0, a.1, a.2, word_then _ (at (Named free n) fs) _ (Name n) (At ∷ pre p) (begins free m es fs (Name n) r tt) (word_then _ (at Need (Storing n ∷ fs)) _ At (pre p) refl a.3))
    pre_reads (Once a) free m es fs r =
        let b = atom_reads a free m es fs r in
        (b.0, fs, held_settles a b.0 fs b.1, b.2)
    pre_reads (Turns a p false) free m es fs r =
        let b = atom_reads a free m es fs r in
        (Turned a p, fs, refl, then_reads _ (at b.0 fs) _ (atom a) (postfix p ++ []) b.2 (ap (state_after (at b.0 fs)) (append-nil (postfix p)) ∙ postfix_reads a p b.0 fs b.1))
    pre_reads (Turns a p true) free m es fs r =
        let b = atom_reads a free m es fs r in
        (Ready, with_pre (Turns a p true) fs, refl, then_reads _ (at b.0 fs) _ (atom a) (postfix p ++ Question ∷ []) b.2 (then_reads _ (at (Turned a p) fs) _ (postfix p) (Question ∷ []) (postfix_reads a p b.0 fs b.1) (one_word _ _ Question (lazy_step a p fs))))

    pub atom_reads : (a : Atom) (free : Bool) (m : Mode) (es fs : List Entry) → MayBegin free m es fs → AtomRead a fs (state_after (at m es) (atom a))
    atom_reads One free m es fs r = (After One, refl, one_word _ _ (Number (49 ∷ [])) (begins free m es fs (Number (49 ∷ [])) r tt))
    atom_reads (Call n) free m es fs r = (Named free n, refl, one_word _ _ (Name n) (begins free m es fs (Name n) r tt))
    atom_reads (Lit t) free m es fs r = (After (Lit t), refl, one_word _ _ (Literal t) (begins free m es fs (Literal t) r tt))
    atom_reads (Match b) free m es fs r = (After (Match b), refl, one_word _ _ (Regex b) (begins free m es fs (Regex b) r tt))
    atom_reads (Write n) free m es fs r = (After (Write n), refl, word_then _ (at Writing fs) _ Bang (Name n ∷ []) (begins free m es fs Bang r tt) (one_word _ _ (Name n) refl))
    atom_reads (Assign append n p ps) free m es fs r = (After (Assign append n p ps), refl, word_then _ (at Bracket fs) _ OpenBracket _ (begins free m es fs OpenBracket r tt) (assign_reads append n p ps fs))
    atom_reads (Group t) free m es fs r =
        let a = term_reads t false Need (Mark ∷ fs) (Mark ∷ fs) (refl, refl) tt in (
          After (Group t),
          refl,
          word_then _ (at Need (Mark ∷ fs)) _ OpenParen (term t ++ CloseParen ∷ []) (begins free m es fs OpenParen r tt)
              (then_reads _ (at a.0 a.1) _ (term t) (CloseParen ∷ []) a.3 (one_word _ _ CloseParen (close_step a.0 a.1 t fs a.2))),
        )

  -- the next definition's head
  pub head_reads : (m : Mode) (es : List Entry) (t : Term) (n : List ℕ) (v : List Word) (q : Option State) → Settles m es (term_onto t []) → state_after (Some (Within h (ds ++ record { name = name; term = t } ∷ []) n (record { mode = Need; entries = [] }))) v ≡ q → state_after (at m es) (Name n ∷ Define ∷ v) ≡ q
  unfolding IsBeginner begin_pre next step step_within step_in lift on_define after_name on_head next_head IsFloor take_branches
  head_reads m es t n v q r e =
      word_then _ (at (Named true n) (term_onto t [])) _ (Name n) (Define ∷ v) (begins true m es (term_onto t []) (Name n) (free_may m es (term_onto t []) r) tt)
      (word_then _ (Some (Within h (ds ++ record { name = name; term = t } ∷ []) n (record { mode = Need; entries = [] }))) _ Define v (ap (on_head h ds name n) (term_back t [] tt)) e)

  pub settled_finish : (m : Mode) (es : List Entry) (t : Term) → Settles m es (term_onto t []) → finish (Within h ds name (record { mode = m; entries = es })) ≡ Some (record { header = h; definitions = ds ++ record { name = name; term = t } ∷ [] })
  unfolding finish program_of_term program_of_whole IsFloor take_branches
  settled_finish m es t r = finish_settles m es (term_onto t []) r ∙ ap (program_of_term h ds name) (term_back t [] tt)

-- ---- definitions

unfoldable pub Gives : Option State → Program → Type 0
Gives o p = (s : State) × (o ≡ Some s) × (finish s ≡ Some p)

abbrev program_of : Header → List Definition → Program
program_of h ds = record { header = h; definitions = ds }

pub rest_reads : (es : List Definition) (h : Header) (ds : List Definition) (name : List ℕ) (m : Mode) (fs : List Entry) (t : Term) → Settles m fs (term_onto t []) → Gives (state_after (at h ds name m fs) (definitions es)) (record { header = h; definitions = (ds ++ record { name = name; term = t } ∷ []) ++ es })
unfolding Gives definitions state_after Settled MayBegin IsFloor
rest_reads [] h ds name m fs t r = (Within h ds name (record { mode = m; entries = fs }), refl, settled_finish h ds name m fs t r ∙ ap (λ (x : List Definition). Some (program_of h x)) (sym (append-nil (ds ++ record { name = name; term = t } ∷ []))))
rest_reads (d ∷ es) h ds name m fs t r =
    let all = ds ++ record { name = name; term = t } ∷ [] in
    let a = term_reads h all d.name d.term false Need [] [] (refl, refl) tt in
    let b = rest_reads es h all d.name a.0 a.1 d.term a.2 in
    (b.0, head_reads h ds name m fs t d.name (term d.term ++ definitions es) _ r (then_reads _ (at h all d.name a.0 a.1) _ (term d.term) (definitions es) a.3 b.1), b.2 ∙ ap (λ (x : List Definition). Some (program_of h x)) (append_assoc all (d ∷ []) es))

-- the first definition, where its head has been read
pub first_reads : (d : Definition) (es : List Definition) (h : Header) → Gives (state_after (Some (Within h [] d.name (record { mode = Need; entries = [] }))) (term d.term ++ definitions es)) (record { header = h; definitions = d ∷ es })
unfolding Gives Settled MayBegin IsFloor
first_reads d es h =
    let a = term_reads h [] d.name d.term false Need [] [] (refl, refl) tt in
    let b = rest_reads es h [] d.name a.0 a.1 d.term a.2 in
    (b.0, then_reads _ (at h [] d.name a.0 a.1) _ (term d.term) (definitions es) a.3 b.1, b.2)

pub stages_read : (f : List ℕ) (ns ks : List (List ℕ)) → state_after (Some (StageRead f ns)) (stages ks) ≡ Some (StageRead f (ns ++ ks))
unfolding stages state_after next step stage_read name_then
stages_read f ns [] = ap (λ (x : List (List ℕ)). Some (StageRead f x)) (sym (append-nil ns))
stages_read f ns (k ∷ ks) = stages_read f (ns ++ k ∷ []) ks ∙ ap (λ (x : List (List ℕ)). Some (StageRead f x)) (append_assoc ns (k ∷ []) ks)

pub gives_from : (o q : Option State) (p : Program) → o ≡ q → Gives q p → Gives o p
gives_from o q p e g = subst (λ (x : Option State). Gives x p) (sym e) g

pub header_reads : (f : List ℕ) (ns : List (List ℕ)) → state_after (Some Begin) (header (Stages f ns)) ≡ Some (StageRead f ns)
unfolding header state_after next step first_name name_then
header_reads f ns = stages_read f [] ns

pub definitions_after : (f : List ℕ) (ns : List (List ℕ)) (ds : List Definition) → Gives (state_after (Some (StageRead f ns)) (definitions ds)) (record { header = Stages f ns; definitions = ds })
unfolding Gives definitions state_after next step stage_read head_read finish
definitions_after f ns [] = (StageRead f ns, refl, refl)
definitions_after f ns (d ∷ ds) = first_reads d ds (Stages f ns)

pub definitions_alone : (ds : List Definition) → Gives (state_after (Some Begin) (definitions ds)) (record { header = NoStart; definitions = ds })
unfolding Gives definitions state_after next step first_name name_then finish
definitions_alone [] = (Begin, refl, refl)
definitions_alone (d ∷ ds) = first_reads d ds NoStart

pub by_header : (h : Header) (ds : List Definition) → Gives (state_after (Some Begin) (header h ++ definitions ds)) (record { header = h; definitions = ds })
unfolding header
by_header NoStart ds = definitions_alone ds
by_header (Stages f ns) ds = gives_from _ _ _ (state_after-append (Some Begin) (header (Stages f ns)) (definitions ds) ∙ ap (λ (o : Option State). state_after o (definitions ds)) (header_reads f ns)) (definitions_after f ns ds)

pub program_reads : (p : Program) → Gives (state_after (Some Begin) (program p)) p
unfolding program
program_reads p = by_header p.header p.definitions
