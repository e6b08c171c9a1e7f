-- What the machine has read is spelled by what it holds.
use Rattle.std.proofs.Common.{◌≡◌, ℕ, Bool, true, false, cond, List, [], ◌∷◌, ◌++◌, Option, Some, None, refl, sym, ap, ◌∙◌, subst, append_assoc}
use Rattle.std.specs.Prelude.{bytes_eq, codes}
use Rattle.std.proofs.lemmas.List.{append-nil}
use Rattle.std.proofs.lemmas.Slice.Eq.{bytes_eq-Decides}
use Rattle.kex_reader.specs.Syntax.{Word, Name, Number, Literal, Regex, Define, Colon, Pipe, Bar, Tilde, At, Star, Plus, PlusEquals, Question, OpenBrace, CloseBrace, Comma, Bang, OpenBracket, CloseBracket, Arrow, OpenParen, CloseParen, RegisterPart, Text, Held, Postfix, ZeroOrMore, OneOrMore, Optional, Exactly, AtLeast, AtMost, FromTo, Term, Last, Or, Seq, Only, Then, Pre, Mute, Into, Once, Turns, Atom, One, Call, Lit, Match, Write, Assign, Group, Definition, Header, Program, start, register_part, parts, sign, postfix, word_lazy_mark, term, seq, pre, atom, definitions, stages, header, program}
use Rattle.kex_reader.specs.Reading.{Entry, Mark, Ended, Done, Muted, Storing, Counting, Opened, Low, LowComma, LowHigh, OnlyComma, High, Mode, Need, Ready, After, Turned, Named, Writing, Bracket, BracketName, Assigning, Assigned, InCount, Inside, State, Begin, FirstName, StartLine, StageRead, StageNext, HeadRead, Within, with_pre, take_more, take_seq, take_branches, term_of, take_term, goes, on_bar, after_group, on_close, on_number, begin_pre, after_atom, after_term_turns, next_head, on_head, after_name, on_name, on_sign, first_part, next_part, count_step, on_count, after_count, step_in, lift, on_define, step_within, first_name, head_read, stage_read, name_then, step, next, state_after, program_of_whole, program_of_term, finish_within, finish, entry, entries, counting, mode, inside, before, words_read}

pub same_bytes : (a b : List ℕ) → bytes_eq a b ≡ true → a ≡ b
same_bytes a b e = (bytes_eq-Decides a b).0 e

pub by_test : {A : Type 0} (P : A → Type 0) (b : Bool) (x y : A) → (b ≡ true → P x) → (b ≡ false → P y) → P (cond b x y)
by_test P true x y f g = f refl
by_test P false x y f g = g refl

unfoldable pub Goes : List Word → Option State → Type 0
Goes w None = Unit {0}
Goes w (Some s) = words_read s ≡ w

-- ---- entries

pub put_is : (p : Pre) (es : List Entry) → entries (with_pre p es) ≡ entries es ++ pre p
unfolding with_pre entries entry pre
put_is p [] = refl
put_is p (Mark ∷ es) = refl
put_is p (Ended s ∷ es) = refl
put_is p (Done q ∷ es) = refl
put_is p (Muted ∷ es) = put_is (Mute p) es ∙ sym (append_assoc (entries es) (Tilde ∷ []) (pre p))
put_is p (Storing n ∷ es) = put_is (Into n p) es ∙ sym (append_assoc (entries es) (Name n ∷ At ∷ []) (pre p))

pub more_is : (es : List Entry) (s : Seq) → entries (take_more es s).1 ++ seq (take_more es s).0 ≡ entries es ++ seq s
unfolding take_more entries entry seq
more_is [] s = refl
more_is (Mark ∷ es) s = refl
more_is (Ended t ∷ es) s = refl
more_is (Done p ∷ es) s = more_is es (Then p s) ∙ sym (append_assoc (entries es) (pre p) (seq s))
more_is (Muted ∷ es) s = refl
more_is (Storing n ∷ es) s = refl

unfoldable pub SeqTaken : List Entry → Option (Seq × List Entry) → Type 0
SeqTaken es None = Unit {0}
SeqTaken es (Some t) = entries t.1 ++ seq t.0 ≡ entries es

pub seq_taken : (es : List Entry) → SeqTaken es (take_seq es)
unfolding take_seq SeqTaken entries entry seq
seq_taken [] = tt
seq_taken (Mark ∷ es) = tt
seq_taken (Ended t ∷ es) = tt
seq_taken (Done p ∷ es) = more_is es (Only p)
seq_taken (Muted ∷ es) = tt
seq_taken (Storing n ∷ es) = tt

pub branches_are : (es : List Entry) (t : Term) → entries (take_branches es t).1 ++ term (take_branches es t).0 ≡ entries es ++ term t
unfolding take_branches entries entry term
branches_are [] t = refl
branches_are (Mark ∷ es) t = refl
branches_are (Ended s ∷ es) t = branches_are es (Or s t) ∙ ap (λ (w : List Word). entries es ++ w) (sym (append_assoc (seq s) (Bar ∷ []) (term t))) ∙ sym (append_assoc (entries es) (seq s ++ Bar ∷ []) (term t))
branches_are (Done p ∷ es) t = refl
branches_are (Muted ∷ es) t = refl
branches_are (Storing n ∷ es) t = refl

unfoldable pub TermTaken : List Entry → Option (Term × List Entry) → Type 0
TermTaken es None = Unit {0}
TermTaken es (Some t) = entries t.1 ++ term t.0 ≡ entries es

pub term_of_taken : (es : List Entry) (o : Option (Seq × List Entry)) → SeqTaken es o → TermTaken es (term_of o)
unfolding term_of SeqTaken TermTaken term
term_of_taken es None h = tt
term_of_taken es (Some t) h = branches_are t.1 (Last t.0) ∙ h

pub term_taken : (es : List Entry) → TermTaken es (take_term es)
unfolding take_term
term_taken es = term_of_taken es (take_seq es) (seq_taken es)

pub parts-append : (a b : List RegisterPart) → parts (a ++ b) ≡ parts a ++ parts b
unfolding parts
parts-append [] b = refl
parts-append (p ∷ a) b = ap (λ (w : List Word). register_part p ∷ w) (parts-append a b)

pub stages-append : (a b : List (List ℕ)) → stages (a ++ b) ≡ stages a ++ stages b
unfolding stages
stages-append [] b = refl
stages-append (n ∷ a) b = ap (λ (w : List Word). Pipe ∷ Name n ∷ w) (stages-append a b)

pub definitions-append : (a b : List Definition) → definitions (a ++ b) ≡ definitions a ++ definitions b
unfolding definitions
definitions-append [] b = refl
definitions-append (d ∷ a) b = ap (λ (w : List Word). Name d.name ∷ Define ∷ w) (ap (λ (w : List Word). term d.term ++ w) (definitions-append a b) ∙ sym (append_assoc (term d.term) (definitions a) (definitions b)))

-- ---- inside a definition

unfoldable pub GoesIn : List Word → Option Inside → Type 0
GoesIn w None = Unit {0}
GoesIn w (Some i) = inside i ≡ w

pub went : (m : Mode) (es : List Entry) (w : List Word) → entries es ++ mode m ≡ w → GoesIn w (goes m es)
unfolding GoesIn inside
went m es w e = e

pub bar_goes : (es : List Entry) (o : Option (Seq × List Entry)) → SeqTaken es o → GoesIn (entries es ++ Bar ∷ []) (on_bar o)
unfolding on_bar SeqTaken GoesIn entries entry mode
bar_goes es None k = tt
bar_goes es (Some t) k = went Need (Ended t.0 ∷ t.1) _ (append-nil (entries t.1 ++ (seq t.0 ++ Bar ∷ [])) ∙ sym (append_assoc (entries t.1) (seq t.0) (Bar ∷ [])) ∙ ap (λ (w : List Word). w ++ Bar ∷ []) k)

pub closed_goes : (t : Term) (fs : List Entry) (w : List Word) → entries fs ++ term t ≡ w → GoesIn (w ++ CloseParen ∷ []) (after_group t fs)
unfolding after_group GoesIn entries entry mode atom
closed_goes t [] w k = tt
closed_goes t (Mark ∷ fs) w k = went (After (Group t)) fs (w ++ CloseParen ∷ []) (sym (append_assoc (entries fs) (OpenParen ∷ term t) (CloseParen ∷ [])) ∙ ap (λ (v : List Word). v ++ CloseParen ∷ []) (sym (append_assoc (entries fs) (OpenParen ∷ []) (term t)) ∙ k))
closed_goes t (Ended s ∷ fs) w k = tt
closed_goes t (Done p ∷ fs) w k = tt
closed_goes t (Muted ∷ fs) w k = tt
closed_goes t (Storing n ∷ fs) w k = tt

pub close_goes : (es : List Entry) (o : Option (Term × List Entry)) → TermTaken es o → GoesIn (entries es ++ CloseParen ∷ []) (on_close o)
unfolding on_close TermTaken GoesIn
close_goes es None k = tt
close_goes es (Some t) k = closed_goes t.0 t.1 (entries es) k

pub number_goes : (es : List Entry) (digits : List ℕ) → GoesIn (entries es ++ Number digits ∷ []) (on_number es digits)
unfolding on_number GoesIn mode atom
number_goes es digits = by_test (GoesIn (entries es ++ Number digits ∷ [])) (bytes_eq digits (codes "1")) _ _ (λ e. went (After One) es _ (ap (λ (x : List ℕ). entries es ++ Number x ∷ []) (sym (same_bytes digits (codes "1") e)))) (λ _. tt)

pub begin_goes : (free : Bool) (es : List Entry) (t : Word) → GoesIn (entries es ++ t ∷ []) (begin_pre free es t)
unfolding begin_pre mode atom entries entry GoesIn
begin_goes free es (Name n) = went (Named free n) es _ refl
begin_goes free es (Number digits) = number_goes es digits
begin_goes free es (Literal t) = went (After (Lit t)) es _ refl
begin_goes free es (Regex b) = went (After (Match b)) es _ refl
begin_goes free es Tilde = went Need (Muted ∷ es) _ (append-nil (entries es ++ Tilde ∷ []))
begin_goes free es Bang = went Writing es _ refl
begin_goes free es OpenBracket = went Bracket es _ refl
begin_goes free es OpenParen = went Need (Mark ∷ es) _ (append-nil (entries es ++ OpenParen ∷ []))
begin_goes true es Bar = bar_goes es (take_seq es) (seq_taken es)
begin_goes true es CloseParen = close_goes es (take_term es) (term_taken es)
begin_goes false es Bar = tt
begin_goes false es CloseParen = tt
begin_goes free es _ = tt

-- a pre that has ended
pub put_goes : (p : Pre) (es : List Entry) (w : List Word) → entries es ++ pre p ≡ w → GoesIn w (goes Ready (with_pre p es))
unfolding mode
put_goes p es w e = went Ready (with_pre p es) w (append-nil (entries (with_pre p es)) ∙ put_is p es ∙ e)

pub sign_goes : (a : Atom) (p : Postfix) (es : List Entry) (v : List Word) → postfix p ≡ v → GoesIn (entries es ++ (atom a ++ v)) (goes (Turned a p) es)
unfolding mode
sign_goes a p es v e = went (Turned a p) es _ (ap (λ (w : List Word). entries es ++ (atom a ++ w)) e)

-- a pre with a postfix that isn't lazy
pub eager_is : (a : Atom) (p : Postfix) (es : List Entry) → entries (with_pre (Turns a p false) es) ≡ entries es ++ (atom a ++ postfix p)
unfolding pre word_lazy_mark
eager_is a p es = put_is (Turns a p false) es ∙ ap (λ (w : List Word). entries es ++ (atom a ++ w)) (append-nil (postfix p))

pub eager_begins : (a : Atom) (p : Postfix) (es : List Entry) (t : Word) → GoesIn ((entries es ++ (atom a ++ postfix p)) ++ t ∷ []) (begin_pre true (with_pre (Turns a p false) es) t)
eager_begins a p es t = subst (λ (w : List Word). GoesIn (w ++ t ∷ []) (begin_pre true (with_pre (Turns a p false) es) t)) (eager_is a p es) (begin_goes true (with_pre (Turns a p false) es) t)

pub turned_goes : (a : Atom) (p : Postfix) (es : List Entry) (t : Word) → GoesIn ((entries es ++ (atom a ++ postfix p)) ++ t ∷ []) (after_term_turns a p es t)
unfolding after_term_turns pre word_lazy_mark
turned_goes a p es Question = put_goes (Turns a p true) es _ (ap (λ (w : List Word). entries es ++ w) (sym (append_assoc (atom a) (postfix p) (Question ∷ []))) ∙ sym (append_assoc (entries es) (atom a ++ postfix p) (Question ∷ [])))
turned_goes a p es t = eager_begins a p es t

pub once_begins : (a : Atom) (es : List Entry) (t : Word) → GoesIn (entries es ++ (atom a ++ t ∷ [])) (begin_pre true (with_pre (Once a) es) t)
unfolding pre
once_begins a es t = subst (λ (w : List Word). GoesIn w (begin_pre true (with_pre (Once a) es) t)) (ap (λ (w : List Word). w ++ t ∷ []) (put_is (Once a) es) ∙ append_assoc (entries es) (atom a) (t ∷ [])) (begin_goes true (with_pre (Once a) es) t)

pub after_goes : (a : Atom) (es : List Entry) (t : Word) → GoesIn (entries es ++ (atom a ++ t ∷ [])) (after_atom a es t)
unfolding after_atom postfix mode counting
after_goes a es Star = sign_goes a ZeroOrMore es (Star ∷ []) refl
after_goes a es Plus = sign_goes a OneOrMore es (Plus ∷ []) refl
after_goes a es Question = sign_goes a Optional es (Question ∷ []) refl
after_goes a es OpenBrace = went (InCount a Opened) es _ refl
after_goes a es t = once_begins a es t

pub named_goes : (n : List ℕ) (es : List Entry) (t : Word) → GoesIn (entries es ++ Name n ∷ t ∷ []) (after_name n es t)
unfolding after_name mode entries entry atom GoesIn
named_goes n es At = went Need (Storing n ∷ es) _ (append-nil (entries es ++ Name n ∷ At ∷ []))
named_goes n es Define = tt
named_goes n es t = after_goes (Call n) es t

pub sign_part : (r : List ℕ) (es : List Entry) (t : Word) → GoesIn (entries es ++ OpenBracket ∷ Name r ∷ t ∷ []) (on_sign r es t)
unfolding on_sign mode sign GoesIn
sign_part r es Arrow = went (Assigning false r) es _ refl
sign_part r es PlusEquals = went (Assigning true r) es _ refl
sign_part r es _ = tt

pub first_part_goes : (append : Bool) (r : List ℕ) (es : List Entry) (t : Word) → GoesIn (entries es ++ OpenBracket ∷ Name r ∷ sign append ∷ t ∷ []) (first_part append r es t)
unfolding first_part mode register_part parts GoesIn
first_part_goes append r es (Literal t) = went (Assigned append r (Text t) []) es _ refl
first_part_goes append r es (Name n) = went (Assigned append r (Held n) []) es _ refl
first_part_goes append r es _ = tt

pub next_part_goes : (append : Bool) (r : List ℕ) (p : RegisterPart) (ps : List RegisterPart) (es : List Entry) (t : Word) → GoesIn (entries es ++ OpenBracket ∷ Name r ∷ sign append ∷ register_part p ∷ (parts ps ++ t ∷ [])) (next_part append r p ps es t)
unfolding next_part mode atom register_part parts GoesIn
next_part_goes append r p ps es (Literal t) = went (Assigned append r p (ps ++ Text t ∷ [])) es _ (ap (λ (w : List Word). entries es ++ OpenBracket ∷ Name r ∷ sign append ∷ register_part p ∷ w) (parts-append ps (Text t ∷ [])))
next_part_goes append r p ps es (Name n) = went (Assigned append r p (ps ++ Held n ∷ [])) es _ (ap (λ (w : List Word). entries es ++ OpenBracket ∷ Name r ∷ sign append ∷ register_part p ∷ w) (parts-append ps (Held n ∷ [])))
next_part_goes append r p ps es CloseBracket = went (After (Assign append r p ps)) es _ refl
next_part_goes append r p ps es _ = tt

pub counted_goes : (a : Atom) (c : Counting) (es : List Entry) (t : Word) → GoesIn (entries es ++ (atom a ++ OpenBrace ∷ (counting c ++ t ∷ []))) (after_count a c es t)
unfolding count_step on_count mode counting postfix GoesIn
counted_goes a Opened es (Number n) = went (InCount a (Low n)) es _ refl
counted_goes a Opened es Comma = went (InCount a OnlyComma) es _ refl
counted_goes a (Low n) es Comma = went (InCount a (LowComma n)) es _ refl
counted_goes a (Low n) es CloseBrace = sign_goes a (Exactly n) es _ refl
counted_goes a (LowComma n) es (Number m) = went (InCount a (LowHigh n m)) es _ refl
counted_goes a (LowComma n) es CloseBrace = sign_goes a (AtLeast n) es _ refl
counted_goes a (LowHigh n m) es CloseBrace = sign_goes a (FromTo n m) es _ refl
counted_goes a OnlyComma es (Number m) = went (InCount a (High m)) es _ refl
counted_goes a (High m) es CloseBrace = sign_goes a (AtMost m) es _ refl
counted_goes a _ es _ = tt

pub write_goes : (es : List Entry) (t : Word) → GoesIn (entries es ++ Bang ∷ t ∷ []) (on_name (λ n. goes (After (Write n)) es) t)
unfolding on_name mode atom GoesIn
write_goes es (Name n) = went (After (Write n)) es _ refl
write_goes es _ = tt

pub bracket_goes : (es : List Entry) (t : Word) → GoesIn (entries es ++ OpenBracket ∷ t ∷ []) (on_name (λ n. goes (BracketName n) es) t)
unfolding on_name mode GoesIn
bracket_goes es (Name n) = went (BracketName n) es _ refl
bracket_goes es _ = tt

-- a step, with the mode's own words in front
pub in_goes : (m : Mode) (es : List Entry) (t : Word) → GoesIn (entries es ++ (mode m ++ t ∷ [])) (step_in m es t)
unfolding step_in mode
in_goes Need es t = begin_goes false es t
in_goes Ready es t = begin_goes true es t
in_goes (After a) es t = after_goes a es t
in_goes (Turned a p) es t = subst (λ (w : List Word). GoesIn w (after_term_turns a p es t)) (append_assoc (entries es) (atom a ++ postfix p) (t ∷ [])) (turned_goes a p es t)
in_goes (Named free n) es t = named_goes n es t
in_goes Writing es t = write_goes es t
in_goes Bracket es t = bracket_goes es t
in_goes (BracketName r) es t = sign_part r es t
in_goes (Assigning append r) es t = first_part_goes append r es t
in_goes (Assigned append r p ps) es t = next_part_goes append r p ps es t
in_goes (InCount a c) es t = subst (λ (w : List Word). GoesIn (entries es ++ w) (after_count a c es t)) (sym (append_assoc (atom a) (OpenBrace ∷ counting c) (t ∷ []))) (counted_goes a c es t)

-- ---- outside

pub next_before : (h : Header) (ds : List Definition) (name n : List ℕ) (t : Term) (w : List Word) → term t ≡ w → (header h ++ (definitions (ds ++ record { name = name; term = t } ∷ []) ++ Name n ∷ Define ∷ [])) ++ [] ≡ (header h ++ (definitions ds ++ Name name ∷ Define ∷ [])) ++ (w ++ Name n ∷ Define ∷ [])
unfolding definitions
next_before h ds name n t w k =
    append-nil _ ∙ ap (λ (v : List Word). header h ++ (v ++ Name n ∷ Define ∷ [])) (definitions-append ds (record { name = name; term = t } ∷ []) ∙ ap (λ (v : List Word). definitions ds ++ Name name ∷ Define ∷ v) (append-nil (term t) ∙ k))
    ∙ ap (λ (v : List Word). header h ++ v) (append_assoc (definitions ds) (Name name ∷ Define ∷ w) (Name n ∷ Define ∷ []) ∙ sym (append_assoc (definitions ds) (Name name ∷ Define ∷ []) (w ++ Name n ∷ Define ∷ [])))
    ∙ sym (append_assoc (header h) (definitions ds ++ Name name ∷ Define ∷ []) (w ++ Name n ∷ Define ∷ []))

pub head_goes : (h : Header) (ds : List Definition) (name n : List ℕ) (t : Term) (fs : List Entry) (w : List Word) → entries fs ++ term t ≡ w → Goes (before h ds name ++ (w ++ Name n ∷ Define ∷ [])) (next_head h ds name n t fs)
unfolding next_head Goes words_read inside entries mode before
head_goes h ds name n t [] w k = next_before h ds name n t w k
head_goes h ds name n t (e ∷ fs) w k = tt

pub on_head_goes : (h : Header) (ds : List Definition) (name n : List ℕ) (es : List Entry) (o : Option (Term × List Entry)) → TermTaken es o → Goes (before h ds name ++ (entries es ++ Name n ∷ Define ∷ [])) (on_head h ds name n o)
unfolding on_head TermTaken Goes
on_head_goes h ds name n es None k = tt
on_head_goes h ds name n es (Some t) k = head_goes h ds name n t.0 t.1 (entries es) k

pub lift_goes : (h : Header) (ds : List Definition) (name : List ℕ) (w : List Word) (o : Option Inside) → GoesIn w o → Goes (before h ds name ++ w) (lift h ds name o)
unfolding lift Goes GoesIn words_read
lift_goes h ds name w None g = tt
lift_goes h ds name w (Some i) g = ap (λ (v : List Word). before h ds name ++ v) g

pub within_goes : (h : Header) (ds : List Definition) (name : List ℕ) (m : Mode) (es : List Entry) (t : Word) → Goes (before h ds name ++ (entries es ++ (mode m ++ t ∷ []))) (step_within h ds name m es t)
unfolding step_within on_define mode Goes
within_goes h ds name (Named true n) es Define = on_head_goes h ds name n es (take_term es) (term_taken es)
within_goes h ds name (Named false n) es Define = tt
within_goes h ds name m es t = lift_goes h ds name _ _ (in_goes m es t)

pub first_goes : (n : List ℕ) (t : Word) → Goes (Name n ∷ t ∷ []) (first_name n t)
unfolding first_name Goes words_read before inside entries mode header definitions
first_goes n Define = refl
first_goes n Colon = by_test (Goes (Name n ∷ Colon ∷ [])) (bytes_eq n start) _ _ (λ e. ap (λ (x : List ℕ). Name x ∷ Colon ∷ []) (sym (same_bytes n start e))) (λ _. tt)
first_goes n _ = tt

pub head_read_goes : (h : Header) (n : List ℕ) (t : Word) → Goes ((header h ++ Name n ∷ []) ++ t ∷ []) (head_read h n t)
unfolding head_read Goes words_read before inside entries mode definitions
head_read_goes h n Define = append-nil (header h ++ Name n ∷ Define ∷ []) ∙ sym (append_assoc (header h) (Name n ∷ []) (Define ∷ []))
head_read_goes h n _ = tt

pub stage_goes : (f : List ℕ) (ns : List (List ℕ)) (t : Word) → Goes (Name start ∷ Colon ∷ Name f ∷ (stages ns ++ t ∷ [])) (stage_read f ns t)
unfolding stage_read Goes words_read header
stage_goes f ns Pipe = refl
stage_goes f ns (Name n) = refl
stage_goes f ns _ = tt

pub start_goes : (t : Word) → Goes (Name start ∷ Colon ∷ t ∷ []) (name_then (λ n. StageRead n []) t)
unfolding name_then Goes words_read stages
start_goes (Name n) = refl
start_goes _ = tt

pub stage_next_goes : (f : List ℕ) (ns : List (List ℕ)) (t : Word) → Goes (Name start ∷ Colon ∷ Name f ∷ (stages ns ++ Pipe ∷ t ∷ [])) (name_then (λ n. StageRead f (ns ++ n ∷ [])) t)
unfolding name_then Goes words_read stages
stage_next_goes f ns (Name n) = ap (λ (w : List Word). Name start ∷ Colon ∷ Name f ∷ w) (stages-append ns (n ∷ []))
stage_next_goes f ns _ = tt

pub begin_state_goes : (t : Word) → Goes (t ∷ []) (name_then FirstName t)
unfolding name_then Goes words_read
begin_state_goes (Name n) = refl
begin_state_goes _ = tt

pub regroup : (a b c : List Word) (t : Word) → a ++ (b ++ (c ++ t ∷ [])) ≡ (a ++ (b ++ c)) ++ t ∷ []
regroup a b c t = ap (λ (v : List Word). a ++ v) (sym (append_assoc b c (t ∷ []))) ∙ sym (append_assoc a (b ++ c) (t ∷ []))

pub step_goes : (s : State) (t : Word) → Goes (words_read s ++ t ∷ []) (step s t)
unfolding words_read inside step
step_goes Begin t = begin_state_goes t
step_goes (FirstName n) t = first_goes n t
step_goes StartLine t = start_goes t
step_goes (StageRead f ns) t = stage_goes f ns t
step_goes (StageNext f ns) t = subst (λ (w : List Word). Goes (Name start ∷ Colon ∷ Name f ∷ w) (name_then (λ n. StageRead f (ns ++ n ∷ [])) t)) (sym (append_assoc (stages ns) (Pipe ∷ []) (t ∷ []))) (stage_next_goes f ns t)
step_goes (HeadRead h n) t = head_read_goes h n t
step_goes (Within h ds name i) t = subst (λ (w : List Word). Goes w (step_within h ds name i.mode i.entries t)) (regroup (before h ds name) (entries i.entries) (mode i.mode) t) (within_goes h ds name i.mode i.entries t)

pub next_goes : (w : List Word) (o : Option State) (t : Word) → Goes w o → Goes (w ++ t ∷ []) (next o t)
unfolding next Goes
next_goes w None t g = tt
next_goes w (Some s) t g = subst (λ (v : List Word). Goes (v ++ t ∷ []) (step s t)) g (step_goes s t)

pub reads_goes : (w : List Word) (o : Option State) (v : List Word) → Goes w o → Goes (w ++ v) (state_after o v)
unfolding state_after
reads_goes w o [] g = subst (λ (u : List Word). Goes u o) (sym (append-nil w)) g
reads_goes w o (t ∷ v) g = subst (λ (u : List Word). Goes u (state_after (next o t) v)) (append_assoc w (t ∷ []) v) (reads_goes (w ++ t ∷ []) (next o t) v (next_goes w o t g))

-- ---- the end

unfoldable pub Finishes : List Word → Option Program → Type 0
Finishes w None = Unit {0}
Finishes w (Some p) = program p ≡ w

pub whole_is : (h : Header) (ds : List Definition) (name : List ℕ) (t : Term) (fs : List Entry) (w : List Word) → entries fs ++ term t ≡ w → Finishes (before h ds name ++ w) (program_of_whole h ds name t fs)
unfolding program_of_whole Finishes program entries before definitions
whole_is h ds name t [] w k =
    ap (λ (v : List Word). header h ++ v) (definitions-append ds (record { name = name; term = t } ∷ []) ∙ ap (λ (v : List Word). definitions ds ++ Name name ∷ Define ∷ v) (append-nil (term t) ∙ k) ∙ sym (append_assoc (definitions ds) (Name name ∷ Define ∷ []) w))
    ∙ sym (append_assoc (header h) (definitions ds ++ Name name ∷ Define ∷ []) w)
whole_is h ds name t (e ∷ fs) w k = tt

pub ended_is : (h : Header) (ds : List Definition) (name : List ℕ) (es : List Entry) (o : Option (Term × List Entry)) → TermTaken es o → Finishes (before h ds name ++ entries es) (program_of_term h ds name o)
unfolding program_of_term TermTaken Finishes
ended_is h ds name es None k = tt
ended_is h ds name es (Some t) k = whole_is h ds name t.0 t.1 (entries es) k

pub ended_after : (h : Header) (ds : List Definition) (name : List ℕ) (a : Atom) (es : List Entry) → Finishes (before h ds name ++ (entries es ++ atom a)) (program_of_term h ds name (take_term (with_pre (Once a) es)))
unfolding pre
ended_after h ds name a es = subst (λ (w : List Word). Finishes (before h ds name ++ w) (program_of_term h ds name (take_term (with_pre (Once a) es)))) (put_is (Once a) es) (ended_is h ds name (with_pre (Once a) es) (take_term (with_pre (Once a) es)) (term_taken (with_pre (Once a) es)))

pub ended_turned : (h : Header) (ds : List Definition) (name : List ℕ) (a : Atom) (p : Postfix) (es : List Entry) → Finishes (before h ds name ++ (entries es ++ (atom a ++ postfix p))) (program_of_term h ds name (take_term (with_pre (Turns a p false) es)))
ended_turned h ds name a p es = subst (λ (w : List Word). Finishes (before h ds name ++ w) (program_of_term h ds name (take_term (with_pre (Turns a p false) es)))) (eager_is a p es) (ended_is h ds name (with_pre (Turns a p false) es) (take_term (with_pre (Turns a p false) es)) (term_taken (with_pre (Turns a p false) es)))

pub finish_within_is : (h : Header) (ds : List Definition) (name : List ℕ) (m : Mode) (es : List Entry) → Finishes (before h ds name ++ (entries es ++ mode m)) (finish_within h ds name m es)
unfolding finish_within mode Finishes atom
finish_within_is h ds name Ready es = subst (λ (w : List Word). Finishes (before h ds name ++ w) (program_of_term h ds name (take_term es))) (sym (append-nil (entries es))) (ended_is h ds name es (take_term es) (term_taken es))
finish_within_is h ds name (After a) es = ended_after h ds name a es
finish_within_is h ds name (Turned a p) es = ended_turned h ds name a p es
finish_within_is h ds name (Named free n) es = ended_after h ds name (Call n) es
finish_within_is h ds name _ es = tt

pub finish_is : (s : State) → Finishes (words_read s) (finish s)
unfolding finish words_read inside Finishes program header definitions
finish_is Begin = refl
finish_is (FirstName n) = tt
finish_is StartLine = tt
finish_is (StageRead f ns) = append-nil (Name start ∷ Colon ∷ Name f ∷ stages ns)
finish_is (StageNext f ns) = tt
finish_is (HeadRead h n) = tt
finish_is (Within h ds name i) = finish_within_is h ds name i.mode i.entries
