-- What has been read can be completed; what was refused can't.
use Rattle.std.proofs.Common.{◌≡◌, ℕ, false, List, [], ◌∷◌, ◌++◌, Option, Some, None, refl, sym, ap, ◌∙◌, subst, append_assoc}
use Rattle.std.proofs.lemmas.List.{append-nil}
use Rattle.kex_reader.specs.Syntax.{Word, Name, Number, Define, Colon, Pipe, Bar, Tilde, At, OpenBrace, CloseBrace, Comma, CloseBracket, Arrow, OpenParen, CloseParen, Held, Postfix, Exactly, AtLeast, AtMost, FromTo, Term, Last, Or, Seq, Only, Then, Pre, Mute, Into, Once, Turns, Atom, One, Call, Write, Assign, Group, Definition, Header, NoStart, Stages, Program, start, register_part, parts, sign, postfix, word_lazy_mark, term, seq, pre, atom, definitions, stages, header, program}
use Rattle.kex_reader.specs.Reading.{Entry, Mark, Ended, Done, Muted, Storing, Counting, Opened, Low, LowComma, LowHigh, OnlyComma, High, Mode, Need, Ready, After, Turned, Named, Writing, Bracket, BracketName, Assigning, Assigned, InCount, State, Begin, FirstName, StartLine, StageRead, StageNext, HeadRead, Within, state_after, finish, entry, entries, counting, mode, inside, before, words_read}
use Rattle.kex_reader.specs.Programs.{IsProgram, BeginsProgram}
use Rattle.kex_reader.proofs.Sound.{Goes, reads_goes, finish_is, Finishes, definitions-append, stages-append}
use Rattle.kex_reader.proofs.Complete.{Gives, program_reads, state_after-append, reads_none}

pub record TermFor (w : List Word) : Type 0 where
  pub more : List Word
  pub tree : Term
  pub same : term tree ≡ w ++ more

pub record PreFor (w : List Word) : Type 0 where
  pub more : List Word
  pub tree : Pre
  pub same : pre tree ≡ w ++ more

pub record Completes (w : List Word) : Type 0 where
  pub more : List Word
  pub tree : Program
  pub same : program tree ≡ w ++ more

-- ---- something in front of a term's first pre

pub prepend : Pre → Term → Term
prepend p (Last s) = Last (Then p s)
prepend p (Or s t) = Or (Then p s) t

pub prepend_is : (p : Pre) (t : Term) → term (prepend p t) ≡ pre p ++ term t
unfolding prepend term seq
prepend_is p (Last s) = refl
prepend_is p (Or s t) = append_assoc (pre p) (seq s) (Bar ∷ term t)

pub mute_seq : Seq → Seq
mute_seq (Only p) = Only (Mute p)
mute_seq (Then p s) = Then (Mute p) s

pub mute : Term → Term
mute (Last s) = Last (mute_seq s)
mute (Or s t) = Or (mute_seq s) t

pub mute_seq_is : (s : Seq) → seq (mute_seq s) ≡ Tilde ∷ seq s
unfolding mute_seq seq pre
mute_seq_is (Only p) = refl
mute_seq_is (Then p s) = refl

pub mute_is : (t : Term) → term (mute t) ≡ Tilde ∷ term t
unfolding mute term
mute_is (Last s) = mute_seq_is s
mute_is (Or s t) = ap (λ (w : List Word). w ++ Bar ∷ term t) (mute_seq_is s)

pub store_seq : List ℕ → Seq → Seq
store_seq n (Only p) = Only (Into n p)
store_seq n (Then p s) = Then (Into n p) s

pub store : List ℕ → Term → Term
store n (Last s) = Last (store_seq n s)
store n (Or s t) = Or (store_seq n s) t

pub store_seq_is : (n : List ℕ) (s : Seq) → seq (store_seq n s) ≡ Name n ∷ At ∷ seq s
unfolding store_seq seq pre
store_seq_is n (Only p) = refl
store_seq_is n (Then p s) = refl

pub store_is : (n : List ℕ) (t : Term) → term (store n t) ≡ Name n ∷ At ∷ term t
unfolding store term
store_is n (Last s) = store_seq_is n s
store_is n (Or s t) = ap (λ (w : List Word). w ++ Bar ∷ term t) (store_seq_is n s)

pub to_term : (v w : List Word) → v ≡ w → TermFor v → TermFor w
to_term v w e c = subst TermFor e c

pub regroup_mark : (a t more : List Word) → (a ++ OpenParen ∷ (t ++ CloseParen ∷ [])) ++ more ≡ ((a ++ OpenParen ∷ []) ++ t) ++ CloseParen ∷ more
regroup_mark a t more =
    append_assoc a (OpenParen ∷ (t ++ CloseParen ∷ [])) more ∙ ap (λ (w : List Word). a ++ OpenParen ∷ w) (append_assoc t (CloseParen ∷ []) more)
    ∙ sym (append_assoc a (OpenParen ∷ t) (CloseParen ∷ more)) ∙ ap (λ (w : List Word). w ++ CloseParen ∷ more) (sym (append_assoc a (OpenParen ∷ []) t))

pub group_is : (t : Term) → term (Last (Only (Once (Group t)))) ≡ OpenParen ∷ (term t ++ CloseParen ∷ [])
unfolding term seq pre atom
group_is t = refl

pub or_is : (s : Seq) (t : Term) → term (Or s t) ≡ (seq s ++ Bar ∷ []) ++ term t
unfolding term
or_is s t = sym (append_assoc (seq s) (Bar ∷ []) (term t))

-- entries with a term on top
pub plug : (es : List Entry) (t : Term) → TermFor (entries es ++ term t)
unfolding entries entry
plug [] t = record { more = []; tree = t; same = sym (append-nil (term t)) }
plug (Done p ∷ es) t = to_term _ _ (ap (λ (w : List Word). entries es ++ w) (prepend_is p t) ∙ sym (append_assoc (entries es) (pre p) (term t))) (plug es (prepend p t))
plug (Ended s ∷ es) t = to_term _ _ (ap (λ (w : List Word). entries es ++ w) (or_is s t) ∙ sym (append_assoc (entries es) (seq s ++ Bar ∷ []) (term t))) (plug es (Or s t))
plug (Muted ∷ es) t = to_term _ _ (ap (λ (w : List Word). entries es ++ w) (mute_is t) ∙ sym (append_assoc (entries es) (Tilde ∷ []) (term t))) (plug es (mute t))
plug (Storing n ∷ es) t = to_term _ _ (ap (λ (w : List Word). entries es ++ w) (store_is n t) ∙ sym (append_assoc (entries es) (Name n ∷ At ∷ []) (term t))) (plug es (store n t))
plug (Mark ∷ es) t =
    let c = plug es (Last (Only (Once (Group t)))) in
    record { more = CloseParen ∷ c.more; tree = c.tree; same = c.same ∙ ap (λ (w : List Word). (entries es ++ w) ++ c.more) (group_is t) ∙ regroup_mark (entries es) (term t) c.more }

-- ---- each mode

pub turns_for : (a : Atom) (p : Postfix) (v more : List Word) → postfix p ≡ v ++ more → PreFor (atom a ++ v)
unfolding pre word_lazy_mark
turns_for a p v more e = record { more = more; tree = Turns a p false; same = ap (λ (w : List Word). atom a ++ w) (append-nil (postfix p) ∙ e) ∙ sym (append_assoc (atom a) v more) }

pub counted_pre : (a : Atom) (c : Counting) → PreFor (atom a ++ OpenBrace ∷ counting c)
unfolding counting postfix
counted_pre a Opened = turns_for a (Exactly []) (OpenBrace ∷ []) (Number [] ∷ CloseBrace ∷ []) refl
counted_pre a (Low n) = turns_for a (Exactly n) (OpenBrace ∷ Number n ∷ []) (CloseBrace ∷ []) refl
counted_pre a (LowComma n) = turns_for a (AtLeast n) (OpenBrace ∷ Number n ∷ Comma ∷ []) (CloseBrace ∷ []) refl
counted_pre a (LowHigh n m) = turns_for a (FromTo n m) (OpenBrace ∷ Number n ∷ Comma ∷ Number m ∷ []) (CloseBrace ∷ []) refl
counted_pre a OnlyComma = turns_for a (AtMost []) (OpenBrace ∷ Comma ∷ []) (Number [] ∷ CloseBrace ∷ []) refl
counted_pre a (High m) = turns_for a (AtMost m) (OpenBrace ∷ Comma ∷ Number m ∷ []) (CloseBrace ∷ []) refl

pub mode_pre : (m : Mode) → PreFor (mode m)
unfolding mode pre atom sign register_part parts
mode_pre Need = record { more = Number (49 ∷ []) ∷ []; tree = Once One; same = refl }
mode_pre Ready = record { more = Number (49 ∷ []) ∷ []; tree = Once One; same = refl }
mode_pre (After a) = record { more = []; tree = Once a; same = sym (append-nil (atom a)) }
mode_pre (Turned a p) = turns_for a p (postfix p) [] (sym (append-nil (postfix p)))
mode_pre (Named free n) = record { more = []; tree = Once (Call n); same = refl }
mode_pre Writing = record { more = Name [] ∷ []; tree = Once (Write []); same = refl }
mode_pre Bracket = record { more = Name [] ∷ Arrow ∷ Name [] ∷ CloseBracket ∷ []; tree = Once (Assign false [] (Held []) []); same = refl }
mode_pre (BracketName r) = record { more = Arrow ∷ Name [] ∷ CloseBracket ∷ []; tree = Once (Assign false r (Held []) []); same = refl }
mode_pre (Assigning append r) = record { more = Name [] ∷ CloseBracket ∷ []; tree = Once (Assign append r (Held []) []); same = refl }
mode_pre (Assigned append r p ps) = record { more = CloseBracket ∷ []; tree = Once (Assign append r p ps); same = refl }
mode_pre (InCount a c) = counted_pre a c

pub only_is : (p : Pre) → term (Last (Only p)) ≡ pre p
unfolding term seq
only_is p = refl

pub regroup3 : (a b c d : List Word) → (a ++ (b ++ c)) ++ d ≡ (a ++ b) ++ (c ++ d)
regroup3 a b c d = simp append_assoc

pub within_term : (es : List Entry) (m : Mode) → TermFor (entries es ++ mode m)
within_term es m =
    let p = mode_pre m in
    let c = plug es (Last (Only p.tree)) in
    record { more = p.more ++ c.more; tree = c.tree; same = c.same ∙ ap (λ (w : List Word). (entries es ++ w) ++ c.more) (only_is p.tree ∙ p.same) ∙ regroup3 (entries es) (mode m) p.more c.more }

pub regroup5 : (a b c d e : List Word) → a ++ (b ++ (c ++ (d ++ e))) ≡ ((a ++ (b ++ c)) ++ d) ++ e
regroup5 a b c d e = simp append_assoc

-- a program whose last definition is this
pub last_definition : (h : Header) (ds : List Definition) (name : List ℕ) (w : List Word) → TermFor w → Completes (before h ds name ++ w)
unfolding program before definitions
last_definition h ds name w c = record {
  more = c.more;
  tree = record { header = h; definitions = ds ++ record { name = name; term = c.tree } ∷ [] };
  same =
      ap (λ (v : List Word). header h ++ v) (definitions-append ds (record { name = name; term = c.tree } ∷ []) ∙ ap (λ (v : List Word). definitions ds ++ Name name ∷ Define ∷ v) (append-nil (term c.tree) ∙ c.same))
      ∙ regroup5 (header h) (definitions ds) (Name name ∷ Define ∷ []) w c.more;
}

pub one_definition : (h : Header) (n : List ℕ) → Completes (header h ++ Name n ∷ [])
unfolding program definitions term seq pre atom
one_definition h n = record {
  more = Define ∷ Number (49 ∷ []) ∷ [];
  tree = record { header = h; definitions = record { name = n; term = Last (Only (Once One)) } ∷ [] };
  same = sym (append_assoc (header h) (Name n ∷ []) (Define ∷ Number (49 ∷ []) ∷ []));
}

pub state_completes : (s : State) → Completes (words_read s)
unfolding words_read inside program header definitions stages
state_completes Begin = record { more = []; tree = record { header = NoStart; definitions = [] }; same = refl }
state_completes (FirstName n) = one_definition NoStart n
state_completes StartLine = record { more = Name [] ∷ []; tree = record { header = Stages [] []; definitions = [] }; same = refl }
state_completes (StageRead f ns) = record { more = []; tree = record { header = Stages f ns; definitions = [] }; same = refl }
state_completes (StageNext f ns) = record {
  more = Name [] ∷ [];
  tree = record { header = Stages f (ns ++ [] ∷ []); definitions = [] };
  same = append-nil (Name start ∷ Colon ∷ Name f ∷ stages (ns ++ [] ∷ [])) ∙ ap (λ (w : List Word). Name start ∷ Colon ∷ Name f ∷ w) (stages-append ns ([] ∷ []) ∙ sym (append_assoc (stages ns) (Pipe ∷ []) (Name [] ∷ [])));
}
state_completes (HeadRead h n) = one_definition h n
state_completes (Within h ds name i) = last_definition h ds name (inside i) (within_term i.entries i.mode)

-- ---- the laws

pub start_goes : Goes [] (Some Begin)
unfolding Goes words_read
start_goes = refl

pub read_begins : (w : List Word) (s : State) → state_after (Some Begin) w ≡ Some s → BeginsProgram w
unfolding Goes
read_begins w s e =
    let g : Goes w (Some s) = subst (λ (o : Option State). Goes w o) e (reads_goes [] (Some Begin) w start_goes) in
    let c : Completes w = subst Completes g (state_completes s) in
    (c.more, (c.tree, c.same))

pub read_is : (w : List Word) (s : State) (p : Program) → state_after (Some Begin) w ≡ Some s → finish s ≡ Some p → program p ≡ w
unfolding Goes Finishes
read_is w s p e f =
    let g : Goes w (Some s) = subst (λ (o : Option State). Goes w o) e (reads_goes [] (Some Begin) w start_goes) in
    let k : Finishes (words_read s) (Some p) = subst (λ (o : Option Program). Finishes (words_read s) o) f (finish_is s) in
    k ∙ g

pub program_gives : (w : List Word) (p : Program) → program p ≡ w → (s : State) × (state_after (Some Begin) w ≡ Some s) × (finish s ≡ Some p)
unfolding Gives
program_gives w p e = subst (λ (v : List Word). (s : State) × (state_after (Some Begin) v ≡ Some s) × (finish s ≡ Some p)) e (program_reads p)

pub unread_begins : (w : List Word) → state_after (Some Begin) w ≡ None → BeginsProgram w → ⊥
unread_begins w e b =
    let a = program_gives (w ++ b.0) b.1.0 b.1.1 in
    let n : state_after (Some Begin) (w ++ b.0) ≡ None = state_after-append (Some Begin) w b.0 ∙ ap (λ (o : Option State). state_after o b.0) e ∙ reads_none b.0 in
    cc

pub unfinished : (w : List Word) (s : State) → state_after (Some Begin) w ≡ Some s → finish s ≡ None → IsProgram w → ⊥
unfinished w s e f b =
    let a = program_gives w b.0 b.1 in
    let same : s ≡ a.0 = cc in
    let n : finish a.0 ≡ None = ap finish (sym same) ∙ f in
    cc

-- the grammar gives each list of tokens at most one tree
pub one_tree : (p q : Program) → program p ≡ program q → p ≡ q
one_tree p q e =
    let a = program_gives (program q) p e in
    let b = program_gives (program q) q refl in
    let same : a.0 ≡ b.0 = cc in
    let n : finish b.0 ≡ Some p = ap finish (sym same) ∙ a.2 in
    cc
