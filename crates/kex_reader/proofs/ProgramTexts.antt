-- From the machine to texts.
use Rattle.std.proofs.Common.{◌≡◌, ℕ, zero, suc, ◌+◌, ◌<◌, ◌≤◌, Bool, true, false, if◌then◌else◌, List, [], ◌∷◌, ◌++◌, ◌⊎◌, inl, inr, length, take, drop, get_or, Option, Some, None, Result, Ok, Err, refl, sym, ap, ◌∙◌, subst, arith}
use Rattle.std.specs.Prelude.{slice_get, map, bytes_eq, codes, IfOk, IfErr, IsErrAnd}
use Rattle.std.specs.List.{slice_range}
use Rattle.std.proofs.lemmas.List.{take_all, length-take-le, get_or_past}
use Rattle.std.proofs.lemmas.Option.{get_or_from_slice_get, slice_get_within, slice_get-get_or}
use Rattle.kex_code.specs.Codes.{Different, IsAmong}
use Rattle.kex_model.specs.Programs.{Grammar}
use Rattle.kex_model.specs.declared.program.Definition.{Definition as Root}
use Rattle.kex_model.specs.declared.program.Start.{Start}
use Rattle.kex_tokens.specs.declared.token.Token.{Token}
use Rattle.kex_tokens.specs.Texts.{AreTokens, most_text}
use Rattle.kex_regexp.specs.declared.breaks.Break.{Break}
use Rattle.kex_regexp.specs.declared.breaks.Break.TheVariants.{BadRegex, BadCount, BadSet, OverLimit}
use Rattle.kex_reader.specs.declared.stack.TermConstruct.{TermConstruct}
use Rattle.kex_reader.specs.declared.inside.TermFault.{TermFault}
use Rattle.kex_reader.specs.declared.inside.TermFault.TheVariants as faults
use Rattle.kex_reader.specs.declared.reader.Phase.{Phase}
use Rattle.kex_reader.specs.declared.reader.Phase.TheVariants as phases
use Rattle.kex_reader.specs.declared.refusal.ReadRefusal.{ReadRefusal}
use Rattle.kex_reader.specs.declared.refusal.ReadRefusal.TheVariants as refusals
use Rattle.kex_reader.specs.Syntax.{Word, word, Header, NoStart, Stages, Definition, Program, program, header, term}
use Rattle.kex_reader.specs.Programs.{IsFirstWrong}
use Rattle.kex_reader.specs.Reading.{State, Begin, state_after, next, step, words_read, finish}
use Rattle.kex_reader.specs.Checks.{program_checks}
use Rattle.kex_reader.specs.Shown.{Made, ShowsDefinitions, ShowsStages}
use Rattle.kex_reader.specs.Stands.{Has, NotesLeast}
use Rattle.kex_reader.specs.Uses.{Numbered, InNodes, InDefinitions, InStages, NoneSpare}
use Rattle.kex_reader.proofs.Uses.{AllHeld}
use Rattle.kex_reader.specs.Holding.{ShowsHead, ShowsState, StateSteps, Finishes}
use Rattle.kex_reader.specs.Asked.{state_checks, state_asks}
use Rattle.kex_reader.specs.Spelling.{words, offset, main_stage, ShowsHeader, ShowsProgram, Spells, IsUnexpected, BreaksLimit, IsRefusedAs, of_limit, of_step}
use Rattle.kex_reader.proofs.NumberedNames.{get_mapped, take_get}
use Rattle.kex_reader.proofs.Drafts.{term_within}
use Rattle.kex_reader.proofs.Sound.{Goes, reads_goes}
use Rattle.kex_reader.proofs.Complete.{state_after-append}
use Rattle.kex_reader.proofs.Viable.{start_goes, read_begins, read_is, unread_begins, unfinished}
use Rattle.kex_reader.proofs.ReadChecks.{StateAsked, state_asked, FinishAsked, finish_asked}

-- ---- words and places

pub word_at : (text : List ℕ) (ts : List Token) (k : ℕ) (t : Token) → slice_get ts k ≡ Some t → slice_get (words text ts) k ≡ Some (word t.kind (slice_range text t.from t.to))
word_at text ts k t e = get_mapped (λ (t : Token). word t.kind (slice_range text t.from t.to)) ts k t e

pub offset_at : (text : List ℕ) (ts : List Token) (k : ℕ) (t : Token) → slice_get ts k ≡ Some t → offset text ts k ≡ t.from
offset_at text ts k t e = get_or_from_slice_get (map (λ (t : Token). t.from) ts) k t.from (length text) (get_mapped (λ (t : Token). t.from) ts k t e)

mapped_long : {A B : Type 0} (f : A → B) (xs : List A) → length (map f xs) ≡ length xs
mapped_long f [] = refl
mapped_long f (x ∷ xs) = ap suc (mapped_long f xs)

pub words_long : (text : List ℕ) (ts : List Token) → length (words text ts) ≡ length ts
words_long text ts = mapped_long (λ (t : Token). word t.kind (slice_range text t.from t.to)) ts

pub offset_end : (text : List ℕ) (ts : List Token) (k : ℕ) → length ts ≤ k → offset text ts k ≡ length text
offset_end text ts k h = get_or_past (map (λ (t : Token). t.from) ts) k (length text) (omega (arith, h, mapped_long (λ (t : Token). t.from) ts))

-- ---- one word more

pub reads_more : (ws : List Word) (k : ℕ) (s : State) (w : Word) → slice_get ws k ≡ Some w → state_after (Some Begin) (take k ws) ≡ Some s → state_after (Some Begin) (take (k + 1) ws) ≡ step s w
unfolding state_after next
reads_more ws k s w g e = ap (state_after (Some Begin)) (take_get ws k w g) ∙ state_after-append (Some Begin) (take k ws) (w ∷ []) ∙ ap (λ (o : Option State). state_after o (w ∷ [])) e

pub spelled_long : (ws : List Word) (s : State) → state_after (Some Begin) ws ≡ Some s → length (words_read s) ≡ length ws
unfolding Goes
spelled_long ws s e = let g : Goes ws (Some s) = subst (λ (o : Option State). Goes ws o) e (reads_goes [] (Some Begin) ws start_goes) in ap (λ (x : List Word). length x) g

pub taken_long : (ws : List Word) (k : ℕ) (s : State) → k ≤ length ws → state_after (Some Begin) (take k ws) ≡ Some s → length (words_read s) ≡ k
taken_long ws k s h e = spelled_long (take k ws) s e ∙ length-take-le k ws h

pub wrong_word : (ws : List Word) (k : ℕ) (s : State) (w : Word) → slice_get ws k ≡ Some w → state_after (Some Begin) (take k ws) ≡ Some s → step s w ≡ None → IsFirstWrong ws k
wrong_word ws k s w g e n =
    let lt = slice_get_within ws k w g in
    record {
      inside = omega (arith, lt);
      before = read_begins (take k ws) s e;
      word = λ _ b. unread_begins (take (k + 1) ws) (reads_more ws k s w g e ∙ n) b;
      end = λ q _. absurd (omega (arith, lt, q));
    }

pub wrong_end : (ws : List Word) (k : ℕ) (s : State) → k ≡ length ws → state_after (Some Begin) (take k ws) ≡ Some s → finish s ≡ None → IsFirstWrong ws k
wrong_end ws k s h e n = record {
  inside = omega (arith, h);
  before = read_begins (take k ws) s e;
  word = λ lt _. absurd (omega (arith, h, lt));
  end = λ _ b. unfinished ws s (subst (λ (w : List Word). state_after (Some Begin) w ≡ Some s) (take_all k ws (omega (arith, h))) e) n b;
}

pub program_read : (ws : List Word) (k : ℕ) (s : State) (p : Program) → length ws ≤ k → state_after (Some Begin) (take k ws) ≡ Some s → finish s ≡ Some p → program p ≡ ws
program_read ws k s p h e f = read_is (take k ws) s p e f ∙ take_all k ws h

-- ---- outcomes

pub state_ok : (made : Made) (at : ℕ → ℕ) (fs : List TermConstruct) (ds : List Root) (ss : List Start) (p : Phase) (o : Option State) → StateSteps made at fs ds ss (Ok p) o → (s : State) × (o ≡ Some s) × ShowsState made at fs ds ss p s
unfolding StateSteps
state_ok made at fs ds ss p None h = absurd h
state_ok made at fs ds ss p (Some s) h = (s, refl, h)

pub state_bad : (made : Made) (at : ℕ → ℕ) (fs : List TermConstruct) (ds : List Root) (ss : List Start) (o : Option State) → StateSteps made at fs ds ss (Err faults.Wrong) o → o ≡ None
unfolding StateSteps
state_bad made at fs ds ss None h = refl
state_bad made at fs ds ss (Some s) h = absurd h

pub finish_ok : (made : Made) (at : ℕ → ℕ) (ds : List Root) (ss : List Start) (u : Unit {0}) (o : Option Program) → Finishes made at ds ss (Ok u) o → (p : Program) × (o ≡ Some p) × ShowsDefinitions p.definitions made at ds (length (header p.header)) × ShowsHead p.header made at ss
unfolding Finishes
finish_ok made at ds ss u None h = absurd h
finish_ok made at ds ss u (Some p) h = (p, refl, h.0, h.1)

pub finish_bad : (made : Made) (at : ℕ → ℕ) (ds : List Root) (ss : List Start) (o : Option Program) → Finishes made at ds ss (Err faults.Wrong) o → o ≡ None
unfolding Finishes
finish_bad made at ds ss None h = refl
finish_bad made at ds ss (Some p) h = absurd h

pub next_checks : (at : ℕ → ℕ) (s t : State) (w : Word) → step s w ≡ Some t → state_checks at s ++ state_asks at s w ≡ state_checks at t
unfolding StateAsked
next_checks at s t w e =
    let h : StateAsked at (state_checks at s ++ state_asks at s w) (Some t) = subst (λ (o : Option State). StateAsked at (state_checks at s ++ state_asks at s w) o) e (state_asked at s w) in
    sym h

pub end_checks : (at : ℕ → ℕ) (s : State) (p : Program) → finish s ≡ Some p → state_checks at s ≡ program_checks p at
unfolding FinishAsked
end_checks at s p e =
    let h : FinishAsked at (state_checks at s) (Some p) = subst (λ (o : Option Program). FinishAsked at (state_checks at s) o) e (finish_asked at s) in
    sym h

pub begin_shows : (made : Made) (at : ℕ → ℕ) (fs : List TermConstruct) (ds : List Root) (ss : List Start) → fs ≡ [] → ds ≡ [] → ss ≡ [] → ShowsState made at fs ds ss phases.Begin Begin
unfolding ShowsState
begin_shows made at fs ds ss f d s = (f, d, s)

pub begin_reads : state_after (Some Begin) [] ≡ Some Begin
unfolding state_after
begin_reads = refl

pub begin_notes : (at : ℕ → ℕ) (o : Option Break) → o ≡ None → NotesLeast (state_checks at Begin) o
unfolding state_checks
begin_notes at o e = subst (λ (x : Option Break). NotesLeast [] x) (sym e) (λ b h. h.1)

-- ---- refusals

pub limit_refused : (text : List ℕ) (b : Break) → length text ≤ most_text → BreaksLimit text b → IsRefusedAs text (of_limit b)
limit_refused text (BadRegex at) l h = (l, h)
limit_refused text (BadCount at) l h = (l, h)
limit_refused text (BadSet at) l h = (l, h)
limit_refused text (OverLimit at) l h = (l, h)

pub step_refused : (text : List ℕ) (f : TermFault) (at : ℕ) → length text ≤ most_text → (f ≡ faults.Wrong → IsUnexpected text at) → IsRefusedAs text (of_step f at)
step_refused text faults.Memory at l h = tt
step_refused text faults.Wrong at l h = (l, h refl)

-- ---- the program

pub definitions_in : (ds : List Definition) (made : Made) (at : ℕ → ℕ) (rs : List Root) (i : ℕ) → ShowsDefinitions ds made at rs i → (r : Root) → IsAmong rs r → (r.name < length made.names) × (r.root < length made.nodes)
unfolding ShowsDefinitions
definitions_in [] made at [] i h r m = absurd m
definitions_in [] made at (x ∷ rs) i h r m = absurd h
definitions_in (d ∷ ds) made at [] i h r m = absurd m
definitions_in (d ∷ ds) made at (x ∷ rs) i h r (inl m) = subst (λ (y : Root). (y.name < length made.names) × (y.root < length made.nodes)) m (slice_get_within made.names x.name d.name h.0, term_within d.term made at x.root (i + 2) h.2)
definitions_in (d ∷ ds) made at (x ∷ rs) i h r (inr m) = definitions_in ds made at rs (i + 2 + length (term d.term)) h.3 r m

pub stages_in : (ns : List (List ℕ)) (made : Made) (at : ℕ → ℕ) (ss : List Start) (i : ℕ) → ShowsStages ns made at ss i → (s : Start) → IsAmong ss s → s.name < length made.names
unfolding ShowsStages
stages_in [] made at [] i h s m = absurd m
stages_in [] made at (x ∷ ss) i h s m = absurd h
stages_in (n ∷ ns) made at [] i h s m = absurd m
stages_in (n ∷ ns) made at (x ∷ ss) i h s (inl m) = subst (λ (y : Start). y.name < length made.names) m (slice_get_within made.names x.name n h.0)
stages_in (n ∷ ns) made at (x ∷ ss) i h s (inr m) = stages_in ns made at ss (i + 2) h.2 s m

pub main_in : (names : List (List ℕ)) (ds : List Root) → ((d : Root) → IsAmong ds d → d.name < length names) → (s : Start) → IsAmong (main_stage names ds) s → s.name < length names
main_in names [] h s m = absurd m
main_in names (d ∷ ds) h s m = go (bytes_eq (get_or names d.name []) (codes "main")) (main_in names ds (λ x k. h x (inr k)) s) m
  where
    go : (t : Bool) → (IsAmong (main_stage names ds) s → s.name < length names) → IsAmong (if t then record { name = d.name; at = d.at } ∷ [] else main_stage names ds) s → s.name < length names
    go true r (inl e) = subst (λ (y : Start). y.name < length names) e (h d (inl refl))
    go true r (inr e) = absurd e
    go false r m = r m

pub head_some : (h : Header) (made : Made) (at : ℕ → ℕ) (ss : List Start) → (length ss ≡ 0 → ⊥) → ShowsHead h made at ss → (s : Start) → IsAmong ss s → s.name < length made.names
head_some NoStart made at ss e k s m = absurd (e (ap (λ (x : List Start). length x) k))
head_some (Stages n ns) made at ss e k s m = stages_in (n ∷ ns) made at ss 2 k s m

-- nothing is broken in what was made
pub whole_made : (made : Made) (nodes : List _) (names : List (List ℕ)) → made.broken ≡ None → nodes ≡ made.nodes → names ≡ made.names → made ≡ record { nodes = nodes; names = names; registers = made.registers; broken = None }
whole_made made nodes names e f g =
    ap (λ (x : Option Break). record { nodes = made.nodes; names = made.names; registers = made.registers; broken = x }) e
    ∙ ap (λ (x : List (List ℕ)). record { nodes = made.nodes; names = x; registers = made.registers; broken = None }) (sym g)
    ∙ ap (λ x. record { nodes = x; names = names; registers = made.registers; broken = None }) (sym f)

header_shows : (h : Header) (made : Made) (at : ℕ → ℕ) (named : List Start) (P : Grammar) → ShowsHead h made at named → ((length named ≡ 0 → ⊥) → P.stages ≡ named) → (length named ≡ 0 → P.stages ≡ main_stage P.names P.definitions) → ShowsHeader h made at P
unfolding ShowsStages
header_shows NoStart made at named P k line main = main (ap (λ (x : List Start). length x) k)
header_shows (Stages n ns) made at [] P k line main = absurd k
header_shows (Stages n ns) made at (s ∷ ss) P k line main = subst (λ (x : List Start). ShowsStages (n ∷ ns) made at x 2) (sym (line (λ z. absurd (omega (arith, z))))) k

pub program_shows : (made : Made) (at : ℕ → ℕ) (tree : Program) (ds : List Root) (named : List Start) (P : Grammar) → made.broken ≡ None → P.nodes ≡ made.nodes → P.names ≡ made.names → P.definitions ≡ ds → ((length named ≡ 0 → ⊥) → P.stages ≡ named) → (length named ≡ 0 → P.stages ≡ main_stage P.names P.definitions) → ShowsDefinitions tree.definitions made at ds (length (header tree.header)) → ShowsHead tree.header made at named → ShowsProgram tree (record { nodes = P.nodes; names = P.names; registers = made.registers; broken = None }) at P
program_shows made at tree ds named P b n m d line main df hd =
    subst (λ (x : Made). ShowsProgram tree x at P) (whole_made made P.nodes P.names b n m)
    (record {
      definitions = subst (λ (x : List Root). ShowsDefinitions tree.definitions made at x (length (header tree.header))) (sym d) df;
      stages = header_shows tree.header made at named P hd line main;
    })

pub started_in : (h : Header) (made : Made) (at : ℕ → ℕ) (named stages : List Start) (names : List (List ℕ)) (ds : List Root) → ShowsHead h made at named → ((length named ≡ 0 → ⊥) → stages ≡ named) → (length named ≡ 0 → stages ≡ main_stage names ds) → names ≡ made.names → ((d : Root) → IsAmong ds d → d.name < length made.names) → (s : Start) → IsAmong stages s → s.name < length made.names
started_in h made at [] stages names ds k line main e f s m = subst (λ (x : List (List ℕ)). s.name < length x) e (main_in names ds (λ d i. subst (λ (x : List (List ℕ)). d.name < length x) (sym e) (f d i)) s (subst (λ (x : List Start). IsAmong x s) (main refl) m))
started_in h made at (x ∷ xs) stages names ds k line main e f s m = head_some h made at (x ∷ xs) (λ z. absurd (omega (arith, z))) k s (subst (λ (y : List Start). IsAmong y s) (line (λ z. absurd (omega (arith, z)))) m)

pub among_get : {A : Type 0} (xs : List A) (i : ℕ) (d : A) → i < length xs → IsAmong xs (get_or xs i d)
among_get [] i d h = absurd (omega (arith, h))
among_get (x ∷ xs) zero d h = inl refl
among_get (x ∷ xs) (suc i) d h = inr (among_get xs i d (omega (arith, h)))

pub main_here : (names : List (List ℕ)) (ds : List Root) (i : ℕ) (d : Root) (t : Bool) → i < length ds → bytes_eq (get_or names (get_or ds i d).name []) (codes "main") ≡ t → main_stage names (drop i ds) ≡ (if t then record { name = (get_or ds i d).name; at = (get_or ds i d).at } ∷ [] else main_stage names (drop (suc i) ds))
main_here names [] i d t h e = absurd (omega (arith, h))
main_here names (x ∷ ds) zero d t h e = ap (λ (b : Bool). if b then record { name = x.name; at = x.at } ∷ [] else main_stage names ds) e
main_here names (x ∷ ds) (suc i) d t h e = main_here names ds i d t (omega (arith, h)) e

pub spells_ok : (r : Result Grammar ReadRefusal) (text : List ℕ) (ts : List Token) (tree : Program) (made : Made) (ds : List Root) (named : List Start) → length text ≤ most_text → AreTokens text ts → program tree ≡ words text ts → NotesLeast (program_checks tree (offset text ts)) made.broken
    → ShowsDefinitions tree.definitions made (offset text ts) ds (length (header tree.header)) → ShowsHead tree.header made (offset text ts) named
    → IfOk r (λ _. made.broken ≡ None) → IfOk r (λ P. (at : ℕ → ℕ) (tree : Program) → ShowsDefinitions tree.definitions made at ds (length (header tree.header)) → ShowsHead tree.header made at named → ShowsProgram tree (record { nodes = P.nodes; names = P.names; registers = made.registers; broken = None }) at P)
    → IfOk r (λ P. Different P.names) → IfOk r (λ P. Different made.registers × (P.registers ≡ length made.registers)) → AllHeld made (λ x. InDefinitions ds x ⊎ InStages named x) → IfOk r (λ P. ((x : Numbered) → Has made x → InNodes made.nodes x ⊎ (InDefinitions ds x ⊎ InStages named x)) → NoneSpare P) → IfOk r (λ P. Spells text P)
spells_ok (Err e) text ts tree made ds named short cut der nt df hd w s n g all used = tt
spells_ok (Ok P) text ts tree made ds named short cut der nt df hd w s n g all used = record {
  short = short;
  tokens = ts;
  cut = cut;
  tree = tree;
  derived = der;
  within = subst (λ (o : Option Break). NotesLeast (program_checks tree (offset text ts)) o) w nt;
  registers = made.registers;
  shown = s (offset text ts) tree df hd;
  names_differ = n;
  registers_differ = g.0;
  counted = g.1;
  none_spare = used (all w);
}

pub memory_refused : (r : Result Grammar ReadRefusal) (Q : ReadRefusal → Type 0) → IsErrAnd r (λ e. e ≡ refusals.Memory) → IfErr r (λ e. (e ≡ refusals.Memory) ⊎ Q e)
memory_refused (Ok P) Q e = absurd e
memory_refused (Err x) Q e = inl e

pub refused_ok : (r : Result Grammar ReadRefusal) (text : List ℕ) (ts : List Token) (tree : Program) (o : Option Break) → length text ≤ most_text → AreTokens text ts → program tree ≡ words text ts → NotesLeast (program_checks tree (offset text ts)) o → IfErr r (λ e. (e ≡ refusals.Memory) ⊎ ((b : Break) × (o ≡ Some b) × (e ≡ of_limit b))) → IfErr r (λ e. IsRefusedAs text e)
refused_ok (Ok P) text ts tree o short cut der nt h = tt
refused_ok (Err e) text ts tree o short cut der nt (inl m) = subst (λ (x : ReadRefusal). IsRefusedAs text x) (sym m) tt
refused_ok (Err e) text ts tree o short cut der nt (inr m) = subst (λ (x : ReadRefusal). IsRefusedAs text x) (sym m.2) (limit_refused text m.0 short (ts, tree, cut, der, subst (λ (x : Option Break). NotesLeast (program_checks tree (offset text ts)) x) m.1 nt))

pub end_of : (k : ℕ) (text : List ℕ) (ts : List Token) → length ts ≤ k → k ≤ length ts → k ≡ length ts
end_of k text ts n h = omega (arith, n, h)

pub names_at : (names : List (List ℕ)) (k : ℕ) (x : List ℕ) → k < length names → x ≡ get_or names k x → get_or names k [] ≡ x
names_at names k x lt e = get_or_from_slice_get names k (get_or names k x) [] (slice_get-get_or names k x lt) ∙ sym e
