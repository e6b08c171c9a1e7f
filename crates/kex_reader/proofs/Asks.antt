-- The checks that a word asks, by the state.
use Rattle.std.proofs.Common.{◌≡◌, ℕ, suc, ◌+◌, ◌*◌, true, List, [], ◌∷◌, ◌++◌, length, Option, None, Result, Ok, Err, refl, sym, ap, ◌∙◌, subst, arith}
use Rattle.std.specs.Prelude.{OnOk, IfOk}
use Rattle.kex_model.specs.declared.program.Definition.{Definition as Root}
use Rattle.kex_model.specs.declared.program.Start.{Start}
use Rattle.kex_regexp.specs.declared.breaks.Break.{Break}
use Rattle.kex_tokens.specs.declared.token.TokenKind.{TokenKind}
use Rattle.kex_tokens.specs.declared.token.TokenKind.TheVariants as kinds
use Rattle.kex_reader.specs.declared.stack.TermConstruct.{TermConstruct}
use Rattle.kex_reader.specs.declared.inside.TermFault.{TermFault}
use Rattle.kex_reader.specs.declared.reader.Phase.{Phase}
use Rattle.kex_reader.specs.Syntax.{word, Word, Define, Definition, Header}
use Rattle.kex_reader.specs.Reading.{Mode, Named, Inside, State, Begin, FirstName, StartLine, StageRead, StageNext, HeadRead, Within, before, entries, step_within, Entry}
use Rattle.kex_reader.specs.Checks.{Check, Staged}
use Rattle.kex_reader.specs.Shown.{Made, ShowsStages}
use Rattle.kex_reader.specs.Stands.{NotesLeast, asks, named_asks}
use Rattle.kex_reader.specs.Holding.{StateSteps}
use Rattle.kex_reader.specs.Asked.{name_asks, state_asks}
use Rattle.kex_reader.proofs.Programs.{define_none}

pub within_asks : (at : ℕ → ℕ) (h : Header) (done : List Definition) (name : List ℕ) (i : Inside) (w : Word) → asks at (length (before h done name) + length (entries i.entries)) i.mode i.entries w ≡ state_asks at (Within h done name i) w
unfolding state_asks
within_asks at h done name i w = refl

pub quiet_begin : (at : ℕ → ℕ) (s : State) (w : Word) → s ≡ Begin → [] ≡ state_asks at s w
unfolding state_asks
quiet_begin at s w e = sym (ap (λ (x : State). state_asks at x w) e)

pub quiet_first : (at : ℕ → ℕ) (s : State) (w : Word) (n : List ℕ) → s ≡ FirstName n → [] ≡ state_asks at s w
unfolding state_asks
quiet_first at s w n e = sym (ap (λ (x : State). state_asks at x w) e)

pub quiet_read : (at : ℕ → ℕ) (s : State) (w : Word) (f : List ℕ) (ns : List (List ℕ)) → s ≡ StageRead f ns → [] ≡ state_asks at s w
unfolding state_asks
quiet_read at s w f ns e = sym (ap (λ (x : State). state_asks at x w) e)

pub quiet_head : (at : ℕ → ℕ) (s : State) (w : Word) (h : Header) (n : List ℕ) → s ≡ HeadRead h n → [] ≡ state_asks at s w
unfolding state_asks
quiet_head at s w h n e = sym (ap (λ (x : State). state_asks at x w) e)

-- stages

named_asks_is : (from number : ℕ) (k : TokenKind) (b : List ℕ) → k ≡ kinds.Name → Staged from number ∷ [] ≡ name_asks from number (word k b)
unfolding name_asks
named_asks_is from number k b e = sym (ap (λ (x : TokenKind). name_asks from number (word x b)) e)

pub on_kind : (r : Result Phase TermFault) (P : Phase → Type 0) (Q : Type 0) → ((p : Phase) → P p → Q) → IfOk r P → OnOk r Q
on_kind (Ok p) P Q f h = f p h
on_kind (Err e) P Q f h = tt

staged : (r : Result Phase TermFault) (k : TokenKind) (b : List ℕ) (from at' m number : ℕ) (cs : List Check) (o : Option Break) → OnOk r (k ≡ kinds.Name) → from ≡ at' → m ≡ number → OnOk r (NotesLeast (cs ++ Staged from m ∷ []) o) → OnOk r (NotesLeast (cs ++ name_asks at' number (word k b)) o)
staged (Ok p) k b from at' m number cs o e f g n = subst (λ (x : List Check). NotesLeast (cs ++ x) o) (ap (λ (x : ℕ). Staged x m ∷ []) f ∙ ap (λ (x : ℕ). Staged at' x ∷ []) g ∙ named_asks_is at' number k b e) n
staged (Err x) k b from at' m number cs o e f g n = tt

pub start_asks : (at : ℕ → ℕ) (s : State) (k : TokenKind) (b : List ℕ) (from m : ℕ) → s ≡ StartLine → from ≡ at 2 → m ≡ 1 → (cs : List Check) (o : Option Break) (r : Result Phase TermFault) → OnOk r (k ≡ kinds.Name) → OnOk r (NotesLeast (cs ++ Staged from m ∷ []) o) → OnOk r (NotesLeast (cs ++ state_asks at s (word k b)) o)
unfolding state_asks
start_asks at s k b from m e f g cs o r q n = subst (λ (x : State). OnOk r (NotesLeast (cs ++ state_asks at x (word k b)) o)) (sym e) (staged r k b from (at 2) m 1 cs o q f g n)

pub next_asks : (at : ℕ → ℕ) (s : State) (f : List ℕ) (ns : List (List ℕ)) (k : TokenKind) (b : List ℕ) (from m : ℕ) → s ≡ StageNext f ns → from ≡ at (2 + 2 * length (f ∷ ns)) → m ≡ suc (length (f ∷ ns)) → (cs : List Check) (o : Option Break) (r : Result Phase TermFault) → OnOk r (k ≡ kinds.Name) → OnOk r (NotesLeast (cs ++ Staged from m ∷ []) o) → OnOk r (NotesLeast (cs ++ state_asks at s (word k b)) o)
unfolding state_asks
next_asks at s f ns k b from m e p g cs o r q n = subst (λ (x : State). OnOk r (NotesLeast (cs ++ state_asks at x (word k b)) o)) (sym e) (staged r k b from (at (2 + 2 * length (f ∷ ns))) m (suc (length (f ∷ ns))) cs o q p g n)

stages_many : (ns : List (List ℕ)) (made : Made) (at : ℕ → ℕ) (ss : List Start) (i : ℕ) → ShowsStages ns made at ss i → length ss ≡ length ns
unfolding ShowsStages
stages_many [] made at [] i h = refl
stages_many [] made at (s ∷ ss) i h = absurd h
stages_many (n ∷ ns) made at [] i h = absurd h
stages_many (n ∷ ns) made at (s ∷ ss) i h = ap suc (stages_many ns made at ss (i + 2) h.2)

pub stage_count : (ns : List (List ℕ)) (made : Made) (at : ℕ → ℕ) (ss : List Start) (i : ℕ) → ShowsStages ns made at ss i → length ss + 1 ≡ suc (length ns)
stage_count ns made at ss i h = omega (arith, stages_many ns made at ss i h)

-- the head of the next definition asks nothing

define_quiet : (at : ℕ → ℕ) (k : ℕ) (n : List ℕ) (es : List Entry) → [] ≡ asks at k (Named true n) es Define
unfolding asks named_asks
define_quiet at k n es = refl

nothing_made : (made : Made) (at : ℕ → ℕ) (fs : List TermConstruct) (ds : List Root) (ss : List Start) (r : Result Phase TermFault) (P : Type 0) → StateSteps made at fs ds ss r None → OnOk r P
unfolding StateSteps
nothing_made made at fs ds ss (Ok p) P h = absurd h
nothing_made made at fs ds ss (Err e) P h = tt

define_on : (at : ℕ → ℕ) (h : Header) (done : List Definition) (name : List ℕ) (m : Mode) (es : List Entry) (cs : List Check) (o : Option Break) (made : Made) (fs : List TermConstruct) (ds : List Root) (ss : List Start) (r : Result Phase TermFault) → StateSteps made at fs ds ss r (step_within h done name m es Define) → OnOk r (NotesLeast (cs ++ []) o) → OnOk r (NotesLeast (cs ++ asks at (length (before h done name) + length (entries es)) m es Define) o)
define_on at h done name (Named true n) es cs o made fs ds ss r st k = subst (λ (x : List Check). OnOk r (NotesLeast (cs ++ x) o)) (define_quiet at (length (before h done name) + length (entries es)) n es) k
define_on at h done name m es cs o made fs ds ss r st k = nothing_made made at fs ds ss r (NotesLeast (cs ++ asks at (length (before h done name) + length (entries es)) m es Define) o) (subst (λ (x : Option State). StateSteps made at fs ds ss r x) (define_none h done name m es (λ n e. cc)) st)

pub define_notes : (at : ℕ → ℕ) (s : State) (h : Header) (done : List Definition) (name : List ℕ) (i : Inside) (k : TokenKind) (b : List ℕ) → s ≡ Within h done name i → k ≡ kinds.Define → (cs : List Check) (o : Option Break) (made : Made) (fs : List TermConstruct) (ds : List Root) (ss : List Start) (r : Result Phase TermFault) → StateSteps made at fs ds ss r (step_within h done name i.mode i.entries Define) → OnOk r (NotesLeast (cs ++ []) o) → OnOk r (NotesLeast (cs ++ state_asks at s (word k b)) o)
unfolding state_asks
define_notes at s h done name i k b e f cs o made fs ds ss r st n =
    subst (λ (x : State). OnOk r (NotesLeast (cs ++ state_asks at x (word k b)) o)) (sym e)
    (subst (λ (x : TokenKind). OnOk r (NotesLeast (cs ++ asks at (length (before h done name) + length (entries i.entries)) i.mode i.entries (word x b)) o)) (sym f) (define_on at h done name i.mode i.entries cs o made fs ds ss r st n))
