-- From the machine to bodies.
use Rattle.std.proofs.Common.{◌≡◌, Bool, false, ℕ, ◌+◌, ◌<◌, ◌≤◌, List, [], ◌∷◌, length, get_or, take, Option, Some, None, Result, Ok, Err, refl, sym, ap, ◌∙◌, subst, arith, add-one}
use Rattle.std.specs.Prelude.{reverse, IsErrAnd}
use Rattle.std.proofs.Math.Seq.{take-suc}
use Rattle.std.proofs.lemmas.List.{take_all, length-take-le, length-reverse}
use Rattle.kex_model.specs.declared.program.Node.{Node}
use Rattle.kex_regexp.specs.declared.constructs.Construct.{Construct}
use Rattle.kex_regexp.specs.declared.constructs.Construct.TheVariants as constructs
use Rattle.kex_regexp.specs.declared.constructs.Placed.{Placed}
use Rattle.kex_regexp.specs.declared.sets.SetSoFar.{SetSoFar}
use Rattle.kex_regexp.specs.declared.wait.Wait.{Wait}
use Rattle.kex_regexp.specs.declared.wait.Wait.TheVariants as waits
use Rattle.kex_regexp.specs.declared.wait.StepFault.{StepFault}
use Rattle.kex_regexp.specs.declared.wait.StepFault.TheVariants as faults
use Rattle.kex_regexp.specs.Grammar.{Regex, Item, Once, Postfix, Turns, Member}
use Rattle.kex_regexp.specs.Bodies.{SpellsRegex, IsFirstWrong}
use Rattle.kex_regexp.specs.Machine.{Entry, Mark, Ended, Read, Mode, Ready, After, Turned, InEscape, InSet, InCount, State, entries, bytes_read, take_regex, step, next, state_after, start, whole_regex, finish, finish_in, step_in, Escaping, Counting, SetPhase as SpecPart}
use Rattle.kex_regexp.specs.Holding.{IsSetAfter, IsSetIn, HoldsRegex, ConstructsShow, RegexOn, ShowsState, Steps, Ends, ShowsMode}
use Rattle.kex_regexp.proofs.Sound.{Goes, reads_sound, start_sound}
use Rattle.kex_regexp.proofs.Complete.{state_after-append}
use Rattle.kex_regexp.proofs.Viable.{read_begins, read_spells, unread_begins, unfinished}

pub steps_wrong : (nodes : List Node) (base : ℕ) (fs : List Construct) (o : Option State) → Steps nodes base fs (Err faults.Wrong) o → o ≡ None
unfolding Steps
steps_wrong nodes base fs None s = refl
steps_wrong nodes base fs (Some t) s = absurd s

pub record Stepped (nodes : List Node) (base : ℕ) (fs : List Construct) (w : Wait) (o : Option State) : Type 0 where
  pub state : State
  pub is : o ≡ Some state
  pub stands : ShowsState nodes base fs w state

pub steps_ok : (nodes : List Node) (base : ℕ) (fs : List Construct) (w : Wait) (o : Option State) → Steps nodes base fs (Ok w) o → Stepped nodes base fs w o
unfolding Steps
steps_ok nodes base fs w None s = absurd s
steps_ok nodes base fs w (Some t) s = record { state = t; is = refl; stands = s }

pub ends_wrong : (nodes : List Node) (base : ℕ) (o : Option Regex) → Ends nodes base (Err faults.Wrong) o → o ≡ None
unfolding Ends
ends_wrong nodes base None s = refl
ends_wrong nodes base (Some t) s = absurd s

pub ends_ok : (nodes : List Node) (base n : ℕ) (o : Option Regex) → Ends nodes base (Ok n) o → (r : Regex) × (o ≡ Some r) × HoldsRegex r nodes n base
unfolding Ends
ends_ok nodes base n None s = absurd s
ends_ok nodes base n (Some r) s = (r, refl, s)

-- one byte more
pub reads_more : (bytes : List ℕ) (k : ℕ) (s : State) → k < length bytes → state_after start (take k bytes) ≡ Some s → state_after start (take (k + 1) bytes) ≡ step s (get_or bytes k 0)
unfolding state_after next
reads_more bytes k s h e =
    ap (λ (x : ℕ). state_after start (take x bytes)) (add-one k) ∙ ap (state_after start) (take-suc bytes k 0 h) ∙ state_after-append start (take k bytes) (get_or bytes k 0 ∷ []) ∙ ap (λ (o : Option State). state_after o (get_or bytes k 0 ∷ [])) e

-- what a state has read is as long as the bytes
pub spelled_length : (w : List ℕ) (s : State) → state_after start w ≡ Some s → length (bytes_read s) ≡ length w
unfolding Goes
spelled_length w s e = let g : Goes w (Some s) = subst (λ (o : Option State). Goes w o) e (reads_sound [] start w start_sound) in ap length g.1

pub spelled_place : (bytes : List ℕ) (k base place : ℕ) (s : State) → k ≤ length bytes → state_after start (take k bytes) ≡ Some s → place ≡ base + k → place ≡ base + length (bytes_read s)
spelled_place bytes k base place s h e p = omega (arith, p, spelled_length (take k bytes) s e, length-take-le k bytes h)

pub wrong_byte : (bytes : List ℕ) (k : ℕ) (s : State) → k < length bytes → state_after start (take k bytes) ≡ Some s → step s (get_or bytes k 0) ≡ None → IsFirstWrong bytes k
wrong_byte bytes k s h e n = record {
  inside = omega (arith, h);
  before = read_begins (take k bytes) s e;
  byte = λ _ b. unread_begins (take (k + 1) bytes) (reads_more bytes k s h e ∙ n) b;
  end = λ q _. absurd (omega (arith, h, q));
}

pub wrong_end : (bytes : List ℕ) (k : ℕ) (s : State) → k ≡ length bytes → state_after start (take k bytes) ≡ Some s → finish s ≡ None → IsFirstWrong bytes k
wrong_end bytes k s h e n = record {
  inside = omega (arith, h);
  before = read_begins (take k bytes) s e;
  byte = λ lt _. absurd (omega (arith, h, lt));
  end = λ _ b. unfinished bytes s (subst (λ (w : List ℕ). state_after start w ≡ Some s) (take_all k bytes (omega (arith, h))) e) n b;
}

pub body_read : (bytes : List ℕ) (k : ℕ) (s : State) (r : Regex) → length bytes ≤ k → state_after start (take k bytes) ≡ Some s → finish s ≡ Some r → SpellsRegex r bytes
body_read bytes k s r h e f = subst (λ (w : List ℕ). SpellsRegex r w) (take_all k bytes h) (read_spells (take k bytes) s r e f)

-- ---- the end

pub no_constructs : (nodes : List Node) (base : ℕ) (fs : List Construct) (es : List Entry) → length fs ≡ 0 → ConstructsShow nodes base (reverse fs) es → es ≡ []
unfolding ConstructsShow
no_constructs nodes base [] [] e h = refl
no_constructs nodes base [] (x ∷ es) e h = absurd h
no_constructs nodes base (f ∷ fs) es e h = absurd (omega (arith, e))

pub none_shown : (nodes : List Node) (base : ℕ) (gs : List Construct) → ConstructsShow nodes base gs [] → length gs ≡ 0
unfolding ConstructsShow
none_shown nodes base [] h = refl
none_shown nodes base (constructs.Mark at ∷ gs) h = absurd h
none_shown nodes base (constructs.Ended n at ∷ gs) h = absurd h
none_shown nodes base (constructs.Piece n at ∷ gs) h = absurd h

pub whole_of : (t : Regex × List Entry) → t.1 ≡ [] → whole_regex t ≡ Some t.0
unfolding whole_regex
whole_of t e = ap (λ (x : List Entry). whole_regex (t.0, x)) e

pub shown_none : (nodes : List Node) (base : ℕ) (fs : List Construct) → ConstructsShow nodes base (reverse fs) [] → length fs ≡ 0
shown_none nodes base fs h = sym (length-reverse fs) ∙ none_shown nodes base (reverse fs) h

pub some_constructs : (nodes : List Node) (base : ℕ) (fs : List Construct) (r : Regex) (es : List Entry) → (length fs ≡ 0 → ⊥) → ConstructsShow nodes base (reverse fs) es → whole_regex (r, es) ≡ None
unfolding whole_regex
some_constructs nodes base fs r (Mark ∷ es) n h = refl
some_constructs nodes base fs r (Ended b ∷ es) n h = refl
some_constructs nodes base fs r (Read p ∷ es) n h = refl
some_constructs nodes base fs r [] n h = absurd (n (shown_none nodes base fs h))

pub ends_whole : (nodes : List Node) (base : ℕ) (fs : List Construct) (part : Placed) (t : Regex × List Entry) → length fs ≡ 0 → RegexOn nodes base fs part t → Ends nodes base (Ok part.node) (whole_regex t)
unfolding Ends entries
ends_whole nodes base fs part t e r =
    let n = no_constructs nodes base fs t.1 e r.below in
    let at : part.at ≡ base = omega (arith, r.at, ap (λ (x : List Entry). length (entries x)) n) in
    subst (λ (x : Option Regex). Ends nodes base (Ok part.node) x) (sym (whole_of t n)) (subst (λ (x : ℕ). HoldsRegex t.0 nodes part.node x) at r.shows)

pub ends_open : (nodes : List Node) (base : ℕ) (fs : List Construct) (part : Placed) (t : Regex × List Entry) → (length fs ≡ 0 → ⊥) → RegexOn nodes base fs part t → Ends nodes base (Err faults.Wrong) (whole_regex t)
unfolding Ends
ends_open nodes base fs part t n r = subst (λ (x : Option Regex). Ends nodes base (Err faults.Wrong) x) (sym (some_constructs nodes base fs t.0 t.1 n r.below)) tt

pub ends_memory : (nodes : List Node) (base : ℕ) (o : Option Regex) → Ends nodes base (Err faults.Memory) o
unfolding Ends
ends_memory nodes base o = tt

pub ends_exit : (nodes : List Node) (base : ℕ) (r : Result ℕ StepFault) → IsErrAnd r (λ e. e ≡ faults.Memory) → (o : Option Regex) → Ends nodes base r o
ends_exit nodes base (Ok n) e o = absurd e
ends_exit nodes base (Err f) e o = subst (λ (x : StepFault). Ends nodes base (Err x) o) (sym e) (ends_memory nodes base o)

pub ends_none : (nodes : List Node) (base : ℕ) → Ends nodes base (Err faults.Wrong) None
unfolding Ends
ends_none nodes base = tt

pub to_end : (nodes : List Node) (base : ℕ) (r : Result ℕ StepFault) (o p : Option Regex) → o ≡ p → Ends nodes base r p → Ends nodes base r o
to_end nodes base r o p e s = subst (λ (x : Option Regex). Ends nodes base r x) (sym e) s

pub finish_mode : (s : State) (m : Mode) → s.mode ≡ m → finish s ≡ finish_in m s.entries
unfolding finish
finish_mode s m e = ap (λ (x : Mode). finish_in x s.entries) e

pub finish_ready : (s : State) → s.mode ≡ Ready → finish s ≡ whole_regex (take_regex s.entries)
unfolding finish_in
finish_ready s e = finish_mode s Ready e

pub finish_after : (s : State) (i : Item) → s.mode ≡ After i → finish s ≡ whole_regex (take_regex (Read (Once i) ∷ s.entries))
unfolding finish_in
finish_after s i e = finish_mode s (After i) e

pub finish_turned : (s : State) (i : Item) (p : Postfix) → s.mode ≡ Turned i p → finish s ≡ whole_regex (take_regex (Read (Turns i p false) ∷ s.entries))
unfolding finish_in
finish_turned s i p e = finish_mode s (Turned i p) e

pub finish_escape : (s : State) (x : Escaping) → s.mode ≡ InEscape x → finish s ≡ None
unfolding finish_in
finish_escape s x e = finish_mode s (InEscape x) e

pub finish_set : (s : State) (n : Bool) (ms : List Member) (p : SpecPart) → s.mode ≡ InSet n ms p → finish s ≡ None
unfolding finish_in
finish_set s n ms p e = finish_mode s (InSet n ms p) e

pub finish_count : (s : State) (i : Item) (x : Counting) → s.mode ≡ InCount i x → finish s ≡ None
unfolding finish_in
finish_count s i x e = finish_mode s (InCount i x) e

pub start_stands : (nodes : List Node) (base : ℕ) (fs : List Construct) → fs ≡ [] → ShowsState nodes base fs waits.Ready (record { mode = Ready; entries = [] })
unfolding ConstructsShow ShowsMode
start_stands nodes base fs e = record { below = subst (λ (x : List Construct). ConstructsShow nodes base (reverse x) []) (sym e) tt; mode = tt }

pub start_reads : state_after start [] ≡ Some (record { mode = Ready; entries = [] })
unfolding state_after start
start_reads = refl

-- ---- the set

pub start_set : (set : SetSoFar) → IsSetIn set Ready
unfolding IsSetIn
start_set set = tt

-- what is taken in at a byte is the set after it
pub taken : (old new : SetSoFar) (nodes : List Node) (at b : ℕ) (fs : List Construct) (w : Wait) (s : State) → ShowsState nodes at fs w s → IsSetIn old s.mode → ((nodes : List Node) (at : ℕ) (m : Mode) (es : List Entry) → ShowsMode nodes at w m → IsSetIn old m → IsSetAfter new (step_in m es b)) → IsSetAfter new (step s b)
unfolding step
taken old new nodes at b fs w s st i f = f nodes (at + length (entries s.entries)) s.mode s.entries st.mode i

pub set_behind : (set : SetSoFar) (o : Option State) (t : State) → o ≡ Some t → IsSetAfter set o → IsSetIn set t.mode
set_behind set o t e h = subst (IsSetAfter set) e h
