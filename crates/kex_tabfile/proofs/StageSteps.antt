-- What the lines of a stage tell, one after the other.
use Rattle.std.proofs.Common.{◌≡◌, ℕ, suc, ◌<◌, ◌≤◌, List, [], ◌∷◌, ◌++◌, inl, inr, ⊎_elim, Bool, true, false, Option, Some, length, refl, sym, ap, subst, ◌∙◌, length-append, arith}
use Rattle.kex_byteset.specs.Classes.{class_count}
use Rattle.kex_code.specs.Codes.{IsAmong}
use Rattle.kex_model.specs.Labelled.{Shape, shape_of, Grown}
use Rattle.kex_model.proofs.Tables.{get_pushed}
use Rattle.kex_machine.specs.Nodes.{Graph}
use Rattle.kex_sst.specs.declared.parts.Part.{Part}
use Rattle.kex_sst.specs.declared.table.Transition.{Transition}
use Rattle.kex_sst.specs.Tables.{Row}
use Rattle.kex_paths.specs.Nexts.{Outline, IsFirstTree, IsOfShape}
use Rattle.kex_tabfile.specs.Lines.{stage_line}
use Rattle.kex_tabfile.specs.Readers.{ReadSoFar, ReadsBytes}
use Rattle.kex_tabfile.specs.TableFiles.{goes_of}
use Rattle.kex_tabfile.specs.Walks.{Target, Told, Spot, at_stage, at_state, at_init, at_class, behind_state, told_first, MeetsTarget, IsRightLine, right_stage, right_state, right_init, right_go, HasNoLine, class_over, state_over, WalksLines, stays, passes_by, reads_line, IsThrough, AreNumbersOf, most_table_states}
use Rattle.kex_tabfile.specs.Checking.{AreTargets, Checks, BreaksReading, BreaksStage, ChecksAt, HasEnds, EachHasEnds}
use Rattle.kex_tabfile.specs.declared.refusal.TableRefusal.{TableRefusal}
use Rattle.kex_tabfile.specs.declared.refusal.TableRefusal.TheVariants.{TableTooLong, BadTable, Text, Memory}
use Rattle.kex_tabfile.proofs.LineSteps.{checks_on, checks_line, checks_passed, breaks_later}
use Rattle.kex_tabfile.proofs.TableRows.{target, still_among, IsTold, told_by}

abbrev Go : Type 0
Go = List (Option Transition)

-- a target stays one
abbrev targets_at : Spot → List Target
targets_at (at_stage stage) = []
targets_at (at_state told) = told.targets
targets_at (at_init told s) = told.targets
targets_at (at_class told s go) = told.targets

behind_same : (told : Told) (s : Shape ℕ) (rows : List Go) → targets_at (behind_state told s rows) ≡ told.targets
behind_same told s [] = refl
behind_same told s (row ∷ rows) = refl

module _ (g : Graph) (numbers classes : List ℕ) where
  stay_right : (p : Spot) (line : List ℕ) (q : Spot) → IsRightLine g numbers classes p line q → (x : Target) → IsAmong (targets_at p) x → IsAmong (targets_at q) x
  stay_right p line q (right_stage n a some few f) x i = absurd i
  stay_right p line q (right_state {told = told} s lt j) x i = subst (λ z. IsAmong z x) (sym (behind_same told s told.rows)) i
  stay_right p line q (right_init {told = told} {s = s} u a f c) x i = i
  stay_right p line q (right_go {told = told} {s = s} {go = go} r a after lt by change below m) x i = still_among g classes told.targets (target r.target (shape_of a.tree)) after m x i

  stay_passed : (p q : Spot) → HasNoLine g numbers classes p q → (x : Target) → IsAmong (targets_at p) x → IsAmong (targets_at q) x
  stay_passed p q (class_over lt by) x i = i
  stay_passed p q (state_over e) x i = i

  stay_walked : (p q : Spot) (bytes : List ℕ) → WalksLines g numbers classes p bytes q → (x : Target) → IsAmong (targets_at p) x → IsAmong (targets_at q) x
  stay_walked p q bytes stays x i = i
  stay_walked p q bytes (passes_by {bytes = bs} {p = m} w n) x i = stay_passed m q n x (stay_walked p m bs w x i)
  stay_walked p q bs (reads_line {bytes = bytes} {line = line} {p = m} w n) x i = stay_right m line q n x (stay_walked p m bytes w x i)

  pub targets_stay : (a b : ReadSoFar) (told later : Told) → Checks g numbers classes a (at_state told) (at_state later) b → (x : Target) → IsAmong told.targets x → IsAmong later.targets x
  targets_stay a b told later h x i = stay_walked (at_state told) (at_state later) h.bytes h.walked x i

  pub targets_kept : (a b : ReadSoFar) (told later : Told) (s : Shape ℕ) (go after : Go) → Checks g numbers classes a (at_class told s go) (at_class later s after) b → (x : Target) → IsAmong told.targets x → IsAmong later.targets x
  targets_kept a b told later s go after h x i = stay_walked (at_class told s go) (at_class later s after) h.bytes h.walked x i

-- ---- what the code says of the lines of a state

module _ (g : Graph) (numbers classes : List ℕ) (states : ℕ) where
  abbrev pub ClassBreaks : List (ℕ × Outline) → ℕ → ℕ → ReadSoFar → TableRefusal → Type 0
  ClassBreaks entries state class a e = (told : Told) (s : Shape ℕ) (go : Go) → ChecksAt g entries states state told → IsAmong told.targets (target state s) → length go ≡ class → BreaksReading g numbers classes a (at_class told s go) e

  abbrev pub ClassChecks : List (ℕ × Outline) → List (ℕ × Outline) → ℕ → ℕ → Option Transition → ReadSoFar → ReadSoFar → Type 0
  ClassChecks entries later state class o a b = (told : Told) (s : Shape ℕ) (go : Go) → ChecksAt g entries states state told → IsAmong told.targets (target state s) → length go ≡ class → (after : List Target) × ChecksAt g later states state (record told { targets = after }) × Checks g numbers classes a (at_class told s go) (at_class (record told { targets = after }) s (go ++ o ∷ [])) b

  abbrev pub GoesBreak : List (ℕ × Outline) → ℕ → ReadSoFar → TableRefusal → Type 0
  GoesBreak entries state a e = (told : Told) (s : Shape ℕ) → ChecksAt g entries states state told → IsAmong told.targets (target state s) → BreaksReading g numbers classes a (at_class told s []) e

  abbrev pub GoesCheck : List (ℕ × Outline) → List (ℕ × Outline) → ℕ → Go → ReadSoFar → ReadSoFar → Type 0
  GoesCheck entries later state go a b = (told : Told) (s : Shape ℕ) → ChecksAt g entries states state told → IsAmong told.targets (target state s) → (after : List Target) × ChecksAt g later states (suc state) (record told { targets = after; rows = told.rows ++ go ∷ [] }) × Checks g numbers classes a (at_class told s []) (at_state (record told { targets = after; rows = told.rows ++ go ∷ [] })) b

  abbrev pub StateBreaks : List (ℕ × Outline) → ℕ → ReadSoFar → TableRefusal → Type 0
  StateBreaks entries state a e = (told : Told) → ChecksAt g entries states state told → BreaksReading g numbers classes a (at_state told) e

  abbrev pub StateChecks : List (ℕ × Outline) → List (ℕ × Outline) → ℕ → Row → ReadSoFar → ReadSoFar → Type 0
  StateChecks entries later state row a b = (told : Told) → ChecksAt g entries states state told → (s : Shape ℕ) × (after : List Target) × IsAmong told.targets (target state s) × HasEnds g s row.registers row.accepting × ChecksAt g later states (suc state) (record told { targets = after; rows = told.rows ++ row.go ∷ [] }) × Checks g numbers classes a (at_state told) (at_state (record told { targets = after; rows = told.rows ++ row.go ∷ [] })) b

  -- the lines of the classes in `go` are right
  abbrev pub GoesSoFar : ℕ → ReadSoFar → Told → Shape ℕ → List (ℕ × Outline) → Go → ReadSoFar → Type 0
  GoesSoFar state a told s entries go b = (after : List Target) × ChecksAt g entries states state (record told { targets = after }) × Checks g numbers classes a (at_class told s []) (at_class (record told { targets = after }) s go) b

  module _ (state : ℕ) (a : ReadSoFar) (told : Told) (s : Shape ℕ) (entries : List (ℕ × Outline)) (go : Go) (b : ReadSoFar) (so : GoesSoFar state a told s entries go b) where
    still : IsAmong told.targets (target state s) → IsAmong so.0 (target state s)
    still i = targets_kept g numbers classes a b told (record told { targets = so.0 }) s [] go so.2 (target state s) i

    -- the state's tree is kept
    pub goes_stand : IsAmong told.targets (target state s) → (later : Told) × (t : Shape ℕ) × ChecksAt g entries states state later × IsAmong later.targets (target state t)
    goes_stand i = (record told { targets = so.0 }, s, so.1, still i)

    -- a class more
    pub goes_more : (later : List (ℕ × Outline)) (class : ℕ) (o : Option Transition) (d : ReadSoFar) → ClassChecks entries later state class o b d → IsAmong told.targets (target state s) → length go ≡ class → GoesSoFar state a told s later (go ++ o ∷ []) d
    goes_more later class o d right i e =
        let k = right (record told { targets = so.0 }) s go so.1 (still i) e in
        (k.0, k.1, checks_on g numbers classes a b d (at_class told s []) (at_class (record told { targets = so.0 }) s go) (at_class (record told { targets = k.0 }) s (go ++ o ∷ [])) so.2 k.2)

    pub goes_break : (class : ℕ) (e : TableRefusal) → ClassBreaks entries state class b e → IsAmong told.targets (target state s) → length go ≡ class → BreaksReading g numbers classes a (at_class told s []) e
    goes_break class e bad i long = breaks_later g numbers classes a b (at_class told s []) (at_class (record told { targets = so.0 }) s go) e so.2 (bad (record told { targets = so.0 }) s go so.1 (still i) long)

    pub goes_over : length go ≡ class_count classes → (after : List Target) × ChecksAt g entries states (suc state) (record told { targets = after; rows = told.rows ++ go ∷ [] }) × Checks g numbers classes a (at_class told s []) (at_state (record told { targets = after; rows = told.rows ++ go ∷ [] })) b
    goes_over e = (
      so.0,
      record { known = so.1.known; states_are = so.1.states_are; of_state = omega (arith, length-append told.rows (go ∷ []), so.1.of_state) },
      checks_passed g numbers classes a b (at_class told s []) (at_class (record told { targets = so.0 }) s go) (at_state (record told { targets = so.0; rows = told.rows ++ go ∷ [] })) so.2 (state_over e),
    )

-- ---- a state

pub behind_first : (told : Told) (s : Shape ℕ) (rows : List Go) → length rows ≡ 0 → behind_state told s rows ≡ at_init told s
behind_first told s [] e = refl
behind_first told s (row ∷ rows) e = absurd (omega (arith, e))

pub behind_later : (told : Told) (s : Shape ℕ) (rows : List Go) → (length rows ≡ 0 → ⊥) → behind_state told s rows ≡ at_class told s []
behind_later told s [] n = absurd (n refl)
behind_later told s (row ∷ rows) n = refl

-- one state more
pub ends_more : (g : Graph) (targets after : List Target) (rows : List Row) (row : Row) (s : Shape ℕ) → ((x : Target) → IsAmong targets x → IsAmong after x) → EachHasEnds g targets rows → IsAmong targets (target (length rows) s) → HasEnds g s row.registers row.accepting → EachHasEnds g after (rows ++ row ∷ [])
ends_more g targets after rows row s stay each is ends i r e = ⊎_elim
    (λ h. let d = each i r h in (d.0, stay (target i d.0) d.1, d.2))
    (λ h. (s, stay (target i s) (subst (λ k. IsAmong targets (target k s)) (sym h.0) is), subst (λ z. HasEnds g s z.registers z.accepting) h.1 ends))
    (get_pushed rows row i r e)

-- ---- a stage

pub stage_breaks : (stage : ℕ) (g : Graph) (numbers classes : List ℕ) → AreNumbersOf g numbers classes → (a : ReadSoFar) (e : TableRefusal) → BreaksReading g numbers classes a (at_stage stage) e → BreaksStage stage g a e
stage_breaks stage g numbers classes of a TableTooLong h = absurd h
stage_breaks stage g numbers classes of a (Text why) h = absurd h
stage_breaks stage g numbers classes of a Memory h = tt
stage_breaks stage g numbers classes of a (BadTable line) (before, rest, e, broken, is) = (before, rest, e, record { numbers = numbers; classes = classes; numbers_of = of; breaks = broken }, is)

none_known : (g : Graph) → AreTargets g [] []
none_known g = record { trees = tt; one = λ k s t i j. absurd i }

first_meets : (x : Target) → MeetsTarget [] x (x ∷ [])
first_meets x = inr (λ s i. i, refl)

only_met : (x : Target) (after : List Target) → MeetsTarget [] x after → after ≡ x ∷ []
only_met x after (inl h) = absurd h.0
only_met x after (inr h) = h.1

first_known : (g : Graph) (entries : List (ℕ × Outline)) (flag : Bool) (x : Target) → (flag ≡ true → (after : List Target) × AreTargets g entries after × MeetsTarget [] x after) → (flag ≡ false → MeetsTarget [] x (x ∷ []) → ⊥) → AreTargets g entries (x ∷ [])
first_known g entries true x met other = let y = met refl in subst (λ z. AreTargets g entries z) (only_met x y.0 y.2) y.1
first_known g entries false x met other = absurd (other refl (first_meets x))

-- the start's tree is that of state 0
pub start_known : (g : Graph) (none entries : List (ℕ × Outline)) (tree : Outline) (flag : Bool) (s : Shape ℕ) → none ≡ [] → (flag ≡ true → (h : Graph) (targets : List Target) (x : Shape ℕ) → AreTargets h none targets → tree.machine ≡ h → IsOfShape tree x → (after : List Target) × AreTargets h entries after × MeetsTarget targets (target 0 x) after) → (flag ≡ false → (h : Graph) (targets after : List Target) (x : Shape ℕ) → AreTargets h none targets → tree.machine ≡ h → IsOfShape tree x → MeetsTarget targets (target 0 x) after → ⊥) → tree.machine ≡ g → IsOfShape tree s → AreTargets g entries (target 0 s ∷ [])
start_known g none entries tree flag s empty met other machine shape =
    let begun = subst (λ z. AreTargets g z []) (sym empty) (none_known g) in
    first_known g entries flag (target 0 s) (λ e. met e g [] s begun machine shape) (λ e m. other e g [] (target 0 s ∷ []) s begun machine shape m)

-- the lines of a stage are right, and tell these rows
pub record ReadsStates (stage : ℕ) (g : Graph) (numbers classes : List ℕ) (a b : ReadSoFar) (rows : List Row) : Type 0 where
  pub end : Told
  pub told : IsTold g classes end
  pub through : IsThrough end
  pub same : goes_of rows ≡ end.rows
  pub ends : EachHasEnds g end.targets rows
  pub checks : Checks g numbers classes a (at_stage stage) (at_state end) b
  pub few : length rows ≤ most_table_states

abbrev pub StatesCheck : Graph → List ℕ → List ℕ → ℕ → List (ℕ × Outline) → List Row → ReadSoFar → ReadSoFar → Type 0
StatesCheck g numbers classes states entries rows a b = (told : Told) → told.rows ≡ [] → ChecksAt g entries states 0 told → (end : Told) × (end.rows ≡ goes_of rows) × (end.states ≡ states) × (length rows ≡ states) × EachHasEnds g end.targets rows × Checks g numbers classes a (at_state told) (at_state end) b

module _ (stage : ℕ) (g : Graph) (numbers classes : List ℕ) (a b : ReadSoFar) (states : ℕ) (first : Grown Part ℕ) (f : IsFirstTree g (Some first)) (some : 0 < states) (few : states ≤ most_table_states) (reads : ReadsBytes a (stage_line stage (class_count classes) states) b) (entries : List (ℕ × Outline)) (known : AreTargets g entries (target 0 (shape_of first.tree) ∷ [])) where
  abbrev begun : Told
  begun = told_first states (shape_of first.tree)

  pub stands_first : ChecksAt g entries states 0 begun
  stands_first = record { known = known; states_are = refl; of_state = refl }

  checks_first : Checks g numbers classes a (at_stage stage) (at_state begun) b
  checks_first = checks_line g numbers classes a b (at_stage stage) (at_state begun) (stage_line stage (class_count classes) states) reads (right_stage states first some few f)

  pub states_break : (e : TableRefusal) → ((told : Told) → told.rows ≡ [] → ChecksAt g entries states 0 told → BreaksReading g numbers classes b (at_state told) e) → BreaksReading g numbers classes a (at_stage stage) e
  states_break e bad = breaks_later g numbers classes a b (at_stage stage) (at_state begun) e checks_first (bad begun refl stands_first)

  pub reads_states : (d : ReadSoFar) (rows : List Row) → StatesCheck g numbers classes states entries rows b d → ReadsStates stage g numbers classes a d rows
  reads_states d rows right =
      let r = right begun refl stands_first in
      let all = checks_on g numbers classes a b d (at_stage stage) (at_state begun) (at_state r.0) checks_first r.5 in
      let long : length (goes_of rows) ≡ length rows = goes_long rows in
      record {
        end = r.0;
        told = told_by g classes numbers (at_stage stage) (at_state r.0) all.bytes all.walked tt;
        through = ap length r.1 ∙ long ∙ r.3 ∙ sym r.2;
        same = sym r.1;
        ends = r.4;
        checks = all;
        few = omega (arith, r.3, few);
      }
    where
      goes_long : (xs : List Row) → length (goes_of xs) ≡ length xs
      goes_long [] = refl
      goes_long (x ∷ xs) = let h = goes_long xs in omega (arith, h)
