-- The lines of a state, as they are read.
use Rattle.std.proofs.Common.{◌≡◌, ℕ, ◌-◌, ◌<◌, ◌≤◌, List, [], ◌∷◌, ◌++◌, Option, Some, length, refl, sym, ap, ap₂, subst, ◌∙◌, append_assoc, arith}
use Rattle.std.specs.Prelude.{codes, decimal}
use Rattle.kex_byteset.specs.Classes.{class_count}
use Rattle.kex_code.specs.Codes.{Begins, IsAmong}
use Rattle.kex_model.specs.Labelled.{Shape, shape_of}
use Rattle.kex_machine.specs.Nodes.{Graph, HasClasses}
use Rattle.kex_sst.specs.declared.table.Transition.{Transition}
use Rattle.kex_sst.specs.Parts.{Change}
use Rattle.kex_paths.specs.Nexts.{Outline, HasClass, IsNext, IsChange, IsOfShape}
use Rattle.kex_tabfile.specs.Lines.{stage_front, stage_line, state_line, go_front, go_rest, go_line, update_text, line_behind}
use Rattle.kex_tabfile.specs.Readers.{ReadSoFar, ReadsBytes, IsDigit}
use Rattle.kex_tabfile.specs.Walks.{Target, Told, Spot, at_state, at_class, behind_state, MeetsTarget, IsRightLine, right_state, right_go}
use Rattle.kex_tabfile.specs.Checking.{AreTargets, NextBy, Checks, BreaksReading, ChecksAt}
use Rattle.kex_tabfile.specs.declared.refusal.TableRefusal.{TableRefusal}
use Rattle.kex_tabfile.specs.declared.refusal.TableRefusal.TheVariants.{BadTable}
use Rattle.kex_tabfile.proofs.LineSteps.{checks_line}
use Rattle.kex_tabfile.proofs.StuckLines.{breaks_go, breaks_state}
use Rattle.kex_tabfile.proofs.TableRows.{target}

-- what the reader says of the number after `skip` bytes
abbrev pub FindsNumber : List ℕ → ℕ → ℕ → Option ℕ → Type 0
FindsNumber rest skip most found = (front : List ℕ) (n next : ℕ) (more : List ℕ) → length front ≡ skip → n ≤ most → rest ≡ front ++ (decimal n ++ next ∷ more) → (IsDigit next → ⊥) → found ≡ Some n

blank : IsDigit 32 → ⊥
blank h = omega (arith, h.0)

pub feed : IsDigit 10 → ⊥
feed h = omega (arith, h.0)

-- the target of a line is found
pub target_found : (rest : List ℕ) (state class t most : ℕ) (u : Change) (found : Option ℕ) → FindsNumber rest (length (go_front state class)) most found → t ≤ most → Begins rest (go_line state class t u) → found ≡ Some t
target_found rest state class t most u found finds le (more, e) =
    let tail = update_text u ++ codes "\n" in
    finds (go_front state class) t 32 (tail ++ more) refl le
    (e ∙ append_assoc (go_front state class) (go_rest t u) more ∙ ap (λ z. go_front state class ++ z) (append_assoc (decimal t) (32 ∷ tail) more)) blank

-- the count of states is found
pub count_found : (rest : List ℕ) (stage classes n most : ℕ) (found : Option ℕ) → FindsNumber rest (length (stage_front stage classes)) most found → n ≤ most → Begins rest (stage_line stage classes n) → found ≡ Some n
count_found rest stage classes n most found finds le (more, e) =
    finds (stage_front stage classes) n 10 more refl le
    (e ∙ append_assoc (stage_front stage classes) (decimal n ++ codes "\n") more ∙ ap (λ z. stage_front stage classes ++ z) (append_assoc (decimal n) (10 ∷ []) more)) feed

module _ (g : Graph) (numbers classes : List ℕ) where
  -- a line by which a state goes on is right
  pub go_checks : (a b : ReadSoFar) (told : Told) (s : Shape ℕ) (go : List (Option Transition)) (next : Outline × Change) (r : Transition) (line : List ℕ) (state class states : ℕ) (entries entries' : List (ℕ × Outline)) → ChecksAt g entries states state told → length go ≡ class → class < class_count classes → NextBy g class s (Some next) → r.update ≡ next.1 → r.target < states → line ≡ go_line state class r.target next.1 → ReadsBytes a line b → ((x : Shape ℕ) → IsOfShape next.0 x → (after : List Target) × AreTargets g entries' after × MeetsTarget told.targets (target r.target x) after) → (after : List Target) × ChecksAt g entries' states state (record told { targets = after }) × Checks g numbers classes a (at_class told s go) (at_class (record told { targets = after }) s (go ++ Some r ∷ [])) b
  go_checks a b told s go next r line state class states entries entries' st e lt by up below is reads meet =
      let m = meet (shape_of by.1.tree) by.3 in
      let here : line ≡ go_line (length told.rows) (length go) r.target r.update = is ∙ ap₂ (λ i k. go_line i k r.target next.1) (sym st.of_state) (sym e) ∙ ap (λ u. go_line (length told.rows) (length go) r.target u) (sym up) in
      let q : Spot = at_class (record told { targets = m.0 }) s (go ++ Some r ∷ []) in
      let right : IsRightLine g numbers classes (at_class told s go) (go_line (length told.rows) (length go) r.target r.update) q = right_go r by.1 m.0 (omega (arith, e, lt)) (subst (λ k. (b : ℕ) → HasClass g k b → IsNext g b s (Some by.1)) (sym e) by.2) (subst (λ u. IsChange u by.1) (sym up) by.4) (omega (arith, below, st.states_are)) m.2 in (
        m.0,
        record { known = m.1; states_are = st.states_are; of_state = st.of_state },
        checks_line g numbers classes a b (at_class told s go) q line reads (subst (λ z. IsRightLine g numbers classes (at_class told s go) z q) (sym here) right),
      )

  -- such a line is not right
  pub go_breaks : HasClasses g.nodes classes → (a : ReadSoFar) (told : Told) (s : Shape ℕ) (go : List (Option Transition)) (next : Outline × Change) (state class states : ℕ) (entries : List (ℕ × Outline)) → ChecksAt g entries states state told → length go ≡ class → class < class_count classes → NextBy g class s (Some next) → ((t : ℕ) (x : Shape ℕ) (after : List Target) → t ≤ states - 1 → IsOfShape next.0 x → MeetsTarget told.targets (target t x) after → Begins a.rest (go_line state class t next.1) → ⊥) → (e : TableRefusal) → e ≡ BadTable (line_behind a.before) → BreaksReading g numbers classes a (at_class told s go) e
  go_breaks classed a told s go next state class states entries st e lt by none refusal is =
      subst (λ z. BreaksReading g numbers classes a (at_class told s go) z) (sym is)
      (breaks_go g numbers classes classed a told s go next (omega (arith, e, lt)) (subst (λ k. NextBy g k s (Some next)) (sym e) by)
      (λ t x after below shape meets begins. none t x after (omega (arith, below, st.states_are)) shape meets (subst (λ z. Begins a.rest z) (ap₂ (λ i k. go_line i k t next.1) st.of_state e) begins))
      (line_behind a.before) refl)

  -- a state's own line is right
  pub state_checks : (a b : ReadSoFar) (told : Told) (s : Shape ℕ) (line : List ℕ) (state states : ℕ) (entries : List (ℕ × Outline)) → ChecksAt g entries states state told → state < states → IsAmong told.targets (target state s) → line ≡ state_line numbers state s → ReadsBytes a line b → Checks g numbers classes a (at_state told) (behind_state told s told.rows) b
  state_checks a b told s line state states entries st lt i is reads =
      let right : IsRightLine g numbers classes (at_state told) (state_line numbers (length told.rows) s) (behind_state told s told.rows) = right_state s (omega (arith, lt, st.states_are, st.of_state)) (subst (λ k. IsAmong told.targets (target k s)) (sym st.of_state) i) in
      checks_line g numbers classes a b (at_state told) (behind_state told s told.rows) line reads (subst (λ z. IsRightLine g numbers classes (at_state told) z (behind_state told s told.rows)) (sym (is ∙ ap (λ k. state_line numbers k s) (sym st.of_state))) right)

  -- it isn't
  pub state_breaks : (a : ReadSoFar) (told : Told) (state states : ℕ) (entries : List (ℕ × Outline)) → ChecksAt g entries states state told → state < states → ((s : Shape ℕ) → IsAmong told.targets (target state s) → Begins a.rest (state_line numbers state s) → ⊥) → (e : TableRefusal) → e ≡ BadTable (line_behind a.before) → BreaksReading g numbers classes a (at_state told) e
  state_breaks a told state states entries st lt none refusal is =
      subst (λ z. BreaksReading g numbers classes a (at_state told) z) (sym is)
      (breaks_state g numbers classes a told (omega (arith, lt, st.states_are, st.of_state))
      (λ s i begins. none s (subst (λ k. IsAmong told.targets (target k s)) st.of_state i) (subst (λ z. Begins a.rest z) (ap (λ k. state_line numbers k s) st.of_state) begins))
      (line_behind a.before) refl)
