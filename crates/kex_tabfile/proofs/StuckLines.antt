-- Which line alone can come at a spot, and so where another breaks.
use Rattle.std.proofs.Common.{◌≡◌, ℕ, ◌<◌, ◌≤◌, List, ◌⊎◌, inl, inr, ⊎_elim, Option, Some, None, length, refl, sym, ap, ap₂, subst, ◌∙◌, arith}
use Rattle.kex_byteset.specs.Classes.{class_count}
use Rattle.kex_code.specs.Codes.{Begins, IsAmong}
use Rattle.kex_model.specs.Labelled.{Shape, shape_of, Grown}
use Rattle.kex_model.proofs.Tables.{some_same}
use Rattle.kex_machine.specs.Nodes.{Graph, HasClasses}
use Rattle.kex_sst.specs.declared.parts.Part.{Part}
use Rattle.kex_sst.specs.declared.table.Transition.{Transition}
use Rattle.kex_sst.specs.Parts.{Change}
use Rattle.kex_paths.specs.Nexts.{Outline, HasClass, IsChange, IsOfShape}
use Rattle.kex_paths.proofs.Sizes.{one_first, one_next}
use Rattle.kex_determine.proofs.Transitions.{class_met}
use Rattle.kex_tabfile.specs.Lines.{stage_line, state_line, init_line, go_line, line_behind}
use Rattle.kex_tabfile.specs.Readers.{ReadSoFar}
use Rattle.kex_tabfile.specs.Walks.{Target, Told, Spot, at_stage, at_state, at_init, at_class, MeetsTarget, GoesByClass, IsRightLine, right_stage, right_state, right_init, right_go, HasNoLine, class_over, state_over, most_table_states}
use Rattle.kex_tabfile.specs.Checking.{BeginsWith, BreaksReading, NextBy}
use Rattle.kex_tabfile.specs.declared.refusal.TableRefusal.TheVariants.{BadTable}
use Rattle.kex_tabfile.proofs.LineSteps.{breaks_here}
use Rattle.kex_tabfile.proofs.TableRows.{target}

pub same_change : (u v : Change) (a : Grown Part ℕ) → IsChange u a → IsChange v a → u ≡ v
same_change u v a h k = ap₂ (λ x y. let w : Change = record { out = x; regs = y } in w) (h.0 ∙ sym k.0) (h.1 ∙ sym k.1)

module _ (g : Graph) (numbers classes : List ℕ) where
  -- what a line that is right at a spot is
  abbrev OnlyLine : Spot → List ℕ → Type 0
  OnlyLine (at_stage stage) line = (n : ℕ) × (0 < n) × (n ≤ most_table_states) × (line ≡ stage_line stage (class_count classes) n)
  OnlyLine (at_state told) line = (s : Shape ℕ) × IsAmong told.targets (target (length told.rows) s) × (line ≡ state_line numbers (length told.rows) s)
  OnlyLine (at_init told s) line = (u : Change) × BeginsWith g u × (line ≡ init_line u)
  OnlyLine (at_class told s go) line = (r : Transition) × (a : Grown Part ℕ) × (after : List Target) × GoesByClass g (length go) s (Some a) × IsChange r.update a × (r.target < told.states) × MeetsTarget told.targets (target r.target (shape_of a.tree)) after × (line ≡ go_line (length told.rows) (length go) r.target r.update)

  only_line : (p : Spot) (line : List ℕ) (q : Spot) → IsRightLine g numbers classes p line q → OnlyLine p line
  only_line p line q (right_stage n a some few f) = (n, some, few, refl)
  only_line p line q (right_state s lt i) = (s, i, refl)
  only_line p line q (right_init u a f c) = (u, (a, f, c), refl)
  only_line p line q (right_go r a after lt by c below m) = (r, a, after, by, c, below, m, refl)

  -- where a spot is passed by without a line
  abbrev IsPassed : Spot → Type 0
  IsPassed (at_stage stage) = ⊥
  IsPassed (at_state told) = ⊥
  IsPassed (at_init told s) = ⊥
  IsPassed (at_class told s go) = GoesByClass g (length go) s None ⊎ (length go ≡ class_count classes)

  passed : (p q : Spot) → HasNoLine g numbers classes p q → IsPassed p
  passed p q (class_over lt by) = inl by
  passed p q (state_over e) = inr e

  -- ---- where a line breaks

  pub breaks_stage : (stage : ℕ) (a : ReadSoFar) → ((n : ℕ) → 0 < n → n ≤ most_table_states → Begins a.rest (stage_line stage (class_count classes) n) → ⊥) → (line : ℕ) → line ≡ line_behind a.before → BreaksReading g numbers classes a (at_stage stage) (BadTable line)
  breaks_stage stage a none line is = breaks_here g numbers classes a (at_stage stage) (λ q h. passed (at_stage stage) q h) (λ h. h) (λ l q h b. let o = only_line (at_stage stage) l q h in none o.0 o.1 o.2 (subst (λ z. Begins a.rest z) o.3 b)) line is

  pub breaks_state : (a : ReadSoFar) (told : Told) → length told.rows < told.states → ((s : Shape ℕ) → IsAmong told.targets (target (length told.rows) s) → Begins a.rest (state_line numbers (length told.rows) s) → ⊥) → (line : ℕ) → line ≡ line_behind a.before → BreaksReading g numbers classes a (at_state told) (BadTable line)
  breaks_state a told lt none line is = breaks_here g numbers classes a (at_state told) (λ q h. passed (at_state told) q h) (λ h. omega (arith, h, lt)) (λ l q h b. let o = only_line (at_state told) l q h in none o.0 o.1 (subst (λ z. Begins a.rest z) o.2 b)) line is

  pub breaks_init : (a : ReadSoFar) (told : Told) (s : Shape ℕ) (u : Change) → BeginsWith g u → (Begins a.rest (init_line u) → ⊥) → (line : ℕ) → line ≡ line_behind a.before → BreaksReading g numbers classes a (at_init told s) (BadTable line)
  breaks_init a told s u f none line is = breaks_here g numbers classes a (at_init told s) (λ q h. passed (at_init told s) q h) (λ h. h) (λ l q h b. let o = only_line (at_init told s) l q h in none (subst (λ z. Begins a.rest z) (o.2 ∙ ap init_line (same o.0 o.1)) b)) line is
    where
      same : (v : Change) → BeginsWith g v → v ≡ u
      same v k = same_change v u f.0 (subst (λ z. IsChange v z) (some_same k.0 f.0 (one_first g (Some k.0) (Some f.0) k.1 f.1)) k.2) f.2

  module _ (classed : HasClasses g.nodes classes) where
    -- with a class a tree goes on in one way
    pub one_way : (k : ℕ) → k < class_count classes → (s : Shape ℕ) (a b : Option (Grown Part ℕ)) → GoesByClass g k s a → GoesByClass g k s b → a ≡ b
    one_way k lt s a b h i =
        let m = class_met classes classed.refined.numbered k lt in
        let c : HasClass g k m.0 = (classes, classed, m.1, m.2) in
        one_next g m.0 s a b (h m.0 c) (i m.0 c)

    pub breaks_go : (a : ReadSoFar) (told : Told) (s : Shape ℕ) (go : List (Option Transition)) (next : Outline × Change) → length go < class_count classes → NextBy g (length go) s (Some next) → ((t : ℕ) (x : Shape ℕ) (after : List Target) → t < told.states → IsOfShape next.0 x → MeetsTarget told.targets (target t x) after → Begins a.rest (go_line (length told.rows) (length go) t next.1) → ⊥) → (line : ℕ) → line ≡ line_behind a.before → BreaksReading g numbers classes a (at_class told s go) (BadTable line)
    breaks_go a told s go next lt by none line is = breaks_here g numbers classes a (at_class told s go) has (λ h. h) stuck line is
      where
        has : (q : Spot) → HasNoLine g numbers classes (at_class told s go) q → ⊥
        has q h = ⊎_elim (λ n. let e : Some by.1 ≡ None = one_way (length go) lt s (Some by.1) None by.2 n in clash e) (λ e. omega (arith, e, lt)) (passed (at_class told s go) q h)
          where
            clash : Some by.1 ≡ None → ⊥
            clash e = cc

        stuck : (l : List ℕ) (q : Spot) → IsRightLine g numbers classes (at_class told s go) l q → Begins a.rest l → ⊥
        stuck l q h b =
            let o = only_line (at_class told s go) l q h in
            let same : o.1 ≡ by.1 = some_same o.1 by.1 (one_way (length go) lt s (Some o.1) (Some by.1) o.3 by.2) in
            let update : o.0.update ≡ next.1 = same_change o.0.update next.1 by.1 (subst (λ z. IsChange o.0.update z) same o.4) by.4 in
            none o.0.target (shape_of by.1.tree) o.2 o.5 by.3 (subst (λ z. MeetsTarget told.targets (target o.0.target (shape_of z.tree)) o.2) same o.6) (subst (λ z. Begins a.rest z) (o.7 ∙ ap (λ z. go_line (length told.rows) (length go) o.0.target z) update) b)
