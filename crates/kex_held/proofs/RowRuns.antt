-- Along an edge of rows the table and the actor go on together.
use Rattle.std.proofs.Common.{◌≡◌, ℕ, List, [], ◌∷◌, ◌++◌, Some, sym, subst}
use Rattle.std.specs.Prelude.{slice_get}
use Rattle.kex_code.specs.declared.symbol.Symbol.{Symbol}
use Rattle.kex_action.specs.Holdings.{LeadsByCode, Does}
use Rattle.kex_action.specs.Actors.{Position, WentOn}
use Rattle.kex_sst.specs.Tables.{Transducer}
use Rattle.kex_held.specs.Walks.{TakesCode}
use Rattle.kex_held.specs.Acts.{after_acts}
use Rattle.kex_held.specs.TreeEdges.{AreHeld}
use Rattle.kex_held.specs.HeldRuns.{GoesHeld}
use Rattle.kex_held.specs.Slices.{acts_over, edge_points, marks_by}
use Rattle.kex_held.specs.HeldRows.{HeldRow, state_over, FitsWindow, RowEdge, IsRightAt}
use Rattle.kex_held.proofs.HeldRows.{row_on}

-- where the actor does what goes to the output
pub goes_row : (t : Transducer) (old new : Position) (r : HeldRow) (class : ℕ) (e : RowEdge) (w marks : List ℕ) (b : ℕ) (regs : List (List Symbol)) (xs ys : List ℕ) → slice_get t.classes b ≡ Some class → IsRightAt t old.machine.nodes r class e → FitsWindow w marks r → AreHeld old.machine.nodes (state_over w marks r).edges regs → old.at ≡ r.node → new.at ≡ e.to.node → new.machine ≡ old.machine → ((d : List Symbol) → Does old.machine.nodes old.at d new.at (after_acts old.machine.nodes (acts_over (w ++ b ∷ []) (edge_points w marks) e.outs)) → WentOn old new d d xs ys) → GoesHeld t old new (state_over w marks r) (state_over (w ++ b ∷ []) (marks_by (edge_points w marks) e.keep) e.to) regs (b ∷ []) xs ys
goes_row t old new r class e w marks b regs xs ys is right fits held from to machine did =
    let one = row_on t old.machine.nodes r class e w marks b regs is right fits held in
    let f = after_acts old.machine.nodes (acts_over (w ++ b ∷ []) (edge_points w marks) e.outs) in
    let here : (x : List Symbol) → TakesCode old.machine.nodes old.at (one.said ++ x) → TakesCode old.machine.nodes r.node (one.said ++ x) = λ x takes. subst (λ n. TakesCode old.machine.nodes n (one.said ++ x)) from takes in
    record {
      said = one.said;
      registers = one.registers;
      passed = one.passed;
      held = one.held;
      went = λ x takes. did one.said (λ s. subst (λ n. LeadsByCode old.machine.nodes old.at s one.said n (f s)) (sym to) (subst (λ n. LeadsByCode old.machine.nodes n s one.said e.to.node (f s)) (sym from) (one.spells.does x (here x takes) s)));
      takes = λ x takes. subst (λ m. TakesCode m.nodes new.at x) (sym machine) (subst (λ n. TakesCode old.machine.nodes n x) (sym to) (one.spells.takes x (here x takes)));
    }
