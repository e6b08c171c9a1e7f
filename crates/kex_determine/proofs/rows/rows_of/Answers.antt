use Rattle.std.proofs.Common.{◌≡◌, ℕ, Some, length, ap, sym, subst, ◌∙◌, arith}
use Rattle.std.specs.Prelude.{slice_get}
use Rattle.kex_model.specs.Labelled.{Shape}
use Rattle.kex_determine.specs.Filling.{IsFilled}
use Rattle.kex_determine.specs.Numbering.{Refuses, HasMoreFound}
use Rattle.kex_determine.proofs.StateRows.{next_state, fill_more}
use Rattle.kex_determine.proofs.Transitions.{err_as, refuses_as}
use Rattle.kex_determine.proofs.rows.rows_of.Goals as goal
use Rattle.kex_determine.proofs.rows.rows_of.Goals.{After-len-in-states-2}

-- the state whose row is next
next : (c : After-len-in-states-2) → (s : Shape ℕ) × (slice_get c.states.invariant.filled.shapes (length c.states.rows.items) ≡ Some s)
next c = next_state c.args.machine.now c.args.partition.now c.states.states.keys.keys c.states.states.trees.items c.states.rows.items c.states.invariant.filled (omega (arith, c.states-test.true, c.len.ensures, c.len-in-states.ensures, c.states.rows.ok.0))

next_at : (c : After-len-in-states-2) → slice_get c.states.invariant.filled.shapes c.len-in-states-2.result ≡ Some (next c).0
next_at c = ap (λ i. slice_get c.states.invariant.filled.shapes i) (omega (arith, c.len-in-states-2.ensures, c.states.rows.ok.0)) ∙ (next c).1

pub state_of-requires-clause-known : goal.state_of-requires-clause-known
state_of-requires-clause-known c =
    let top = (goal.at.state_of-requires-clause-known c).After-len-in-states-2 in
    (c.states.invariant.filled.shapes, (next top).0, c.states.invariant.filled.numbered, next_at top)

pub returns-in_err-row-clause-err : goal.returns-in_err-row-clause-err
returns-in_err-row-clause-err c =
    let top = (goal.at.returns-in_err-row-clause-err c).After-len-in-states-2 in
    let more : Refuses c.states.states.most (HasMoreFound c.args.machine.now c.states.states.most) c.in_err-row.field-0.0 =
    refuses_as c.states.states.most _ _ c.in_err-row.field-0.0 (λ h. h c.states.invariant.filled.shapes (next top).0 c.states.invariant.filled.numbered (next_at top)) c.in_err-row.ensures.err in
    err_as _ c.from_residual.result c.in_err-row.field-0.0 c.from_residual.ensures.1 (subst (λ m. Refuses m (HasMoreFound c.args.machine.now m) c.in_err-row.field-0.0) c.states.invariant.most more)

pub states-preserved : goal.states-preserved
states-preserved c =
    let top = (goal.at.states-preserved c).After-len-in-states-2 in
    let f = c.states.invariant.filled in
    let w = c.in_ok-row.ensures.ok f.shapes (next top).0 f.numbered (next_at top) in
    record {
      filled = subst (λ z. IsFilled c.args.machine.now c.args.partition.now c.state_of.new.states.keys.keys c.state_of.new.states.trees.items z) (sym c.in_ok-push.ensures.items)
          (fill_more c.args.machine.now c.args.partition.now c.states.states.keys.keys c.state_of.new.states.keys.keys c.states.states.trees.items c.state_of.new.states.trees.items c.states.rows.items c.in_ok-row.row f (next top).0 w.0 (next top).1 w.1);
      workspace = c.in_ok-row.ensures.workspace;
      most = c.in_ok-row.ensures.most ∙ c.states.invariant.most;
      room = omega (arith, c.in_ok-row.ensures.within, c.in_ok-row.ensures.most);
    }
