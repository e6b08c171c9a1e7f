use Rattle.std.proofs.Common.{◌≡◌, ◌+◌, Some, length, sym, ap, subst, ◌∙◌, arith}
use Rattle.std.specs.Prelude.{slice_get}
use Rattle.std.proofs.lemmas.Option.{slice_get-get_or}
use Rattle.kex_byteset.specs.Classes.{class_count}
use Rattle.kex_cover.specs.Keeping.{AreBestRowsTo, AreBestTo, WhereLeft}
use Rattle.kex_cover.proofs.BestRows.{is_best_row, one_row}
use Rattle.kex_cover.proofs.LeftWays.{left_at, machine_of, many_lefts}
use Rattle.kex_cover.proofs.rows.rows_of.Goals as goal
use Rattle.kex_cover.proofs.rows.rows_of.Goals.{After-index-lefts-state}

here : (c : After-index-lefts-state) → slice_get c.args.lefts.now c.loop-state.state ≡ Some c.index-lefts-state.result
here c = slice_get-get_or c.args.lefts.now c.loop-state.state c.index-lefts-state.result (omega (arith, c.loop-state-test.true, ap length c.states-count.ensures.same, many_lefts c.args.machine.now c.args.table.now c.args.lefts.now c.requires.left)) ∙ ap (λ z. Some z) (sym c.index-lefts-state.is)

pub state_of-requires : goal.state_of-requires
state_of-requires c = machine_of c.args.machine.now c.args.table.now c.args.lefts.now c.requires.left c.loop-state.state c.index-lefts-state.result (here (goal.at.state_of-requires c).After-index-lefts-state)

pub loop-state-preserved : goal.loop-state-preserved
loop-state-preserved c =
    let top = (goal.at.loop-state-preserved c).After-index-lefts-state in
    let g = c.args.machine.now in
    let t = c.args.table.now in
    let lefts = c.args.lefts.now in
    let n = c.loop-state.state in
    let go = c.in_ok-go.go in
    let row = c.in_ok-row.row in
    let moved : WhereLeft g t lefts n (λ states s. AreBestTo g (class_count t.classes) t.classes states s go) =
    subst (λ z. WhereLeft z t lefts n (λ states s. AreBestTo z (class_count t.classes) t.classes states s go)) c.loop-state.invariant.workspace c.in_ok-go.ensures.does in
    record {
      rows = λ k. subst (λ z. AreBestRowsTo g (n + 1) t.classes k.left.states z) (sym c.in_ok-push.ensures.items)
          (one_row g t.classes k.left.states n c.loop-state.rows.items row (c.loop-state.invariant.rows k)
          (λ s at. is_best_row g t.classes k.left.states k.determined.classes.refined.numbered s go row (moved k s at) (c.in_ok-row.ensures s.left (left_at g t lefts k n s c.index-lefts-state.result at (here top)).1)));
      workspace = c.in_ok-go.ensures.workspace ∙ c.loop-state.invariant.workspace;
      long = c.in_ok-go.ensures.long ∙ c.loop-state.invariant.long;
    }

pub returns : goal.returns
returns c = record { rows = λ k. let end : c.loop-state.state ≡ length c.args.table.now.states = omega (arith, c.loop-state-test.false, c.loop-state.auto.state-end, ap length c.states-count.ensures.same) in subst (λ n. AreBestRowsTo c.args.machine.now n c.args.table.now.classes k.left.states c.loop-state.rows.items) end (c.loop-state.invariant.rows k) }
