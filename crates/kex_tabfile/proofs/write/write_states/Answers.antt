use Rattle.std.proofs.Common.{◌≡◌, ◌+◌, ◌<◌, ◌++◌, Some, drop, take, length, get_or, refl, sym, ap, subst, ◌∙◌, arith}
use Rattle.std.specs.Prelude.{slice_get}
use Rattle.std.proofs.lemmas.Option.{slice_get_read}
use Rattle.kex_byteset.specs.Classes.{class_count}
use Rattle.kex_determine.specs.Determined.{MeetsInOrder, targets_of}
use Rattle.kex_tabfile.specs.Lines.{init_line, state_line}
use Rattle.kex_tabfile.specs.Writing.{AreTreesOf, EachGoesOn, goes_text, init_behind, states_text}
use Rattle.kex_tabfile.proofs.MetStates.{IsAtRow}
use Rattle.kex_tabfile.proofs.DeterminedRows.{row_met, next_row, init_first, init_later}
use Rattle.kex_tabfile.proofs.StateSteps.{states_more}
use Rattle.kex_tabfile.proofs.write.write_states.Goals as goal
use Rattle.kex_tabfile.proofs.write.write_states.Goals.{then-state-eq0+in_ok-push_init_line, else-state-eq0}

pub index-requires : goal.index-requires
index-requires c =
    let g = c.args.trees.now.workspace in
    let t = c.args.table.now in
    let d = c.requires.determined in
    let i = c.loop-state.state in
    let row = c.index-states-state.result in
    let lt : i < length t.states = omega (arith, c.loop-state-test.true, ap length c.states-states.ensures.same) in
    let at : slice_get t.states i ≡ Some row = slice_get_read t.states (length t.states) i row refl lt (subst (λ z. row ≡ get_or z i row) c.states-states.ensures.same c.index-states-state.is) in
    let so = c.loop-state.invariant.so_far d in
    omega (arith, row_met g t d i (length c.loop-state.trees.trees.items) row at so.1, c.loop-state.trees.trees.ok.0)

pub push_state_line-requires : goal.push_state_line-requires
push_state_line-requires c =
    let g = c.args.trees.now.workspace in
    let t = c.args.table.now in
    let d = c.requires.determined in
    let i = c.loop-state.state in
    let row = c.index-states-state.result in
    let trees = c.loop-state.trees.trees.items in
    let lt : i < length t.states = omega (arith, c.loop-state-test.true, ap length c.states-states.ensures.same) in
    let at : slice_get t.states i ≡ Some row = slice_get_read t.states (length t.states) i row refl lt (subst (λ z. row ≡ get_or z i row) c.states-states.ensures.same c.index-states-state.is) in
    let so = c.loop-state.invariant.so_far d in
    let tree = c.index.result.now in
    let there : slice_get trees i ≡ Some tree = slice_get_read trees (length trees) i tree refl (row_met g t d i (length trees) row at so.1) c.index.ensures in
    ap length c.deref.ensures.value ∙ ap (λ z. length z.items) c.loop-state.invariant.numbers ∙ c.requires.places ∙ ap (λ z. length z.nodes) (sym (c.loop-state.invariant.machine i tree there))

pub write_goes-requires : goal.write_goes-requires
write_goes-requires c =
    let t = c.args.table.now in
    let i = c.loop-state.state in
    let row = c.index-states-state.result in
    let lt : i < length t.states = omega (arith, c.loop-state-test.true, ap length c.states-states.ensures.same) in
    let at : slice_get t.states i ≡ Some row = slice_get_read t.states (length t.states) i row refl lt (subst (λ z. row ≡ get_or z i row) c.states-states.ensures.same c.index-states-state.is) in
    let x = c.states-states.ensures.table.states i row at in
    omega (arith, ap length c.go-go.ensures, x.long, c.classes-classes.ensures.count, ap class_count c.partition.ensures.same, c.classes-classes.ensures.within.1)

pub meet_all-requires-clause-state : goal.meet_all-requires-clause-state
meet_all-requires-clause-state c =
    let g = c.args.trees.now.workspace in
    let t = c.args.table.now in
    let d = c.requires.determined in
    let i = c.loop-state.state in
    let row = c.index-states-state.result in
    let lt : i < length t.states = omega (arith, c.loop-state-test.true, ap length c.states-states.ensures.same) in
    let at : slice_get t.states i ≡ Some row = slice_get_read t.states (length t.states) i row refl lt (subst (λ z. row ≡ get_or z i row) c.states-states.ensures.same c.index-states-state.is) in
    row_met g t d i (length c.loop-state.trees.trees.items) row at (c.loop-state.invariant.so_far d).1

pub meet_all-requires-clause-classes : goal.meet_all-requires-clause-classes
meet_all-requires-clause-classes c =
    let t = c.args.table.now in
    let i = c.loop-state.state in
    let row = c.index-states-state.result in
    let lt : i < length t.states = omega (arith, c.loop-state-test.true, ap length c.states-states.ensures.same) in
    let at : slice_get t.states i ≡ Some row = slice_get_read t.states (length t.states) i row refl lt (subst (λ z. row ≡ get_or z i row) c.states-states.ensures.same c.index-states-state.is) in
    let x = c.states-states.ensures.table.states i row at in
    omega (arith, ap length c.go-go.ensures, x.long, c.classes-classes.ensures.count, ap class_count c.partition.ensures.same, c.classes-classes.ensures.within.1)

-- after the first state's line comes that of the update
init_part : (c : goal.In_ok-meet_all) → c.if-state-eq0.out.items ≡ c.push_state_line.new.line.items ++ init_behind c.args.table.now.initial c.loop-state.state
init_part c =
    let u = c.args.table.now.initial in
    let i = c.loop-state.state in
    let line = c.push_state_line.new.line.items in
    elim c.if-state-eq0.branch [
      | then-state-eq0+in_ok-push_init_line w ↦ (ap (λ z. z.items) w.out-is ∙ w.in_ok-push_init_line.ensures ∙ ap (λ z. line ++ init_line z) w.initial.ensures.same ∙ init_first u i line w.if-state-eq0.true)
      | else-state-eq0 w ↦ (ap (λ z. z.items) w.out-is ∙ init_later u i line w.if-state-eq0.false)
    ]

pub loop-state-preserved : goal.loop-state-preserved
loop-state-preserved c =
    let g = c.args.trees.now.workspace in
    let t = c.args.table.now in
    let u = t.initial in
    let i = c.loop-state.state in
    let row = c.index-states-state.result in
    let trees = c.loop-state.trees.trees.items in
    let n = length trees in
    let inv = c.loop-state.invariant in
    let numbers = c.args.trees.now.numbers.items in
    let line = c.loop-state.out.items in
    let lt : i < length t.states = omega (arith, c.loop-state-test.true, ap length c.states-states.ensures.same) in
    let at : slice_get t.states i ≡ Some row = slice_get_read t.states (length t.states) i row refl lt (subst (λ z. row ≡ get_or z i row) c.states-states.ensures.same c.index-states-state.is) in
    let tree = c.index.result.now in
    record {
      numbers = c.in_ok-meet_all.ensures.kept.0 ∙ inv.numbers;
      workspace = c.in_ok-meet_all.ensures.kept.1 ∙ inv.workspace;
      machine = subst (λ z. AreTreesOf z c.meet_all.new.self.trees.items) inv.workspace c.in_ok-meet_all.ensures.machine;
      so_far = λ d.
          let so = inv.so_far d in
          let there : slice_get trees i ≡ Some tree = slice_get_read trees n i tree refl (row_met g t d i n row at so.1) c.index.ensures in
          let own = so.0 i tree there in
          let s = own.0 in
          let x = next_row g t d i n row s at own.1 so.1 in
          let leads = subst (λ z. EachGoesOn z d.shapes s c.go-go.result.now) (sym inv.workspace) (subst (λ z. EachGoesOn g d.shapes s z) (sym c.go-go.ensures) x.leads) in
          let order = subst (λ z. MeetsInOrder n (targets_of z) x.met) (sym c.go-go.ensures) x.order in
          let met = c.in_ok-meet_all.ensures.met d.shapes s x.met so.0 own.1 leads order in
          let state_part : c.push_state_line.new.line.items ≡ line ++ state_line numbers i s = c.in_ok-push_state_line.ensures s own.2 ∙ ap (λ z. line ++ state_line z i s) (c.deref.ensures.value ∙ ap (λ z. z.items) inv.numbers) in
          let written : c.write_goes.new.out.items ≡ ((line ++ state_line numbers i s) ++ init_behind u i) ++ goes_text i 0 row.go = c.in_ok-write_goes.ensures ∙ ap (λ z. c.if-state-eq0.out.items ++ goes_text i 0 z) c.go-go.ensures ∙ ap (λ z. z ++ goes_text i 0 row.go) (init_part c ∙ ap (λ z. z ++ init_behind u i) state_part) in
          let more = states_text numbers u (i + 1) (drop (i + 1) d.shapes) (drop (i + 1) t.states) in (
            met.0,
            subst (λ k. IsAtRow g t d (take (i + 1) t.states) (drop (i + 1) t.states) k) (sym met.1) x.passed,
            ap (λ z. z ++ more) written ∙ sym (states_more numbers u d.shapes t.states i s row line own.1 at) ∙ so.2,
          );
    }
