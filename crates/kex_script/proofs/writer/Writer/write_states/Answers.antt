use Rattle.std.proofs.Common.{◌≡◌, ◌+◌, ◌∷◌, ◌++◌, [], take, sym, ap, subst, ◌∙◌}
use Rattle.std.proofs.lemmas.List.{take_more}
use Rattle.kex_sst.specs.Tables.{Row}
use Rattle.kex_script.specs.Pages.{AreStatesWritten}
use Rattle.kex_script.proofs.Pages.{grows_on}
use Rattle.kex_script.proofs.writer.Writer.write_states.Goals as goal

pub loop-state-preserved : goal.loop-state-preserved
loop-state-preserved c =
    let states = c.args.states.now in
    let i = c.loop-state.state-index in
    let s : Row = c.state-item.result in
    let whole : take i states ++ s ∷ [] ≡ take (i + 1) states = ap (λ z. take i states ++ z ∷ []) c.state-item.is ∙ sym (take_more states i s c.loop-state-test.true) in
    record {
      states = subst (λ z. AreStatesWritten c.write_state.new.self c.write_state.new.states z) whole (c.in_ok-write_state.ensures.states (take i states) s (sym c.go.ensures) c.loop-state.invariant.states);
      sound = c.in_ok-write_state.ensures.sound;
      grown = grows_on c.loop-state.invariant.grown c.in_ok-write_state.ensures.grown;
    }
