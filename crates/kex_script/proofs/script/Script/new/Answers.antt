use Rattle.std.proofs.Common.{◌≡◌, refl, subst, ◌∙◌}
use Rattle.kex_byteset.specs.Classes.{class_count}
use Rattle.kex_sst.specs.Tables.{IsTable}
use Rattle.kex_script.specs.declared.entries.StateEntries.{StateEntries}
use Rattle.kex_script.specs.Scripts.{Sheet}
use Rattle.kex_script.specs.Pages.{Pages, HasRow, AreStatesWritten}
use Rattle.kex_script.proofs.Pages.{has_kept}
use Rattle.kex_script.proofs.ScriptReads.{has_update, state_does}
use Rattle.kex_script.proofs.script.Script.new.Goals as goal

pub returns : goal.returns
returns c =
    let t = c.args.table.now in
    let p : Pages = c.write_states.new.self in
    let all : StateEntries = c.in_ok-states.states in
    let s : Sheet = record { words = c.finish-words.result.0.items; lists = c.finish-words.result.1.items; tails = c.finish-words.result.2.items; rows = c.finish-words.result.3.items; initial = c.in_ok-initial.initial; places = all.places.items; numbers = all.numbers.items; entries = all.entries.items } in
    let states : AreStatesWritten p all t.states = subst (λ z. AreStatesWritten p all z) c.states.ensures.same c.in_ok-states.ensures.states in
    let lists : s.lists ≡ p.lists = c.finish-words.ensures.lists ∙ c.in_ok-letters.ensures.same.0 in
    let rows : s.rows ≡ p.rows = c.finish-words.ensures.rows ∙ c.in_ok-letters.ensures.same.1 in
    let table : IsTable t = c.states.ensures.table in
    record {
      table = table;
      initial = has_update s p lists rows s.initial 0 t.initial (subst (λ z. HasRow p s.initial 0 z) c.initial.ensures.same (has_kept c.transition.new.self p s.initial 0 c.initial.result.now c.in_ok-states.ensures.grown c.in_ok-initial.ensures.entry));
      entries = state_does s p lists rows all t.states states refl refl refl (class_count t.classes) (λ i r at. (table.states i r at).long);
    }
