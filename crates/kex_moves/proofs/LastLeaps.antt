-- At the end of a text the table has said all, and the actor does what that does.
use Rattle.std.proofs.Common.{◌≡◌, ℕ, IsTrue, List, Some, refl, sym, ap, subst, ◌∙◌}
use Rattle.kex_action.specs.Actors.{Position, WentOn}
use Rattle.kex_action.specs.declared.sheet.Sheet.{Sheet}
use Rattle.kex_action.specs.Sheets.{IsBlank, state_with}
use Rattle.kex_sst.specs.Tables.{Transducer}
use Rattle.kex_sst.specs.Passes.{passes_if}
use Rattle.kex_sst.proofs.Passes.{passes_more}
use Rattle.kex_held.specs.Acts.{Act, after_acts}
use Rattle.kex_leaps.specs.Leaps.{IsLastLeap}
use Rattle.kex_moves.specs.Along.{EndsOn, with_sheet, written_with}
use Rattle.kex_moves.proofs.EdgeRuns.{takes_run}
use Rattle.kex_moves.proofs.SheetRuns.{blank_position, blank_written, moved}

-- the actor that has done the acts on a sheet, and has handed that on
pub ends_on : (t : Transducer) (a b c : Position) (s s' : Sheet) (q m : ℕ) (bs : List ℕ) (acts : List Act) (x y z : List ℕ) → IsLastLeap t a.machine.nodes q a.at bs acts m → IsBlank s → IsTrue a.usable → b.machine ≡ a.machine → b.refused ≡ a.refused → state_with s' y b.holding ≡ after_acts a.machine.nodes acts (state_with s x a.holding) → c ≡ with_sheet b m s' y → z ≡ written_with b s' y → EndsOn t a c q bs x z
ends_on t a b c s s' q m bs acts x y z l blank usable machine refused did at_end written = record {
  said = l.said;
  ended = λ w code e. let all = l.ended code in (all.0, passes_more t (Some _) w bs ∙ ap (λ o. passes_if t o bs) e ∙ all.1, all.2);
  went = λ given code out h run.
      let takes = takes_run a given code l.said out h run in
      let went = moved a b a.at m s s' x y (after_acts a.machine.nodes acts) machine refused did l.said (l.does.does takes.0 takes.1) in
      let from = subst (λ p. WentOn p (with_sheet b m s' y) l.said l.said (written_with a s x) (written_with b s' y)) (blank_position a a.at s x blank refl usable) went in
      let of = subst (λ u. WentOn a (with_sheet b m s' y) l.said l.said u (written_with b s' y)) (blank_written a s x blank) from in
      subst (λ p. WentOn a p l.said l.said x z) (sym at_end) (subst (λ u. WentOn a (with_sheet b m s' y) l.said l.said x u) (sym written) of);
}
