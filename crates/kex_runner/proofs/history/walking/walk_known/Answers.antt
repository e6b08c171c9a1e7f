use Rattle.std.proofs.Common.{◌≡◌, ◌∙◌, false, true≢false, ◌-◌, List, All, get_or, drop, refl, sym, subst, arith}
use Rattle.std.specs.Prelude.{IfSome}
use Rattle.std.proofs.Math.ListN.{get_or-map}
use Rattle.kex_sst.specs.declared.parts.Part.{Part}
use Rattle.kex_script.specs.Scripts.{Sheet}
use Rattle.kex_runner.specs.declared.history.NotedUpdate.{NotedUpdate}
use Rattle.kex_runner.specs.declared.history.walking.WalkPoint.{WalkPoint}
use Rattle.kex_runner.specs.Noting.{update_of, updates_of}
use Rattle.kex_runner.specs.Ways.{IsWayStep, IsStepIf}
use Rattle.kex_runner.proofs.WayLemmas.{walked_on}
use Rattle.kex_runner.proofs.history.walking.walk_known.Goals as goal
use Rattle.kex_runner.proofs.history.walking.walk_known.Goals.{then-note, else-note}

pub notes-preserved : goal.notes-preserved
notes-preserved c =
    let notes = c.args.notes.now in
    let p = c.notes.place in
    let k = p.after - 1 in
    let none : NotedUpdate = record { update = 0; byte = 0; stays = false } in
    let note : NotedUpdate = get_or notes k none in
    let split = c.in-Some.split in
    let start = c.say-start.result in
    let next : WalkPoint = record { way = split.way; last = split.last; after = k; start = start } in
    record {
      after = omega (arith, c.notes.invariant.after);
      room = omega (arith, c.notes.invariant.room, c.say-start.ensures.one);
      within = omega (arith, c.notes.invariant.within, c.say-start.ensures.before, c.say-start.ensures.length);
      walked = λ s ways from behind known h.
          let step : IsWayStep s ways p.way note.update split = subst (λ z. IfSome z (λ x. (s : Sheet) (ways : List (List Part)) → All (IsStepIf s ways) c.args.steps.now → IsWayStep s ways p.way note.update x)) c.in-Some.is c.known_step.ensures s ways known in
          walked_on s ways ways (updates_of s notes) from p next note.update split (update_of s none) (update_of s note) behind (drop p.start c.notes.room) (drop start c.say-start.new.room) (λ k x e. e) (omega (arith, c.notes-test.true)) refl (sym (get_or-map (λ n. update_of s n) notes k none)) refl step c.say-start.ensures.said (c.notes.invariant.walked s ways from behind known h);
    }

pub notes-preserved-then-stays : goal.notes-preserved-then-stays
notes-preserved-then-stays c =
    let notes = c.args.notes.now in
    let p = c.notes.place in
    let k = p.after - 1 in
    let none : NotedUpdate = record { update = 0; byte = 0; stays = false } in
    let note : NotedUpdate = get_or notes k none in
    let split = c.in-Some.split in
    let start = c.say-start.result in
    let next : WalkPoint = record { way = split.way; last = split.last; after = k; start = start } in
    let same : split.way ≡ p.way = elim c.if-note.branch [ then-note w ↦ omega arith | else-note w ↦ absurd (true≢false (sym c.if-stays.true ∙ w.stays-is ∙ w.if-note.false)) ] in
    record {
      after = omega (arith, c.stay-place.ensures.after, c.notes.invariant.after);
      room = c.stay-place.ensures.room;
      within = c.stay-place.ensures.within;
      walked = λ s ways from behind known h.
          let step : IsWayStep s ways p.way note.update split = subst (λ z. IfSome z (λ x. (s : Sheet) (ways : List (List Part)) → All (IsStepIf s ways) c.args.steps.now → IsWayStep s ways p.way note.update x)) c.in-Some.is c.known_step.ensures s ways known in
          let first = walked_on s ways ways (updates_of s notes) from p next note.update split (update_of s none) (update_of s note) behind (drop p.start c.notes.room) (drop start c.say-start.new.room) (λ k x e. e) (omega (arith, c.notes-test.true)) refl (sym (get_or-map (λ n. update_of s n) notes k none)) refl step c.say-start.ensures.said (c.notes.invariant.walked s ways from behind known h) in
          c.stay-place.ensures.walked s ways from behind refl (subst (λ z. IsWayStep s ways z note.update split) (sym same) step) first;
    }
