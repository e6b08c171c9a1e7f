use Rattle.std.proofs.Common.{◌≢◌, ◌-◌, ◌<◌, ◌∙◌, false, IfSome, get_or, drop, length, refl, sym, subst, arith}
use Rattle.std.proofs.Math.ListN.{get_or-map}
use Rattle.std.proofs.lemmas.Option.{slice_get-get_or}
use Rattle.kex_runner.specs.declared.history.NotedUpdate.{NotedUpdate}
use Rattle.kex_runner.specs.declared.history.walking.WalkPoint.{WalkPoint}
use Rattle.kex_runner.specs.Noting.{update_of, updates_of}
use Rattle.kex_runner.specs.Ways.{IsWayStep}
use Rattle.kex_runner.proofs.WayLemmas.{walked_on}
use Rattle.kex_runner.proofs.history.walking.stay.Goals as goal

pub notes-preserved : goal.notes-preserved
notes-preserved c =
    let notes = c.args.notes.now in
    let p = c.notes.place in
    let k = p.after - 1 in
    let none : NotedUpdate = record { update = 0; byte = 0; stays = false } in
    let note : NotedUpdate = get_or notes k none in
    let split = c.args.split in
    let start = c.say-start.result in
    let next : WalkPoint = record { way = p.way; last = p.last; after = k; start = start } in
    record {
      after = omega (arith, c.notes.invariant.after);
      room = omega (arith, c.notes.invariant.room, c.say-start.ensures.one);
      within = omega (arith, c.notes.invariant.within, c.say-start.ensures.before, c.say-start.ensures.length);
      way = c.notes.invariant.way;
      walked = λ s ways from behind same step h.
          let here : IsWayStep s ways p.way note.update split = subst (λ z. IsWayStep s ways z note.update split) (sym c.notes.invariant.way) (subst (λ z. IsWayStep s ways c.args.first.way z split) (sym c.if-note-update.false) step) in
          walked_on s ways ways (updates_of s notes) from p next note.update split (update_of s none) (update_of s note) behind (drop p.start c.notes.room) (drop start c.say-start.new.room) (λ k x e. e) (omega (arith, c.notes-test.true)) (c.notes.invariant.way ∙ sym same) (sym (get_or-map (λ n. update_of s n) notes k none)) refl here c.say-start.ensures.said (c.notes.invariant.walked s ways from behind same step h);
    }

pub returns-then-note-update-clause-other : goal.returns-then-note-update-clause-other
returns-then-note-update-clause-other c some =
    let notes = c.args.notes.now in
    let k = c.notes.place.after - 1 in
    let within : k < length notes = omega (arith, c.notes.invariant.after, c.requires.after, some) in
    subst (λ o. IfSome o (λ (n : NotedUpdate). n.update ≢ c.args.update)) (sym (slice_get-get_or notes k (record { update = 0; byte = 0; stays = false }) within)) c.if-note-update.true
