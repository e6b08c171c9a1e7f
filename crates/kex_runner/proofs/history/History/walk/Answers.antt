use Rattle.std.proofs.Common.{false, ◌-◌, get_or, drop, refl, sym, subst, arith}
use Rattle.std.specs.Prelude.{IfSome}
use Rattle.std.proofs.Math.ListN.{get_or-map}
use Rattle.kex_runner.specs.declared.history.NotedUpdate.{NotedUpdate}
use Rattle.kex_runner.specs.declared.history.walking.WalkPoint.{WalkPoint}
use Rattle.kex_runner.specs.Noting.{update_of, updates_of}
use Rattle.kex_runner.specs.Ways.{IsWayStep}
use Rattle.kex_runner.proofs.WayLemmas.{walked_on}
use Rattle.kex_runner.proofs.history.History.walk.Goals as goal

pub notes-preserved : goal.notes-preserved
notes-preserved c =
    let s = c.args.self.now.script.now in
    let notes = c.args.self.now.notes.now in
    let p = c.notes.place in
    let k = p.after - 1 in
    let none : NotedUpdate = record { update = 0; byte = 0; stays = false } in
    let note : NotedUpdate = get_or notes k none in
    let split = c.in-Some.split in
    let start = c.say-start.result in
    let next : WalkPoint = record { way = split.way; last = split.last; after = k; start = start } in
    let ways' = c.step.new.self.lists in
    let step : IsWayStep s ways' p.way note.update split = subst (λ z. IfSome z (λ x. IsWayStep s ways' p.way note.update x)) c.in-Some.is c.in_ok-split.ensures.step in
    record {
      known = c.in_ok-split.ensures.known;
      way = (step.split.front, step.split.way);
      after = omega (arith, c.notes.invariant.after);
      room = omega (arith, c.notes.invariant.room, c.say-start.ensures.one);
      within = omega (arith, c.notes.invariant.within, c.say-start.ensures.before, c.say-start.ensures.length);
      walked = λ from x h. walked_on s c.notes.ways.lists ways' (updates_of s notes) from p next note.update split (update_of s none) (update_of s note) x (drop p.start c.notes.room) (drop start c.say-start.new.room) c.in_ok-split.ensures.kept (omega (arith, c.notes-test.true)) refl (sym (get_or-map (λ n. update_of s n) notes k none)) refl step c.say-start.ensures.said (c.notes.invariant.walked from x h);
    }
