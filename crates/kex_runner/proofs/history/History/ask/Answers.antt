use Rattle.std.proofs.Common.{false, ◌-◌, ◌++◌, [], length, get_or, sym, ap, refl, ◌∙◌, arith}
use Rattle.std.proofs.lemmas.Bool.{ltb-true}
use Rattle.std.proofs.lemmas.List.{get_or_read, length-map}
use Rattle.std.proofs.Math.ListN.{get_or-map}
use Rattle.kex_runner.specs.declared.history.NotedUpdate.{NotedUpdate}
use Rattle.kex_runner.specs.declared.history.reading.Reading.{Reading}
use Rattle.kex_runner.specs.Noting.{settled_of, spelled_back, update_of, updates_of}
use Rattle.kex_runner.proofs.Pieces.{spelled_back-append}
use Rattle.kex_runner.proofs.LookUps.{asked_settled, asked_before}
use Rattle.kex_runner.proofs.history.History.ask.Goals as goal

pub returns-in_ok-extend_from_slice : goal.returns-in_ok-extend_from_slice
returns-in_ok-extend_from_slice c =
    let s = c.args.self.now.script.now in
    let base = c.args.self.now.base.now in
    let old = c.args.reading.now in
    let new : Reading = record { pending = old.pending; back = c.extend_from_slice.new.self } in
    let at = get_or_read base c.args.register c.in-Some.settled.now (ltb-true c.args.register (length base) (sym c.in-Some.ensures.lookup.0)) c.in-Some.ensures.lookup.1 [] in
    let said = ap (λ z. spelled_back s.words z) (c.deref.ensures.value ∙ c.settled.view_is ∙ at) ∙ sym (get_or-map (λ ps. spelled_back s.words ps) base c.args.register []) in
    asked_settled s (settled_of s base) (updates_of s c.args.self.now.notes.now) old new c.args.after c.args.register c.if-after-eq0.true refl
    (ap (λ z. spelled_back s.words z) c.in_ok-extend_from_slice.ensures.items ∙ spelled_back-append s.words old.back.items c.deref.result.now ∙ ap (λ z. z ++ spelled_back s.words old.back.items) said) _

pub returns : goal.returns
returns c =
    let s = c.args.self.now.script.now in
    let notes = c.args.self.now.notes.now in
    let k = c.args.after - 1 in
    let none : NotedUpdate = record { update = 0; byte = 0; stays = false } in
    let note : NotedUpdate = get_or notes k none in
    asked_before s (settled_of s c.args.self.now.base.now) (updates_of s notes) c.args.reading.now c.args.after k c.args.register (update_of s none) (update_of s note) (record { list = c.given.result; after = k; byte = note.byte }) (omega (arith, c.if-after-eq0.false)) (omega (arith, c.requires, length-map notes (λ n. update_of s n))) (sym (get_or-map (λ n. update_of s n) notes k none)) refl refl c.given.ensures
