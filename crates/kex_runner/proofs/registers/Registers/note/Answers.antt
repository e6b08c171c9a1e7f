use Rattle.std.proofs.Common.{false, ◌≡◌, [], length, ap, ap₂, sym, ◌∙◌}
use Rattle.std.proofs.lemmas.List.{length-map, map_push}
use Rattle.kex_sst.specs.Parts.{parts_code}
use Rattle.kex_script.specs.Scripts.{change_at}
use Rattle.kex_runner.specs.declared.history.NotedUpdate.{NotedUpdate}
use Rattle.kex_runner.specs.Noting.{contents, next_registers, registers_after, settled_of, update_of, updates_of}
use Rattle.kex_runner.proofs.Notes.{registers_push, registers_fresh}
use Rattle.kex_runner.proofs.registers.Registers.note.Goals as goal
use Rattle.kex_runner.proofs.registers.Registers.note.Goals.{In_ok-push}

pub returns-then-entry-clause-registers : goal.returns-then-entry-clause-registers
returns-then-entry-clause-registers c =
    let s = c.args.script.now in
    ap₂ (λ x y. registers_after (settled_of s x) (updates_of s y)) c.cut.ensures.base c.cut.ensures.notes
    ∙ registers_fresh (change_at s c.args.entry.update).regs c.args.byte [] (contents s c.args.self.now) (c.requires.entry.fresh c.if-entry.true)

noted : (c : In_ok-push) → registers_after (settled_of c.args.script.now c.make_room.new.self.base.items) (updates_of c.args.script.now c.push.new.notes.items) ≡ next_registers (change_at c.args.script.now c.args.entry.update) c.args.byte (contents c.args.script.now c.args.self.now)
noted c =
    let s = c.args.script.now in
    let r = c.make_room.new.self in
    let note : NotedUpdate = record { update = c.args.entry.update; byte = c.args.byte; stays = false } in
    ap (λ z. registers_after (settled_of s r.base.items) z) (ap (λ z. updates_of s z) c.in_ok-push.ensures.ok ∙ map_push (λ n. update_of s n) r.notes.items note)
    ∙ registers_push (settled_of s r.base.items) (updates_of s r.notes.items) (update_of s note)
    ∙ ap (λ z. next_registers (change_at s c.args.entry.update) c.args.byte z) c.make_room.ensures.same

pub returns-else-entry-clause-registers : goal.returns-else-entry-clause-registers
returns-else-entry-clause-registers c = noted (goal.at.returns-else-entry-clause-registers c).In_ok-push

pub returns-else-entry-clause-counted : goal.returns-else-entry-clause-counted
returns-else-entry-clause-counted c =
    let s = c.args.script.now in
    c.requires.entry.registers ∙ sym (ap length (noted (goal.at.returns-else-entry-clause-counted c).In_ok-push) ∙ length-map (change_at s c.args.entry.update).regs (λ xs. parts_code (contents s c.args.self.now) c.args.byte xs))
