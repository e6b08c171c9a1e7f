use Rattle.std.proofs.Common.{arith}
use Rattle.std.proofs.lemmas.List.{length-map}
use Rattle.std.proofs.lemmas.Result.{IfOk-weaker}
use Rattle.kex_runner.specs.declared.history.reading.Reading.{Reading}
use Rattle.kex_runner.specs.Noting.{settled_of, update_of, updates_of}
use Rattle.kex_runner.proofs.LookUps.{read_on}
use Rattle.kex_runner.proofs.history.History.read_end.Goals as goal

pub returns : goal.returns
returns c =
    let s = c.args.self.now.script.now in
    let notes = c.args.self.now.notes.now in
    let old = c.args.reading.now in
    let mid : Reading = record { pending = c.keep.new.pending; back = c.say.new.back } in
    IfOk-weaker c.ask_if.result _ _ (λ next h. read_on s (settled_of s c.args.self.now.base.now) (updates_of s notes) c.args.unread c.args.tail mid c.ask_if.new.reading old.pending.items old.back.items next c.requires.empty c.requires.tail (omega (arith, c.requires.after, length-map notes (λ n. update_of s n))) c.in_ok-say.ensures c.in_ok-keep.ensures h) c.ask_if.ensures
