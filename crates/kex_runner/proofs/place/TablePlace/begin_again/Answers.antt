use Rattle.std.proofs.Common.{◌≡◌, ◌++◌, [], sym, ap, subst, ◌∙◌}
use Rattle.kex_sst.specs.Parts.{parts_code}
use Rattle.kex_sst.specs.Passes.{first_pass}
use Rattle.kex_script.specs.Pieces.{code_over}
use Rattle.kex_script.specs.Scripts.{HasUpdate, change_at}
use Rattle.kex_runner.specs.Noting.{contents, next_registers}
use Rattle.kex_runner.specs.Following.{IsTablePlace}
use Rattle.kex_runner.proofs.Beginnings.{out_plain, regs_plain}
use Rattle.kex_runner.proofs.Notes.{meant_fresh, registers_fresh}
use Rattle.kex_runner.proofs.ByteSteps.{place_begun}
use Rattle.kex_runner.proofs.ScriptSteps.{begins}
use Rattle.kex_runner.proofs.place.TablePlace.begin_again.Goals as goal
use Rattle.kex_runner.proofs.place.TablePlace.begin_again.Goals.{In_ok-take}

pub take-requires-clause-entry : goal.take-requires-clause-entry
take-requires-clause-entry c =
    let s = c.args.script.now in
    subst (λ z. HasUpdate s z z.target (change_at s z.update)) (sym c.initial.ensures) (begins s c.args.table.now c.requires.script)

begun_registers : (c : In_ok-take) → contents c.args.script.now c.take.new.self ≡ (first_pass c.args.table.now.initial).registers
begun_registers c =
    let s = c.args.script.now in
    let t = c.args.table.now in
    let held = contents s c.args.self.now.registers in
    c.in_ok-take.ensures.registers
    ∙ ap (λ z. next_registers (change_at s z.update) 0 held) c.initial.ensures
    ∙ ap (λ z. next_registers z 0 held) c.requires.script.initial.update
    ∙ registers_fresh t.initial.regs 0 held [] (regs_plain t.initial c.requires.script.table.puts)

pub returns-clause-registers : goal.returns-clause-registers
returns-clause-registers c = begun_registers (goal.at.returns-clause-registers c).In_ok-take

pub returns-clause-code : goal.returns-clause-code
returns-clause-code c =
    let s = c.args.script.now in
    let t = c.args.table.now in
    let held = contents s c.args.self.now.registers in
    c.in_ok-take.ensures.pieces
    ∙ ap (λ z. code_over s.words z ++ parts_code held 0 (change_at s c.initial.result.update).out) c.clear.ensures.items
    ∙ ap (λ z. parts_code held 0 (change_at s z.update).out) c.initial.ensures
    ∙ ap (λ z. parts_code held 0 z.out) c.requires.script.initial.update
    ∙ meant_fresh held [] 0 t.initial.out (out_plain t.initial c.requires.script.table.puts)

pub returns-clause-runner : goal.returns-clause-runner
returns-clause-runner c =
    let t = c.args.table.now in
    record {
      sound = record { table = c.requires.script.table; place = subst (λ z. IsTablePlace t 0 z) (sym (begun_registers (goal.at.returns-clause-runner c).In_ok-take)) (place_begun t c.requires.script.table) };
      script = c.requires.script;
      counted = c.take.ensures.counted;
    }
