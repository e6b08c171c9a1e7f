use Rattle.std.proofs.Common.{◌≡◌, ◌+◌, ◌++◌, [], Some, sym, ap, ◌∙◌, subst}
use Rattle.kex_sst.specs.Passes.{passes}
use Rattle.kex_script.specs.Pieces.{code_over}
use Rattle.kex_runner.specs.Noting.{contents}
use Rattle.kex_runner.specs.Following.{pass_at}
use Rattle.kex_runner.specs.Running.{Running, IsRunOf}
use Rattle.kex_runner.proofs.FedRunners.{jumps}
use Rattle.kex_runner.proofs.runner.Runner.jump.Goals as goal

pub returns-clause-stands : goal.returns-clause-stands
returns-clause-stands c = λ w v d e s count p.
    let script = c.self.inside.guide.script in
    let r : Running = record { table = c.self.inside.table.now; words = script.words; state = c.self.inside.place.state; pending = code_over script.words c.self.inside.pending.items; registers = contents script c.self.inside.place.registers; read = c.self.inside.read; dead = c.self.inside.dead; ended = c.self.inside.ended; usable = c.self.inside.usable } in
    let n : Running = record r { state = c.args.state; registers = contents script c.clear.new.self; read = c.self.inside.read + c.args.bytes } in
    subst (λ z. IsRunOf z w d → passes z.table (w ++ v) ≡ Some (pass_at c.args.state (d ++ e) []) → IsRunOf n (w ++ v) (d ++ e)) c.self.view_is
    (λ s p. subst (λ z. IsRunOf (record n { registers = z }) (w ++ v) (d ++ e)) (sym (c.clear.ensures.none script)) (jumps r c.args.state c.args.bytes w v d e (ap (λ z. z.pending) c.self.view_is ∙ c.requires.told) s count p)) s p
