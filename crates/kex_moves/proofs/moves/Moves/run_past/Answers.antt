use Rattle.std.proofs.Common.{take, subst}
use Rattle.kex_moves.specs.Along.{RunsOn}
use Rattle.kex_moves.proofs.EdgeRuns.{runs_on}
use Rattle.kex_moves.proofs.moves.Moves.run_past.Goals as goal

pub returns-clause-runs : goal.returns-clause-runs
returns-clause-runs c =
    let ran = c.in_ok-ran.ran in
    let bs = take ran.count c.args.piece.now in
    subst (λ o. RunsOn o.table c.args.actor.now c.run_at.new.actor c.args.state ran.state bs c.args.out.now.items c.run_at.new.out.items) c.self.view_is (runs_on c.self.inside.primer.table.now c.args.actor.now c.run_at.new.actor c.args.state ran.state bs c.args.out.now.items c.run_at.new.out.items (c.in_ok-ran.ensures {u = tt}).goes)
