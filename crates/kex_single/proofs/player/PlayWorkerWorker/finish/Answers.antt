use Rattle.std.proofs.Common.{◌≡◌}
use Rattle.kex_single.proofs.Players.{play_ends, took_nothing}
use Rattle.kex_single.proofs.player.PlayWorkerWorker.finish.Goals as goal

pub returns-clause-ends : goal.returns-clause-ends
returns-clause-ends c = λ w text follows.
    let s = c.args.self.now in
    let g = s.actor.machine in
    let m1 : c.perform.new.actor.machine ≡ g = c.in_ok-perform.ensures.machine in
    let took = took_nothing c.in_ok-perform.field-0 s.actor c.perform.new.actor c.args.out.now.items c.perform.new.out.items c.in_ok-perform.ensures.performs c.in_ok-perform.ensures.within in
    play_ends g s.reader s.actor c.perform.new.actor s.size w text follows m1 c.args.out.now.items c.perform.new.out.items took c.is_whole.result c.is_whole.ensures
