use Rattle.std.proofs.Common.{rules, ◌≡◌, ◌-◌, ◌<◌, get_or, length, ap, ◌∙◌, arith}
use Rattle.kex_pipe.specs.Waiting.{waiting_items}
use Rattle.kex_pipe.proofs.StandingOn.{waits-there}
use Rattle.kex_pipe.proofs.pipe.Pipe.count_waiting.Goals as goal

pub returns : goal.returns
returns g c =
    let seats = c.args.self.now.seats.items in
    let one = c.requires.from_one in
    let last = c.requires.to_last in
    let lt : c.args.i - 1 < length seats = omega (arith, one, last) in
    let seat = c.index.result.now in
    let is : seat ≡ get_or seats (c.args.i - 1) seat = search rules in
    c.count.ensures ∙ ap (λ s. length (waiting_items s.inbox)) is ∙ waits-there g.T.Turn seats (c.args.i - 1) seat lt
