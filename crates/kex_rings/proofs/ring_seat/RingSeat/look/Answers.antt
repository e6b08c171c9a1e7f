use Rattle.std.proofs.Common.{rules}
use Rattle.kex_rings.specs.Looking.{Looks, TakesIn}
use Rattle.kex_rings.proofs.Looks.{only-sent, sent-and-taken}
use Rattle.kex_rings.proofs.SentItems.{if-ok}
use Rattle.kex_rings.proofs.ring_seat.RingSeat.look.Goals as goal

pub returns-then-not-send_on-clause-looks : goal.returns-then-not-send_on-clause-looks
returns-then-not-send_on-clause-looks g c = only-sent g.T.Turn c.args.room c.args.self.now c.send_on.new.self c.send_on.ensures.sends (λ none. let yes = c.send_on.ensures.all.1 none in absurd (search rules))

pub returns-clause-looks : goal.returns-clause-looks
returns-clause-looks g c = if-ok c.take_in.result (λ count. TakesIn g.T.Turn c.args.room c.send_on.new.self c.take_in.new.self count) (λ count. Looks g.T.Turn c.args.room c.args.self.now c.take_in.new.self count)
    (λ count takes. sent-and-taken g.T.Turn c.args.room c.args.self.now c.send_on.new.self c.take_in.new.self count c.send_on.ensures.sends (c.send_on.ensures.all.0 (search rules)) takes) c.take_in.ensures.takes
