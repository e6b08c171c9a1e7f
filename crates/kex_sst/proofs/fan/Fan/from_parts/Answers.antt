use Rattle.std.proofs.Common.{sym, arith}
use Rattle.kex_sst.proofs.Fans.{fan_own}
use Rattle.kex_sst.proofs.fan.Fan.from_parts.Goals as goal

pub returns-then-are_own : goal.returns-then-are_own
returns-then-are_own c =
    let different = c.args.different in
    sym
    (fan_own c.args.classes c.args.numbers.now different.items
    (omega (arith, c.from-count.ensures, c.if-len-count.true, c.len.ensures, different.ok.0))
    (λ k lt. c.are_own.ensures c.if-are_own.true k (omega (arith, lt, c.from-count.ensures, c.if-numbers-count.true))))
