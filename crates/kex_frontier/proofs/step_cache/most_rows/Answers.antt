use Rattle.std.proofs.Common.{◌≤◌, ◌/◌, ◌+◌, arith}
use Rattle.std.proofs.Math.Nat.{div-mul-le_self, mul-le-mul_right}
use Rattle.kex_frontier.proofs.step_cache.most_rows.Goals as goal

pub returns-clause-room : goal.returns-clause-room
returns-clause-room c =
    let d = c.args.width + c.args.count + 2 in
    let few : c.min.result ≤ 524288 / d = omega (arith, c.min.ensures) in
    omega (arith, mul-le-mul_right d few, div-mul-le_self 524288 d)
