use Rattle.std.proofs.Common.{rules, ◌≡◌, ◌<◌, ◌≤◌, ◌^◌, ◌*◌, ◌%◌, ap, sym, subst, ◌∙◌, arith}
use Rattle.std.proofs.Math.Nat.{pow-le-pow_right}
use Rattle.kex_byteset.specs.Classes.{class_count}
use Rattle.kex_runner.proofs.quiet.Guide.new.Goals as goal

pub returns : goal.returns
returns c =
    let n = c.shift_of-shift.result in
    let few = c.shift_of-shift.ensures.within in
    let all = 1 * 2 ^ n % 18446744073709551616 in
    let whole : all ≡ 2 ^ n = search rules in
    let some : 0 < all = search rules in
    let most : 2 ^ n ≤ 256 = pow-le-pow_right (omega arith) few in
    record {
      script = c.in_ok-script.ensures;
      width = whole;
      few = few;
      wide = subst (λ z. z ≤ all) (c.classes.ensures.count ∙ ap class_count c.partition.ensures.same) (subst (λ z. c.classes.result ≤ z) (sym whole) c.shift_of-shift.ensures.enough);
      some = some;
      narrow = subst (λ z. z ≤ 256) (sym whole) most;
      quiet = c.in_ok-quiets.ensures;
    }
