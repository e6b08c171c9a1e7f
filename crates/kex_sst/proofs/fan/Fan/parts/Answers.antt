use Rattle.std.proofs.Common.{◌≡◌, ◌≤◌, ◌∷◌, [], take, length, sym, ap, subst, ◌∙◌, arith}
use Rattle.kex_sst.specs.Fanned.{IsFanned, fan_of}
use Rattle.kex_sst.proofs.Fans.{fan_own, own_numbers}
use Rattle.kex_sst.proofs.fan.Fan.parts.Goals as goal

pub returns-in-Each-clause-same : goal.returns-in-Each-clause-same
returns-in-Each-clause-same c =
    let now = c.args.self.now in
    let each = c.deref.result.now in
    let same : now ≡ each = sym c.self.view_is ∙ ap fan_of c.in-Each.is ∙ sym c.deref.ensures.value in
    let few : length c.in-Each.each.items ≤ 8 = subst IsFanned c.in-Each.is c.self.invariant in
    same
    ∙ sym
    (fan_own (length now) (take c.len.result (0 ∷ 1 ∷ 2 ∷ 3 ∷ 4 ∷ 5 ∷ 6 ∷ 7 ∷ [])) each (ap length same)
    (λ k lt. own_numbers c.len.result k (omega (arith, few, c.len.ensures, c.deref.ensures.len, ap length c.deref.ensures.value)) (omega (arith, lt, ap length same, c.len.ensures, c.deref.ensures.len))))
