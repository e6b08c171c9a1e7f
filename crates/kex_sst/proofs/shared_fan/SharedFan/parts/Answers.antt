use Rattle.std.proofs.Common.{◌≡◌, length, sym, ap, ap₂, subst, ◌∙◌}
use Rattle.kex_sst.specs.Fans.{IsFan, fan}
use Rattle.kex_sst.proofs.Fans.{fan_long}
use Rattle.kex_sst.proofs.shared_fan.SharedFan.parts.Goals as goal

long : (c : goal.After-deref-2) → c.self.inside.classes ≡ length c.args.self.now
long c = sym (fan_long c.self.inside.classes c.self.inside.numbers.items c.self.inside.different.items) ∙ ap length c.self.view_is

pub returns-clause-same : goal.returns-clause-same
returns-clause-same c =
    sym c.self.view_is
    ∙ ap (λ n. fan n c.self.inside.numbers.items c.self.inside.different.items) (long c)
    ∙ ap₂ (λ x y. fan (length c.args.self.now) x y) (sym c.deref.ensures.value) (sym c.deref-2.ensures.value)

pub returns-clause-fan : goal.returns-clause-fan
returns-clause-fan c =
    subst (λ n. IsFan n c.deref.result.now c.deref-2.result.now) (long c)
    (subst (λ x. IsFan c.self.inside.classes x c.deref-2.result.now) (sym c.deref.ensures.value)
    (subst (λ y. IsFan c.self.inside.classes c.self.inside.numbers.items y) (sym c.deref-2.ensures.value) c.self.invariant))
