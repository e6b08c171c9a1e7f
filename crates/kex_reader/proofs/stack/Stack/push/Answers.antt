use Rattle.std.proofs.Common.{sym, ap, ◌∙◌, arith}
use Rattle.std.specs.Prelude.{reverse}
use Rattle.kex_reader.specs.Stands.{open_constructs}
use Rattle.kex_reader.proofs.OpenConstructs.{opened, not_opened, open_reversed, pushed}
use Rattle.kex_reader.proofs.stack.Stack.push.Goals as goal

pub overflow_add-self : goal.overflow_add-self
overflow_add-self c = omega (arith, c.self.invariant, open_reversed c.self.inside.constructs.items, c.self.inside.constructs.small)

pub invariant_of-self-then-is_open : goal.invariant_of-self-then-is_open
invariant_of-self-then-is_open c =
    let e = pushed c.self.inside.constructs.items c.push.new.self.items c.args.construct c.in_ok-push.ensures.items in
    let o = opened c.args.construct (reverse c.self.inside.constructs.items) (sym c.is_open.ensures ∙ c.if-is_open.true) in
    omega (arith, c.self.invariant, ap open_constructs e ∙ o)

pub invariant_of-self-else-is_open : goal.invariant_of-self-else-is_open
invariant_of-self-else-is_open c =
    let e = pushed c.self.inside.constructs.items c.push.new.self.items c.args.construct c.in_ok-push.ensures.items in
    let o = not_opened c.args.construct (reverse c.self.inside.constructs.items) (sym c.is_open.ensures ∙ c.if-is_open.false) in
    c.self.invariant ∙ sym (ap open_constructs e ∙ o)
