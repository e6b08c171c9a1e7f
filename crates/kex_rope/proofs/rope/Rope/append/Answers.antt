use Rattle.std.proofs.Common.{◌≡◌, [], ◌++◌, refl, cond, inr, length, ap, ap₂, subst, ◌∙◌, sym, arith, length-append}
use Rattle.std.specs.Prelude.{IsOk}
use Rattle.kex_rope.specs.Blocks.{symbols_in, AreBlocks, AreFilled}
use Rattle.kex_rope.proofs.Blocks.{joined-append, filled-append, filled_blocks, filled_count}
use Rattle.kex_rope.proofs.rope.Rope.append.Goals as goal

filled_self : (c : goal.After-other-1) → AreFilled c.self.inside.blocks
filled_self c = filled_blocks c.self.invariant (omega (arith, c.if-self-eq0.false))

filled_other : (c : goal.After-other-1) → AreFilled c.other.inside.blocks
filled_other c = filled_blocks c.other.invariant (omega (arith, c.if-other-eq0.false))

fits : (c : goal.After-other-1) → IsOk c.append.result
fits c = c.append.ensures.succeeds (omega (arith, c.requires, ap length c.self.view_is, ap length c.other.view_is, filled_count c.self.inside.blocks (filled_self c), filled_count c.other.inside.blocks (filled_other c)))

joins : (c : goal.After-other-1) → c.append.new.self ≡ c.self.inside.blocks ++ c.other.inside.blocks
joins c = c.append.ensures.items ∙ ap (λ b. cond b (c.self.inside.blocks ++ c.other.inside.blocks) c.self.inside.blocks) (fits c)

pub invariant_of-self-2 : goal.invariant_of-self-2
invariant_of-self-2 c =
    let all = joins c in
    let both = ap symbols_in all ∙ joined-append c.self.inside.blocks c.other.inside.blocks in
    record {
      counted = omega (arith, ap length both, length-append (symbols_in c.self.inside.blocks) (symbols_in c.other.inside.blocks), c.self.invariant.counted, c.other.invariant.counted);
      filled = inr (subst AreFilled (sym all) (filled-append c.self.inside.blocks c.other.inside.blocks (filled_self c) (filled_other c)));
    }

pub returns-clause-joined : goal.returns-clause-joined
returns-clause-joined c = ap symbols_in (joins c) ∙ joined-append c.self.inside.blocks c.other.inside.blocks ∙ ap₂ (λ x y. x ++ y) c.self.view_is c.other.view_is

none_left : (c : goal.After-other-1) → c.append.new.other ≡ []
none_left c = c.append.ensures.other_items ∙ ap (λ b. cond b [] c.other.inside.blocks) (fits c)

pub invariant_of-other-2 : goal.invariant_of-other-2
invariant_of-other-2 c = subst (λ z. AreBlocks z 0) (sym (none_left c)) (record { counted = refl; filled = inr tt })

pub returns-clause-empty : goal.returns-clause-empty
returns-clause-empty c = ap symbols_in (none_left c)
