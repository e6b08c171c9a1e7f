use Rattle.std.proofs.Common.{⊎_elim, inr, ◌∙◌, arith}
use Rattle.kex_rope.specs.Blocks.{AreFilled}
use Rattle.kex_rope.proofs.rope.Rope.drain_into.Goals as goal

pub loop-self-preserved : goal.loop-self-preserved
loop-self-preserved c =
    let filled : AreFilled c.loop-self.self-inside.blocks = ⊎_elim (λ le. absurd (omega (arith, le, c.loop-self-test.true, c.len.ensures.value))) (λ f. f) c.loop-self.invariant.are.filled in
    record {
      all = c.in_ok-count.ensures.moved ∙ c.loop-self.invariant.all;
      are = record { counted = omega (arith, c.in_ok-count.ensures.count, c.loop-self.invariant.are.counted); filled = inr (c.in_ok-count.ensures.filled filled) };
    }
