use Rattle.std.proofs.Common.{arith, subst, sym}
use Rattle.kex_frontier.specs.Rows.{AlsoMarks, byte_ways}
use Rattle.kex_frontier.proofs.RowSteps.{enter_on, step_is}
use Rattle.kex_frontier.proofs.matcher.step.Goals as goal

pub places-preserved : goal.places-preserved
places-preserved c =
    let top = (c.in-Some.ensures {u = tt}).some in
    record {
      within = omega (arith, top.below, c.places.invariant.within);
      so_far = enter_on c.args.nodes.now c.args.byte c.args.now.now c.clear.new.self c.places.next c.enter.new.row c.places.left c.in-Some.n c.places.invariant.so_far top
          (subst (λ z. AlsoMarks (byte_ways z c.args.byte) c.places.next c.enter.new.row) (sym c.node_at.ensures) c.enter.ensures);
    }

pub returns-clause-row : goal.returns-clause-row
returns-clause-row c = step_is c.args.nodes.now c.args.byte c.args.now.now c.clear.new.self c.places.next c.close.new.row c.places.left c.places.invariant.so_far (c.in_default.ensures {u = tt}).none c.close.ensures.closure
