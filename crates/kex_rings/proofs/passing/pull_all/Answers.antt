use Rattle.std.proofs.Common.{arith}
use Rattle.kex_rings.proofs.TakenItems.{more-out, all-out}
use Rattle.kex_rings.proofs.passing.pull_all.Goals as goal

pub runs-preserved : goal.runs-preserved
runs-preserved c =
    let l = c.runs in
    record {
      out = more-out c.args.inbox.now l.inbox c.pull_run.new.inbox c.args.ring.now l.ring c.pull_run.new.ring l.count c.in_ok-count.field-0 l.invariant.out c.in_ok-count.ensures.comes;
      within = omega (arith, c.in_ok-count.ensures.within);
    }

pub returns : goal.returns
returns c =
    let l = c.runs in
    all-out c.args.inbox.now l.inbox c.args.ring.now l.ring l.count l.invariant.out (omega (arith, c.cached_slots-all.ensures, c.runs-test.false, l.invariant.within))
