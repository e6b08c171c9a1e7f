use Rattle.std.proofs.Common.{◌≡◌, ◌+◌, ◌-◌, drop, sym, subst, arith}
use Rattle.kex_held.specs.declared.item.HeldItem.TheVariants.{Slice}
use Rattle.kex_held.specs.Sealed.{AreWriting}
use Rattle.kex_held.proofs.ListJoins.{writing_more}
use Rattle.kex_held.proofs.list.opened_at.Goals as goal

pub loop-at-preserved : goal.loop-at-preserved
loop-at-preserved c =
    let items = c.args.items.now in
    let nodes = c.args.machine.now.nodes in
    let at = c.loop-at.at in
    let back : (at - 1) + 1 ≡ at = omega (arith, c.loop-at-test.true) in
    record {
      within = omega (arith, c.loop-at.invariant.within);
      writes = writing_more nodes items (at - 1) (Slice 0 0) (omega (arith, c.loop-at.invariant.within, c.loop-at-test.true)) c.in-Writes.ensures (subst (λ n. AreWriting nodes (drop n items)) (sym back) c.loop-at.invariant.writes);
    }
