use Rattle.std.proofs.Common.{◌≡◌, ◌∙◌, get_or, length, sym, ap}
use Rattle.kex_model.specs.Acting.{ActingState}
use Rattle.kex_action.specs.Holdings.{state_of}
use Rattle.kex_action.specs.Deeds.{after_deed}
use Rattle.kex_action.specs.declared.deed.Deed.TheVariants.{Byte}
use Rattle.kex_action.proofs.Deeds.{deeds-more, length-deed}
use Rattle.kex_action.proofs.deed.act_all.Goals as goal

pub loop-deed-preserved : goal.loop-deed-preserved
loop-deed-preserved c =
    let nodes = c.args.machine.now.nodes in
    let b = c.args.byte in
    let xs = c.args.deeds.now in
    let i = c.loop-deed.deed-index in
    let x = get_or xs i Byte in
    let s : ActingState = state_of c.loop-deed.out.items c.loop-deed.store in
    let did : state_of c.act.new.out.items c.act.new.store ≡ after_deed nodes b x s = c.in_ok-act.ensures {u = tt} in
    record {
      count = ap (λ (z : ActingState). length z.registers) did ∙ length-deed nodes b x s ∙ c.loop-deed.invariant.count;
      does = did ∙ ap (after_deed nodes b x) c.loop-deed.invariant.does ∙ sym (deeds-more nodes b xs i Byte (state_of c.args.out.now.items c.args.store.now) c.loop-deed-test.true);
    }
