use Rattle.std.proofs.Common.{◌∙◌, ◌∷◌, [], get_or}
use Rattle.kex_action.specs.declared.deed.Deed.TheVariants.{Byte}
use Rattle.kex_action.specs.Sheets.{state_with}
use Rattle.kex_action.proofs.Sheets.{done_more, kept_count}
use Rattle.kex_action.proofs.deed.act_on.Goals as goal

pub loop-count-preserved : goal.loop-count-preserved
loop-count-preserved c =
    let e = c.in_ok-act_at.ensures {u = tt} in
    let nodes = c.args.machine.now.nodes in
    record {
      registers = kept_count nodes c.args.byte (get_or c.args.deeds.now c.loop-count.count Byte ∷ []) c.loop-count.sheet c.act_at.new.sheet c.loop-count.store c.act_at.new.store (e.did c.if-not-branch.false []) ∙ c.loop-count.invariant.registers;
      sheet = e.sheet.0;
      room = e.sheet.1 ∙ c.loop-count.invariant.room;
      did = λ out. done_more nodes c.args.byte c.args.deeds.now c.loop-count.count Byte (state_with c.args.sheet.now out c.args.store.now) (state_with c.loop-count.sheet out c.loop-count.store) (state_with c.act_at.new.sheet out c.act_at.new.store) c.loop-count-test.true (c.loop-count.invariant.did out) (e.did c.if-not-branch.false out);
    }
