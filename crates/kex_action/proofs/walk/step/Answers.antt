use Rattle.std.proofs.Common.{◌∙◌, ap, sym, subst}
use Rattle.kex_model.specs.Moves.{Allows, append}
use Rattle.kex_machine.specs.Nodes.{IsMachineInRange}
use Rattle.kex_action.specs.Holdings.{state_of, step_by}
use Rattle.kex_action.proofs.NodeSteps.{move_at, by_symbol, did_byte, did_choice, fits_after, count_after}
use Rattle.kex_action.proofs.walk.step.Goals as goal

pub returns-in_ok-write-clause-some : goal.returns-in_ok-write-clause-some
returns-in_ok-write-clause-some c =
    let nodes = c.nodes-nodes.ensures.same ∙ ap (λ g. g.nodes) c.machine.ensures.same in
    let here = move_at c.args.machine.now.nodes c.nodes-nodes.result.now c.args.from c.index-nodes-from.result nodes c.requires.node c.index-nodes-from.is in
    by_symbol c.args.machine.now.nodes c.args.from c.in-Some.next c.args.symbol _ _ (subst (λ m. Allows m (step_by c.args.symbol c.in-Some.next)) (sym here) (c.in-Some.ensures {u = tt}).some) (did_byte c.args.symbol c.in-Byte.byte c.in-Some.next c.args.out.now.items c.args.store.now (state_of c.write.new.out.items c.write.new.self) c.in-Byte.is (c.in_ok-write.ensures {u = tt}).ok)

pub returns-in_ok-write-clause-fits : goal.returns-in_ok-write-clause-fits
returns-in_ok-write-clause-fits c =
    let nodes = c.nodes-nodes.ensures.same ∙ ap (λ g. g.nodes) c.machine.ensures.same in
    let here = move_at c.args.machine.now.nodes c.nodes-nodes.result.now c.args.from c.index-nodes-from.result nodes c.requires.node c.index-nodes-from.is in
    let range = subst (λ g. IsMachineInRange g.start g.nodes g.registers) c.machine.ensures.same c.nodes-nodes.ensures.in_range in
    fits_after c.args.machine.now c.args.from c.in-Some.next c.args.symbol c.write.new.self range (subst (λ m. Allows m (step_by c.args.symbol c.in-Some.next)) (sym here) (c.in-Some.ensures {u = tt}).some) (count_after (append _) c.args.out.now.items c.write.new.out.items c.args.store.now c.write.new.self c.args.machine.now.registers (c.in_ok-write.ensures {u = tt}).ok c.requires.count)

pub returns-in_default-symbol : goal.returns-in_default-symbol
returns-in_default-symbol c =
    let nodes = c.nodes-nodes.ensures.same ∙ ap (λ g. g.nodes) c.machine.ensures.same in
    let here = move_at c.args.machine.now.nodes c.nodes-nodes.result.now c.args.from c.index-nodes-from.result nodes c.requires.node c.index-nodes-from.is in
    let range = subst (λ g. IsMachineInRange g.start g.nodes g.registers) c.machine.ensures.same c.nodes-nodes.ensures.in_range in
    let allowed = subst (λ m. Allows m (step_by c.args.symbol c.in-Some.next)) (sym here) (c.in-Some.ensures {u = tt}).some in
    record {
      some = by_symbol c.args.machine.now.nodes c.args.from c.in-Some.next c.args.symbol _ _ allowed (did_choice c.args.symbol c.in-Some.next _ c.in_default-symbol.not-Byte);
      fits = fits_after c.args.machine.now c.args.from c.in-Some.next c.args.symbol c.args.store.now range allowed c.requires.count;
      none = tt;
      same = tt;
      err = tt;
    }
