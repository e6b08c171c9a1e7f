use Rattle.std.proofs.Common.{◌∙◌, ◌<◌, ap, sym, subst, [], replicate, true, false, length, List, ℕ}
use Rattle.std.proofs.lemmas.List.{length-replicate}
use Rattle.kex_machine.specs.Nodes.{IsMachineInRange}
use Rattle.kex_action.specs.Actors.{HasPerformed}
use Rattle.kex_action.proofs.ActorRuns.{begins_performed, position}
use Rattle.kex_action.proofs.actor.Actor.new.Goals as goal

pub invariant_of-result : goal.invariant_of-result
invariant_of-result c =
    let start = c.start-start.ensures ∙ ap (λ g. g.start) c.machine.ensures.same in
    let count = c.registers.ensures ∙ ap (λ g. g.registers) c.machine-3.ensures.same in
    let range = subst (λ g. IsMachineInRange g.start g.nodes g.registers) c.machine-2.ensures.same c.nodes-nodes.ensures.in_range in
    record {
      trimmed = c.machine.ensures.trimmed;
      in_range = range;
      fits = λ h. record {
        node = subst (λ n. n < length c.args.machine.now.nodes) (sym start) range.start_in;
        count = ap (λ q. length q.registers) (c.in_ok-store.ensures {u = tt}) ∙ length-replicate {A = List ℕ} c.registers.result [] ∙ count;
      };
    }

pub returns-clause-begins : goal.returns-clause-begins
returns-clause-begins c =
    let start = c.start-start.ensures ∙ ap (λ g. g.start) c.machine.ensures.same in
    let count = c.registers.ensures ∙ ap (λ g. g.registers) c.machine-3.ensures.same in
    subst (λ n. HasPerformed (position c.args.machine.now n c.in_ok-store.store false true) [] [] []) (sym start) (begins_performed c.args.machine.now c.in_ok-store.store true (c.in_ok-store.ensures {u = tt} ∙ ap (λ k. record { buffers = []; registers = replicate k [] }) count))
