use Rattle.std.proofs.Common.{◌∙◌, Some, ap}
use Rattle.kex_machine.specs.Nodes.{move_of, effect_of}
use Rattle.kex_model.specs.Moves.{nothing}
use Rattle.kex_action.proofs.NodeSteps.{move_at}
use Rattle.kex_held.proofs.ByteWalks.{going_done, going_skipped, goes_to}
use Rattle.kex_held.proofs.walk.go_on.Goals as goal
use Rattle.kex_held.proofs.walk.go_on.Goals.{in-Do+in_ok-push-in-Do, in-Skip}

pub loop-preserved : goal.loop-preserved
loop-preserved c =
    let g = c.args.machine.now in
    let same = c.nodes-nodes.ensures.same in
    let here = move_at g.nodes c.nodes-nodes.result.now c.loop.at c.index-nodes-at.result same c.loop.invariant.node c.index-nodes-at.is in
    let range = c.nodes-nodes.ensures.in_range in
    elim c.match-nodes-at.branch [
      | in-Do+in_ok-push-in-Do w ↦
          let leads = here ∙ ap (λ m. move_of (Some m)) w.in-Do.is in
          let next = goes_to g c.args.from c.loop.at w.in-Do.next c.match-nodes-at.at (effect_of w.in-Do.field-0) c.args.actions.now.items _ c.match-nodes-at.actions.items range leads (going_done g.nodes c.args.from c.loop.at w.in-Do.next (effect_of w.in-Do.field-0) c.args.actions.now.items c.loop.actions.items c.loop.invariant.going leads) w.at-is (ap (λ v. v.items) w.actions-is ∙ (w.in_ok-push-in-Do.ensures {u = tt}).items) in
          record { node = next.node; going = next.going }
      | in-Skip w ↦
          let leads = here ∙ ap (λ m. move_of (Some m)) w.in-Skip.is in
          let next = goes_to g c.args.from c.loop.at w.in-Skip.next c.match-nodes-at.at nothing c.args.actions.now.items _ c.match-nodes-at.actions.items range leads (going_skipped g.nodes c.args.from c.loop.at w.in-Skip.next c.args.actions.now.items c.loop.actions.items c.loop.invariant.going leads) w.at-is (ap (λ v. v.items) w.actions-is) in
          record { node = next.node; going = next.going }
    ]
