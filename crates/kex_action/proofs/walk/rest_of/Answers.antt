use Rattle.std.proofs.Common.{◌≡◌, ◌∙◌, ◌<◌, ◌≤◌, ap, sym, subst, length, arith}
use Rattle.kex_model.specs.Moves.{went}
use Rattle.kex_machine.specs.Nodes.{IsMachineInRange}
use Rattle.kex_action.specs.Holdings.{IsPassed}
use Rattle.kex_action.proofs.NodeSteps.{walks_none, walks_more, move_at}
use Rattle.kex_action.proofs.QuietWalks.{walk_short, entered_in}
use Rattle.kex_action.proofs.walk.rest_of.Goals as goal

pub loop-init : goal.loop-init
loop-init c = record { going = walks_none _ _; within = c.requires }

pub loop-preserved : goal.loop-preserved
loop-preserved c =
    let nodes = c.nodes-nodes.ensures.same ∙ ap (λ g. g.nodes) c.machine.ensures.same in
    let here = move_at c.args.machine.now.nodes c.nodes-nodes.result.now c.loop.at c.index-nodes-at.result nodes c.loop.invariant.within c.index-nodes-at.is in
    let range = subst (λ g. IsMachineInRange g.start g.nodes g.registers) c.machine.ensures.same c.nodes-nodes.ensures.in_range in
    let passed = subst (λ m. IsPassed m c.in-Some.next) (sym here) (c.in-Some.ensures {u = tt}).some in
    record {
      going = walks_more _ _ _ _ _ c.loop.invariant.going passed;
      within = entered_in c.args.machine.now c.loop.at (went passed.0 c.in-Some.next) range passed.1;
    }

pub unreachable-requires : goal.unreachable-requires
unreachable-requires c =
    let nodes : length c.nodes-nodes.result.now ≡ length c.args.machine.now.nodes = ap length (c.nodes-nodes.ensures.same ∙ ap (λ g. g.nodes) c.machine.ensures.same) in
    let range = subst (λ g. IsMachineInRange g.start g.nodes g.registers) c.machine.ensures.same c.nodes-nodes.ensures.in_range in
    let reaches = c.loop.invariant.going.reaches in
    let short : length reaches.steps < length c.args.machine.now.nodes = walk_short c.args.machine.now reaches.steps c.args.from c.loop.at c.machine.ensures.trimmed range c.requires reaches.walk reaches.codes in
    let count : length reaches.steps ≡ c.loop.counter = c.loop.invariant.going.count in
    let end : length c.nodes-nodes.result.now ≤ c.loop.counter = c.loop-test.false in
    omega arith
