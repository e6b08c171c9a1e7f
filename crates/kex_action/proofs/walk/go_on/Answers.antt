use Rattle.std.proofs.Common.{◌≡◌, Some, IfSome, IfNone, ◌∙◌, ◌<◌, ◌≤◌, refl, ap, sym, subst, length, arith, []}
use Rattle.kex_machine.specs.Nodes.{IsMachineInRange, move_of}
use Rattle.kex_action.specs.Holdings.{Rests, PassesMove, state_of}
use Rattle.kex_action.proofs.Buffers.{on_err}
use Rattle.kex_action.proofs.NodeSteps.{going_none, going_more, fits_passed, front_of, move_at}
use Rattle.kex_action.proofs.QuietWalks.{walk_short}
use Rattle.kex_action.proofs.walk.go_on.Goals as goal

pub loop-init : goal.loop-init
loop-init c = record { going = going_none _ _ _; fits = c.requires }

pub returns-in_err-next-clause-err : goal.returns-in_err-next-clause-err
returns-in_err-next-clause-err c = on_err c.from_residual.result (front_of c.args.machine.now.nodes c.args.from c.loop.at (state_of c.args.out.now.items c.args.store.now) [] [] c.loop.out.items c.pass.new.out.items c.loop.store c.loop.invariant.going.leads ([], refl) (c.in_err-next.ensures {u = tt}).err)

pub returns-in_default-clause-rests : goal.returns-in_default-clause-rests
returns-in_default-clause-rests c =
    let nodes = c.nodes-nodes.ensures.same ∙ ap (λ g. g.nodes) c.machine.ensures.same in
    let here = move_at c.args.machine.now.nodes c.nodes-nodes.result.now c.loop.at c.index-nodes-at.result nodes c.loop.invariant.fits.node c.index-nodes-at.is in
    subst (λ m. Rests m) (sym here) (subst (λ o. IfNone o (Rests (move_of (Some c.index-nodes-at.result)))) c.in_default.is (c.in_ok-next.ensures {u = tt}).none)

pub loop-preserved : goal.loop-preserved
loop-preserved c =
    let nodes = c.nodes-nodes.ensures.same ∙ ap (λ g. g.nodes) c.machine.ensures.same in
    let here = move_at c.args.machine.now.nodes c.nodes-nodes.result.now c.loop.at c.index-nodes-at.result nodes c.loop.invariant.fits.node c.index-nodes-at.is in
    let range = subst (λ g. IsMachineInRange g.start g.nodes g.registers) c.machine.ensures.same c.nodes-nodes.ensures.in_range in
    let passes = subst (λ m. PassesMove m (state_of c.loop.out.items c.loop.store) c.in-Some.next (state_of c.pass.new.out.items c.pass.new.store)) (sym here) (subst (λ o. IfSome o (λ t. PassesMove (move_of (Some c.index-nodes-at.result)) (state_of c.loop.out.items c.loop.store) t (state_of c.pass.new.out.items c.pass.new.store))) c.in-Some.is (c.in_ok-next.ensures {u = tt}).some) in
    record {
      going = going_more _ _ _ _ _ _ _ _ c.loop.invariant.going passes;
      fits = fits_passed c.args.machine.now c.loop.at c.in-Some.next c.loop.out.items c.pass.new.out.items c.loop.store c.pass.new.store range c.loop.invariant.fits passes;
    }

pub unreachable-requires : goal.unreachable-requires
unreachable-requires c =
    let nodes : length c.nodes-nodes.result.now ≡ length c.args.machine.now.nodes = ap length (c.nodes-nodes.ensures.same ∙ ap (λ g. g.nodes) c.machine.ensures.same) in
    let range = subst (λ g. IsMachineInRange g.start g.nodes g.registers) c.machine.ensures.same c.nodes-nodes.ensures.in_range in
    let leads = c.loop.invariant.going.leads in
    let short : length leads.steps < length c.args.machine.now.nodes = walk_short c.args.machine.now leads.steps c.args.from c.loop.at c.machine.ensures.trimmed range c.requires.node leads.walk leads.codes in
    let count : length leads.steps ≡ c.loop.counter = c.loop.invariant.going.count in
    let end : length c.nodes-nodes.result.now ≤ c.loop.counter = c.loop-test.false in
    omega arith
