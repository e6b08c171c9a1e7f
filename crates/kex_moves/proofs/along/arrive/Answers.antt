use Rattle.std.proofs.Common.{◌<◌, length, refl, sym, ap, subst}
use Rattle.kex_moves.proofs.SheetRuns.{handed_on}
use Rattle.kex_moves.proofs.along.arrive.Goals as goal

pub hand_on-requires-clause-node : goal.hand_on-requires-clause-node
hand_on-requires-clause-node c =
    let to = c.requires.row in
    subst (λ p. p.node < length c.args.actor.now.machine.nodes) (sym (c.pair_at-pair.ensures to.0 to.1)) to.2

pub returns-clause-arrives : goal.returns-clause-arrives
returns-clause-arrives c = λ p r.
    let e = c.pair_at-pair.ensures p r in
    let h = c.in_ok-hand_on.ensures {u = tt} in
    let all = handed_on c.args.actor.now c.hand_on.new.self p.node c.pair_at-pair.result.node c.args.sheet.now c.args.out.now.items c.hand_on.new.out.items h.same.0 h.same.1 h.at (ap (λ x. x.node) e) (h.usable.1 refl) h.did in
    (ap (λ x. x.state) e, all.0, all.1)
