use Rattle.std.proofs.Common.{refl, sym, subst, Some, IfSome}
use Rattle.kex_machine.specs.Nodes.{Graph}
use Rattle.kex_leaps.specs.Leaps.{acts_in, IsLastLeap}
use Rattle.kex_moves.proofs.LastLeaps.{ends_on}
use Rattle.kex_moves.proofs.SheetRuns.{handed_on}
use Rattle.kex_moves.proofs.last.end_at.Goals as goal

pub returns-clause-ends : goal.returns-clause-ends
returns-clause-ends c = λ _.
    let a = c.args.actor.now in
    let b = c.perform.new.actor in
    let s = c.args.book.now.sheet in
    let s' = c.perform.new.sheet in
    let t = c.args.book.now.leaps.table in
    let text = c.args.text.now in
    let acts = acts_in text c.scan_to_end.new.self.acts in
    let m = c.in-Some.to in
    let x = c.args.out.now.items in
    let y = c.perform.new.out.items in
    let found = subst (λ o. IfSome o (λ m. IsLastLeap t c.args.book.now.leaps.machine.nodes c.args.state c.node-node.result text acts m)) c.in-Some.is (c.in_ok-to.ensures {u = tt}).ends in
    let of : IsLastLeap t a.machine.nodes c.args.state c.node-node.result text acts m = subst (λ (g : Graph). IsLastLeap t g.nodes c.args.state c.node-node.result text acts m) (sym c.requires.machine) found in
    let here : IsLastLeap t a.machine.nodes c.args.state a.at text acts m = subst (λ n. IsLastLeap t a.machine.nodes c.args.state n text acts m) c.node-node.ensures.at of in
    let did = c.in_ok-perform.ensures {u = tt} in
    let h = c.in_ok-hand_on.ensures {u = tt} in
    let all = handed_on b c.hand_on.new.self m m s' y c.hand_on.new.out.items h.same.0 h.same.1 h.at refl (h.usable.1 refl) h.did in
    ends_on t a b c.hand_on.new.self s s' c.args.state m text acts x y c.hand_on.new.out.items here c.requires.sheet c.requires.usable did.same.0 did.same.1 did.did all.0 all.1
