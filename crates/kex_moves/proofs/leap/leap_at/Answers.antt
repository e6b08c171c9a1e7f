use Rattle.std.proofs.Common.{◌≡◌, ◌∙◌, ◌≤◌, ◌<◌, IfSome, length, take, sym, ap, subst, arith, length-take}
use Rattle.std.proofs.lemmas.List.{take-take}
use Rattle.kex_machine.specs.Nodes.{Graph}
use Rattle.kex_leaps.specs.Leaps.{acts_in, AreActsWithin, IsLeap}
use Rattle.kex_moves.specs.declared.edges.Pair.{Pair}
use Rattle.kex_moves.specs.Known.{HasRowFor}
use Rattle.kex_moves.proofs.KnownEdges.{pair_known, known_wider, grows_wider}
use Rattle.kex_moves.proofs.SheetRuns.{reached_none, same_grows}
use Rattle.kex_moves.proofs.LeapRuns.{reached_leap}
use Rattle.kex_moves.proofs.leap.leap_at.Goals as goal

pub scan-requires-clause-state : goal.scan-requires-clause-state
scan-requires-clause-state c = (pair_known c.args.book.now.leaps.table c.args.book.now.leaps.machine c.args.book.now.edges c.args.row c.requires.row.0 c.pair_at-pair.result c.requires.known c.requires.row.1 (c.pair_at-pair.ensures c.requires.row.0 c.requires.row.1)).state

pub scan-requires-clause-node : goal.scan-requires-clause-node
scan-requires-clause-node c = (pair_known c.args.book.now.leaps.table c.args.book.now.leaps.machine c.args.book.now.edges c.args.row c.requires.row.0 c.pair_at-pair.result c.requires.known c.requires.row.1 (c.pair_at-pair.ensures c.requires.row.0 c.requires.row.1)).node

pub perform-requires-clause-node : goal.perform-requires-clause-node
perform-requires-clause-node c =
    let g = c.args.book.now.leaps.machine in
    let to = subst (λ o. IfSome o (λ s. (s.state < length c.args.book.now.leaps.table.states) × (s.node < length g.nodes))) c.in-Some.is (c.in_ok-leap.ensures {u = tt}).to in
    subst (λ (m : Graph). c.in-Some.leap.node < length m.nodes) (sym c.requires.machine) to.1

pub perform-requires-clause-within : goal.perform-requires-clause-within
perform-requires-clause-within c = subst (λ o. IfSome o (λ s. AreActsWithin (length c.front_of-front.result.now) c.scan.new.self.acts)) c.in-Some.is (c.in_ok-leap.ensures {u = tt}).acts

pub returns-in_default-clause-reached : goal.returns-in_default-clause-reached
returns-in_default-clause-reached c = reached_none c.args.book.now.leaps.table c.args.book.now.edges c.args.book.now.edges c.args.actor.now c.args.book.now.sheet c.args.row c.args.out.now.items (same_grows c.args.book.now.edges)

pub returns-in_default-2-clause-known : goal.returns-in_default-2-clause-known
returns-in_default-2-clause-known c =
    let t = c.args.book.now.leaps.table in
    let g = c.args.book.now.leaps.machine in
    let st = c.in-Some.leap in
    let to = subst (λ o. IfSome o (λ s. (s.state < length t.states) × (s.node < length g.nodes))) c.in-Some.is (c.in_ok-leap.ensures {u = tt}).to in
    let w = c.in_ok-next.ensures {u = tt} in
    known_wider t g c.args.book.now.edges c.row_of.new.self st.state st.node c.requires.known w.wider w.ordered to.0 to.1

pub returns-in_default-2-clause-reached : goal.returns-in_default-2-clause-reached
returns-in_default-2-clause-reached c =
    let st = c.in-Some.leap in
    reached_none c.args.book.now.leaps.table c.args.book.now.edges c.row_of.new.self c.args.actor.now c.args.book.now.sheet c.args.row c.args.out.now.items (grows_wider c.args.book.now.edges c.row_of.new.self st.state st.node (c.in_ok-next.ensures {u = tt}).wider)

pub returns-clause-known : goal.returns-clause-known
returns-clause-known c =
    let t = c.args.book.now.leaps.table in
    let g = c.args.book.now.leaps.machine in
    let st = c.in-Some.leap in
    let to = subst (λ o. IfSome o (λ s. (s.state < length t.states) × (s.node < length g.nodes))) c.in-Some.is (c.in_ok-leap.ensures {u = tt}).to in
    let w = c.in_ok-next.ensures {u = tt} in
    known_wider t g c.args.book.now.edges c.row_of.new.self st.state st.node c.requires.known w.wider w.ordered to.0 to.1

pub returns-clause-within : goal.returns-clause-within
returns-clause-within c =
    let within = subst (λ o. IfSome o (λ s. s.count ≤ length c.front_of-front.result.now)) c.in-Some.is (c.in_ok-leap.ensures {u = tt}).within in
    omega (arith, within, ap length c.front_of-front.ensures.front, length-take c.args.book.now.reach c.args.piece.now)

pub returns-clause-reached : goal.returns-clause-reached
returns-clause-reached c =
    let t = c.args.book.now.leaps.table in
    let k = c.args.book.now.edges in
    let k' = c.row_of.new.self in
    let a = c.args.actor.now in
    let b = c.perform.new.actor in
    let s = c.args.book.now.sheet in
    let s' = c.perform.new.sheet in
    let row = c.args.row in
    let next = c.in-Some-2.next in
    let st = c.in-Some.leap in
    let front = c.front_of-front.result.now in
    let piece = c.args.piece.now in
    let acts = acts_in front c.scan.new.self.acts in
    let x = c.args.out.now.items in
    let y = c.perform.new.out.items in
    let found = c.in_ok-leap.ensures {u = tt} in
    let within = subst (λ o. IfSome o (λ s. s.count ≤ length front)) c.in-Some.is found.within in
    let few : st.count ≤ c.args.book.now.reach = omega (arith, within, c.front_of-front.ensures.few) in
    let same : take st.count front ≡ take st.count piece = ap (take st.count) c.front_of-front.ensures.front ∙ take-take st.count c.args.book.now.reach piece few in
    let one = subst (λ o. IfSome o (λ s. IsLeap t c.args.book.now.leaps.machine.nodes c.pair_at-pair.result.state c.pair_at-pair.result.node (take s.count front) acts s.state s.node)) c.in-Some.is found.leap in
    let two = subst (λ (g : Graph). IsLeap t g.nodes c.pair_at-pair.result.state c.pair_at-pair.result.node (take st.count front) acts st.state st.node) (sym c.requires.machine) one in
    let three = subst (λ l. IsLeap t a.machine.nodes c.pair_at-pair.result.state c.pair_at-pair.result.node l acts st.state st.node) same two in
    let to = subst (λ o. IfSome o (λ row. HasRowFor k' row st.state st.node)) c.in-Some-2.is (c.in_ok-next.ensures {u = tt}).row in
    let did = c.in_ok-perform.ensures {u = tt} in
    reached_leap t k k' a b s s' row next (take st.count piece) acts st.state st.node x y (λ p r. subst (λ (q : Pair). IsLeap t a.machine.nodes q.state q.node (take st.count piece) acts st.state st.node) (c.pair_at-pair.ensures p r) three) to did.same.0 did.same.1 did.did
