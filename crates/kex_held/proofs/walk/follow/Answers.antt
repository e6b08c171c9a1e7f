use Rattle.std.proofs.Common.{◌≡◌, ◌∙◌, ◌++◌, ◌+◌, ◌<◌, ℕ, IfSome, length, sym, ap, subst}
use Rattle.std.proofs.lemmas.List.{append-nil}
use Rattle.kex_model.specs.Moves.{Allows}
use Rattle.kex_machine.specs.Nodes.{node_moves}
use Rattle.kex_action.specs.Holdings.{Rests, step_by}
use Rattle.kex_action.proofs.NodeSteps.{move_at}
use Rattle.kex_code.specs.declared.symbol.Symbol.TheVariants.{L}
use Rattle.kex_sst.specs.declared.parts.Part.TheVariants.{Put}
use Rattle.kex_held.specs.Walks.{symbol_at, WalkGoesOn}
use Rattle.kex_held.proofs.ByteWalks.{Follows, own, own_none, follows_on, follows_more, below_at, learnt}
use Rattle.kex_held.proofs.walk.follow.Goals as goal
use Rattle.kex_held.proofs.walk.follow.Goals.{in-Read+in_ok-push, in_default-letter}

pub loop-part-preserved : goal.loop-part-preserved
loop-part-preserved c =
    let g = c.args.machine.now in
    let i = c.loop-part.part-index in
    let x = c.in-Some.letter in
    let rest = c.in-Some-2.rest in
    let mid = c.go_on.new.actions.items in
    let went = c.in_ok-rest.ensures {u = tt} in
    let goes = subst (λ o. IfSome o (λ t. WalkGoesOn g.nodes c.loop-part.at c.loop-part.actions.items t mid)) c.in-Some-2.is went.ok in
    let node = subst (λ o. IfSome o (λ t. t < length g.nodes)) c.in-Some-2.is went.within in
    let same = c.nodes.ensures.same in
    let here = move_at g.nodes c.nodes.result.now rest c.index-nodes-rest.result same node c.index-nodes-rest.is in
    let next = c.in-Some-next_of.ensures {u = tt} in
    let rests : Rests (node_moves g.nodes rest) = subst (λ m. Rests m) (sym here) next.rests in
    let only = subst (λ m. (b s : ℕ) → Allows m (step_by (symbol_at b x) s) → s ≡ c.in-Some-next_of.next) (sym here) next.some in
    let noted : c.match-letter.actions.items ≡ mid ++ own x = elim c.match-letter.branch [
      | in-Read+in_ok-push w ↦ ap (λ v. v.items) w.actions-is ∙ (w.in_ok-push.ensures {u = tt}).items ∙ ap (λ y. mid ++ own y) (sym w.in-Read.is)
      | in_default-letter w ↦ ap (λ v. v.items) w.actions-is ∙ sym (append-nil mid) ∙ ap (λ l. mid ++ l) (sym (own_none x w.in_default-letter.not-Read))
    ] in
    let at : c.match-letter.at ≡ c.in-Some-next_of.next = elim c.match-letter.branch [ in-Read+in_ok-push w ↦ w.at-is | in_default-letter w ↦ w.at-is ] in
    let before = follows_on g.nodes c.args.from c.loop-part.at rest c.args.parts.now i c.loop-part.actions.items mid c.loop-part.invariant.follows goes in
    let follows = follows_more g.nodes c.args.from rest c.in-Some-next_of.next c.args.parts.now i (Put L) x mid c.loop-part-test.true (c.in-Some.ensures {u = tt}) before rests only in
    record {
      node = subst (λ n. n < length g.nodes) (sym at) (next.within (length g.nodes) g.registers (below_at g.nodes c.nodes.result.now g.registers rest c.index-nodes-rest.result same node c.index-nodes-rest.is c.nodes.ensures.in_range.below));
      follows = subst (λ l. Follows g.nodes c.args.from c.args.parts.now (i + 1) c.match-letter.at l) (sym noted) (subst (λ n. Follows g.nodes c.args.from c.args.parts.now (i + 1) n (mid ++ own x)) (sym at) follows);
    }

pub returns-clause-learns : goal.returns-clause-learns
returns-clause-learns c =
    let g = c.args.machine.now in
    let went = c.in_ok-to.ensures {u = tt} in
    let goes = subst (λ o. IfSome o (λ t. WalkGoesOn g.nodes c.loop-part.at c.loop-part.actions.items t c.go_on-2.new.actions.items)) c.in-Some-3.is went.ok in
    learnt g.nodes c.args.from c.in-Some-3.to c.args.parts.now c.loop-part.part-index c.go_on-2.new.actions.items c.loop-part-test.false (follows_on g.nodes c.args.from c.loop-part.at c.in-Some-3.to c.args.parts.now c.loop-part.part-index c.loop-part.actions.items c.go_on-2.new.actions.items c.loop-part.invariant.follows goes)
