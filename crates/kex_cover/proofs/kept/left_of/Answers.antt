use Rattle.std.proofs.Common.{◌≡◌, false, Some, get_or, sym, subst}
use Rattle.std.specs.Prelude.{IfSome}
use Rattle.kex_code.specs.Codes.{IsAmong}
use Rattle.kex_model.specs.States.{AllDifferent}
use Rattle.kex_cover.proofs.LeftLeaves.{AreUncoveredIn, has_some, some_is}
use Rattle.kex_cover.proofs.LeftStates.{comes_left, leaves_differ, leaves_wait, some_comes}
use Rattle.kex_cover.proofs.kept.left_of.Goals as goal
use Rattle.kex_cover.proofs.kept.left_of.Goals.{In_ok-left}

pub mark_uncovered-requires-clause-waiting : goal.mark_uncovered-requires-clause-waiting
mark_uncovered-requires-clause-waiting c = λ p i. leaves_wait c.args.machine.now c.args.tree.now c.shape-shape.ensures.sound c.requires.state p (subst (λ z. IsAmong z p) c.leaves.ensures i)

pub mark_uncovered-requires-clause-different : goal.mark_uncovered-requires-clause-different
mark_uncovered-requires-clause-different c = subst AllDifferent (sym c.leaves.ensures) (leaves_differ c.args.machine.now c.args.tree.now c.shape-shape.ensures.sound c.requires.state)

told : (c : In_ok-left) → AreUncoveredIn c.args.machine.now (λ p. get_or c.mark_uncovered.new.marks p false) c.args.tree.now.leaves
told c = subst (AreUncoveredIn c.args.machine.now (λ p. get_or c.mark_uncovered.new.marks p false)) c.leaves.ensures c.in_ok-mark_uncovered.ensures.told

pub unwrap-requires : goal.unwrap-requires
unwrap-requires c =
    let top = (goal.at.unwrap-requires c).In_ok-left in
    some_is c.in_ok-left.left (some_comes c.args.machine.now c.args.tree.now c.requires.state (λ p. get_or c.mark_uncovered.new.marks p false) (told top) c.in_ok-left.left c.in_ok-left.ensures.left)

pub returns-clause-left : goal.returns-clause-left
returns-clause-left c =
    let top = (goal.at.returns-clause-left c).In_ok-left in
    let is : c.in_ok-left.left ≡ Some c.unwrap.result = c.unwrap.ensures in
    comes_left c.args.machine.now c.args.tree.now c.requires.state (λ p. get_or c.mark_uncovered.new.marks p false) (told top) c.in_ok-left.left c.unwrap.result c.in_ok-left.ensures.left is (has_some (λ t. t.machine ≡ c.args.machine.now) c.in_ok-left.left c.unwrap.result (subst (λ z. IfSome c.in_ok-left.left (λ t. t.machine ≡ z)) c.requires.state.0 c.in_ok-left.ensures.machine) is)
