use Rattle.std.proofs.Common.{ℕ, IfSome, take, subst}
use Rattle.kex_moves.specs.declared.along.Ran.{Ran}
use Rattle.kex_moves.specs.Known.{HasRowFor}
use Rattle.kex_moves.specs.Along.{GoesAlong, IsBareState}
use Rattle.kex_moves.proofs.BareStates.{comes_bare}
use Rattle.kex_moves.proofs.PlacedTexts.{map_ok}
use Rattle.kex_moves.proofs.along.run_at.Goals as goal

pub run_from-requires-clause-row : goal.run_from-requires-clause-row
run_from-requires-clause-row c =
    let row = subst (λ o. IfSome o (λ row. HasRowFor c.row_for.new.edges row c.args.state c.node.result)) c.in-Some.is (c.in_ok-row.ensures {u = tt}).row in
    (c.args.state, subst (λ n. HasRowFor c.row_for.new.edges c.in-Some.row c.args.state n) c.node.ensures.at row)

pub returns-clause-goes : goal.returns-clause-goes
returns-clause-goes c =
    let t = c.args.primer.now.table.now in
    let old = c.args.actor.now in
    let new = c.run_from.new.actor in
    let row = subst (λ n. HasRowFor c.row_for.new.edges c.in-Some.row c.args.state n) c.node.ensures.at (subst (λ o. IfSome o (λ row. HasRowFor c.row_for.new.edges row c.args.state c.node.result)) c.in-Some.is (c.in_ok-row.ensures {u = tt}).row) in
    map_ok (λ (ran : Ran). (q : ℕ) → HasRowFor c.row_for.new.edges c.in-Some.row q old.at → GoesAlong t old new q ran.state (take ran.count c.args.piece.now) c.args.out.now.items c.run_from.new.out.items) (λ (ran : Ran). GoesAlong t old new c.args.state ran.state (take ran.count c.args.piece.now) c.args.out.now.items c.run_from.new.out.items) c.run_from.result (λ ran h. h c.args.state row) c.run_from.ensures.goes

pub returns-clause-bare : goal.returns-clause-bare
returns-clause-bare c =
    let t = c.args.primer.now.table.now in
    let q = c.args.state in
    let old = c.args.actor.now in
    let new = c.run_from.new.actor in
    let x = c.args.out.now.items in
    let y = c.run_from.new.out.items in
    map_ok (λ (ran : Ran). GoesAlong t old new q ran.state (take ran.count c.args.piece.now) x y) (λ (ran : Ran). IsBareState t q → IsBareState t ran.state) c.run_from.result (λ ran goes. comes_bare t c.states-states.ensures.table old new q ran.state (take ran.count c.args.piece.now) x y goes) (returns-clause-goes c)
