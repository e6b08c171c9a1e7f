use Rattle.std.proofs.Common.{◌∙◌, [], take, sym, subst}
use Rattle.kex_machine.specs.Nodes.{Graph}
use Rattle.kex_sst.specs.Tables.{Transducer}
use Rattle.kex_moves.specs.Known.{IsKnown}
use Rattle.kex_moves.specs.Along.{ReachedOn}
use Rattle.kex_moves.proofs.SheetRuns.{reached_none, reached_on}
use Rattle.kex_moves.proofs.along.go_past.Goals as goal

pub leap_at-requires-clause-machine : goal.leap_at-requires-clause-machine
leap_at-requires-clause-machine c = c.requires.machine ∙ sym c.requires.rows.1

pub leap_at-requires-clause-known : goal.leap_at-requires-clause-known
leap_at-requires-clause-known c =
    let known = (c.in_ok-learn_at.ensures {u = tt}).known in
    let k = c.learn_at.new.edges in
    subst (λ (g : Graph). IsKnown c.args.book.now.leaps.table g k) (sym c.requires.rows.1) (subst (λ (t : Transducer). IsKnown t c.args.primer.now.machine.now k) (sym c.requires.rows.0) known)

pub leap_at-requires-clause-row : goal.leap_at-requires-clause-row
leap_at-requires-clause-row c =
    let grows = (c.in_ok-learn_at.ensures {u = tt}).rows in
    (c.requires.row.0, grows.rows c.args.row c.requires.row.0 c.requires.row.1)

pub returns-then-not-branch-clause-reached : goal.returns-then-not-branch-clause-reached
returns-then-not-branch-clause-reached c = reached_none c.args.primer.now.table.now c.args.book.now.edges c.learn_at.new.edges c.args.actor.now c.args.book.now.sheet c.args.row c.args.out.now.items (c.in_ok-learn_at.ensures {u = tt}).rows

pub returns-clause-known : goal.returns-clause-known
returns-clause-known c =
    let known = (c.in_ok-gone.ensures {u = tt}).known in
    let k = c.leap_at.new.book.edges in
    subst (λ (g : Graph). IsKnown c.args.primer.now.table.now g k) c.requires.rows.1 (subst (λ (t : Transducer). IsKnown t c.args.book.now.leaps.machine k) c.requires.rows.0 known)

pub returns-clause-reached : goal.returns-clause-reached
returns-clause-reached c =
    let t = c.args.primer.now.table.now in
    let k = c.args.book.now.edges in
    let k' = c.learn_at.new.edges in
    let k'' = c.leap_at.new.book.edges in
    let a = c.args.actor.now in
    let b = c.leap_at.new.actor in
    let s = c.args.book.now.sheet in
    let s' = c.leap_at.new.book.sheet in
    let row = c.args.row in
    let gone = c.in_ok-gone.gone in
    let x = c.args.out.now.items in
    let y = c.leap_at.new.out.items in
    let bs = take gone.count c.args.piece.now in
    let grows = (c.in_ok-learn_at.ensures {u = tt}).rows in
    let there = subst (λ (t : Transducer). ReachedOn t k' k'' a b s s' row gone.row bs x y) c.requires.rows.0 (c.in_ok-gone.ensures {u = tt}).reached in
    reached_on t k k' k'' a a b s s s' row row gone.row [] bs x x y (reached_none t k k' a s row x grows) there
