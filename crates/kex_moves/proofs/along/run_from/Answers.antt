use Rattle.std.proofs.Common.{◌∙◌, ◌-◌, ◌<◌, length, take, drop, refl, sym, subst, arith, length-take, length-drop}
use Rattle.kex_moves.specs.Along.{ReachedOn}
use Rattle.kex_moves.proofs.KnownEdges.{pair_known}
use Rattle.kex_moves.proofs.EdgeRuns.{part_more}
use Rattle.kex_moves.proofs.SheetRuns.{reached_none, same_grows, reached_on, arrived, blank_sheet}
use Rattle.kex_moves.proofs.along.run_from.Goals as goal

pub rounds-init : goal.rounds-init
rounds-init c = record {
  at = omega arith;
  rows = (refl, refl);
  known = c.requires.known;
  machine = c.requires.machine;
  usable = c.requires.usable;
  sheet = blank_sheet c.args.book.now.sheet c.requires.none;
  room = c.requires.room;
  reached = reached_none c.args.primer.now.table.now c.args.book.now.edges c.args.book.now.edges c.args.actor.now c.args.book.now.sheet c.args.from c.args.out.now.items (same_grows c.args.book.now.edges);
}

pub go_on-requires-clause-row : goal.go_on-requires-clause-row
go_on-requires-clause-row c = let r = c.rounds.invariant.reached c.requires.row.0 c.args.actor.now.at c.requires.row.1 in (r.reached.state, r.node, r.reached.row_for)

pub go_on-requires-clause-rows : goal.go_on-requires-clause-rows
go_on-requires-clause-rows c = (c.rounds.invariant.rows.0 ∙ c.requires.rows.0, c.rounds.invariant.rows.1 ∙ c.requires.rows.1)

pub rounds-preserved : goal.rounds-preserved
rounds-preserved c =
    let t = c.args.primer.now.table.now in
    let piece = c.args.piece.now in
    let at = c.rounds.at in
    let n = length piece - at in
    let part = take n (drop at piece) in
    let e = c.in_ok-gone.ensures {u = tt} in
    let gone = c.in_ok-gone.gone in
    let next = reached_on t c.args.book.now.edges c.rounds.book.edges c.go_on.new.book.edges c.args.actor.now c.rounds.actor c.go_on.new.actor c.args.book.now.sheet c.rounds.book.sheet c.go_on.new.book.sheet c.args.from c.rounds.row gone.row (take at piece) (take gone.count part) c.args.out.now.items c.rounds.out.items c.go_on.new.out.items c.rounds.invariant.reached e.reached in
    record {
      at = omega (arith, e.within, length-take n (drop at piece), length-drop at piece, c.rounds.invariant.at);
      rows = (e.rows.0 ∙ c.rounds.invariant.rows.0, e.rows.1 ∙ c.rounds.invariant.rows.1);
      known = e.known;
      machine = e.machine ∙ c.rounds.invariant.machine;
      usable = e.usable;
      sheet = e.sheet.0;
      room = e.sheet.1 ∙ c.rounds.invariant.room;
      reached = subst (λ l. ReachedOn t c.args.book.now.edges c.go_on.new.book.edges c.args.actor.now c.go_on.new.actor c.args.book.now.sheet c.go_on.new.book.sheet c.args.from gone.row l c.args.out.now.items c.go_on.new.out.items) (part_more piece part at n gone.count refl e.within) next;
    }

pub arrive-requires-clause-row : goal.arrive-requires-clause-row
arrive-requires-clause-row c =
    let r = c.rounds.invariant.reached c.requires.row.0 c.args.actor.now.at c.requires.row.1 in
    let p = r.reached.row_for.0 in
    (p, r.reached.row_for.1, subst (λ m. p.node < length m.nodes) (sym c.rounds.invariant.machine) (pair_known c.args.primer.now.table.now c.args.primer.now.machine.now c.rounds.book.edges c.rounds.row p p c.rounds.invariant.known r.reached.row_for.1 refl).node)

pub returns-clause-goes : goal.returns-clause-goes
returns-clause-goes c = arrived c.args.primer.now.table.now c.args.book.now.edges c.rounds.book.edges c.args.actor.now c.rounds.actor c.arrive.new.actor c.args.book.now.sheet c.rounds.book.sheet c.args.from c.rounds.row c.in_ok-state.state (take c.rounds.at c.args.piece.now) c.args.out.now.items c.rounds.out.items c.arrive.new.out.items c.requires.none c.requires.usable c.rounds.invariant.reached (c.in_ok-state.ensures {u = tt}).arrives

pub returns-clause-room : goal.returns-clause-room
returns-clause-room c = (c.in_ok-state.ensures {u = tt}).room ∙ c.rounds.invariant.room ∙ sym c.requires.room
