use Rattle.std.proofs.Common.{◌<◌, ap, refl, arith}
use Rattle.kex_moves.specs.Edges.{is_known}
use Rattle.kex_moves.specs.Speech.{words_table}
use Rattle.kex_moves.proofs.KnownEdges.{pair_known}
use Rattle.kex_moves.proofs.EdgeRuns.{right_at}
use Rattle.kex_moves.proofs.PieceRuns.{said_acts, said_none}
use Rattle.kex_moves.proofs.tell.act_next.Goals as goal

pub act-requires-clause-to : goal.act-requires-clause-to
act-requires-clause-to c =
    let t = words_table c.requires.known.0 in
    let g = c.args.actor.now.machine in
    let k = c.args.edges.now in
    let lt : c.args.piece.word < k.width = omega (arith, c.if-piece-width.false, c.width.ensures) in
    let right = right_at t g k c.args.row c.args.piece.word c.requires.row.0 c.edge_at-edge.result c.requires.known.1 c.requires.row.1 lt c.edge_at-edge.ensures.edge (ap is_known c.in-Acts.is) in
    (right.to, right.row, (pair_known t g k c.edge_at-edge.result.next right.to right.to c.requires.known.1 right.row refl).node)

pub returns-in_ok-act-in-Acts-clause-said : goal.returns-in_ok-act-in-Acts-clause-said
returns-in_ok-act-in-Acts-clause-said c = λ words known.
    let k = c.args.edges.now in
    let e = c.edge_at-edge.result in
    let did = c.in_ok-act-in-Acts.ensures {u = tt} in
    let lt : c.args.piece.word < k.width = omega (arith, c.if-piece-width.false, c.width.ensures) in
    said_acts words k c.args.actor.now c.act.new.actor c.args.sheet.now c.act.new.sheet c.args.row c.args.piece e c.args.out.now.items c.act.new.out.items known lt c.edge_at-edge.ensures.edge c.in-Acts.is did.same.0 did.same.1 did.did

pub returns-in_default : goal.returns-in_default
returns-in_default c = record {
  within = omega arith;
  said = λ words known. said_none c.args.edges.now c.args.actor.now c.args.sheet.now c.args.row c.args.out.now.items;
  sheet = (c.requires.sheet, refl);
  machine = refl;
  usable = c.requires.usable;
}
