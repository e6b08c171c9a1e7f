use Rattle.std.proofs.Common.{◌∙◌, ap, sym, subst, arith}
use Rattle.std.specs.Prelude.{slice_get}
use Rattle.kex_moves.specs.Known.{IsPairRow}
use Rattle.kex_moves.proofs.KnownEdges.{class_below, pair_known, known_put, right_at_row}
use Rattle.kex_moves.proofs.learn.learn_edge.Goals as goal

pub edge_of-requires-clause-class : goal.edge_of-requires-clause-class
edge_of-requires-clause-class c = class_below c.args.table.now.classes c.args.byte c.class_of-class.result (ap (λ l. slice_get l c.args.byte) (sym c.requires.known.classes) ∙ c.class_of-class.ensures.class)

pub edge_of-requires-clause-pair : goal.edge_of-requires-clause-pair
edge_of-requires-clause-pair c = pair_known c.args.table.now c.args.machine.now c.args.edges.now c.args.row c.requires.row.0 c.pair_at-pair.result c.requires.known c.requires.row.1 (c.pair_at-pair.ensures c.requires.row.0 c.requires.row.1)

pub returns-clause-known : goal.returns-clause-known
returns-clause-known c =
    let t = c.args.table.now in
    let g = c.args.machine.now in
    let mid = c.edge_of.new.edges in
    let p = c.pair_at-pair.result in
    let class = c.class_of-class.result in
    let e = c.in_ok-edge.edge in
    let stands = c.at_row.ensures.same in
    let o = c.in_ok-edge.ensures {u = tt} in
    let row = o.grows.rows c.args.row p (subst (λ q. IsPairRow c.args.edges.now c.args.row q) (sym (c.pair_at-pair.ensures c.requires.row.0 c.requires.row.1)) c.requires.row.1) in
    known_put t g mid c.put.new.self c.args.row class p c.at_row.result o.known row (omega (arith, o.grows.width, c.class_of-class.ensures.within)) (right_at_row t g.nodes mid p class e c.at_row.result stands o.right) c.put.ensures.ordered c.put.ensures.put
