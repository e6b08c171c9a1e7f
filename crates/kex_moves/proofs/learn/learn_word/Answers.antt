use Rattle.std.proofs.Common.{sym, subst, arith}
use Rattle.kex_moves.specs.Known.{IsPairRow}
use Rattle.kex_moves.specs.Speech.{words_table}
use Rattle.kex_moves.proofs.KnownEdges.{pair_known, known_put, right_at_row}
use Rattle.kex_moves.proofs.learn.learn_word.Goals as goal

pub word_edge-requires-clause-pair : goal.word_edge-requires-clause-pair
word_edge-requires-clause-pair c = pair_known (words_table c.args.words.now) c.args.machine.now c.args.edges.now c.args.row c.requires.row.0 c.pair_at-pair.result c.requires.known c.requires.row.1 (c.pair_at-pair.ensures c.requires.row.0 c.requires.row.1)

pub returns : goal.returns
returns c =
    let t = words_table c.args.words.now in
    let g = c.args.machine.now in
    let mid = c.word_edge.new.edges in
    let p = c.pair_at-pair.result in
    let e = c.in_ok-edge.edge in
    let stands = c.at_row.ensures.same in
    let o = c.in_ok-edge.ensures {u = tt} in
    let row = o.grows.rows c.args.row p (subst (λ q. IsPairRow c.args.edges.now c.args.row q) (sym (c.pair_at-pair.ensures c.requires.row.0 c.requires.row.1)) c.requires.row.1) in
    record { known = known_put t g mid c.put.new.self c.args.row c.args.word p c.at_row.result o.known row (omega (arith, o.grows.width, c.requires.word)) (right_at_row t g.nodes mid p c.args.word e c.at_row.result stands o.right) c.put.ensures.ordered c.put.ensures.put }
