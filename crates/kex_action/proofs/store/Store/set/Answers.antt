use Rattle.kex_action.proofs.Buffers.{pieces_rest}
use Rattle.kex_action.proofs.store.Store.set.Goals as goal

pub add-requires-clause-pieces_in : goal.add-requires-clause-pieces_in
add-requires-clause-pieces_in c =
    let first = c.begins_with.ensures.0 c.if-begins_with.true in
    pieces_rest _ c.args.pieces.now _ first.0 first.1 c.requires.pieces_in
