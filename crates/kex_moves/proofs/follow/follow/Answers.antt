use Rattle.std.proofs.Common.{◌≡◌, ◌∙◌, ◌+◌, ◌*◌, ◌-◌, ◌≤◌, ◌<◌, true, length, get_or, take, drop, sym, ap, subst, arith, length-take, length-drop}
use Rattle.std.proofs.lemmas.List.Elements.{All-get_or}
use Rattle.kex_moves.specs.declared.edge.Edge.{Edge}
use Rattle.kex_moves.specs.Edges.{is_written, HasRoom}
use Rattle.kex_moves.specs.Runs.{RunStep}
use Rattle.kex_moves.specs.Trails.{IsWrittenEdge, IsTrail}
use Rattle.kex_moves.proofs.Runs.{no_edge}
use Rattle.kex_moves.proofs.Trails.{no_piece, trail_next, trail_on, edge_read, over_unwritten}
use Rattle.kex_moves.proofs.follow.follow.Goals as goal

pub loop-at-preserved-then-e-row : goal.loop-at-preserved-then-e-row
loop-at-preserved-then-e-row c =
    let edges = c.args.edges.now in
    let text = c.args.text.now in
    let width = c.args.width in
    let pieces = c.args.pieces.now in
    let at = c.loop-at.at in
    let p = get_or pieces at no_piece in
    let i = c.loop-at.row + p.word in
    let e = get_or edges i no_edge in
    let count = c.stay-count.result in
    let back : e.next ≡ c.loop-at.row = c.if-e-row.true in
    let within : p.word < width = omega (arith, c.if-piece-width.false) in
    let lt : i < length edges = omega (arith, within, c.loop-at.invariant.row) in
    let step : IsWrittenEdge edges width c.loop-at.row p e = record { within = within; edge = edge_read edges i lt; written = sym c.is_written.ensures ∙ c.if-not-is_written.false } in
    let from : RunStep = record { row = c.args.from.row; writes = take c.args.from.used c.args.buffer.now } in
    let here : RunStep = record { row = c.loop-at.row; writes = take c.loop-at.used c.loop-at.buffer } in
    let next : RunStep = record { row = e.next; writes = take (c.loop-at.used + e.adds) c.put.new.buffer } in
    let writes = take (c.loop-at.used + e.adds + count * e.adds) c.stay-count.new.buffer in
    let first = trail_next edges text width pieces at e from here next c.loop-at-test.true c.loop-at.invariant.trail step (ap (λ l. record { row = e.next; writes = l }) c.put.ensures.written) in
    let rest = c.stay-count.ensures.trail edges width (subst (λ r. IsWrittenEdge edges width r p e) (sym back) step) in
    let left : length (take (length pieces - (at + 1)) (drop (at + 1) pieces)) ≡ length pieces - (at + 1) = omega (arith, length-take (length pieces - (at + 1)) (drop (at + 1) pieces), length-drop (at + 1) pieces) in
    record {
      at = omega (arith, c.stay-count.ensures.count, left, c.loop-at-test.true);
      row = c.loop-at.invariant.row;
      room = omega (arith, c.stay-count.ensures.room, c.stay-count.ensures.len, c.stay-count.ensures.count, left);
      trail = subst (λ r. IsTrail edges text width (take (at + 1 + count) pieces) from (record { row = r; writes = writes })) back (trail_on edges text width pieces (at + 1) count from next (record { row = e.next; writes = writes }) first rest);
    }

pub loop-at-preserved : goal.loop-at-preserved
loop-at-preserved c =
    let edges = c.args.edges.now in
    let text = c.args.text.now in
    let pieces = c.args.pieces.now in
    let at = c.loop-at.at in
    let p = get_or pieces at no_piece in
    let i = c.loop-at.row + p.word in
    let e = get_or edges i no_edge in
    let within : p.word < c.args.width = omega (arith, c.if-piece-width.false) in
    let lt : i < length edges = omega (arith, within, c.loop-at.invariant.row) in
    let written : is_written e.kind ≡ true = sym c.is_written.ensures ∙ c.if-not-is_written.false in
    let room : HasRoom (length text) e = All-get_or (λ (e : Edge). is_written e.kind ≡ true → HasRoom (length text) e) edges i no_edge lt c.requires.text written in
    let from : RunStep = record { row = c.args.from.row; writes = take c.args.from.used c.args.buffer.now } in
    let here : RunStep = record { row = c.loop-at.row; writes = take c.loop-at.used c.loop-at.buffer } in
    let next : RunStep = record { row = e.next; writes = take (c.loop-at.used + e.adds) c.put.new.buffer } in
    record {
      at = omega (arith, c.loop-at-test.true);
      row = All-get_or (λ (e : Edge). is_written e.kind ≡ true → e.next + c.args.width ≤ length edges) edges i no_edge lt c.requires.next written;
      room = omega (arith, room.adds, c.put.ensures.len, c.loop-at.invariant.room, c.loop-at-test.true);
      trail = trail_next edges text c.args.width pieces at e from here next c.loop-at-test.true c.loop-at.invariant.trail (record { within = within; edge = edge_read edges i lt; written = written }) (ap (λ l. record { row = e.next; writes = l }) c.put.ensures.written);
    }

pub returns-then-not-is_written-clause-stops : goal.returns-then-not-is_written-clause-stops
returns-then-not-is_written-clause-stops c =
    let edges = c.args.edges.now in
    let pieces = c.args.pieces.now in
    let at = c.loop-at.at in
    let i = c.loop-at.row + (get_or pieces at no_piece).word in
    let lt : i < length edges = omega (arith, c.if-piece-width.false, c.loop-at.invariant.row) in
    over_unwritten edges c.args.width c.loop-at.row pieces at (get_or edges i no_edge) c.loop-at-test.true (edge_read edges i lt) (sym c.is_written.ensures ∙ c.if-not-is_written.true)
