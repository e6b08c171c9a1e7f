use Rattle.std.proofs.Common.{◌+◌, get_or, take, sym, ap, subst, arith, IfSome}
use Rattle.std.specs.Prelude.{◌≢◌}
use Rattle.std.proofs.lemmas.Option.{slice_get-get_or, slice_get_past}
use Rattle.kex_script.specs.declared.piece.ByteWord.{ByteWord}
use Rattle.kex_moves.specs.Runs.{RunStep}
use Rattle.kex_moves.proofs.Trails.{no_piece, trail_next, same_step}
use Rattle.kex_moves.proofs.follow.stay.Goals as goal

pub loop-count-preserved : goal.loop-count-preserved
loop-count-preserved c =
    let e = c.args.e in
    let pieces = c.args.pieces.now in
    let count = c.loop-count.count in
    let from : RunStep = record { row = e.next; writes = take c.args.used c.args.buffer.now } in
    let here : RunStep = record { row = e.next; writes = take c.loop-count.used c.loop-count.buffer } in
    let to : RunStep = record { row = e.next; writes = take (c.loop-count.used + e.adds) c.put.new.buffer } in
    record {
      count = omega (arith, c.loop-count-test.true);
      used = grind (arith, c.loop-count.invariant.used);
      room = omega (arith, c.requires.edge.adds, c.put.ensures.len, c.loop-count.invariant.room, c.loop-count-test.true);
      trail = λ edges width step. trail_next edges c.args.text.now width pieces count e from here to c.loop-count-test.true (c.loop-count.invariant.trail edges width step) (same_step edges width e.next c.args.before (get_or pieces count no_piece) e c.if-next-before.false step) (ap (λ l. record { row = e.next; writes = l }) c.put.ensures.written);
    }

pub returns-after-loop-count-clause-other : goal.returns-after-loop-count-clause-other
returns-after-loop-count-clause-other c =
    subst (λ o. IfSome o (λ (p : ByteWord). p.word ≢ c.args.before.word)) (sym (slice_get_past c.args.pieces.now c.loop-count.count c.loop-count-test.false)) tt

pub returns-then-next-before-clause-other : goal.returns-then-next-before-clause-other
returns-then-next-before-clause-other c =
    subst (λ o. IfSome o (λ (p : ByteWord). p.word ≢ c.args.before.word)) (sym (slice_get-get_or c.args.pieces.now c.loop-count.count no_piece c.loop-count-test.true)) c.if-next-before.true
