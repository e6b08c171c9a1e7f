use Rattle.std.proofs.Common.{◌≡◌, ℕ, List, ◌+◌, ◌-◌, ◌∙◌, ◌++◌, take, drop, get_or, sym, ap, arith}
use Rattle.std.proofs.Math.Seq.{take-add}
use Rattle.std.proofs.lemmas.List.{append-nil, take_more, take_more_set}
use Rattle.kex_moves.specs.Runs.{Rows, run_from}
use Rattle.kex_moves.proofs.Runs.{copies_on}
use Rattle.kex_moves.proofs.run.copy_alone.Goals as goal

-- what was copied, and as many bytes more
copied_on : (xs ys ws : List ℕ) (n m : ℕ) → take (n + m) ys ≡ take n xs ++ take m (drop n ws) → take n xs ≡ take n ws → take (n + m) ys ≡ take (n + m) ws
copied_on xs ys ws n m e f = e ∙ ap (λ l. l ++ take m (drop n ws)) f ∙ sym (take-add n m ws)

pub loop-count-init : goal.loop-count-init
loop-count-init c =
    let piece = c.args.piece.now in
    let b = get_or piece 0 0 in
    record {
      some = omega arith;
      within = omega (arith, c.requires.some);
      row = c.requires.row;
      back = c.requires.back;
      copied = take_more_set c.args.to.now 0 b (omega (arith, c.requires.some, c.requires.room)) ∙ sym (take_more piece 0 0 c.requires.some);
      ran = λ text rows xs.
          let t : Rows = record { classes = c.args.classes.now; edges = c.args.edges.now; text = text } in
          ap (λ (l : List ℕ). run_from t piece l c.args.next 1) (append-nil xs);
    }

pub loop-count-preserved : goal.loop-count-preserved
loop-count-preserved c =
    let count = c.loop-count.count in
    let more = c.copied_of_eight-more.result in
    let few = c.copied_of_eight-more.ensures.within in
    let stands = c.loop-count.invariant in
    record {
      some = omega (arith, stands.some);
      within = omega (arith, few, c.loop-count-test.true);
      row = c.copied_of_eight-more.ensures.row;
      back = c.copied_of_eight-more.ensures.back;
      copied = copied_on c.loop-count.to c.copy_eight.new.to c.args.piece.now count more.count (c.copy_eight.ensures.copied more.count few) stands.copied;
      ran = λ text rows.
          let t : Rows = record { classes = c.args.classes.now; edges = c.args.edges.now; text = text } in
          copies_on t c.args.piece.now c.args.next 1 c.loop-count.row (count - 1) count more.row more.count (count + more.count - 1) (omega (arith, stands.some)) (omega (arith, stands.some)) (stands.ran text rows) (c.copied_of_eight-more.ensures.ran text rows);
    }

pub returns-then-more-lt-EIGHT-clause-copied : goal.returns-then-more-lt-EIGHT-clause-copied
returns-then-more-lt-EIGHT-clause-copied c =
    let more = c.copied_of_eight-more.result in
    copied_on c.loop-count.to c.copy_eight.new.to c.args.piece.now c.loop-count.count more.count (c.copy_eight.ensures.copied more.count c.copied_of_eight-more.ensures.within) c.loop-count.invariant.copied

pub returns-then-more-lt-EIGHT-clause-ran : goal.returns-then-more-lt-EIGHT-clause-ran
returns-then-more-lt-EIGHT-clause-ran c = λ text rows.
    let t : Rows = record { classes = c.args.classes.now; edges = c.args.edges.now; text = text } in
    let count = c.loop-count.count in
    let more = c.copied_of_eight-more.result in
    let some = c.loop-count.invariant.some in
    copies_on t c.args.piece.now c.args.next 1 c.loop-count.row (count - 1) count more.row more.count (count + more.count - 1) (omega (arith, some)) (omega (arith, some)) (c.loop-count.invariant.ran text rows) (c.copied_of_eight-more.ensures.ran text rows)
