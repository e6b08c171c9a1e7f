use Rattle.std.proofs.Common.{rules, ◌≡◌, ◌++◌, ◌∷◌, [], length, get_or, subst, ◌∙◌, arith}
use Rattle.kex_machine.specs.Answers.{IsViableFor}
use Rattle.kex_stage.proofs.ByPaths.{Went, reads_all, reads_so_far, went_next}
use Rattle.kex_stage.proofs.paths.follow.Goals as goal

pub returns-in-Ok-Dead-clause-reads : goal.returns-in-Ok-Dead-clause-reads
returns-in-Ok-Dead-clause-reads c =
    reads_so_far c.loop-i.frontier c.args.frontier.now c.args.frontier.now.machine c.loop-i.invariant.machine c.args.piece.now c.loop-i.i c.loop-i-test.true c.loop-i.invariant.went c.feed.new.self (λ w d h.
    let by = rw c.in-Ok-Dead.field-0-is at (c.in-Ok-Dead.ensures.fed w d h) in
    (subst (λ m. IsViableFor m (w ++ get_or c.args.piece.now c.loop-i.i 0 ∷ []) → ⊥) (c.in-Ok-Dead.ensures.machine ∙ c.loop-i.invariant.machine) by.0, by.1))

pub loop-i-preserved : goal.loop-i-preserved
loop-i-preserved c = record {
  machine = c.in-Ok-On.ensures.machine ∙ c.loop-i.invariant.machine;
  usable = search rules;
  open_ = c.in-Ok-On.ensures.open;
  went = went_next c.loop-i.frontier c.args.frontier.now c.args.frontier.now.machine c.args.piece.now c.loop-i.i c.loop-i-test.true c.loop-i.invariant.went c.feed.new.self (λ w d h.
      let by = rw c.in-Ok-On.field-0-is at (c.in-Ok-On.ensures.fed w d h) in
      (subst (λ m. IsViableFor m (w ++ get_or c.args.piece.now c.loop-i.i 0 ∷ [])) (c.in-Ok-On.ensures.machine ∙ c.loop-i.invariant.machine) by.0, by.1));
}

pub returns-clause-reads : goal.returns-clause-reads
returns-clause-reads c =
    let all : c.loop-i.i ≡ length c.args.piece.now = omega (arith, c.loop-i-test.false, c.loop-i.auto.i-end) in
    reads_all c.loop-i.frontier c.args.frontier.now c.args.frontier.now.machine c.loop-i.invariant.machine c.args.piece.now (subst (λ k. Went c.loop-i.frontier c.args.frontier.now c.args.frontier.now.machine c.args.piece.now k) all c.loop-i.invariant.went)
