use Rattle.std.proofs.Common.{rules, ◌≡◌, ◌+◌, ◌++◌, ◌<◌, List, ℕ, ◌∷◌, [], length, take, sym, ap, subst, ◌∙◌, arith, append_assoc, take-suc, add-one}
use Rattle.std.specs.Prelude.{slice_index_or}
use Rattle.std.proofs.lemmas.List.{take_all}
use Rattle.kex_machine.specs.Answers.{IsViableFor}
use Rattle.kex_frontier.specs.Frontiers.{IsFed}
use Rattle.kex_single.proofs.path_codes.read.Goals as goal

next_byte : (w piece : List ℕ) (i : ℕ) → i < length piece → (w ++ take i piece) ++ slice_index_or piece i 0 ∷ [] ≡ w ++ take (i + 1) piece
next_byte w piece i h = append_assoc w (take i piece) _ ∙ ap (λ z. w ++ z) (sym (ap (λ (n : ℕ). take n piece) (add-one i) ∙ take-suc piece i 0 h))

pub returns-in-Ok-Dead-clause-reads : goal.returns-in-Ok-Dead-clause-reads
returns-in-Ok-Dead-clause-reads c = λ w d h v.
    let i = c.loop-i.invariant in
    let a = i.fed w d h v in
    let by = rw c.in-Ok-Dead.field-0-is at (c.in-Ok-Dead.ensures.fed (w ++ take c.loop-i.i c.args.piece.now) d a.0) in
    let byte = next_byte w c.args.piece.now c.loop-i.i c.loop-i-test.true in
    let dead = subst (λ z. IsViableFor c.feed.new.self.machine z → ⊥) byte by.0 in
    let fed = subst (λ z. IsFed c.feed.new.self z d) byte by.1 in
    ((c.loop-i-test.true, a.1, subst (λ m. IsViableFor m (w ++ take (c.loop-i.i + 1) c.args.piece.now) → ⊥) (c.in-Ok-Dead.ensures.machine ∙ i.machine) dead), fed)

pub loop-i-preserved : goal.loop-i-preserved
loop-i-preserved c =
    let i = c.loop-i.invariant in
    record {
      machine = c.in-Ok-On.ensures.machine ∙ i.machine;
      usable = search rules;
      open_ = c.in-Ok-On.ensures.open;
      fed = λ w d h v.
          let a = i.fed w d h v in
          let by = rw c.in-Ok-On.field-0-is at (c.in-Ok-On.ensures.fed (w ++ take c.loop-i.i c.args.piece.now) d a.0) in
          let byte = next_byte w c.args.piece.now c.loop-i.i c.loop-i-test.true in (
            subst (λ z. IsFed c.feed.new.self z d) byte by.1,
            subst (λ m. IsViableFor m (w ++ take (c.loop-i.i + 1) c.args.piece.now)) (c.in-Ok-On.ensures.machine ∙ i.machine) (subst (λ z. IsViableFor c.feed.new.self.machine z) byte by.0),
          );
    }

pub returns-clause-reads : goal.returns-clause-reads
returns-clause-reads c = λ w d h v.
    let a = c.loop-i.invariant.fed w d h v in
    let all : take c.loop-i.i c.args.piece.now ≡ c.args.piece.now = take_all c.loop-i.i c.args.piece.now (omega (arith, c.loop-i-test.false)) in
    (subst (λ z. IsViableFor c.args.oracle.now.machine (w ++ z)) all a.1, subst (λ z. IsFed c.loop-i.oracle (w ++ z) d) all a.0)
