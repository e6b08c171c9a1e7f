use Rattle.std.proofs.Common.{◌≡◌, ℕ, List, ◌+◌, ◌-◌, ◌++◌, ◌∷◌, [], length, take, drop, get_or, subst, sym, ap, ◌∙◌, append_assoc, arith, length-drop}
use Rattle.std.proofs.Math.Seq.{take-add}
use Rattle.std.proofs.lemmas.List.{take_all, take_more, take_rest}
use Rattle.kex_frontier.specs.Matchers.{IsAnswer, IsDeadAt, WasFed}
use Rattle.kex_frontier.proofs.matcher.Matcher.feed.Goals as goal
use Rattle.kex_frontier.proofs.matcher.Matcher.feed.Goals.{then-self, else-self}

pub loop-taken-preserved : goal.loop-taken-preserved
loop-taken-preserved c =
    let piece = c.args.piece.now in
    let t = c.loop-taken.taken in
    let r = c.follow-taken-in-loop-taken.result in
    let byte = get_or piece t 0 in
    let left : List ℕ = take (length piece - (t + 1)) (drop (t + 1) piece) in
    let rest : left ≡ drop (t + 1) piece = take_rest piece (t + 1) in
    let long : length left ≡ length piece - (t + 1) = ap length rest ∙ length-drop (t + 1) piece in
    record {
      taken = omega (arith, long, c.follow-taken-in-loop-taken.ensures.taken, c.loop-taken-test.true);
      fed = λ w h.
          let more : (w ++ take t piece) ++ byte ∷ [] ≡ w ++ take (t + 1) piece = append_assoc w (take t piece) (byte ∷ []) ∙ ap (λ z. w ++ z) (sym (take_more piece t 0 c.loop-taken-test.true)) in
          let byte_fed = subst (λ z. WasFed c.take.new.self z) more (c.take.ensures.fed (w ++ take t piece) (c.loop-taken.invariant.fed w h)) in
          let along = c.follow-taken-in-loop-taken.ensures.fed (w ++ take (t + 1) piece) byte_fed in
          let all : (w ++ take (t + 1) piece) ++ take r left ≡ w ++ take (t + 1 + r) piece = append_assoc w (take (t + 1) piece) (take r left) ∙ ap (λ z. w ++ (take (t + 1) piece ++ take r z)) rest ∙ ap (λ z. w ++ z) (sym (take-add (t + 1) r piece)) in
          subst (λ z. WasFed c.follow-taken-in-loop-taken.new.self z) all along;
      machine = c.follow-taken-in-loop-taken.ensures.machine ∙ c.take.ensures.machine ∙ c.loop-taken.invariant.machine;
      count = omega (arith, c.follow-taken-in-loop-taken.ensures.count, c.take.ensures.count, c.loop-taken.invariant.count);
    }

pub returns-clause-fed : goal.returns-clause-fed
returns-clause-fed c = λ w h.
    let m = c.loop-taken.self in
    let fed : WasFed m (w ++ c.args.piece.now) = subst (λ z. WasFed m (w ++ z)) (take_all c.loop-taken.taken c.args.piece.now c.loop-taken-test.false) (c.loop-taken.invariant.fed w h) in (
      fed,
      elim c.if-self.branch [
        | then-self x ↦ subst (λ z. IsAnswer z m.machine (w ++ c.args.piece.now)) (sym x.result-is) (subst (λ n. IsDeadAt m.machine (w ++ c.args.piece.now) n) (ap (λ z. z.good) (sym c.self.view_is)) (fed.dead (ap (λ z. z.dead) (sym c.self.view_is) ∙ x.if-self.true)))
        | else-self x ↦ subst (λ z. IsAnswer z m.machine (w ++ c.args.piece.now)) (sym x.result-is) (fed.good (ap (λ z. z.dead) (sym c.self.view_is) ∙ x.if-self.false)).0
      ],
    )
