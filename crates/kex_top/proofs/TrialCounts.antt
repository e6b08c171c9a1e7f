-- What a trial counts, step by step.
use Rattle.std.proofs.Common.{◌≡◌, ◌+◌, ◌*◌, ◌%◌, ◌^◌, ◌++◌, ◌∷◌, [], ℕ, suc, List, Bool, false, refl, sym, ap, subst, ◌∙◌, arith, length}
use Rattle.std.specs.Prelude.{Some}
use Rattle.std.proofs.lemmas.List.{append_assoc, length-append}
use Rattle.kex_pipe.specs.declared.turn.Fate.{Fate}
use Rattle.kex_pipeline.specs.Sayings.{Said}
use Rattle.kex_pipeline.specs.History.{FeedsStages, History, bytes_passed, history_text}
use Rattle.kex_top.specs.Tallies.{Counts, HasWaiting, AreStagesFed, IsTally}
use Rattle.kex_top.specs.Trials.{saturated_count, drawn_line, lines_from, next_random, rolling_sum}
use Rattle.kex_top.specs.declared.tally.Tally.{Tally}

pub rolled-append : (h : ℕ) (a b : List ℕ) → rolling_sum h (a ++ b) ≡ rolling_sum (rolling_sum h a) b
rolled-append h [] b = refl
rolled-append h (x ∷ a) b = rolled-append ((h * 31 + x) % 2 ^ 32) a b

capped-more : (n k m : ℕ) → m ≡ n + k → saturated_count (saturated_count n + k) ≡ saturated_count m
capped-more n k m is = omega (arith, is)

module _ (old new : Tally) (piece out : List ℕ) (made : new.made ≡ saturated_count (old.made + length piece)) (written : new.written ≡ saturated_count (old.written + length out)) (roll : new.roll ≡ rolling_sum old.roll out) where
  tallied : (given text : List ℕ) → IsTally old given text → IsTally new (given ++ piece) (text ++ out)
  tallied given text t = record {
    made = made ∙ ap (λ n. saturated_count (n + length piece)) t.made ∙ capped-more (length given) (length piece) _ (length-append given piece);
    written = written ∙ ap (λ n. saturated_count (n + length out)) t.written ∙ capped-more (length text) (length out) _ (length-append text out);
    roll = roll ∙ ap (λ n. rolling_sum n out) t.roll ∙ sym (rolled-append 0 text out);
  }

  -- what is given out is counted
  pub counts : (says : List ℕ → Bool → Said → Type 0) (stands : History → Type 0) (h : History) (w : List ℕ) (e : Bool) (fate : Fate) → w ≡ bytes_passed h ++ piece → FeedsStages says stands h w e out fate → Counts says stands h w e old new
  counts says stands h w e fate is f = record {
    said = f.said;
    is_said = f.is_said;
    stands_for = f.stands_for;
    tallied = λ t. subst (λ z. IsTally new z f.said.text) (sym is) (subst (λ z. IsTally new (bytes_passed h ++ piece) z) (sym f.whole) (tallied (bytes_passed h) (history_text h) t));
  }

module _ (says : List ℕ → Bool → Said → Type 0) (stands now : History → Type 0) where
  -- more is fed of what waits
  pub fed-more : (all bytes waiting rest piece : List ℕ) (old new : Tally) (f : AreStagesFed says stands bytes old) → all ≡ bytes ++ waiting → waiting ≡ piece ++ rest → Counts says now (Some (record { bytes = bytes; ended = false; said = f.said })) (bytes ++ piece) false old new → HasWaiting says now all rest new
  fed-more all bytes waiting rest piece old new f is parts c = (
    bytes ++ piece,
    record { said = c.said; is_said = c.is_said; stands_for = c.stands_for; tallied = c.tallied f.tallied },
    is ∙ ap (λ z. bytes ++ z) parts ∙ sym (append_assoc bytes piece rest),
  )

-- a line more waits
pub waits-more : (says : List ℕ → Bool → Said → Type 0) (stands : History → Type 0) (all waiting line now : List ℕ) (t : Tally) → now ≡ waiting ++ line → HasWaiting says stands all waiting t → HasWaiting says stands (all ++ line) now t
waits-more says stands all waiting line now t is (bytes, fed, parts) = (bytes, fed, ap (λ z. z ++ line) parts ∙ append_assoc bytes waiting line ∙ ap (λ z. bytes ++ z) (sym is))

pub lines-more : (x y k n : ℕ) → y ≡ next_random x → k ≡ suc n → lines_from x k ≡ drawn_line y ++ lines_from y n
lines-more x y k n is more = ap (λ z. lines_from x z) more ∙ ap (λ z. drawn_line z ++ lines_from z n) (sym is)
