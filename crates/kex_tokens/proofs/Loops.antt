-- One turn of the loops that scan.
use Rattle.std.proofs.Common.{◌≡◌, ℕ, suc, ◌+◌, ◌-◌, ◌<◌, ◌≤◌, Bool, true, false, cond, List, ◌∷◌, length, get_or, drop, Option, Some, None, refl, sym, ap, ◌∙◌, add-one, arith, drop-cons}
use Rattle.std.proofs.Math.ListN.{drop_of_length-le}
use Rattle.std.proofs.lemmas.Bool.{false≢true}
use Rattle.kex_tokens.specs.Scanning.{run, more, ClosingStep, On, Closed, Wrong, after, closing}

-- a length that is found, with k bytes more
unfoldable pub added : ℕ → Option ℕ → Option ℕ
added k None = None
added k (Some n) = Some (k + n)

pub added-more : (k j : ℕ) (o : Option ℕ) → j ≡ k + 1 → added k (more o) ≡ added j o
unfolding added more
added-more k j None e = refl
added-more k j (Some n) e = let q : k + suc n ≡ j + n = omega (arith, e) in ap Some q

pub added-zero : (o : Option ℕ) (k : ℕ) → k ≡ 0 → added k o ≡ o
unfolding added
added-zero None k e = refl
added-zero (Some n) k e = let q : k + n ≡ n = omega (arith, e) in ap Some q

-- the byte at i, and what comes after it
pub drop_at_next : (text : List ℕ) (i : ℕ) → i < length text → drop i text ≡ get_or text i 0 ∷ drop (i + 1) text
drop_at_next text i h = drop-cons text i 0 h ∙ ap (λ (n : ℕ). get_or text i 0 ∷ drop n text) (sym (add-one i))

-- what has been scanned, and what the rest is scanned to, is what the whole is scanned to
abbrev pub IsScanned : {S : Type 0} → (S → ℕ → ClosingStep S) → S → List ℕ → ℕ → S → ℕ → Type 0
IsScanned step first text from s i = added (i - from) (closing step s (drop i text)) ≡ closing step first (drop from text)

pub closing_at : {S : Type 0} (step : S → ℕ → ClosingStep S) (text : List ℕ) (i : ℕ) (s : S) (x : ClosingStep S) → i < length text → x ≡ step s (get_or text i 0) → closing step s (drop i text) ≡ after x (λ t. closing step t (drop (i + 1) text))
unfolding closing
closing_at step text i s x h e = ap (closing step s) (drop_at_next text i h) ∙ ap (λ (y : ClosingStep _). after y (λ t. closing step t (drop (i + 1) text))) (sym e)

pub goes_on : {S : Type 0} (step : S → ℕ → ClosingStep S) (first : S) (text : List ℕ) (from i : ℕ) (s t : S) → from ≤ i → i < length text → On t ≡ step s (get_or text i 0) → IsScanned step first text from s i → IsScanned step first text from t (i + 1)
goes_on step first text from i s t le h e inv = sym (ap (added (i - from)) (closing_at step text i s (On t) h e) ∙ added-more (i - from) (i + 1 - from) (closing step t (drop (i + 1) text)) (omega (arith, le))) ∙ inv

pub closes : {S : Type 0} (step : S → ℕ → ClosingStep S) (first : S) (text : List ℕ) (from i n : ℕ) (s : S) → from ≤ i → i < length text → n ≡ i + 1 - from → Closed ≡ step s (get_or text i 0) → IsScanned step first text from s i → Some n ≡ closing step first (drop from text)
unfolding added
closes step first text from i n s le h q e inv = let k : n ≡ (i - from) + 1 = omega (arith, le, q) in ap Some k ∙ sym (ap (added (i - from)) (closing_at step text i s Closed h e)) ∙ inv

pub goes_wrong : {S : Type 0} (step : S → ℕ → ClosingStep S) (first : S) (text : List ℕ) (from i : ℕ) (s : S) → i < length text → Wrong ≡ step s (get_or text i 0) → IsScanned step first text from s i → None ≡ closing step first (drop from text)
unfolding added
goes_wrong step first text from i s h e inv = sym (ap (added (i - from)) (closing_at step text i s Wrong h e)) ∙ inv

pub never_closes : {S : Type 0} (step : S → ℕ → ClosingStep S) (first : S) (text : List ℕ) (from i : ℕ) (s : S) → length text ≤ i → IsScanned step first text from s i → None ≡ closing step first (drop from text)
unfolding added closing
never_closes step first text from i s h inv = sym (ap (λ (w : List ℕ). added (i - from) (closing step s w)) (drop_of_length-le text h)) ∙ inv

-- runs
pub run_at : (p : ℕ → Bool) (text : List ℕ) (i : ℕ) → i < length text → run p (drop i text) ≡ cond (p (get_or text i 0)) (suc (run p (drop (i + 1) text))) 0
unfolding run
run_at p text i h = ap (run p) (drop_at_next text i h)

pub yes_run : (b : Bool) (n : ℕ) → b ≡ true → cond b (suc n) 0 ≡ suc n
yes_run true n e = refl
yes_run false n e = absurd (false≢true e)

pub no_run : (b : Bool) (n : ℕ) → b ≡ false → cond b (suc n) 0 ≡ 0
no_run true n e = absurd (false≢true (sym e))
no_run false n e = refl

pub run_goes : (p : ℕ → Bool) (text : List ℕ) (from i : ℕ) → from ≤ i → i < length text → p (get_or text i 0) ≡ true → (i - from) + run p (drop i text) ≡ run p (drop from text) → (i + 1 - from) + run p (drop (i + 1) text) ≡ run p (drop from text)
run_goes p text from i le h y inv = omega (arith, inv, le, run_at p text i h ∙ yes_run (p (get_or text i 0)) (run p (drop (i + 1) text)) y)

pub run_stops : (p : ℕ → Bool) (text : List ℕ) (from i n : ℕ) → n ≡ i - from → i < length text → p (get_or text i 0) ≡ false → (i - from) + run p (drop i text) ≡ run p (drop from text) → n ≡ run p (drop from text)
run_stops p text from i n q h y inv = omega (arith, q, inv, run_at p text i h ∙ no_run (p (get_or text i 0)) (run p (drop (i + 1) text)) y)

pub run_ends : (p : ℕ → Bool) (text : List ℕ) (from i n : ℕ) → n ≡ i - from → length text ≤ i → (i - from) + run p (drop i text) ≡ run p (drop from text) → n ≡ run p (drop from text)
unfolding run
run_ends p text from i n q h inv = omega (arith, q, inv, ap (run p) (drop_of_length-le text h))
