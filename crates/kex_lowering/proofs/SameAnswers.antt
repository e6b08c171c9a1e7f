-- Where four relations hold alike the answers are the same.
use Rattle.std.proofs.Common.{ℕ, Bool, List, take}
use Rattle.kex_model.specs.Answers.{Answer, LongestGood, Answers, bad_byte, too_long, cut_off, whole, still_open}

-- what is viable and has a parse in either also does in the other; what is said and meant in the first is in the second
pub record Serves (Good Good' : List ℕ → Type 0) (Says Says' : List ℕ → List ℕ → Type 0) (Parsed Parsed' : List ℕ → Type 0) (Means Means' : List ℕ → List ℕ → Type 0) : Type 0 where
  pub good : (w : List ℕ) → Good w → Good' w
  pub good_back : (w : List ℕ) → Good' w → Good w
  pub says : (w s : List ℕ) → Says w s → Says' w s
  pub parsed_back : (w : List ℕ) → Parsed' w → Parsed w
  pub means : (w s : List ℕ) → Means w s → Means' w s

module _ (Good Good' : List ℕ → Type 0) (Says Says' : List ℕ → List ℕ → Type 0) (Parsed Parsed' : List ℕ → Type 0) (Means Means' : List ℕ → List ℕ → Type 0) (h : Serves Good Good' Says Says' Parsed Parsed' Means Means') where
  longest_so : (w v : List ℕ) → LongestGood Good Says Parsed Means w v → LongestGood Good' Says' Parsed' Means' w v
  longest_so w v l = record { front = l.front; good = h.good v l.good; longest = λ u b g. l.longest u b (h.good_back u g) }

  pub answers_so : (limit : ℕ) {w : List ℕ} {e : Bool} {a : Answer} → Answers Good Says Parsed Means limit w e a → Answers Good' Says' Parsed' Means' limit w e a
  answers_so limit {w = w} (bad_byte {text = s} v bad l says) = bad_byte v (λ g. bad (h.good_back (take limit w) g)) (longest_so (take limit w) v l) (h.says v s says)
  answers_so limit {w = w} (too_long {text = s} lt good says) = too_long lt (h.good (take limit w) good) (h.says (take limit w) s says)
  answers_so limit {w = w} (cut_off {text = s} le good none says) = cut_off le (h.good w good) (λ p. none (h.parsed_back w p)) (h.says w s says)
  answers_so limit {w = w} (whole {text = s} le means) = whole le (h.means w s means)
  answers_so limit {w = w} (still_open {text = s} le good says) = still_open le (h.good w good) (h.says w s says)
