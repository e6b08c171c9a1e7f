-- What a trial counts as it goes on.
use Rattle.std.specs.Prelude.{◌≡◌, ◌++◌, ℕ, Bool, false, true, List, length, Some}
use Rattle.kex_pipeline.specs.Sayings.{Said}
use Rattle.kex_pipeline.specs.History.{History, bytes_passed, history_text}
use Rattle.kex_top.specs.Trials.{saturated_count, rolling_sum}
use Rattle.kex_top.specs.declared.tally.Tally.{Tally}

-- the bytes of `given` were counted, and this text was written
pub record IsTally (tally : Tally) (given text : List ℕ) : Type 0 where
  pub made : tally.made ≡ saturated_count (length given)
  pub written : tally.written ≡ saturated_count (length text)
  pub roll : tally.roll ≡ rolling_sum 0 text

module _ (says : List ℕ → Bool → Said → Type 0) where
  -- the call brings the stages to w, and counts what is said there and wasn't yet
  pub record Counts (stands : History → Type 0) (h : History) (w : List ℕ) (e : Bool)
      (old new : Tally) : Type 0 where
    pub said : Said
    pub is_said : says w e said
    pub stands_for : stands (Some (record { bytes = w; ended = e; said = said }))
    pub tallied : IsTally old (bytes_passed h) (history_text h) → IsTally new w said.text

-- stages that were fed these bytes, which are counted
module _ (says : List ℕ → Bool → Said → Type 0) (stands : History → Type 0) where
  pub record AreStagesFed (bytes : List ℕ) (tally : Tally) : Type 0 where
    pub said : Said
    pub is_said : says bytes false said
    pub stands_for : stands (Some (record { bytes = bytes; ended = false; said = said }))
    pub tallied : IsTally tally bytes said.text

  -- it was fed some of these bytes, and the rest waits
  abbrev pub HasWaiting : List ℕ → List ℕ → Tally → Type 0
  HasWaiting all waiting tally = (bytes : List ℕ) × AreStagesFed bytes tally
      × (all ≡ bytes ++ waiting)

-- what is said on the bytes, ended, is counted
abbrev pub SumsUp : (List ℕ → Bool → Said → Type 0) → List ℕ → Tally → Type 0
SumsUp says bytes tally = (said : Said) × says bytes true said × IsTally tally bytes said.text
