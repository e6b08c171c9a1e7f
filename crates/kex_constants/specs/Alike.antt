-- Tables that pass on the same.
use Rattle.std.specs.Prelude.{◌≡◌, ℕ, List, Option, Some, None}
use Rattle.kex_sst.specs.Tables.{Transducer}
use Rattle.kex_sst.specs.Passes.{Pass, passes, whole_code}

-- both or neither went on; then they are at the same state, passed on the same, and end alike
abbrev pub PassesAreAlike : Transducer → Transducer → Option Pass → Option Pass → Type 0
PassesAreAlike t u None None = Unit {0}
PassesAreAlike t u None (Some q) = ⊥
PassesAreAlike t u (Some p) None = ⊥
PassesAreAlike t u (Some p) (Some q) = (q.state ≡ p.state) × (q.code ≡ p.code)
    × (whole_code u q ≡ whole_code t p)

-- they are so after every text
abbrev pub PassAlike : Transducer → Transducer → Type 0
PassAlike t u = (w : List ℕ) → PassesAreAlike t u (passes t w) (passes u w)

-- both or neither went on; then they passed on the same, and end alike
abbrev pub PassesSpeakAlike : Transducer → Transducer → Option Pass → Option Pass → Type 0
PassesSpeakAlike t u None None = Unit {0}
PassesSpeakAlike t u None (Some q) = ⊥
PassesSpeakAlike t u (Some p) None = ⊥
PassesSpeakAlike t u (Some p) (Some q) = (q.code ≡ p.code) × (whole_code u q ≡ whole_code t p)

-- they did so after every text, at whatever states
abbrev pub SpeakAlike : Transducer → Transducer → Type 0
SpeakAlike t u = (w : List ℕ) → PassesSpeakAlike t u (passes t w) (passes u w)
