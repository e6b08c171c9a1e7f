-- What reads asked for, over several reads.
use Rattle.std.proofs.Common.{◌≡◌, ◌≤◌, ℕ, refl, sym, ap, ap₂, ◌∙◌, subst, arith, inl, inr, min, max}
use Rattle.std.specs.Prelude.{Option, Some, None, option_map}
use Rattle.kex_ports.specs.Reads.{Reads, after_asking, bounds_of, bounds_with, last_given, Asks}

bounds_of-after_asking : (room given : ℕ) (r : Option Reads) → bounds_of (option_map (after_asking room given) r) ≡ option_map (bounds_with room) (bounds_of r)
bounds_of-after_asking room given None = refl
bounds_of-after_asking room given (Some r) = refl

min-again : (a b : ℕ) → min (min a b) b ≡ min a b
min-again a b = omega arith

max-again : (a b : ℕ) → max (max a b) b ≡ max a b
max-again a b = omega arith

bound-again : (room : ℕ) (b : Option (ℕ × ℕ)) → option_map (bounds_with room) (option_map (bounds_with room) b) ≡ option_map (bounds_with room) b
bound-again room None = refl
bound-again room (Some b) = ap (λ c. Some c) (ap₂ (λ x y. (x, y)) (min-again b.0 room) (max-again b.1 room))

-- one more read that asked for as much
pub asks-on : (room asked given : ℕ) (old mid new : Option Reads) → asked ≡ room → Asks room old mid → new ≡ option_map (after_asking asked given) mid → Asks room old new
asks-on room asked given old mid new same a n = by a (subst (λ k. new ≡ option_map (after_asking k given) mid) same n) where
  by : Asks room old mid → new ≡ option_map (after_asking room given) mid → Asks room old new
  by (inl e) n = inr (ap bounds_of n ∙ bounds_of-after_asking room given mid ∙ ap (λ r. option_map (bounds_with room) (bounds_of r)) e)
  by (inr e) n = inr (ap bounds_of n ∙ bounds_of-after_asking room given mid ∙ ap (option_map (bounds_with room)) e ∙ bound-again room (bounds_of old))

given-last : (room asked given : ℕ) (r : Option Reads) → given ≤ room → given ≤ last_given room (option_map (after_asking asked given) r)
given-last room asked given None le = le
given-last room asked given (Some r) le = omega arith

-- the bytes of the last read
pub last-read : (room asked given : ℕ) (mid new : Option Reads) → given ≤ room → new ≡ option_map (after_asking asked given) mid → given ≤ last_given room new
last-read room asked given mid new le e = subst (λ r. given ≤ last_given room r) (sym e) (given-last room asked given mid le)
