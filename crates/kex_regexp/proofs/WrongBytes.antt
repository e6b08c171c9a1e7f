-- The first wrong byte is one, and no body has one.
use Rattle.std.proofs.Common.{◌≡◌, ℕ, ◌+◌, ◌-◌, ◌<◌, ◌≤◌, List, ◌++◌, length, take, drop, inl, inr, sym, ap, ◌∙◌, subst, append_assoc, arith}
use Rattle.std.proofs.lemmas.Bool.{cases_lt, cases_order}
use Rattle.std.proofs.lemmas.List.{take-append-drop}
use Rattle.std.proofs.Math.Seq.{take-add}
use Rattle.kex_regexp.specs.Bodies.{IsBody, BeginsBody, IsFirstWrong}

-- what begins a body has only such fronts
pub front_begins : (a b : List ℕ) → BeginsBody (a ++ b) → BeginsBody a
front_begins a b h = (b ++ h.0, subst IsBody (append_assoc a b h.0) h.1)

pub take_begins : (bytes : List ℕ) (j k : ℕ) → j ≤ k → BeginsBody (take k bytes) → BeginsBody (take j bytes)
take_begins bytes j k le h =
    let e : k ≡ j + (k - j) = omega arith in
    front_begins (take j bytes) (take (k - j) (drop j bytes)) (subst BeginsBody (ap (λ (x : ℕ). take x bytes) e ∙ take-add j (k - j) bytes) h)

pub body_begins : (bytes : List ℕ) (k : ℕ) → IsBody bytes → BeginsBody (take k bytes)
body_begins bytes k h = (drop k bytes, subst IsBody (sym (take-append-drop k bytes)) h)

pub not_both : (bytes : List ℕ) (k : ℕ) → IsBody bytes → IsFirstWrong bytes k → ⊥
not_both bytes k b w = elim (cases_lt k (length bytes)) [
  | inl lt ↦ w.byte lt (body_begins bytes (k + 1) b)
  | inr le ↦ w.end (omega (arith, le, w.inside)) b
]

pub not_later : (bytes : List ℕ) (j k : ℕ) → IsFirstWrong bytes j → IsFirstWrong bytes k → j < k → ⊥
not_later bytes j k v w lt = v.byte (omega (arith, lt, w.inside)) (take_begins bytes (j + 1) k (omega (arith, lt)) w.before)

pub one_wrong : (bytes : List ℕ) (j k : ℕ) → IsFirstWrong bytes j → IsFirstWrong bytes k → j ≡ k
one_wrong bytes j k v w = elim (cases_order j k) [
  | inl e ↦ e
  | inr n ↦ elim n [ inl lt ↦ absurd (not_later bytes j k v w lt) | inr gt ↦ absurd (not_later bytes k j w v gt) ]
]
