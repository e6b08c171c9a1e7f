-- The first wrong word is one, and no program has one.
use Rattle.std.proofs.Common.{◌≡◌, ℕ, ◌+◌, ◌-◌, ◌<◌, ◌≤◌, List, ◌++◌, length, take, drop, inl, inr, sym, ap, ◌∙◌, subst, append_assoc, arith}
use Rattle.std.proofs.lemmas.Bool.{cases_lt, cases_order}
use Rattle.std.proofs.lemmas.List.{take-append-drop}
use Rattle.std.proofs.Math.Seq.{take-add}
use Rattle.kex_reader.specs.Syntax.{Word}
use Rattle.kex_reader.specs.Programs.{IsProgram, BeginsProgram, IsFirstWrong}

-- what begins a program has only such fronts
pub front_begins : (a b : List Word) → BeginsProgram (a ++ b) → BeginsProgram a
front_begins a b h = (b ++ h.0, subst IsProgram (append_assoc a b h.0) h.1)

pub take_begins : (ws : List Word) (j k : ℕ) → j ≤ k → BeginsProgram (take k ws) → BeginsProgram (take j ws)
take_begins ws j k le h =
    let e : k ≡ j + (k - j) = omega arith in
    front_begins (take j ws) (take (k - j) (drop j ws)) (subst BeginsProgram (ap (λ (x : ℕ). take x ws) e ∙ take-add j (k - j) ws) h)

pub program_begins : (ws : List Word) (k : ℕ) → IsProgram ws → BeginsProgram (take k ws)
program_begins ws k h = (drop k ws, subst IsProgram (sym (take-append-drop k ws)) h)

pub not_both : (ws : List Word) (k : ℕ) → IsProgram ws → IsFirstWrong ws k → ⊥
not_both ws k b w = elim (cases_lt k (length ws)) [
  | inl lt ↦ w.word lt (program_begins ws (k + 1) b)
  | inr le ↦ w.end (omega (arith, le, w.inside)) b
]

pub not_later : (ws : List Word) (j k : ℕ) → IsFirstWrong ws j → IsFirstWrong ws k → j < k → ⊥
not_later ws j k v w lt = v.word (omega (arith, lt, w.inside)) (take_begins ws (j + 1) k (omega (arith, lt)) w.before)

pub one_wrong : (ws : List Word) (j k : ℕ) → IsFirstWrong ws j → IsFirstWrong ws k → j ≡ k
one_wrong ws j k v w = elim (cases_order j k) [
  | inl e ↦ e
  | inr n ↦ elim n [ inl lt ↦ absurd (not_later ws j k v w lt) | inr gt ↦ absurd (not_later ws k j w v gt) ]
]
