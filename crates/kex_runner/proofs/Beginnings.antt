-- The update before the first byte reads no register, so what a runner begins with is the same
-- whatever its registers held.
use Rattle.std.proofs.Common.{◌≡◌, List, [], ◌∷◌, ◌++◌, inl, inr, refl, ap₂}
use Rattle.kex_code.specs.Codes.{IsAmong}
use Rattle.kex_sst.specs.declared.parts.Part.{Part}
use Rattle.kex_sst.specs.declared.parts.Part.TheVariants.{Put, Old, Input}
use Rattle.kex_sst.specs.Parts.{Change, olds, olds_in, IsPut, EachPart}

puts_only : (xs : List Part) → ((x : Part) → IsAmong xs x → IsPut x) → olds xs ≡ []
puts_only [] h = refl
puts_only (Put s ∷ xs) h = puts_only xs (λ x i. h x (inr i))
puts_only (Old i ∷ xs) h = absurd (h (Old i) (inl refl))
puts_only (Input ∷ xs) h = absurd (h Input (inl refl))

puts_in : (xs : List (List Part))
    → ((ys : List Part) → IsAmong xs ys → (x : Part) → IsAmong ys x → IsPut x) → olds_in xs ≡ []
puts_in [] h = refl
puts_in (x ∷ xs) h =
    ap₂ (λ u v. u ++ v) (puts_only x (h x (inl refl))) (puts_in xs (λ ys i. h ys (inr i)))

pub out_plain : (u : Change) → EachPart IsPut u → olds u.out ≡ []
out_plain u h = puts_only u.out h.out

pub regs_plain : (u : Change) → EachPart IsPut u → olds_in u.regs ≡ []
regs_plain u h = puts_in u.regs h.regs
