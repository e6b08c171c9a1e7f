-- How many lines the first of some desks have to work on.
use Rattle.std.proofs.Common.{ℕ, ◌≡◌, ◌≤◌, ◌<◌, ◌+◌, ◌-◌, ◌*◌, ◌/◌, ◌%◌, ap, ◌∙◌, arith}
use Rattle.std.proofs.Math.Nat.{le-div_iff_mul-le, mul-add, mul-le-mul_right}
use Rattle.std.proofs.lemmas.Nat.{div-add-mod'}

-- one each, and one each is left for the others
pub shares_some : (lines desks first : ℕ) → 0 < desks → desks ≤ lines → first ≤ desks → (first ≤ lines / desks * first) × (lines / desks * first + (desks - first) + lines % desks ≤ lines)
shares_some lines desks first some enough le =
    let q = lines / desks in
    let rest = desks - first in
    let one : 1 ≤ q = (le-div_iff_mul-le some).1 (omega (arith, enough)) in
    let front = mul-le-mul_right first one in
    let back = mul-le-mul_right rest one in
    let both : q * (first + rest) ≡ q * first + q * rest = mul-add q first rest in
    let all : first + rest ≡ desks = omega (arith, le) in
    let whole : q * (first + rest) + lines % desks ≡ lines = ap (λ z. q * z + lines % desks) all ∙ div-add-mod' lines desks in
    (omega (arith, front), omega (arith, back, both, whole))
