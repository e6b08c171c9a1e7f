-- How many bytes the first of some parts have.
use Rattle.std.proofs.Common.{ℕ, ◌≡◌, ◌≤◌, ◌<◌, ◌+◌, ◌-◌, ◌*◌, ◌/◌, ◌%◌, ap, ◌∙◌, arith}
use Rattle.std.proofs.Math.Nat.{le-div_iff_mul-le, mul-add, mul-le-mul_right}
use Rattle.std.proofs.lemmas.Nat.{div-add-mod'}

-- one each, and one each is left for the others
pub parts_some : (bytes parts first : ℕ) → 0 < parts → parts ≤ bytes → first ≤ parts → (first ≤ bytes / parts * first) × (bytes / parts * first + (parts - first) + bytes % parts ≤ bytes)
parts_some bytes parts first some enough le =
    let q = bytes / parts in
    let rest = parts - first in
    let one : 1 ≤ q = (le-div_iff_mul-le some).1 (omega (arith, enough)) in
    let front = mul-le-mul_right first one in
    let back = mul-le-mul_right rest one in
    let both : q * (first + rest) ≡ q * first + q * rest = mul-add q first rest in
    let all : first + rest ≡ parts = omega (arith, le) in
    let whole : q * (first + rest) + bytes % parts ≡ bytes = ap (λ z. q * z + bytes % parts) all ∙ div-add-mod' bytes parts in
    (omega (arith, front), omega (arith, back, both, whole))
