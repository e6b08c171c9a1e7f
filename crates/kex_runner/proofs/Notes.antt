-- Notes that grow, are cut, and are settled.
use Rattle.std.proofs.Common.{◌≡◌, ℕ, ◌+◌, ◌<◌, List, [], ◌∷◌, ◌++◌, length, map, get_or, take, refl, sym, ap, ap₂, ◌∙◌, append_assoc, append-nil, arith}
use Rattle.std.proofs.lemmas.List.{take_more}
use Rattle.kex_code.specs.declared.symbol.Symbol.{Symbol}
use Rattle.kex_sst.specs.declared.parts.Part.{Part}
use Rattle.kex_sst.specs.declared.parts.Part.TheVariants.{Put, Old, Input}
use Rattle.kex_sst.specs.Parts.{value, parts_code, olds, olds_in, long_in}
use Rattle.kex_runner.specs.Noting.{ByteUpdate, next_registers, registers_after}

-- one more note
pub registers_push : (base : List (List Symbol)) (notes : List ByteUpdate) (n : ByteUpdate) → registers_after base (notes ++ n ∷ []) ≡ next_registers n.update n.byte (registers_after base notes)
registers_push base [] n = refl
registers_push base (m ∷ ms) n = registers_push (next_registers m.update m.byte base) ms n

-- a list of parts that reads no register is the same whatever they hold
pub meant_fresh : (regs regs' : List (List Symbol)) (b : ℕ) (xs : List Part) → olds xs ≡ [] → parts_code regs b xs ≡ parts_code regs' b xs
meant_fresh regs regs' b [] e = refl
meant_fresh regs regs' b (Put s ∷ xs) e = ap (λ z. s ∷ z) (meant_fresh regs regs' b xs e)
meant_fresh regs regs' b (Old i ∷ xs) e = cc
meant_fresh regs regs' b (Input ∷ xs) e = ap (λ z. value regs b Input ++ z) (meant_fresh regs regs' b xs e)

none_left : {A : Type 0} (xs ys : List A) → xs ++ ys ≡ [] → xs ≡ []
none_left [] ys e = refl
none_left (x ∷ xs) ys e = cc

none_right : {A : Type 0} (xs ys : List A) → xs ++ ys ≡ [] → ys ≡ []
none_right [] ys e = e
none_right (x ∷ xs) ys e = cc

pub registers_fresh : (u : List (List Part)) (b : ℕ) (regs regs' : List (List Symbol)) → olds_in u ≡ [] → map (λ xs. parts_code regs b xs) u ≡ map (λ xs. parts_code regs' b xs) u
registers_fresh [] b regs regs' e = refl
registers_fresh (x ∷ xs) b regs regs' e = ap₂ (λ y z. y ∷ z) (meant_fresh regs regs' b x (none_left (olds x) (olds_in xs) e)) (registers_fresh xs b regs regs' (none_right (olds x) (olds_in xs) e))

-- a list of parts, as far as it was read
pub meant_more : (regs : List (List Symbol)) (b : ℕ) (parts : List Part) (k : ℕ) (d : Part) (before now : List Symbol) → k < length parts → now ≡ before ++ parts_code regs b (take k parts) → now ++ value regs b (get_or parts k d) ≡ before ++ parts_code regs b (take (k + 1) parts)
meant_more regs b parts k d before now lt e =
    ap (λ z. z ++ value regs b (get_or parts k d)) e ∙ append_assoc before (parts_code regs b (take k parts)) (value regs b (get_or parts k d))
    ∙ ap (λ z. before ++ z) (ap (λ z. parts_code regs b (take k parts) ++ z) (sym (append-nil (value regs b (get_or parts k d)))) ∙ sym (both (take k parts) (get_or parts k d ∷ [])) ∙ ap (λ z. parts_code regs b z) (sym (take_more parts k d lt)))
  where
    both : (xs ys : List Part) → parts_code regs b (xs ++ ys) ≡ parts_code regs b xs ++ parts_code regs b ys
    both [] ys = refl
    both (x ∷ xs) ys = ap (λ z. value regs b x ++ z) (both xs ys) ∙ sym (append_assoc (value regs b x) (parts_code regs b xs) (parts_code regs b ys))

long_in-append : (xs ys : List (List Part)) → long_in (xs ++ ys) ≡ long_in xs + long_in ys
long_in-append [] ys = omega arith
long_in-append (x ∷ xs) ys = let h = long_in-append xs ys in omega (arith, h)

-- the items of one more list
pub long_more : (lists : List (List Part)) (k : ℕ) (x d : List Part) → k < length lists → x ≡ get_or lists k d → long_in (take (k + 1) lists) ≡ long_in (take k lists) + length x
long_more lists k x d lt e =
    let more = ap long_in (take_more lists k d lt) ∙ long_in-append (take k lists) (get_or lists k d ∷ []) in
    let same = ap length e in
    omega (arith, more, same)
