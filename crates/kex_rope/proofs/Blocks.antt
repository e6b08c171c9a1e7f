-- Blocks put after blocks, and what one of them gains or loses.
use Rattle.std.proofs.Common.{◌≡◌, ◌≤◌, ◌<◌, ⊎_elim, ℕ, zero, suc, ◌+◌, List, [], ◌∷◌, ◌++◌, length, get_or, set, refl, sym, ap, ◌∙◌, append_assoc, append-nil, arith, length-append}
use Rattle.std.specs.Global.{Vec}
use Rattle.kex_code.specs.declared.symbol.Symbol.{Symbol}
use Rattle.kex_rope.specs.Blocks.{symbols_in, AreFilled, AreBlocks}

pub joined-append : (xs ys : List (Vec Symbol)) → symbols_in (xs ++ ys) ≡ symbols_in xs ++ symbols_in ys
joined-append [] ys = refl
joined-append (x ∷ xs) ys = ap (λ z. x.items ++ z) (joined-append xs ys) ∙ sym (append_assoc x.items (symbols_in xs) (symbols_in ys))

pub filled-append : (xs ys : List (Vec Symbol)) → AreFilled xs → AreFilled ys → AreFilled (xs ++ ys)
filled-append [] ys h k = k
filled-append (x ∷ xs) ys h k = (h.0, filled-append xs ys h.1 k)

-- the last block has gained symbols
pub joined-set_last : (bs : List (Vec Symbol)) (i : ℕ) (v d : Vec Symbol) (more : List Symbol) → i + 1 ≡ length bs → v.items ≡ (get_or bs i d).items ++ more → symbols_in (set bs i v) ≡ symbols_in bs ++ more
joined-set_last [] i v d more e h = absurd (omega arith)
joined-set_last (b ∷ []) zero v d more e h = append-nil v.items ∙ h ∙ ap (λ z. z ++ more) (sym (append-nil b.items))
joined-set_last (b ∷ c ∷ bs) zero v d more e h = absurd (omega arith)
joined-set_last (b ∷ bs) (suc i) v d more e h = ap (λ z. b.items ++ z) (joined-set_last bs i v d more (omega arith) h) ∙ sym (append_assoc b.items (symbols_in bs) more)

-- a block that has a symbol put in place of another
pub filled-set : (bs : List (Vec Symbol)) (i : ℕ) (v : Vec Symbol) → 0 < length v.items → AreFilled bs → AreFilled (set bs i v)
filled-set [] i v lt h = tt
filled-set (b ∷ bs) zero v lt h = (lt, h.1)
filled-set (b ∷ bs) (suc i) v lt h = (h.0, filled-set bs i v lt h.1)

-- a lone block that has a symbol is filled
pub one_filled : (bs : List (Vec Symbol)) → length bs ≤ 1 → 0 < length (symbols_in bs) → AreFilled bs
one_filled [] le lt = tt
one_filled (b ∷ []) le lt = (omega (arith, length-append b.items []), tt)
one_filled (b ∷ c ∷ bs) le lt = absurd (omega arith)

pub filled_blocks : {bs : List (Vec Symbol)} {n : ℕ} → AreBlocks bs n → 0 < n → AreFilled bs
filled_blocks {bs} h lt = ⊎_elim (λ le. one_filled bs le (omega (arith, h.counted))) (λ f. f) h.filled

-- there are no more blocks than symbols
pub filled_count : (bs : List (Vec Symbol)) → AreFilled bs → length bs ≤ length (symbols_in bs)
filled_count [] h = omega arith
filled_count (b ∷ bs) h = let k = filled_count bs h.1 in omega (arith, h.0, k, length-append b.items (symbols_in bs))

-- a block is no longer than all of them
pub block_within : (bs : List (Vec Symbol)) (i : ℕ) (d : Vec Symbol) → i < length bs → length (get_or bs i d).items ≤ length (symbols_in bs)
block_within [] i d lt = absurd (omega arith)
block_within (b ∷ bs) zero d lt = omega (arith, length-append b.items (symbols_in bs))
block_within (b ∷ bs) (suc i) d lt = let h = block_within bs i d (omega arith) in omega (arith, h, length-append b.items (symbols_in bs))

-- a new block with one symbol
pub joined-push : (bs : List (Vec Symbol)) (v : Vec Symbol) (s : Symbol) → v.items ≡ s ∷ [] → symbols_in (bs ++ v ∷ []) ≡ symbols_in bs ++ s ∷ []
joined-push bs v s e = joined-append bs (v ∷ []) ∙ ap (λ z. symbols_in bs ++ z) (append-nil v.items ∙ e)
