-- Lines, byte by byte.
use Rattle.std.proofs.Common.{◌≡◌, ℕ, suc, ◌+◌, ◌<◌, Bool, true, false, if◌then◌else◌, List, [], ◌∷◌, ◌++◌, length, take, get_or, inl, inr, refl, sym, ap, ◌∙◌, arith, add-one}
use Rattle.std.specs.Prelude.{◌==◌, min}
use Rattle.std.proofs.Math.Seq.{take-suc}
use Rattle.std.proofs.lemmas.List.{take_all}
use Rattle.std.proofs.lemmas.Bool.{cases_lt}
use Rattle.kex_reader.specs.Lines.{feeds, behind_feed}

feeds_push : (bs : List ℕ) (b : ℕ) → feeds (bs ++ b ∷ []) ≡ (if b == 10 then suc (feeds bs) else feeds bs)
unfolding feeds
feeds_push [] b = refl
feeds_push (x ∷ bs) b = go (x == 10) (b == 10) (feeds bs) (feeds (bs ++ b ∷ [])) (feeds_push bs b)
  where
    go : (s t : Bool) (n m : ℕ) → m ≡ (if t then suc n else n) → (if s then suc m else m) ≡ (if t then suc (if s then suc n else n) else (if s then suc n else n))
    go true true n m e = ap suc e
    go true false n m e = ap suc e
    go false true n m e = e
    go false false n m e = e

behind_push : (n : ℕ) (bs : List ℕ) (b : ℕ) → behind_feed n (bs ++ b ∷ []) ≡ (if b == 10 then 0 else suc (behind_feed n bs))
unfolding behind_feed
behind_push n [] b = refl
behind_push n (x ∷ bs) b = behind_push (if x == 10 then 0 else suc n) bs b

more : (text : List ℕ) (k d : ℕ) → k < length text → take (k + 1) text ≡ take k text ++ get_or text k d ∷ []
more text k d h = ap (λ (x : ℕ). take x text) (add-one k) ∙ take-suc text k d h

pub feeds_more : (text : List ℕ) (k : ℕ) → k < length text → feeds (take (k + 1) text) ≡ (if get_or text k 0 == 10 then suc (feeds (take k text)) else feeds (take k text))
feeds_more text k h = ap feeds (more text k 0 h) ∙ feeds_push (take k text) (get_or text k 0)

pub behind_more : (text : List ℕ) (k : ℕ) → k < length text → behind_feed 0 (take (k + 1) text) ≡ (if get_or text k 0 == 10 then 0 else suc (behind_feed 0 (take k text)))
behind_more text k h = ap (behind_feed 0) (more text k 0 h) ∙ behind_push 0 (take k text) (get_or text k 0)

-- what is taken up to the end is all
pub taken : (text : List ℕ) (k n : ℕ) → k ≡ min (length text) n → take k text ≡ take n text
taken text k n e = elim (cases_lt n (length text)) [
  | inl lt ↦ ap (λ (x : ℕ). take x text) (omega (arith, e, lt))
  | inr le ↦ take_all k text (omega (arith, e, le)) ∙ sym (take_all n text le)
]

feed : (x : ℕ) → x ≡ 10 → (x == 10) ≡ true
feed x e = ap (λ (y : ℕ). y == 10) e

no_feed : (x : ℕ) → (x ≡ 10 → ⊥) → (x == 10) ≡ false
no_feed x n = grind (arith, n)

-- after a line feed, and after another byte
pub feeds_feed : (text : List ℕ) (k : ℕ) → k < length text → get_or text k 0 ≡ 10 → feeds (take (k + 1) text) ≡ suc (feeds (take k text))
feeds_feed text k h e = feeds_more text k h ∙ ap (λ (t : Bool). if t then suc (feeds (take k text)) else feeds (take k text)) (feed (get_or text k 0) e)

pub feeds_other : (text : List ℕ) (k : ℕ) → k < length text → (get_or text k 0 ≡ 10 → ⊥) → feeds (take (k + 1) text) ≡ feeds (take k text)
feeds_other text k h n = feeds_more text k h ∙ ap (λ (t : Bool). if t then suc (feeds (take k text)) else feeds (take k text)) (no_feed (get_or text k 0) n)

pub behind_it : (text : List ℕ) (k : ℕ) → k < length text → get_or text k 0 ≡ 10 → behind_feed 0 (take (k + 1) text) ≡ 0
behind_it text k h e = behind_more text k h ∙ ap (λ (t : Bool). if t then 0 else suc (behind_feed 0 (take k text))) (feed (get_or text k 0) e)

pub behind_other : (text : List ℕ) (k : ℕ) → k < length text → (get_or text k 0 ≡ 10 → ⊥) → behind_feed 0 (take (k + 1) text) ≡ suc (behind_feed 0 (take k text))
behind_other text k h n = behind_more text k h ∙ ap (λ (t : Bool). if t then 0 else suc (behind_feed 0 (take k text))) (no_feed (get_or text k 0) n)
