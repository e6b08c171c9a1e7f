-- Codes that end alike: which comes before which.
use Rattle.std.proofs.Common.{◌≡◌, List, [], ◌∷◌, ◌++◌, ◌⊎◌, inl, inr, ⊎_elim, refl, sym, ap, subst, ◌∙◌, append_assoc, append-nil}
use Rattle.std.proofs.lemmas.List.{append_cancel_left}
use Rattle.kex_code.specs.declared.symbol.Symbol.{Symbol}
use Rattle.kex_code.specs.declared.symbol.Symbol.TheVariants.{L, R}
use Rattle.kex_code.specs.Codes.{Begins, Before, AtMost}

pub begins_trans : {A : Type 0} (c d e : List A) → Begins e d → Begins d c → Begins e c
begins_trans c d e p q = (q.0 ++ p.0, p.1 ∙ ap (λ z. z ++ p.0) q.1 ∙ append_assoc c q.0 p.0)

-- of two fronts of one list one begins the other
pub two_fronts : {A : Type 0} (a b x y : List A) → a ++ x ≡ b ++ y → Begins a b ⊎ Begins b a
two_fronts [] b x y e = inr (b, refl)
two_fronts (z ∷ a) [] x y e = inl (z ∷ a, refl)
two_fronts (z ∷ a) (z' ∷ b) x y e =
    let same : z ≡ z' = cc in
    ⊎_elim (λ p. inl (p.0, (cc))) (λ p. inr (p.0, (cc))) (two_fronts a b x y (cc))

-- where neither begins the other, an end that they share decides nothing
pub before_cut : (c d r : List Symbol) → (Begins d c → c ≡ d) → (Begins c d → c ≡ d) → Before (c ++ r) (d ++ r) → (c ≡ d) ⊎ Before c d
before_cut c d r up down h = ⊎_elim inside over (two_fronts c h.0 r (L ∷ h.1) h.3)
  where
    same : List Symbol
    same = h.0

    -- c ends before they differ
    over : Begins same c → (c ≡ d) ⊎ Before c d
    over p = inl (⊎_elim (λ q. up q) (λ q. down q) (two_fronts d c r (p.0 ++ R ∷ h.2) (h.4 ∙ ap (λ z. z ++ R ∷ h.2) p.1 ∙ append_assoc c p.0 (R ∷ h.2))))

    ends : (m : List Symbol) → c ≡ same ++ m → (n : List Symbol) → d ≡ same ++ n → (c ≡ d) ⊎ Before c d
    ends [] e n f = inl (up (n, f ∙ ap (λ z. z ++ n) (sym (append-nil same) ∙ sym e)))
    ends (z ∷ m) e [] f = inl (down (z ∷ m, e ∙ ap (λ y. y ++ z ∷ m) (sym (append-nil same) ∙ sym f)))
    ends (z ∷ m) e (z' ∷ n) f =
        let left : z ∷ (m ++ r) ≡ L ∷ h.1 = append_cancel_left same _ _ (sym (append_assoc same (z ∷ m) r) ∙ ap (λ y. y ++ r) (sym e) ∙ h.3) in
        let right : z' ∷ (n ++ r) ≡ R ∷ h.2 = append_cancel_left same _ _ (sym (append_assoc same (z' ∷ n) r) ∙ ap (λ y. y ++ r) (sym f) ∙ h.4) in
        let is_left : z ≡ L = cc in
        let is_right : z' ≡ R = cc in
        inr (same, m, n, e ∙ ap (λ y. same ++ y ∷ m) is_left, f ∙ ap (λ y. same ++ y ∷ n) is_right)

    inside : Begins c same → (c ≡ d) ⊎ Before c d
    inside p =
        ⊎_elim
        (λ q. ends p.0 p.1 q.0 q.1)
        (λ q. inl (down (q.0 ++ p.0, p.1 ∙ ap (λ z. z ++ p.0) q.1 ∙ append_assoc d q.0 p.0)))
        (two_fronts d same r (R ∷ h.2) h.4)

pub before_more : (c d x y : List Symbol) → Before c d → Before (c ++ x) (d ++ y)
before_more c d x y h = (h.0, h.1 ++ x, h.2 ++ y, ap (λ z. z ++ x) h.3 ∙ append_assoc h.0 (L ∷ h.1) x, ap (λ z. z ++ y) h.4 ∙ append_assoc h.0 (R ∷ h.2) y)

pub before_trans : (c d e : List Symbol) → Before c d → Before d e → Before c e
before_trans c d e h h' = ⊎_elim up down (two_fronts h.0 h'.0 (R ∷ h.2) (L ∷ h'.1) (sym h.4 ∙ h'.3))
  where
    -- the second difference is in the front that c and d share
    up : Begins h.0 h'.0 → Before c e
    up (m, f) = at m f
      where
        at : (m : List Symbol) → h.0 ≡ h'.0 ++ m → Before c e
        at [] f =
            let bad : R ∷ h.2 ≡ L ∷ h'.1 = append_cancel_left h'.0 _ _ (ap (λ z. z ++ R ∷ h.2) (sym (append-nil h'.0) ∙ sym f) ∙ sym h.4 ∙ h'.3) in
            cc
        at (z ∷ m) f =
            let whole : z ∷ (m ++ R ∷ h.2) ≡ L ∷ h'.1 = append_cancel_left h'.0 _ _ (sym (append_assoc h'.0 (z ∷ m) (R ∷ h.2)) ∙ ap (λ y. y ++ R ∷ h.2) (sym f) ∙ sym h.4 ∙ h'.3) in
            let is : z ≡ L = cc in
            (h'.0, m ++ L ∷ h.1, h'.2, h.3 ∙ ap (λ y. y ++ L ∷ h.1) f ∙ append_assoc h'.0 (z ∷ m) (L ∷ h.1) ∙ ap (λ y. h'.0 ++ y ∷ (m ++ L ∷ h.1)) is, h'.4)

    down : Begins h'.0 h.0 → Before c e
    down (m, f) = at m f
      where
        at : (m : List Symbol) → h'.0 ≡ h.0 ++ m → Before c e
        at [] f =
            let bad : R ∷ h.2 ≡ L ∷ h'.1 = append_cancel_left h.0 _ _ (sym h.4 ∙ h'.3 ∙ ap (λ z. z ++ L ∷ h'.1) (f ∙ append-nil h.0)) in
            cc
        at (z ∷ m) f =
            let whole : R ∷ h.2 ≡ z ∷ (m ++ L ∷ h'.1) = append_cancel_left h.0 _ _ (sym h.4 ∙ h'.3 ∙ ap (λ y. y ++ L ∷ h'.1) f ∙ append_assoc h.0 (z ∷ m) (L ∷ h'.1)) in
            let is : z ≡ R = cc in
            (h.0, h.1, m ++ R ∷ h'.2, h.3, h'.4 ∙ ap (λ y. y ++ R ∷ h'.2) f ∙ append_assoc h.0 (z ∷ m) (R ∷ h'.2) ∙ ap (λ y. h.0 ++ y ∷ (m ++ R ∷ h'.2)) is)

pub at_most_trans : (c d e : List Symbol) → AtMost c d → AtMost d e → AtMost c e
at_most_trans c d e p q = ⊎_elim (λ f. subst (λ z. AtMost z e) (sym f) q) (λ b. ⊎_elim (λ f. inr (subst (λ z. Before c z) f b)) (λ b'. inr (before_trans c d e b b')) q) p

pub at_most_more : (c d x : List Symbol) → AtMost c d → AtMost (c ++ x) (d ++ x)
at_most_more c d x p = ⊎_elim (λ f. inl (ap (λ z. z ++ x) f)) (λ b. inr (before_more c d x x b)) p

-- of two codes not each comes before the other
pub not_both : (c d : List Symbol) → Before c d → Before d c → ⊥
not_both c d h k =
    let t = before_trans c d c h k in
    let bad : L ∷ t.1 ≡ R ∷ t.2 = append_cancel_left t.0 _ _ (sym t.3 ∙ t.4) in
    cc

pub at_most_both : (c d : List Symbol) → AtMost c d → AtMost d c → c ≡ d
at_most_both c d p q = ⊎_elim (λ e. e) (λ h. ⊎_elim (λ e. sym e) (λ k. absurd (not_both c d h k)) q) p
