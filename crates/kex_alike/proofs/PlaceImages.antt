-- Sets of places, and what a pairing of places makes of them.
use Rattle.std.proofs.Common.{◌≡◌, List, [], ◌∷◌, ◌++◌, inl, inr, ⊎_elim, refl, ap, subst}
use Rattle.kex_code.specs.Codes.{IsAmong}
use Rattle.kex_model.specs.Labelled.{Shape, place, parts}
use Rattle.kex_lowering.specs.Shapes.{SameShape}
use Rattle.kex_alike.specs.StageTests.{SameMembers, leaves_in}

module _ {S T : Type 0} (R : S → T → Type 0) where
  -- ys are the partners of xs, in whatever order
  pub record ArePartners (xs : List S) (ys : List T) : Type 0 where
    pub forth : (p : S) → IsAmong xs p → (q : T) × IsAmong ys q × R p q
    pub back : (q : T) → IsAmong ys q → (p : S) × IsAmong xs p × R p q

  pub partners_none : ArePartners [] []
  partners_none = record { forth = λ p i. absurd i; back = λ q i. absurd i }

  pub partners_more : (p : S) (q : T) (xs : List S) (ys : List T) → R p q → ArePartners xs ys → ArePartners (p ∷ xs) (q ∷ ys)
  partners_more p q xs ys r a = record {
    forth = λ z i. ⊎_elim (λ e. (q, inl refl, subst (λ v. R v q) e r)) (λ j. let y = a.forth z j in (y.0, inr y.1, y.2)) i;
    back = λ z i. ⊎_elim (λ e. (p, inl refl, subst (λ v. R p v) e r)) (λ j. let y = a.back z j in (y.0, inr y.1, y.2)) i;
  }

  -- the partners of something aren't none
  pub no_partners : (xs : List S) (ys : List T) → ArePartners xs ys → ys ≡ [] → xs ≡ []
  no_partners [] ys a e = refl
  no_partners (x ∷ xs) ys a e = let y = a.forth x (inl refl) in absurd (subst (λ z. IsAmong z y.0) e y.1)

  pub partners : (xs : List S) → ((p : S) → IsAmong xs p → (q : T) × R p q) → (ys : List T) × ArePartners xs ys
  partners [] all = ([], partners_none)
  partners (x ∷ xs) all =
      let y = all x (inl refl) in
      let rest = partners xs (λ p i. all p (inr i)) in
      (y.0 ∷ rest.0, partners_more x y.0 xs rest.0 y.1 rest.1)

  -- what has the same partners is the same
  pub same_sources : ((p p' : S) (q : T) → R p q → R p' q → p ≡ p') → (xs xs' : List S) (ys ys' : List T) → ArePartners xs ys → ArePartners xs' ys' → SameMembers ys ys' → SameMembers xs xs'
  same_sources one xs xs' ys ys' a b same p = (within xs xs' ys ys' a b (λ q i. (same q).0 i) p, within xs' xs ys' ys b a (λ q i. (same q).1 i) p)
    where
      within : (us vs : List S) (ws zs : List T) → ArePartners us ws → ArePartners vs zs → ((q : T) → IsAmong ws q → IsAmong zs q) → (p : S) → IsAmong us p → IsAmong vs p
      within us vs ws zs c d in_both p i =
          let y = c.forth p i in
          let z = d.back y.0 (in_both y.0 y.1) in
          subst (λ v. IsAmong vs v) (one z.0 p y.0 z.2 y.2) z.1

  -- ---- lists of partners, one by one

  abbrev pub Matches : List S → List T → Type 0
  Matches [] [] = Unit {0}
  Matches (x ∷ xs) (y ∷ ys) = R x y × Matches xs ys
  Matches [] (y ∷ ys) = ⊥
  Matches (x ∷ xs) [] = ⊥

  pub matching : (xs : List S) (ys : List T) → Matches xs ys → ArePartners xs ys
  matching [] [] m = partners_none
  matching (x ∷ xs) (y ∷ ys) m = partners_more x y xs ys m.0 (matching xs ys m.1)
  matching [] (y ∷ ys) m = absurd m
  matching (x ∷ xs) [] m = absurd m

  matches-append : (xs : List S) (ys : List T) (xs' : List S) (ys' : List T) → Matches xs ys → Matches xs' ys' → Matches (xs ++ xs') (ys ++ ys')
  matches-append [] [] xs' ys' m k = k
  matches-append (x ∷ xs) (y ∷ ys) xs' ys' m k = (m.0, matches-append xs ys xs' ys' m.1 k)
  matches-append [] (y ∷ ys) xs' ys' m k = absurd m
  matches-append (x ∷ xs) [] xs' ys' m k = absurd m

  pub leaves_match : (s : Shape S) (u : Shape T) → SameShape R s u → Matches (leaves_in s) (leaves_in u)
  leaves_match (place p) (place q) h = (h, tt)
  leaves_match (parts l r) (parts x y) h = matches-append (leaves_in l) (leaves_in x) (leaves_in r) (leaves_in y) (leaves_match l x h.0) (leaves_match r y h.1)
  leaves_match (place p) (parts x y) h = absurd h
  leaves_match (parts l r) (place q) h = absurd h

  -- a list with a partner in it, and what comes before and after it
  pub record HasPartner (front : List S) (p : S) (ys : List T) : Type 0 where
    pub before : List T
    pub at : T
    pub behind : List T
    pub is : ys ≡ before ++ at ∷ behind
    pub fronts : Matches front before
    pub paired : R p at

  pub partner_in : (front : List S) (p : S) (back : List S) (ys : List T) → Matches (front ++ p ∷ back) ys → HasPartner front p ys
  partner_in [] p back [] m = absurd m
  partner_in [] p back (y ∷ ys) m = record { before = []; at = y; behind = ys; is = refl; fronts = tt; paired = m.0 }
  partner_in (x ∷ front) p back [] m = absurd m
  partner_in (x ∷ front) p back (y ∷ ys) m =
      let r = partner_in front p back ys m.1 in
      record { before = y ∷ r.before; at = r.at; behind = r.behind; is = ap (λ z. y ∷ z) r.is; fronts = (m.0, r.fronts); paired = r.paired }
