-- Where texts lead alike from the places of two systems, the tests of the one have as many pairs as those of the other.
use Rattle.std.proofs.Common.{◌≡◌, ℕ, suc, List, [], ◌∷◌, inl, inr, ⊎_elim, length, refl, ap, subst, arith}
use Rattle.kex_code.specs.Codes.{IsAmong}
use Rattle.kex_model.specs.Labelled.{Shape}
use Rattle.kex_lowering.specs.Shapes.{SameShape}
use Rattle.kex_alike.specs.StageTests.{TwoSets, SameSets, AllApart, leaves_in, AreLedTo, IsPairBy, HasMorePairsThan, SomeTestHasMore}
use Rattle.kex_alike.proofs.PlaceImages.{ArePartners, partners_none, partners_more, no_partners, partners, same_sources, Matches, matching, leaves_match, partner_in}

-- R pairs places one to one, and texts lead from partners to partners
pub record LeadAlike {S T : Type 0} (leads : S → List ℕ → S → Type 0) (leads' : T → List ℕ → T → Type 0) (R : S → T → Type 0) : Type 0 where
  pub one : (p : S) (q q' : T) → R p q → R p q' → q ≡ q'
  pub one_back : (p p' : S) (q : T) → R p q → R p' q → p ≡ p'
  pub ahead : (p : S) (p' : T) (x : List ℕ) (q : S) → R p p' → leads p x q → (q' : T) × R q q' × leads' p' x q'
  pub back : (p : S) (p' : T) (x : List ℕ) (q' : T) → R p p' → leads' p' x q' → (q : S) × R q q' × leads p x q

pub turned_lead : {S T : Type 0} (leads : S → List ℕ → S → Type 0) (leads' : T → List ℕ → T → Type 0) (R : S → T → Type 0) → LeadAlike leads leads' R → LeadAlike leads' leads (λ q p. R p q)
turned_lead leads leads' R a = record {
  one = λ q p p' h k. a.one_back p p' q h k;
  one_back = λ q q' p h k. a.one p q q' h k;
  ahead = λ p' p x q' r w. a.back p p' x q' r w;
  back = λ p' p x q r w. a.ahead p p' x q r w;
}

module _ {S T : Type 0} (leads : S → List ℕ → S → Type 0) (leads' : T → List ℕ → T → Type 0) (R : S → T → Type 0) (m : LeadAlike leads leads' R) where
  -- a text leads from partners to partners
  led_on : (from : List S) (from' : List T) (x : List ℕ) (to : List S) → ArePartners R from from' → AreLedTo leads from x to → (to' : List T) × ArePartners R to to' × AreLedTo leads' from' x to'
  led_on from from' x to a r = (set.0, set.1, record { real = real; all = all })
    where
      onward : (q : S) → IsAmong to q → (p' : T) × IsAmong from' p' × ((q' : T) × R q q' × leads' p' x q')
      onward q i =
          let s = r.real q i in
          let f = a.forth s.0 s.1 in
          (f.0, f.1, m.ahead s.0 f.0 x q f.2 s.2)

      set : (ys : List T) × ArePartners R to ys
      set = partners R to (λ q i. let y = (onward q i).2 in (y.0, y.1))

      real : (q' : T) → IsAmong set.0 q' → (p' : T) × IsAmong from' p' × leads' p' x q'
      real q' i =
          let b = set.1.back q' i in
          let y = onward b.0 b.1 in
          (y.0, y.1, subst (λ z. leads' y.0 x z) (m.one b.0 y.2.0 q' y.2.1 b.2) y.2.2)

      all : (p' q' : T) → IsAmong from' p' → leads' p' x q' → IsAmong set.0 q'
      all p' q' i w =
          let b = a.back p' i in
          let y = m.back b.0 p' x q' b.2 w in
          let f = set.1.forth y.0 (r.all b.0 y.0 b.1 y.2) in
          subst (λ z. IsAmong set.0 z) (m.one y.0 f.0 q' f.2 y.1) f.1

  -- sets of partners
  pub record ArePartnerSets (u : TwoSets S) (v : TwoSets T) : Type 0 where
    pub first : ArePartners R u.first v.first
    pub second : ArePartners R u.second v.second

  same_sets : (u u' : TwoSets S) (v v' : TwoSets T) → ArePartnerSets u v → ArePartnerSets u' v' → SameSets v v' → SameSets u u'
  same_sets u u' v v' a b same = (same_sources R m.one_back u.first u'.first v.first v'.first a.first b.first same.0, same_sources R m.one_back u.second u'.second v.second v'.second a.second b.second same.1)

  module _ (p : S) (p' : T) (Q : List S) (Q' : List T) (r : R p p') (q : ArePartners R Q Q') where
    pair_on : (u : TwoSets S) → IsPairBy leads p Q u → (v : TwoSets T) × ArePartnerSets u v × IsPairBy leads' p' Q' v
    pair_on u (x, a, b, some) =
        let c = led_on (p ∷ []) (p' ∷ []) x u.first (partners_more R p p' [] [] r (partners_none R)) a in
        let d = led_on Q Q' x u.second q b in
        (record { first = c.0; second = d.0 }, record { first = c.1; second = d.1 }, (x, c.2, d.2, λ e. some (no_partners R u.first c.0 c.1 e)))

    -- the partners of pairs that are apart, which are apart
    record PairsBeside (us : List (TwoSets S)) : Type 0 where
      pairs : List (TwoSets T)
      long : length pairs ≡ length us
      each : (v : TwoSets T) → IsAmong pairs v → IsPairBy leads' p' Q' v
      source : (v : TwoSets T) → IsAmong pairs v → (u : TwoSets S) × IsAmong us u × ArePartnerSets u v
      apart : AllApart us → AllApart pairs

    pairs_on : (us : List (TwoSets S)) → ((u : TwoSets S) → IsAmong us u → IsPairBy leads p Q u) → PairsBeside us
    pairs_on [] all = record { pairs = []; long = refl; each = λ v i. absurd i; source = λ v i. absurd i; apart = λ d. tt }
    pairs_on (u ∷ us) all =
        let x = pair_on u (all u (inl refl)) in
        let rest = pairs_on us (λ z i. all z (inr i)) in
        record {
          pairs = x.0 ∷ rest.pairs;
          long = ap suc rest.long;
          each = λ v i. ⊎_elim (λ e. subst (λ z. IsPairBy leads' p' Q' z) e x.2) (λ j. rest.each v j) i;
          source = λ v i. ⊎_elim (λ e. (u, inl refl, subst (λ z. ArePartnerSets u z) e x.1)) (λ j. let y = rest.source v j in (y.0, inr y.1, y.2)) i;
          apart = λ d. ((λ v i same. let y = rest.source v i in d.0 y.0 y.1 (same_sets u y.0 x.0 v x.1 y.2 same)), rest.apart d.1);
        }

    pub more_on : (most : ℕ) → HasMorePairsThan leads p Q most → HasMorePairsThan leads' p' Q' most
    more_on most (us, long, apart, each) =
        let all = pairs_on us each in
        (all.pairs, omega (arith, all.long, long), all.apart apart, all.each)

  -- where each shape has a partner
  pub test_on : (IsOne : Shape S → Type 0) (IsOne' : Shape T → Type 0) → ((s : Shape S) → IsOne s → (u : Shape T) × SameShape R s u × IsOne' u) → (most : ℕ) → SomeTestHasMore leads IsOne most → SomeTestHasMore leads' IsOne' most
  test_on IsOne IsOne' on most (s, is, (front, p, back, e, some, more)) =
      let u = on s is in
      let x = partner_in R front p back (leaves_in u.0) (subst (λ z. Matches R z (leaves_in u.0)) e (leaves_match R s u.0 u.1)) in
      let fronts = matching R front x.before x.fronts in
      (u.0, u.2, (x.before, x.at, x.behind, x.is, (λ z. some (no_partners R front x.before fronts z)), more_on p x.at front x.before x.paired fronts most more))
