-- All after a vertex of the path becomes one component with it.
use Rattle.std.proofs.Common.{◌≡◌, ℕ, ◌<◌, List, [], ◌∷◌, inl, inr, ⊎_elim, length, get_or, refl, sym, ap, ◌∙◌, arith}
use Rattle.std.proofs.lemmas.Option.{slice_get_within}
use Rattle.kex_code.specs.Codes.{HasNumber}
use Rattle.kex_rules.specs.declared.components.Mark.{Mark}
use Rattle.kex_rules.specs.declared.components.Mark.TheVariants.{Unseen, Open}
use Rattle.kex_rules.specs.declared.components.Bound.{Bound}
use Rattle.kex_rules.specs.Searches.{Met, is_closed, is_open, is_ahead, in_hand, IsSearch, AllLead, Joins}
use Rattle.kex_rules.proofs.Marks.{at_most_or_not}
use Rattle.kex_rules.proofs.Ways.{leads_on}

module _ (f : ℕ → List ℕ) (count : ℕ) where
  pub joined : (marks : List Mark) (path ahead : List ℕ) (w : ℕ) (bounds bounds' : List Bound) (closed p : ℕ) → IsSearch f count (w ∷ []) marks path ahead bounds closed → get_or marks w Unseen ≡ Open p → AllLead f path w → Joins p bounds bounds' →
      IsSearch f count [] marks path ahead bounds' closed
  joined marks path ahead w bounds bounds' closed p s e reach j = record {
    long = s.long;
    opened = s.opened;
    listed = s.listed;
    onward = s.onward;
    back = λ u v i n hu hv le c. ⊎_elim
        (λ low. s.back u v i n hu hv le (λ k b hb l. c k b (j.all k b hb (omega arith)) l))
        (λ high. ⊎_elim
        (λ after. leads_on (reach v n hv) (s.onward w u p i here hu after))
        (λ before. leads_on (reach v n hv) (s.back u w i p hu here (omega arith) (λ k b hb l. c k b (j.all k b hb l) (omega arith))))
        (at_most_or_not p i))
        (at_most_or_not n p);
    rising = λ k l b c le hb hc. s.rising k l b c le (j.kept k b hb) (j.kept l c hc);
    within = λ k b h. s.within k b (j.kept k b h);
    first = λ b h. s.first b (j.kept 0 b h);
    based = λ v i h. still_based bounds (s.based v i h) (λ b hb. slice_get_within bounds' 0 b (j.all 0 b hb (let z : b.path ≡ 0 = s.first b hb in omega arith)));
    sourced = λ v q h. let o = s.sourced v q h in (o.0, o.1, o.2, o.3, (λ k b hb. o.4 k b (j.kept k b hb)));
    met = λ u i v h k. again i v (s.met u i v h k);
    falls = s.falls;
    same = s.same;
    fresh = s.fresh;
    few = omega (arith, s.few, j.short);
  }
    where
      here : HasNumber path w p
      here = s.listed w p e

      still_based : (bs : List Bound) → 0 < length bs → ((b : Bound) → HasNumber bs b 0 → 0 < length bounds') → 0 < length bounds'
      still_based [] l h = absurd (omega arith)
      still_based (b ∷ bs) l h = h b refl

      again : (i v : ℕ) → Met marks ahead bounds (w ∷ []) i v → Met marks ahead bounds' [] i v
      again i v (is_closed a g) = is_closed a g
      again i v (is_open n g c) = is_open n g (λ k b hb le. c k b (j.kept k b hb) le)
      again i v (is_ahead q h c) = is_ahead q h (λ k b hb le. c k b (j.kept k b hb) le)
      again i v (in_hand (inl q)) = is_open p (ap (λ z. get_or marks z Unseen) (sym q) ∙ e) (λ k b hb le. j.low k b hb)
      again i v (in_hand (inr h)) = absurd h
