-- Two pairings of systems that are alike, one after the other.
use Rattle.std.proofs.Common.{[], refl, subst, ◌∙◌}
use Rattle.kex_model.specs.Moves.{Move, Step, took, chose, went, target_of}
use Rattle.kex_model.specs.Survivors.{LeadsToEnd}
use Rattle.kex_model.specs.Alike.{SameLabel, Alike}
use Rattle.kex_model.proofs.Transfer.{walk_ahead, walk_back}

-- the partner's partner
abbrev pub Through : {S T U : Type 0} → (S → T → Type 0) → (T → U → Type 0) → S → U → Type 0
Through {T = T} R Q s u = (t : T) × R s t × Q t u

same_label : {S T U : Type 0} (k : Step S) (j : Step T) (i : Step U) → SameLabel k j → SameLabel j i → SameLabel k i
same_label (took a s) (took b t) (took c u) p q = p ∙ q
same_label (took a s) (took b t) (chose y u) p q = absurd q
same_label (took a s) (took b t) (went d u) p q = absurd q
same_label (chose x s) (chose y t) (chose z u) p q = p ∙ q
same_label (chose x s) (chose y t) (took c u) p q = absurd q
same_label (chose x s) (chose y t) (went d u) p q = absurd q
same_label (went d s) (went e t) (went f u) p q = p ∙ q
same_label (went d s) (went e t) (took c u) p q = absurd q
same_label (went d s) (went e t) (chose z u) p q = absurd q
same_label (took a s) (chose y t) i p q = absurd p
same_label (took a s) (went e t) i p q = absurd p
same_label (chose x s) (took b t) i p q = absurd p
same_label (chose x s) (went e t) i p q = absurd p
same_label (went d s) (took b t) i p q = absurd p
same_label (went d s) (chose y t) i p q = absurd p

module _ {S T : Type 0} (f : S → Move S) (g : T → Move T) (R : S → T → Type 0) (a : Alike f g R) where
  pub end_ahead : (s : S) (t : T) → R s t → LeadsToEnd f s → LeadsToEnd g t
  end_ahead s t r (ks, e, w, acc) = let x = walk_ahead f g R a ks s e t w ([], e, refl, acc) r in (x.0, x.1, x.2, a.ends e x.1 x.3 acc)

  pub end_back : (s : S) (t : T) → R s t → LeadsToEnd g t → LeadsToEnd f s
  end_back s t r (js, e, w, acc) = let x = walk_back f g R a js s t e w r in (x.0, x.1, x.2, a.ends_back x.1 e x.3 acc)

pub alike_through : {S T U : Type 0} (f : S → Move S) (g : T → Move T) (h : U → Move U) (R : S → T → Type 0) (Q : T → U → Type 0) → Alike f g R → Alike g h Q → Alike f h (Through R Q)
alike_through f g h R Q a b = record {
  ahead = λ s u k r w end.
      let x = a.ahead s r.0 k r.1 w end in
      let y = b.ahead r.0 u x.0 r.2 x.1 (end_ahead f g R a (target_of k) (target_of x.0) x.3 end) in
      (y.0, y.1, same_label k x.0 y.0 x.2 y.2, (target_of x.0, x.3, y.3));
  back = λ s u i r w.
      let x = b.back r.0 u i r.2 w in
      let y = a.back s r.0 x.0 r.1 x.1 in
      (y.0, y.1, same_label y.0 x.0 i y.2 x.2, (target_of x.0, y.3, x.3));
  waits = λ s u r w. b.waits r.0 u r.2 (a.waits s r.0 r.1 w);
  waits_back = λ s u r w. a.waits_back s r.0 r.1 (b.waits_back r.0 u r.2 w);
  ends = λ s u r e. b.ends r.0 u r.2 (a.ends s r.0 r.1 e);
  ends_back = λ s u r e. a.ends_back s r.0 r.1 (b.ends_back r.0 u r.2 e);
  one = λ s u u' p q. b.one p.0 u u' p.2 (subst (λ z. Q z u') (a.one s q.0 p.0 q.1 p.1) q.2);
  one_back = λ s s' u p q. a.one_back s s' p.0 p.1 (subst (λ z. R s' z) (b.one_back q.0 p.0 u q.2 p.2) q.1);
}
