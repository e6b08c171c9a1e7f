-- Tables that speak alike, and are so of the same machines.
use Rattle.std.proofs.Common.{◌≡◌, ℕ, List, Option, Some, None, refl, sym, subst, ◌∙◌}
use Rattle.kex_code.specs.declared.symbol.Symbol.{Symbol}
use Rattle.kex_machine.specs.Nodes.{Graph}
use Rattle.kex_sst.specs.Tables.{Transducer}
use Rattle.kex_sst.specs.Passes.{Pass, passes, whole_code}
use Rattle.kex_sst.specs.Machines.{IsTableBy}
use Rattle.kex_constants.specs.Alike.{PassAlike, PassesAreAlike, PassesSpeakAlike, SpeakAlike}

module _ (g : Graph) (t u : Transducer) where
  other : (p : Option Pass) (q : Pass) → PassesSpeakAlike t u p (Some q) → (o : Pass) × (p ≡ Some o) × (q.code ≡ o.code) × (whole_code u q ≡ whole_code t o)
  other None q a = absurd a
  other (Some p) q (code, ends) = (p, refl, code, ends)

  none : (p : Option Pass) → PassesSpeakAlike t u p None → p ≡ None
  none None a = refl
  none (Some p) a = absurd a

  -- a table that passes on what a machine's table does is that machine's
  pub machine_alike : {Told : List ℕ → List Symbol → Type 0} → SpeakAlike t u → IsTableBy Told g t → IsTableBy Told g u
  machine_alike {Told = Told} alike h = record {
    goes_on = λ w q e. let o = other (passes t w) q (subst (λ z. PassesSpeakAlike t u (passes t w) z) e (alike w)) in subst (λ z. Told w z) (sym o.2) (h.goes_on w o.0 o.1);
    stops = λ w e. h.stops w (none (passes t w) (subst (λ z. PassesSpeakAlike t u (passes t w) z) e (alike w)));
    parsed = λ w q c e f. let o = other (passes t w) q (subst (λ z. PassesSpeakAlike t u (passes t w) z) e (alike w)) in h.parsed w o.0 c o.1 (sym o.3 ∙ f);
    cut = λ w q e f. let o = other (passes t w) q (subst (λ z. PassesSpeakAlike t u (passes t w) z) e (alike w)) in h.cut w o.0 o.1 (sym o.3 ∙ f);
  }

pass_speaks : (t u : Transducer) (p q : Option Pass) → PassesAreAlike t u p q → PassesSpeakAlike t u p q
pass_speaks t u None None a = tt
pass_speaks t u None (Some q) a = absurd a
pass_speaks t u (Some p) None a = absurd a
pass_speaks t u (Some p) (Some q) a = (a.1, a.2)

-- tables that are in the same states speak alike
pub speaks : (t u : Transducer) → PassAlike t u → SpeakAlike t u
speaks t u a w = pass_speaks t u (passes t w) (passes u w) (a w)

both_speak : (t u v : Transducer) (p q r : Option Pass) → PassesSpeakAlike t u p q → PassesSpeakAlike u v q r → PassesSpeakAlike t v p r
both_speak t u v None None None a b = tt
both_speak t u v None None (Some r) a b = absurd b
both_speak t u v None (Some q) r a b = absurd a
both_speak t u v (Some p) None r a b = absurd a
both_speak t u v (Some p) (Some q) None a b = absurd b
both_speak t u v (Some p) (Some q) (Some r) a b = (b.0 ∙ a.0, b.1 ∙ a.1)

-- one after the other
pub speaks_on : (t u v : Transducer) → SpeakAlike t u → PassAlike u v → SpeakAlike t v
speaks_on t u v a b w = both_speak t u v (passes t w) (passes u w) (passes v w) (a w) (speaks u v b w)
