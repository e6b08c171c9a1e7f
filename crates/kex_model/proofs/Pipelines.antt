-- What a pipeline answers on open input holds on every continuation.
use Rattle.std.proofs.Common.{◌≡◌, ℕ, suc, Bool, false, List, [], ◌∷◌, ◌++◌, Option, Some, None, refl, sym, ap, ◌∙◌}
use Rattle.kex_code.specs.Codes.{Begins}
use Rattle.kex_model.specs.Answers.{Answer, Stop, Report, later_report, Pipeline}

module _ {T : Type 0} (Gives : T → List ℕ → Bool → Answer → Type 0) (one : (p : T) (w : List ℕ) (e : Bool) (a b : Answer) → Gives p w e a → Gives p w e b → a ≡ b) where
  pub one_answer : (ps : List T) (i : ℕ) (w s t : List ℕ) (e : Bool) (r q : Option Report) → Pipeline Gives i ps w e s r → Pipeline Gives i ps w e t q → (t ≡ s) × (q ≡ r)
  one_answer [] i w s t e r q h k = (k.0 ∙ sym h.0, k.1 ∙ sym h.1)
  one_answer (p ∷ ps) i w s t e r q (a, rest, ga, ha, ea) (b, rest', gb, hb, eb) =
      let same : b ≡ a = one p w e b a gb ga in
      let x = one_answer ps (suc i) a.text s t a.ended rest rest' ha (rw same at hb) in
      (x.0, eb ∙ ap (λ z. later_report i z.stop rest') same ∙ ap (λ z. later_report i a.stop z) x.1 ∙ sym ea)

  module _ (grows : (p : T) (w v : List ℕ) (e : Bool) (a b : Answer) → Gives p w false a → Gives p (w ++ v) e b → Begins b.text a.text) (stands : (p : T) (w v : List ℕ) (e : Bool) (a b : Answer) → Gives p w false a → Gives p (w ++ v) e b → (a.stop ≡ None → ⊥) → b ≡ a) (stays_open : (p : T) (w : List ℕ) (a : Answer) → Gives p w false a → a.ended ≡ false) where
    abbrev pub Stays : List ℕ → List ℕ → Option Report → Option Report → Type 0
    Stays s t r q = Begins t s × ((r ≡ None → ⊥) → (t ≡ s) × (q ≡ r))

    pub pipelines_stand : (ps : List T) (i : ℕ) (w v s t : List ℕ) (e : Bool) (r q : Option Report) → Pipeline Gives i ps w false s r → Pipeline Gives i ps (w ++ v) e t q → Stays s t r q
    pipelines_stand [] i w v s t e r q h k = ((v, k.0 ∙ ap (λ z. z ++ v) (sym h.0)), λ some. absurd (some h.1))
    pipelines_stand (p ∷ ps) i w v s t e r q (a, rest, ga, ha, ea) (b, rest', gb, hb, eb) =
        let more = grows p w v e a b ga gb in
        let open_a : Pipeline Gives (suc i) ps a.text false s rest = rw (stays_open p w a ga) at ha in
        let x = pipelines_stand ps (suc i) a.text more.0 s t b.ended rest rest' open_a (rw more.1 at hb) in
        (x.0, report rest a.stop refl ha x.1 ea)
      where
        -- by the report of the later stages, and else by this stage's own stop
        report : (o : Option Report) (own : Option Stop) → a.stop ≡ own → Pipeline Gives (suc i) ps a.text a.ended s o → ((o ≡ None → ⊥) → (t ≡ s) × (rest' ≡ o)) → r ≡ later_report i a.stop o → (r ≡ None → ⊥) → (t ≡ s) × (q ≡ r)
        report (Some y) own f h x er some =
            let z = x (λ n. (cc)) in
            (z.0, eb ∙ ap (λ u. later_report i b.stop u) z.1 ∙ sym er)
        report None None f h x er some = absurd (some (er ∙ ap (λ z. later_report i z None) f))
        report None (Some y) f h x er some =
            let same : b ≡ a = stands p w v e a b ga gb (λ n. let bad : Some y ≡ None = sym f ∙ n in cc) in
            let z = one_answer ps (suc i) a.text s t a.ended None rest' h (rw same at hb) in
            (z.0, eb ∙ ap (λ u. later_report i u.stop rest') same ∙ ap (λ u. later_report i a.stop u) z.1 ∙ sym er)
