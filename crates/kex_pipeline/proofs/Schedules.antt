-- The same events leave the same seats.
use Rattle.std.proofs.Common.{◌≡◌, ℕ, zero, suc, Bool, true, false, List, [], ◌∷◌, ◌++◌, map, refl, sym, ap, ap₂, subst, ◌∙◌}
use Rattle.kex_model.specs.Answers.{Answer}
use Rattle.kex_model.specs.Schedules.{StreamItem, byte, finish, bytes_in, has_end, items_of, Progress, fresh, Event, give, give_end, turn, WroteIf, Turned, After, begun, given, ended, turned}
use Rattle.kex_pipe.proofs.Schedule.{came-given}

pub some-last : {A : Type 0} (k : List A) (e : A) → k ++ e ∷ [] ≡ [] → ⊥
some-last [] e p = cc
some-last (x ∷ k) e p = cc

tails : {A : Type 0} {x y : A} {xs ys : List A} → x ∷ xs ≡ y ∷ ys → xs ≡ ys
tails e = cc

heads : {A : Type 0} {x y : A} {xs ys : List A} → x ∷ xs ≡ y ∷ ys → x ≡ y
heads e = cc

same-last : {A : Type 0} (h k : List A) (e f : A) → h ++ e ∷ [] ≡ k ++ f ∷ [] → (h ≡ k) × (e ≡ f)
same-last [] [] e f p = (refl, heads p)
same-last [] (y ∷ k) e f p = absurd (some-last k f (sym (tails p)))
same-last (x ∷ h) [] e f p = absurd (some-last h e (tails p))
same-last (x ∷ h) (y ∷ k) e f p = let r = same-last h k e f (tails p) in (ap₂ (λ a b. a ∷ b) (heads p) r.0, r.1)

module _ {P : Type 0} (gives : P → List ℕ → Bool → Answer → Type 0) where
  -- what there was before the last event, and what that did
  abbrev pub Did : List P → Event → List Event → List StreamItem → List Progress → Type 0
  Did ps (give w) h came xs = (c : List StreamItem) × After gives ps h c xs
  Did ps give_end h came xs = (c : List StreamItem) × After gives ps h c xs
  Did ps (turn zero m) h came xs = ⊥
  Did ps (turn (suc i) m) h came ys = (xs : List Progress) × After gives ps h came xs × Turned gives i m came ps xs ys

  moved : (ps : List P) (h k : List Event) (e f : Event) (came : List StreamItem) (xs : List Progress) → h ++ e ∷ [] ≡ k ++ f ∷ [] → Did ps e h came xs → Did ps f k came xs
  moved ps h k e f came xs same d =
      let r = same-last h k e f same in
      subst (λ z. Did ps f z came xs) r.0 (subst (λ z. Did ps z h came xs) r.1 d)

  pub did : (ps : List P) {h : List Event} {came : List StreamItem} {xs : List Progress} → After gives ps h came xs → (k : List Event) (f : Event) → h ≡ k ++ f ∷ [] → Did ps f k came xs
  did ps begun k f same = absurd (some-last k f (sym same))
  did ps (given {h = h} {came = came} {xs = xs} w a n) k f same = moved ps h k (give w) f (came ++ map byte w) xs same (came, a)
  did ps (ended {h = h} {came = came} {xs = xs} a n) k f same = moved ps h k give_end f (came ++ finish ∷ []) xs same (came, a)
  did ps (turned {h = h} {came = came} {xs = xs} {ys = ys} i m a t) k f same = moved ps h k (turn (suc i) m) f came ys same (xs, a, t)

  at-first : (ps : List P) {h : List Event} {came : List StreamItem} {xs : List Progress} → After gives ps h came xs → h ≡ [] → xs ≡ map (λ p. fresh) ps
  at-first ps begun none = refl
  at-first ps (given {h = h} w a n) none = absurd (some-last h (give w) none)
  at-first ps (ended {h = h} a n) none = absurd (some-last h give_end none)
  at-first ps (turned {h = h} i m a t) none = absurd (some-last h (turn (suc i) m) none)

  module _ (one : (p : P) (w : List ℕ) (e : Bool) (a b : Answer) → gives p w e a → gives p w e b → a ≡ b) where
    pub one-writes : (p : P) (turned : Bool) (taken out out' : List StreamItem) → WroteIf gives turned p taken out → WroteIf gives turned p taken out' → out ≡ out'
    one-writes p false taken out out' h k = h ∙ sym k
    one-writes p true taken out out' (a, ga, ea) (b, gb, eb) = ea ∙ ap (λ z. items_of z.text z.ended) (one p (bytes_in taken) (has_end taken) a b ga gb) ∙ sym eb

    one-turned : (i m : ℕ) (came : List StreamItem) (ps : List P) (xs ys zs : List Progress) → Turned gives i m came ps xs ys → Turned gives i m came ps xs zs → ys ≡ zs
    one-turned i m came [] xs ys zs t u = absurd t
    one-turned zero m came (p ∷ ps) [] ys zs t u = absurd t
    one-turned (suc i) m came (p ∷ ps) [] ys zs t u = absurd t
    one-turned zero m came (p ∷ ps) (x ∷ xs) ys zs (out, w, e) (out', w', e') = e ∙ sym e'
    one-turned (suc i) m came (p ∷ ps) (x ∷ xs) ys zs (out, vs, w, t, e) (out', us, w', u, e') =
        let same : out ≡ out' = one-writes p x.turned x.taken out out' w w' in
        e ∙ ap (λ z. x ∷ z) (one-turned i m out' ps xs vs us (subst (λ z. Turned gives i m z ps xs vs) same t) u) ∙ sym e'

    pub same-seats : (ps : List P) {h : List Event} {c d : List StreamItem} {xs ys : List Progress} → After gives ps h c xs → After gives ps h d ys → xs ≡ ys
    same-seats ps begun b = sym (at-first ps b refl)
    same-seats ps (given {h = h} w a n) b = same-seats ps a (did ps b h (give w) refl).1
    same-seats ps (ended {h = h} a n) b = same-seats ps a (did ps b h give_end refl).1
    same-seats ps {d = d} {ys = ys} (turned {h = h} {came = c} {xs = xs} {ys = zs} i m a t) b =
        let r = did ps b h (turn (suc i) m) refl in
        let seats : xs ≡ r.0 = same-seats ps a r.1 in
        let came : c ≡ d = came-given gives a ∙ sym (came-given gives r.1) in
        one-turned i m d ps r.0 zs ys (subst (λ z. Turned gives i m z ps r.0 zs) came (subst (λ z. Turned gives i m c ps z zs) seats t)) r.2

  pub same-came : (ps : List P) {h : List Event} {c d : List StreamItem} {xs ys : List Progress} → After gives ps h c xs → After gives ps h d ys → c ≡ d
  same-came ps a b = came-given gives a ∙ sym (came-given gives b)
