-- Turns of all stages, in their order.
use Rattle.std.proofs.Common.{◌≡◌, ◌+◌, ◌||◌, ℕ, zero, suc, Bool, true, false, List, [], ◌∷◌, ◌++◌, length, take, drop, refl, sym, ap, ap₂, subst, ◌∙◌, append_assoc, append-nil, arith}
use Rattle.std.proofs.Math.Seq.{drop-append_seam}
use Rattle.kex_model.specs.Answers.{Answer}
use Rattle.kex_model.specs.Schedules.{StreamItem, Progress, Event, turn, more_taken, Wrote, Turned, After, turned}
use Rattle.kex_pipe.specs.Events.{bytes_given, end_given}
use Rattle.kex_pipe.proofs.RoundTurns.{take-front}
use Rattle.kex_pipe.proofs.Schedule.{bytes_given-append, end_given-append}
use Rattle.kex_rings.specs.Looking.{fed_more}
use Rattle.kex_rings.specs.Lines.{turns_from}

-- turns give nothing
pub turns-bytes : (k : ℕ) (cs : List ℕ) → bytes_given (turns_from k cs) ≡ []
turns-bytes k [] = refl
turns-bytes k (c ∷ cs) = turns-bytes (suc k) cs

pub turns-end : (k : ℕ) (cs : List ℕ) → end_given (turns_from k cs) ≡ false
turns-end k [] = refl
turns-end k (c ∷ cs) = turns-end (suc k) cs

or-not : (a : Bool) → (a || false) ≡ a
or-not true = refl
or-not false = refl

-- after turns as much was given as before them
pub same-bytes : (h : List Event) (k : ℕ) (cs : List ℕ) → bytes_given (h ++ turns_from k cs) ≡ bytes_given h
same-bytes h k cs = bytes_given-append h (turns_from k cs) ∙ ap (λ z. bytes_given h ++ z) (turns-bytes k cs) ∙ append-nil (bytes_given h)

pub same-end : (h : List Event) (k : ℕ) (cs : List ℕ) → end_given (h ++ turns_from k cs) ≡ end_given h
same-end h k cs = end_given-append h (turns_from k cs) ∙ ap (λ z. end_given h || z) (turns-end k cs) ∙ or-not (end_given h)

-- the items that came next, by their count
pub fed-next : (count : ℕ) (came got rest : List StreamItem) (x : Progress) → came ≡ (x.taken ++ got) ++ rest → count ≡ length got → fed_more got x ≡ more_taken count came x
fed-next count came got rest x is number =
    ap (λ z. record { taken = x.taken ++ z; turned = true })
    (sym (ap₂ (λ n z. take n (drop (length x.taken) z)) number (is ∙ append_assoc x.taken got rest) ∙ ap (λ z. take (length got) z) (drop-append_seam x.taken (got ++ rest)) ∙ take-front got rest))

module _ {P : Type 0} (gives : P → List ℕ → Bool → Answer → Type 0) where
  -- each stage's turn, when those before it have had theirs
  abbrev pub Steps : List StreamItem → List P → List Progress → List Progress → List ℕ → Type 0
  Steps came [] [] [] [] = Unit {0}
  Steps came (p ∷ ps) (x ∷ xs) (y ∷ ys) (c ∷ cs) = (y ≡ more_taken c came x) × (out : List StreamItem) × Wrote gives p y out × Steps out ps xs ys cs
  Steps came ps xs ys cs = ⊥

  module _ (all : List P) (given : List StreamItem) where
    steps-from : (k0 : ℕ) (came : List StreamItem) (ps : List P) (xs ys : List Progress) (cs : List ℕ) (place : List Progress → List Progress) → ((k m : ℕ) (us vs : List Progress) → Turned gives k m came ps us vs → Turned gives (k0 + k) m given all (place us) (place vs))
        → (h : List Event) → After gives all h given (place xs) → Steps came ps xs ys cs → After gives all (h ++ turns_from k0 cs) given (place ys)
    steps-from k0 came [] [] [] [] place lift h after steps = subst (λ z. After gives all z given (place [])) (sym (append-nil h)) after
    steps-from k0 came (p ∷ ps) (x ∷ xs) (y ∷ ys) (c ∷ cs) place lift h after steps =
        let first : Turned gives zero c came (p ∷ ps) (x ∷ xs) (y ∷ xs) = (steps.1, subst (λ z. Wrote gives p z steps.1) steps.0 steps.2, ap (λ z. z ∷ xs) steps.0) in
        let one = subst (λ n. Turned gives n c given all (place (x ∷ xs)) (place (y ∷ xs))) (let e : k0 + 0 ≡ k0 = omega arith in e) (lift zero c (x ∷ xs) (y ∷ xs) first) in
        subst (λ z. After gives all z given (place (y ∷ ys))) (append_assoc h (turn (suc k0) c ∷ []) (turns_from (suc k0) cs))
        (steps-from (suc k0) steps.1 ps xs ys cs (λ zs. place (y ∷ zs))
        (λ k m us vs t. subst (λ n. Turned gives n m given all (place (y ∷ us)) (place (y ∷ vs))) (let e : k0 + suc k ≡ suc k0 + k = omega arith in e) (lift (suc k) m (y ∷ us) (y ∷ vs) (steps.1, vs, steps.2, t, refl)))
        (h ++ turn (suc k0) c ∷ []) (turned k0 c after one) steps.3)
    steps-from k0 came ps xs ys cs place lift h after steps = absurd steps

  pub steps-after : (h : List Event) (came : List StreamItem) (ps : List P) (xs ys : List Progress) (cs : List ℕ) → After gives ps h came xs → Steps came ps xs ys cs → After gives ps (h ++ turns_from 0 cs) came ys
  steps-after h came ps xs ys cs after steps =
      steps-from ps came 0 came ps xs ys cs (λ zs. zs) (λ k m us vs turn. subst (λ n. Turned gives n m came ps us vs) (let e : k ≡ 0 + k = omega arith in e) turn) h after steps
