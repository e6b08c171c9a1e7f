-- What is answered, given what is viable, said, parsed and meant: one answer, which grows, and whose stop stays.
use Rattle.std.proofs.Common.{◌≡◌, ℕ, ◌<◌, ◌≤◌, ◌+◌, Bool, true, false, ◌&&◌, List, [], ◌∷◌, ◌++◌, Some, None, length, refl, sym, ap, subst, ◌∙◌, append-nil, append_assoc, arith, ⊎_elim, take, length-append}
use Rattle.std.specs.Prelude.{is_none, IsSome}
use Rattle.kex_code.specs.Codes.{Begins}
use Rattle.kex_model.specs.Answers.{Answer, Answers, stopped_answer, at_byte, bad_byte, too_long, cut_off, whole, still_open}
use Rattle.kex_model.proofs.Orders.{two_fronts}
use Rattle.kex_model.proofs.OpenAnswers as model
use Rattle.kex_pipe.specs.Working.{Answering, SaysViable, ClosesParsed}

further_front : {A : Type 0} (xs ys zs : List A) → Begins ys xs → Begins zs ys → Begins zs xs
further_front xs ys zs p q = (p.0 ++ q.0, q.1 ∙ ap (λ z. z ++ q.0) p.1 ∙ append_assoc xs p.0 q.0)

module _ (Good : List ℕ → Type 0) (Says : List ℕ → List ℕ → Type 0) (Parsed : List ℕ → Type 0) (Means : List ℕ → List ℕ → Type 0) where
  abbrev Gives : ℕ → List ℕ → Bool → Answer → Type 0
  Gives n w e a = Answers Good Says Parsed Means n w e a

  pub ends : (n : ℕ) {w : List ℕ} {e : Bool} {a : Answer} → Gives n w e a → a.ended ≡ (e && is_none a.stop)
  ends n {e = false} (bad_byte v bad l says) = refl
  ends n {e = true} (bad_byte v bad l says) = refl
  ends n {e = false} (too_long lt good says) = refl
  ends n {e = true} (too_long lt good says) = refl
  ends n (cut_off le good none says) = refl
  ends n (whole le means) = refl
  ends n (still_open le good says) = refl

  -- past the limit there is a stop
  pub past_limit : (n : ℕ) {w : List ℕ} {e : Bool} {a : Answer} → Gives n w e a → n < length w → IsSome a.stop
  past_limit n (bad_byte v bad l says) lt = refl
  past_limit n (too_long l good says) lt = refl
  past_limit n (cut_off le good none says) lt = refl
  past_limit n (whole le means) lt = absurd (omega (arith, le, lt))
  past_limit n (still_open le good says) lt = absurd (omega (arith, le, lt))

  module _ (o : model.Orderly Good Says Parsed Means) where
    -- what has stopped stays so, whatever comes
    pub stopped_more : (n : ℕ) (w v : List ℕ) (e : Bool) {a : Answer} → Gives n w false a → (a.stop ≡ None → ⊥) → Gives n (w ++ v) e a
    stopped_more n w v e (bad_byte u bad l says) some =
        let front : Begins (take n (w ++ v)) (take n w) = model.take_front n w (w ++ v) (v, refl) in
        bad_byte u (λ good. bad (o.front (take n w) (take n (w ++ v)) front good)) (record {
          front = further_front u (take n w) (take n (w ++ v)) l.front front;
          good = l.good;
          longest = λ x b good. ⊎_elim
              (λ q. absurd (bad (o.front (take n w) x q good)))
              (λ q. l.longest x q good)
              (two_fronts x (take n w) b.0 front.0 (sym b.1 ∙ front.1));
        }) says
    stopped_more n w v e (too_long {text = text} lt good says) some =
        let same : take n w ≡ take n (w ++ v) = model.same_take n w (w ++ v) (v, refl) lt in
        too_long (omega (arith, lt, length-append w v)) (subst (λ z. Good z) same good) (subst (λ z. Says z text) same says)
    stopped_more n w v e (still_open le good says) some = absurd (some refl)

    -- with one more byte it can't go on
    pub refuses : (w v next text : List ℕ) (at : ℕ) → Begins w next → Begins next v → length next ≡ length v + 1 → at ≡ length v
        → Good v → (Good next → ⊥) → Says v text → SaysViable Good Says Parsed Means w (Some at) text
    refuses w v next text at p q one is good bad says = (
      λ h. bad (o.front next w p h),
      (
        v,
        record {
          front = further_front v next w q p;
          good = good;
          longest = λ u b h. ⊎_elim
              (λ r. absurd (bad (o.front next u r h)))
              (λ r. shorter u r h)
              (two_fronts u next b.0 p.0 (sym b.1 ∙ p.1));
        },
        says,
        is,
      ),
    )
      where
        shorter : (u : List ℕ) → Begins next u → Good u → length u ≤ length v
        shorter u (m, f) h = by m f
          where
            by : (m : List ℕ) → next ≡ u ++ m → length u ≤ length v
            by [] f = absurd (bad (subst (λ z. Good z) (sym (f ∙ append-nil u)) h))
            by (y ∷ m) f = omega (arith, ap length f, length-append u (y ∷ m), one)

    -- the laws, where what is meant has a parse, and is one text
    pub answering : ((u s : List ℕ) → Means u s → Parsed u) → ((u s t : List ℕ) → Means u s → Means u t → s ≡ t)
        → Answering (SaysViable Good Says Parsed Means) (ClosesParsed Good Says Parsed Means) (λ n w e a. Answers Good Says Parsed Means n w e a)
    answering parsed means = record {
      stops_at = λ n w e at text s.
          let (bad, (v, l, said, is)) = s in
          subst (λ k. Gives n w e (stopped_answer text k at_byte)) (sym is) (bad_byte v bad l said);
      too_long = λ n w e text lt s. too_long lt s.0 s.1;
      cut_off = λ n w text le c. cut_off le c.0 c.1 c.2;
      whole = λ n w text le c. whole le c;
      still_open = λ n w text le s. still_open le s.0 s.1;
      stopped = λ n w v e a g some. stopped_more n w v e g some;
      one = λ n w e a b g h. model.one_answer Good Says Parsed Means o n parsed means g h;
      grows = λ n w v e a b g h. (model.stays Good Says Parsed Means o n (v, refl) g h).0;
      stays = λ n w v e a b g h. (model.stays Good Says Parsed Means o n (v, refl) g h).1;
      ends = λ n w e a g. ends n g;
      past = λ n w e a g lt. past_limit n g lt;
    }
