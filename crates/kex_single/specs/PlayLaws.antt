-- The laws of what the text of a code means.
use Rattle.std.proofs.Common.{◌≡◌, ℕ, zero, suc, ◌<◌, ◌≤◌, ◌+◌, ◌/◌, ◌%◌, Bool, true, false, ◌&&◌}
use Rattle.std.proofs.Common.{List, [], ◌∷◌, ◌++◌, Option, Some, None, length, take, drop, get_or}
use Rattle.std.proofs.Common.{refl, sym, ap, ap₂, subst, ◌∙◌, append_assoc, append-nil, arith, inl}
use Rattle.std.proofs.Common.{inr, ⊎_elim, length-append, length-take, take-append-drop}
use Rattle.std.specs.Prelude.{is_none, IsSome}
use Rattle.std.specs.Char.{digit_char, digit_value}
use Rattle.std.proofs.lemmas.Str.{digit_value-digit_char}
use Rattle.kex_code.specs.declared.symbol.Symbol.{Symbol}
use Rattle.kex_code.specs.declared.symbol.Symbol.TheVariants.{L, R, Byte}
use Rattle.kex_code.specs.Codes.{Begins}
use Rattle.kex_code.specs.Texts.{BeginsText, IsCode, text_of}
use Rattle.kex_code.proofs.Texts.{text_behind, text_of-append}
use Rattle.kex_model.specs.Answers.{Answer, stopped_answer, at_byte, at_end, at_limit}
use Rattle.kex_model.proofs.Orders.{two_fronts}
use Rattle.kex_model.proofs.OpenAnswers.{empty_list, same_take, shorter_front, take_front}
use Rattle.kex_single.specs.Plays.{HasNext, IsBadByte, LongestCode, Plays, PlaysOn, StopsIn}
use Rattle.kex_single.specs.Plays.{bad_byte, too_long, cut_off, whole, still_open}

-- ---- codes by their texts

digits_same : (a b : ℕ) → a < 16 → b < 16 → digit_char a ≡ digit_char b → a ≡ b
digits_same a b la lb e = sym (digit_value-digit_char a (omega arith)) ∙ ap digit_value e
    ∙ digit_value-digit_char b (omega arith)

bytes_same : (a b : ℕ) (s t : List ℕ) → a < 256 → b < 256
    → digit_char (a / 16) ∷ digit_char (a % 16) ∷ s ≡ digit_char (b / 16) ∷ digit_char (b % 16) ∷ t
    → (a ≡ b) × (s ≡ t)
bytes_same a b s t la lb e =
    let high : a / 16 ≡ b / 16 =
    digits_same (a / 16) (b / 16) (omega arith) (omega arith) (ap (λ z. get_or z 0 0) e) in
    let low : a % 16 ≡ b % 16 =
    digits_same (a % 16) (b % 16) (omega arith) (omega arith) (ap (λ z. get_or z 1 0) e) in
    (let same : a ≡ b = omega (arith, high, low) in same, ap (λ z. drop 2 z) e)

clash : {A : Type 0} (x y : ℕ) (xs ys : List ℕ) → (x ≡ y → ⊥) → x ∷ xs ≡ y ∷ ys → A
clash x y xs ys apart e = absurd (apart (ap (λ z. get_or z 0 0) e))

-- codes with one text are one
text_same : (c d : List Symbol) → IsCode c → IsCode d → text_of c ≡ text_of d → c ≡ d
text_same [] [] h k e = refl
text_same [] (L ∷ d) h k e = cc
text_same [] (R ∷ d) h k e = cc
text_same [] (Byte b ∷ d) h k e = cc
text_same (L ∷ c) [] h k e = cc
text_same (R ∷ c) [] h k e = cc
text_same (Byte a ∷ c) [] h k e = cc
text_same (L ∷ c) (L ∷ d) h k e = ap (λ z. L ∷ z) (text_same c d h k (ap (λ z. drop 1 z) e))
text_same (R ∷ c) (R ∷ d) h k e = ap (λ z. R ∷ z) (text_same c d h k (ap (λ z. drop 1 z) e))
text_same (Byte a ∷ c) (Byte b ∷ d) h k e =
    let x = bytes_same a b (text_of c) (text_of d) h.0 k.0 (ap (λ z. drop 1 z) e) in
    ap₂ (λ y z. Byte y ∷ z) x.0 (text_same c d h.1 k.1 x.1)
text_same (L ∷ c) (R ∷ d) h k e = clash 48 49 _ _ (λ h. omega arith) e
text_same (R ∷ c) (L ∷ d) h k e = clash 49 48 _ _ (λ h. omega arith) e
text_same (L ∷ c) (Byte b ∷ d) h k e = clash 48 39 _ _ (λ h. omega arith) e
text_same (R ∷ c) (Byte b ∷ d) h k e = clash 49 39 _ _ (λ h. omega arith) e
text_same (Byte a ∷ c) (L ∷ d) h k e = clash 39 48 _ _ (λ h. omega arith) e
text_same (Byte a ∷ c) (R ∷ d) h k e = clash 39 49 _ _ (λ h. omega arith) e

-- where a code's text begins with another's, the code begins with the other
pub code_behind : (c d : List Symbol) → IsCode c → IsCode d → Begins (text_of d) (text_of c)
    → Begins d c
code_behind c d h k (s, e) =
    let r = text_behind c d s k e in
    let joined : text_of d ≡ text_of (c ++ r.0) =
    e ∙ ap (λ z. text_of c ++ z) (sym r.2) ∙ sym (text_of-append c r.0) in
    (r.0, text_same d (c ++ r.0) k (is_code_append c r.0 h r.1) joined)
  where
    is_code_append : (c d : List Symbol) → IsCode c → IsCode d → IsCode (c ++ d)
    is_code_append [] d h k = k
    is_code_append (L ∷ c) d h k = is_code_append c d h k
    is_code_append (R ∷ c) d h k = is_code_append c d h k
    is_code_append (Byte b ∷ c) d h k = (h.0, is_code_append c d h.1 k)

-- of two codes whose texts are at the front of one text the longer begins with the shorter
pub longer_code : (u : List ℕ) (c d : List Symbol) → IsCode c → IsCode d → Begins u (text_of c)
    → Begins u (text_of d) → length c ≤ length d → Begins d c
longer_code u c d h k p q le =
    ⊎_elim
    (λ r.
    let b : Begins c d = code_behind d c k h r in
    let none : b.0 ≡ [] = empty_list b.0 (omega (arith, le, ap length b.1, length-append d b.0)) in
    ([], sym (b.1 ∙ ap (λ z. d ++ z) none ∙ append-nil d) ∙ sym (append-nil c)))
    (λ r. code_behind c d h k r)
    (two_fronts (text_of c) (text_of d) p.0 q.0 (sym p.1 ∙ q.1))

pub further : {A : Type 0} (w v a : List A) → Begins v w → Begins w a → Begins v a
further w v a p q = (q.0 ++ p.0, p.1 ∙ ap (λ z. z ++ p.0) q.1 ∙ append_assoc a q.0 p.0)

same_length : {A : Type 0} (c d : List A) → Begins d c → length d ≤ length c → d ≡ c
same_length c d b le =
    let none : b.0 ≡ [] = empty_list b.0 (omega (arith, le, ap length b.1, length-append c b.0)) in
    b.1 ∙ ap (λ z. c ++ z) none ∙ append-nil c

-- a front of what begins a code's text begins one
pub begins_front : (u v : List ℕ) → Begins v u → BeginsText v → BeginsText u
begins_front u v p (d, k, q) = (d, k, further v (text_of d) u q p)

take_further : (n : ℕ) (u y : List ℕ) → Begins y u → n ≤ length u → take n y ≡ take n u
take_further n u y p le = ap (λ z. take n z) p.1 ∙ front_of n u p.0 le
  where
    front_of : (n : ℕ) (u v : List ℕ) → n ≤ length u → take n (u ++ v) ≡ take n u
    front_of zero u v le = refl
    front_of (suc n) [] v le = absurd (omega arith)
    front_of (suc n) (x ∷ u) v le = ap (λ z. x ∷ z) (front_of n u v (omega arith))

short_front : (n : ℕ) (w x : List ℕ) → Begins x w → length w ≤ n → Begins (take n x) w
short_front n w x p le = shorter_front x w (take n x) p (
  drop n x,
  sym (take-append-drop n x),
) (omega (arith, length-take n x, ap length p.1, length-append w p.0))

take_begins : {A : Type 0} (n : ℕ) (u : List A) → Begins u (take n u)
take_begins n u = (drop n u, sym (take-append-drop n u))

take_front_of : (i k : ℕ) (u : List ℕ) → i ≤ k → Begins (take k u) (take i u)
take_front_of i k u le = shorter_front u (take i u) (take k u) (take_begins i u) (take_begins k u)
    (omega (arith, length-take i u, length-take k u))

within : (n : ℕ) (w x : List ℕ) → Begins x w → Begins x (take n w)
within n w x p = further w x (take n w) p (take_begins n w)

module _ (B W : List Symbol → Type 0) (Writes : List Symbol → List ℕ → Type 0)
    (front : (c d : List Symbol) → Begins d c → B d → B c) (more : (c d : List Symbol)
    (s t : List ℕ) → Begins d c → Writes c s → Writes d t → Begins t s) where
  one_text : (c : List Symbol) (s t : List ℕ) → Writes c s → Writes c t → s ≡ t
  one_text c s t h k =
      let p = more c c s t ([], sym (append-nil c)) h k in
      let q = more c c t s ([], sym (append-nil c)) k h in
      sym (same_length s t p (omega (
        arith,
        ap length p.1,
        length-append s p.0,
        ap length q.1,
        length-append t q.0,
      )))

  abbrev Longest : List ℕ → List Symbol → Type 0
  Longest u c = LongestCode B W Writes u c

  abbrev On : List ℕ → List Symbol → Option ℕ → Type 0
  On u c stop = PlaysOn B W Writes u c stop

  -- with more of a text no less is performed
  grown : (u y : List ℕ) (c d : List Symbol) → Begins y u → Longest u c → Longest y d → Begins d c
  grown u y c d p h k = longer_code y c d h.code k.code (further u y (text_of c) p h.front) k.front
      (k.longest c h.code (further u y (text_of c) p h.front) h.begins)

  -- the next whole symbol isn't performed, whatever comes
  next_stays : (u y : List ℕ) (c d : List Symbol) → Begins y u → Longest u c → Longest y d
      → HasNext u c → d ≡ c
  next_stays u y c d p h k (x, code, next) =
      same_length c d (grown u y c d p h k) (short (length d) (length c) (λ lt. longer lt))
    where
      e : List Symbol
      e = c ++ x ∷ []

      long : length e ≡ length c + 1
      long = length-append c (x ∷ [])

      longer : length c < length d → ⊥
      longer lt =
          let b : Begins d e = longer_code y e d code k.code
          (further u y (text_of e) p next) k.front (omega (arith, lt, long)) in
          let most : length e ≤ length c = h.longest e code next (front e d b k.begins) in
          omega (arith, most, long)

      short : (m n : ℕ) → (n < m → ⊥) → m ≤ n
      short m n h = omega arith

  -- the bad byte stays where it is, whatever comes
  bad_stays : (u y : List ℕ) (c d : List Symbol) (k : ℕ) → Begins y u → Longest u c → Longest y d
      → IsBadByte u k → d ≡ c
  bad_stays u y c d k p h j bad =
      same_length c d (grown u y c d p h j) (h.longest d j.code (shorter_front y
      (text_of d) u j.front p (less (length (text_of d)) (length u) (λ lt. past lt))) j.begins)
    where
      less : (m n : ℕ) → (n < m → ⊥) → m ≤ n
      less m n h = omega arith

      -- a code's text that is longer begins with the bad byte's front
      past : length u < length (text_of d) → ⊥
      past lt =
          bad.bad (
            d,
            j.code,
            shorter_front y (take (k + 1) u) (text_of d)
                (further u y (take (k + 1) u) p (drop (k + 1) u, sym (take-append-drop (k + 1) u)))
                j.front (omega (arith, bad.within, lt, length-take (k + 1) u)),
          )

  -- so does what stops it
  stop_stays : (u y : List ℕ) (c d : List Symbol) (k : ℕ) (t : Option ℕ) → Begins y u
      → On u c (Some k) → On y d t → (d ≡ c) × (t ≡ Some k)
  stop_stays u y c d k t p h j = by t h.stops j.stops
    where
      next_further : (c : List Symbol) → HasNext u c → HasNext y c
      next_further c (x, code, next) = (x, code, further u y (text_of (c ++ x ∷ [])) p next)

      moved : (d c : List Symbol) → d ≡ c → (HasNext y d → ⊥) → HasNext y c → ⊥
      moved d c e none has = none (subst (λ z. HasNext y z) (sym e) has)

      by : (t : Option ℕ) → StopsIn B W Writes u c (Some k) → StopsIn B W Writes y d t → (d ≡ c)
          × (t ≡ Some k)
      by None (inl (next, at)) (none, begins) =
          let same = next_stays u y c d p h.longest j.longest next in
          absurd (moved d c same none (next_further c next))
      by None (inr (none, bad)) (none', begins) =
          absurd (bad.bad (begins_front (take (k + 1) u) y (further u y (take (k + 1) u) p
          (drop (k + 1) u, sym (take-append-drop (k + 1) u))) begins))
      by (Some i) (inl (next, at)) (inl (next', at')) =
          let same = next_stays u y c d p h.longest j.longest next in
          (same, ap (λ z. Some z) (at' ∙ ap (λ z. length (text_of z)) same ∙ sym at))
      by (Some i) (inl (next, at)) (inr (none, bad)) =
          let same = next_stays u y c d p h.longest j.longest next in
          absurd (moved d c same none (next_further c next))
      by (Some i) (inr (none, bad)) (inl (next', at')) =
          let same = bad_stays u y c d k p h.longest j.longest bad in
          absurd (none (back c (subst (λ z. HasNext y z) same next')))
        where
          back : (c : List Symbol) → HasNext y c → HasNext u c
          back c (x, code, next) = (
            x,
            code,
            shorter_front y (text_of (c ++ x ∷ [])) u next p
                (less (length (text_of (c ++ x ∷ []))) (length u) (λ lt. past x code next lt)),
          )
            where
              less : (m n : ℕ) → (n < m → ⊥) → m ≤ n
              less m n h = omega arith

              past : (x : Symbol) → IsCode (c ++ x ∷ []) → Begins y (text_of (c ++ x ∷ []))
                  → length u < length (text_of (c ++ x ∷ [])) → ⊥
              past x code next lt =
                  bad.bad (
                    c ++ x ∷ [],
                    code,
                    shorter_front y (take (k + 1) u) (text_of (c ++ x ∷ [])) (further u y
                        (take (k + 1) u) p (drop (k + 1) u, sym (take-append-drop (k + 1) u))) next
                        (omega (arith, bad.within, lt, length-take (k + 1) u)),
                  )
      by (Some i) (inr (none, bad)) (inr (none', bad')) =
          let same = bad_stays u y c d k p h.longest j.longest bad in
          (same, ap (λ z. Some z) (equal i k (λ lt. first lt) (λ lt. second lt)))
        where
          equal : (i k : ℕ) → (i < k → ⊥) → (k < i → ⊥) → i ≡ k
          equal i k p q = omega arith

          first : i < k → ⊥
          first lt =
              bad'.bad (subst (λ z. BeginsText z)
              (sym (take_further (i + 1) u y p (omega (arith, lt, bad.within)))) (begins_front
              (take (i + 1) u) (take k u) (take_front_of (i + 1) k u (omega arith)) bad.before))

          second : k < i → ⊥
          second lt =
              bad.bad (subst (λ z.
              BeginsText z) (take_further (k + 1) u y p (omega (arith, bad.within))) (begins_front
              (take (k + 1) y) (take i y) (take_front_of (k + 1) i y (omega arith)) bad'.before))

  abbrev WorkerGives : ℕ → List ℕ → Bool → Answer → Type 0
  WorkerGives n w e a = Plays B W Writes n w e a

  pub ends : (n : ℕ) {w : List ℕ} {e : Bool} {a : Answer} → WorkerGives n w e a
      → a.ended ≡ (e && is_none a.stop)
  ends n {e = false} (bad_byte c k on h) = refl
  ends n {e = true} (bad_byte c k on h) = refl
  ends n {e = false} (too_long c lt on h) = refl
  ends n {e = true} (too_long c lt on h) = refl
  ends n (cut_off c le on none h) = refl
  ends n (whole c le on is p h) = refl
  ends n (still_open c le on h) = refl

  pub past_limit : (n : ℕ) {w : List ℕ} {e : Bool} {a : Answer} → WorkerGives n w e a → n < length w
      → IsSome a.stop
  past_limit n (bad_byte c k on h) lt = refl
  past_limit n (too_long c l on h) lt = refl
  past_limit n (cut_off c le on none h) lt = refl
  past_limit n (whole c le on is p h) lt = absurd (omega (arith, le, lt))
  past_limit n (still_open c le on h) lt = absurd (omega (arith, le, lt))

  abbrev pub Stays : Answer → Answer → Type 0
  Stays a b = Begins b.text a.text × ((a.stop ≡ None → ⊥) → b ≡ a)

  same_stop : (s t : List ℕ) (i j : ℕ) → s ≡ t → i ≡ j
      → Stays (stopped_answer s i at_byte) (stopped_answer t j at_byte)
  same_stop s t i j e f = (
    ([], sym e ∙ sym (append-nil s)),
    λ h. ap₂ (λ p q. stopped_answer p q at_byte) (sym e) (sym f),
  )

  -- where a text stopped within the limit, so does each longer one
  after_bad : (n : ℕ) (w x : List ℕ) (e : Bool) (s : List ℕ) (c : List Symbol) (k : ℕ) {b : Answer}
      → Begins x w → On (take n w) c (Some k) → Writes c s → WorkerGives n x e b
      → Stays (stopped_answer s k at_byte) b
  after_bad n w x e s c k p on h (bad_byte {text = t} d j on' h') =
      let r = stop_stays (take n w) (take n x) c d k (Some j) (take_front n w x p) on on' in
      let same : k ≡ j = some_same k j (sym r.1) in
      same_stop s t k j (one_text c s t h (subst (λ z. Writes z t) r.0 h')) same
    where
      some_same : (i j : ℕ) → Some i ≡ Some j → i ≡ j
      some_same i j e = cc
  after_bad n w x e s c k p on h (too_long d lt on' h') = absurd
      (none k (sym (stop_stays (take n w) (take n x) c d k None (take_front n w x p) on on').1))
    where
      none : (k : ℕ) → Some k ≡ None → ⊥
      none k e = cc
  after_bad n w x e s c k p on h (cut_off d le on' never h') =
      absurd (none k (sym (stop_stays (take n w) x c d k None (within n w x p) on on').1))
    where
      none : (k : ℕ) → Some k ≡ None → ⊥
      none k e = cc
  after_bad n w x e s c k p on h (whole d le on' is q h') =
      absurd (none k (sym (stop_stays (take n w) x c d k None (within n w x p) on on').1))
    where
      none : (k : ℕ) → Some k ≡ None → ⊥
      none k e = cc
  after_bad n w x e s c k p on h (still_open d le on' h') =
      absurd (none k (sym (stop_stays (take n w) x c d k None (within n w x p) on on').1))
    where
      none : (k : ℕ) → Some k ≡ None → ⊥
      none k e = cc

  one_longest : (u : List ℕ) (c d : List Symbol) → Longest u c → Longest u d → d ≡ c
  one_longest u c d h k = same_length c d (grown u u c d (
    [],
    sym (append-nil u),
  ) h k) (h.longest d k.code k.front k.begins)

  grown_text : (u y : List ℕ) (c d : List Symbol) (s t : List ℕ) (i j : Option ℕ) → Begins y u
      → On u c i → On y d j → Writes c s → Writes d t → Begins t s
  grown_text u y c d s t i j p on on' h k =
      more c d s t (grown u y c d p on.longest on'.longest) h k

  pub stays : (n : ℕ) {w x : List ℕ} {e : Bool} {a b : Answer} → Begins x w
      → WorkerGives n w false a → WorkerGives n x e b → Stays a b
  stays n {w = w} {x = x} {e = e} p (bad_byte {text = s} c k on h) g =
      after_bad n w x e s c k p on h g
  stays n {w = w} {x = x} p (too_long c lt on h) (bad_byte d j on' h') =
      let same = same_take n w x p lt in
      let r = stop_stays (take n x) (take n x) d c j None (
        [],
        sym (append-nil (take n x)),
      ) on' (subst (λ z. On z c None) same on) in
      absurd (none j r.1)
    where
      none : (j : ℕ) → None ≡ Some j → ⊥
      none j e = cc
  stays n {w = w} {x = x} p (too_long {text = s} c lt on h) (too_long {text = t} d lt' on' h') =
      let e = one_longest (take n x) c d
      (subst (λ z. Longest z c) (same_take n w x p lt) on.longest) on'.longest in
      let same : s ≡ t = one_text c s t h (subst (λ z. Writes z t) e h') in (
        ([], sym same ∙ sym (append-nil s)),
        λ some. ap (λ z. stopped_answer z n at_limit) (sym same),
      )
  stays n {w = w} {x = x} p (too_long c lt on h) (cut_off d le on' never h') =
      absurd (omega (arith, lt, le, ap length p.1, length-append w p.0))
  stays n {w = w} {x = x} p (too_long c lt on h) (whole d le on' is q h') =
      absurd (omega (arith, lt, le, ap length p.1, length-append w p.0))
  stays n {w = w} {x = x} p (too_long c lt on h) (still_open d le on' h') =
      absurd (omega (arith, lt, le, ap length p.1, length-append w p.0))
  stays n {w = w} {x = x} p (still_open {text = s} c le on h) (bad_byte {text = t} d j on' h') = (
    grown_text w (take n x) c d s t None (Some j) (short_front n w x p le) on on' h h',
    λ some. absurd (some refl),
  )
  stays n {w = w} {x = x} p (still_open {text = s} c le on h) (too_long {text = t} d lt on' h') = (
    grown_text w (take n x) c d s t None None (short_front n w x p le) on on' h h',
    λ some. absurd (some refl),
  )
  stays n {w = w} {x = x} p (still_open {text = s} c le on h)
      (cut_off {text = t} d le' on' never h') =
      (grown_text w x c d s t None None p on on' h h', λ some. absurd (some refl))
  stays n {w = w} {x = x} p (still_open {text = s} c le on h) (whole {text = t} d le' on' is q h') =
      (grown_text w x c d s t None None p on on' h h', λ some. absurd (some refl))
  stays n {w = w} {x = x} p (still_open {text = s} c le on h) (still_open {text = t} d le' on' h') =
      (grown_text w x c d s t None None p on on' h h', λ some. absurd (some refl))

  nothing_more : (w : List ℕ) → Begins w w
  nothing_more w = ([], sym (append-nil w))

  some_stop : (s : List ℕ) (i : ℕ) → (stopped_answer s i at_byte).stop ≡ None → ⊥
  some_stop s i e = cc

  -- there is one answer
  pub one_answer : (n : ℕ) {w : List ℕ} {e : Bool} {a b : Answer} → WorkerGives n w e a
      → WorkerGives n w e b → a ≡ b
  one_answer n {w = w} {e = e} (bad_byte {text = s} c k on h) g =
      sym ((after_bad n w w e s c k (nothing_more w) on h g).1 (some_stop s k))
  one_answer n {w = w} {e = e} g (bad_byte {text = s} c k on h) =
      (after_bad n w w e s c k (nothing_more w) on h g).1 (some_stop s k)
  one_answer n {w = w} (too_long {text = s} c lt on h) (too_long {text = t} d lt' on' h') =
      ap (λ z. stopped_answer z n at_limit) (one_text c s t h
      (subst (λ z. Writes z t) (one_longest (take n w) c d on.longest on'.longest) h'))
  one_answer n (too_long c lt on h) (cut_off d le on' never h') = absurd (omega arith)
  one_answer n (too_long c lt on h) (whole d le on' is q h') = absurd (omega arith)
  one_answer n (too_long c lt on h) (still_open d le on' h') = absurd (omega arith)
  one_answer n (cut_off c le on never h) (too_long d lt on' h') = absurd (omega arith)
  one_answer n {w = w} (cut_off {text = s} c le on never h)
      (cut_off {text = t} d le' on' never' h') =
      ap (λ z. stopped_answer z (length w) at_end)
      (one_text c s t h (subst (λ z. Writes z t) (one_longest w c d on.longest on'.longest) h'))
  one_answer n {w = w} (cut_off c le on never h) (whole d le' on' is q h') =
      let same = one_longest w c d on.longest on'.longest in
      absurd (never (is ∙ ap text_of same) (subst (λ z. W z) same q))
  one_answer n (whole c le on is q h) (too_long d lt on' h') = absurd (omega arith)
  one_answer n {w = w} (whole c le on is q h) (cut_off d le' on' never h') =
      let same = one_longest w d c on'.longest on.longest in
      absurd (never (is ∙ ap text_of same) (subst (λ z. W z) same q))
  one_answer n {w = w} (whole {text = s} c le on is q h) (whole {text = t} d le' on' is' q' h') =
      ap (λ z. record { text = z; ended = true; stop = None })
      (one_text c s t h (subst (λ z. Writes z t) (one_longest w c d on.longest on'.longest) h'))
  one_answer n (still_open c le on h) (too_long d lt on' h') = absurd (omega arith)
  one_answer n {w = w} (still_open {text = s} c le on h) (still_open {text = t} d le' on' h') =
      ap (λ z. record { text = z; ended = false; stop = None })
      (one_text c s t h (subst (λ z. Writes z t) (one_longest w c d on.longest on'.longest) h'))

  -- what has stopped stays so, whatever comes
  pub stopped_more : (n : ℕ) (w v : List ℕ) (e : Bool) {a : Answer} → WorkerGives n w false a
      → (a.stop ≡ None → ⊥) → WorkerGives n (w ++ v) e a
  stopped_more n w v e (bad_byte c k on h) some = bad_byte c k
      (more_on (take n w) (take n (w ++ v)) c k (take_front n w (w ++ v) (v, refl)) on) h
    where
      more_on : (u y : List ℕ) (c : List Symbol) (k : ℕ) → Begins y u → On u c (Some k)
          → On y c (Some k)
      more_on u y c k p on = record { longest = longest; stops = stops on.stops }
        where
          stops : StopsIn B W Writes u c (Some k) → StopsIn B W Writes y c (Some k)
          stops (inl (next, at)) =
              inl ((next.0, next.1, further u y (text_of (c ++ next.0 ∷ [])) p next.2), at)
          stops (inr (none, bad)) = inr (
            λ next. none (
              next.0,
              next.1,
              shorter_front y (text_of (c ++ next.0 ∷ [])) u next.2 p
                  (less (length (text_of (c ++ next.0 ∷ []))) (length u) (λ lt.
                  past (c ++ next.0 ∷ []) next.1 next.2 bad lt)),
            ),
            record {
              within = omega (arith, bad.within, ap length p.1, length-append u p.0);
              before = subst (λ z.
                  BeginsText z) (sym (take_further k u y p (omega (arith, bad.within)))) bad.before;
              bad = λ b. bad.bad (subst (λ z.
                  BeginsText z) (take_further (k + 1) u y p (omega (arith, bad.within))) b);
            },
          )
            where
              less : (m n : ℕ) → (n < m → ⊥) → m ≤ n
              less m n h = omega arith

              past : (d : List Symbol) → IsCode d → Begins y (text_of d) → IsBadByte u k
                  → length u < length (text_of d) → ⊥
              past d code next bad lt =
                  bad.bad (
                    d,
                    code,
                    shorter_front y (take (k + 1) u) (text_of d) (within
                        (k + 1) u y p) next (omega (arith, bad.within, lt, length-take (k + 1) u)),
                  )

          longest : Longest y c
          longest = record {
            code = on.longest.code;
            front = further u y (text_of c) p on.longest.front;
            begins = on.longest.begins;
            longest = λ d code f b. most d code f b on.stops;
          }
            where
              less : (m n : ℕ) → (n < m → ⊥) → m ≤ n
              less m n h = omega arith

              most : (d : List Symbol) → IsCode d → Begins y (text_of d) → B d
                  → StopsIn B W Writes u c (Some k) → length d ≤ length c
              most d code f b (inl (next, at)) = less (length d) (length c) (λ lt. longer next lt)
                where
                  longer : HasNext u c → length c < length d → ⊥
                  longer (x, code', next') lt =
                      let e = c ++ x ∷ [] in
                      let long : length e ≡ length c + 1 = length-append c (x ∷ []) in
                      let begins : Begins d e = longer_code y e d code' code
                      (further u y (text_of e) p next') f (omega (arith, lt, long)) in
                      let short : length e ≤ length c =
                      on.longest.longest e code' next' (front e d begins b) in
                      omega (arith, short, long)
              most d code f b (inr (none, bad)) = on.longest.longest d code
                  (shorter_front y (text_of d) u f p (less (length (text_of d)) (length u) (λ lt.
                  bad.bad (
                    d,
                    code,
                    shorter_front y (take (k + 1) u) (text_of d) (within
                        (k + 1) u y p) f (omega (arith, bad.within, lt, length-take (k + 1) u)),
                  )))) b
  stopped_more n w v e (too_long {text = text} c lt on h) some =
      let same : take n w ≡ take n (w ++ v) = same_take n w (w ++ v) (v, refl) lt in
      too_long c (omega (arith, lt, length-append w v)) (subst (λ z. On z c None) same on) h
  stopped_more n w v e (still_open c le on h) some = absurd (some refl)
