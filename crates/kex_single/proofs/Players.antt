-- A worker that writes what a code means, by a piece, or the end.
use Rattle.std.proofs.Common.{◌≡◌, ℕ, zero, suc, ◌<◌, ◌≤◌, ◌+◌, ◌-◌, ◌^◌, Bool, true, false, List, [], ◌∷◌, ◌++◌, Option, Some, None, length, min, take, drop, refl, sym, ap, subst, ◌∙◌, append_assoc, append-nil, arith, inl, inr, get_or, length-append, length-take, take-append-drop, take-suc}
use Rattle.std.specs.Prelude.{IfSome, IsTrue, ◌↔◌}
use Rattle.std.proofs.lemmas.List.{take_all}
use Rattle.kex_code.specs.declared.symbol.Symbol.{Symbol}
use Rattle.kex_code.specs.declared.symbol.Symbol.TheVariants.{L, R, Byte}
use Rattle.kex_code.specs.Codes.{Begins}
use Rattle.kex_code.specs.Readers.{ReaderHasRead, ReadOn, CodeReading}
use Rattle.kex_code.specs.Texts.{BeginsText, IsBegun, IsCode, text_of}
use Rattle.kex_code.proofs.Texts.{spells_begins, text_of-append}
use Rattle.kex_model.proofs.OpenAnswers.{shorter_front}
use Rattle.kex_machine.specs.Nodes.{Graph}
use Rattle.kex_machine.specs.Answers.{IsRun, left_by}
use Rattle.kex_action.specs.Actors.{BeginsRun, HasPerformed, IsSettled, IsWholeCode, Position, TookAll}
use Rattle.kex_pipe.specs.Working.{CameToEnd, ReadMore}
use Rattle.kex_single.specs.Plays.{ClosesPlayed, HasNext, IsBadByte, LongestCode, PlaysOn, SaysPlayed, StopsIn, WritesRun}
use Rattle.kex_single.specs.PlayLaws.{code_behind, further, longer_code}
use Rattle.kex_single.specs.PlayedLaws.{front}
use Rattle.kex_single.specs.Playing.{BadAt, IsWholeOf, PlayFollows, RefusesSymbol, TakesText}

code_front : (c d : List Symbol) → IsCode (c ++ d) → IsCode c
code_front [] d h = tt
code_front (L ∷ c) d h = code_front c d h
code_front (R ∷ c) d h = code_front c d h
code_front (Byte b ∷ c) d h = (h.0, code_front c d h.1)

code_rest : (c d : List Symbol) → IsCode (c ++ d) → IsCode d
code_rest [] d h = h
code_rest (L ∷ c) d h = code_rest c d h
code_rest (R ∷ c) d h = code_rest c d h
code_rest (Byte b ∷ c) d h = code_rest c d h.1

same_rest : {A : Type 0} (a x y : List A) → a ++ x ≡ a ++ y → x ≡ y
same_rest [] x y e = e
same_rest (z ∷ a) x y e = same_rest a x y (ap (λ s. drop 1 s) e)

-- after a code's text and what is begun of a symbol there is no whole symbol
no_next : (g : Graph) (u : List ℕ) (c : List Symbol) (begun : List ℕ) → u ≡ text_of c ++ begun → IsBegun begun → HasNext u c → ⊥
no_next g u c begun split (y, next, more, code_y, text_y) (x, code, (m, e)) =
    let rest : begun ≡ text_of (x ∷ []) ++ m =
    same_rest (text_of c) begun (text_of (x ∷ []) ++ m) (sym split ∙ e ∙ ap (λ z. z ++ m) (text_of-append c (x ∷ [])) ∙ append_assoc (text_of c) (text_of (x ∷ [])) m) in
    let longer : text_of (y ∷ []) ≡ text_of (x ∷ []) ++ (m ++ next ∷ more) =
    text_y ∙ ap (λ z. z ++ next ∷ more) rest ∙ append_assoc (text_of (x ∷ [])) m (next ∷ more) in
    let b : Begins (y ∷ []) (x ∷ []) = code_behind (x ∷ []) (y ∷ []) (code_rest c (x ∷ []) code) code_y (m ++ next ∷ more, longer) in
    let none : length b.0 ≡ 0 = omega (arith, ap (λ (z : List Symbol). length z) b.1, length-append (x ∷ []) b.0) in
    empty b.0 none b.1 longer
  where
    empty : (r : List Symbol) → length r ≡ 0 → y ∷ [] ≡ (x ∷ []) ++ r → text_of (y ∷ []) ≡ text_of (x ∷ []) ++ (m ++ next ∷ more) → ⊥
    empty [] n same long =
        let short : length (text_of (y ∷ [])) ≡ length (text_of (x ∷ [])) = ap (λ z. length (text_of z)) same in
        omega (arith, short, ap (λ (z : List ℕ). length z) long, length-append (text_of (x ∷ [])) (m ++ next ∷ more), length-append m (next ∷ more))
    empty (z ∷ r) n same long = absurd (omega arith)

less : (m n : ℕ) → (n < m → ⊥) → m ≤ n
less m n h = omega arith

-- the longest code is the one after which there is no whole symbol
longest_by : (g : Graph) (u : List ℕ) (c : List Symbol) → IsCode c → Begins u (text_of c) → BeginsRun g c → (HasNext u c → ⊥) → LongestCode (BeginsRun g) (IsWholeCode g) (WritesRun g) u c
longest_by g u c code p begins none = record {
  code = code;
  front = p;
  begins = begins;
  longest = λ d k q b. less (length d) (length c) (λ lt. by d k q (longer_code u c d code k p q (omega (arith, lt))) lt);
}
  where
    by : (d : List Symbol) → IsCode d → Begins u (text_of d) → Begins d c → length c < length d → ⊥
    by d k q (m, e) lt = at m e
      where
        at : (m : List Symbol) → d ≡ c ++ m → ⊥
        at [] e = omega (arith, lt, ap (λ (z : List Symbol). length z) e, length-append c [])
        at (x ∷ m) e =
            let split : d ≡ (c ++ x ∷ []) ++ m = e ∙ sym (append_assoc c (x ∷ []) m) in
            none (x, code_front (c ++ x ∷ []) m (subst (λ z. IsCode z) split k), further (text_of d) u (text_of (c ++ x ∷ [])) q (text_of m, ap (λ z. text_of z) split ∙ text_of-append (c ++ x ∷ []) m))

module _ (g : Graph) (r r1 : CodeReading) (a a1 : Position) (size : ℕ) (w said : List ℕ) (o : PlayFollows g r a size w said) (m1 : a1.machine ≡ g) (m : a.machine ≡ g) (old new : List ℕ) where
  abbrev B : List Symbol → Type 0
  B = BeginsRun g

  abbrev W : List Symbol → Type 0
  W = IsWholeCode g

  abbrev Writes : List Symbol → List ℕ → Type 0
  Writes = WritesRun g

  writes_as : (given c : List Symbol) (text : List ℕ) → IsSettled a1 → HasPerformed a1 given c text → B c → Writes c text
  writes_as given c text settled done (ks, run, b) =
      let left = done.left settled ks (subst (λ g. IsRun g ks) (sym m1) run) b in
      (ks, run, b, subst (λ g. text ≡ (left_by g ks c).out) m1 (sym (ap (λ z. z.out) left)))

  module _ (piece : List ℕ) (symbols : List Symbol) (spelt : ReaderHasRead r1 (w ++ piece) (o.code ++ symbols)) where
    abbrev u : List ℕ
    u = w ++ piece

    all_code : IsCode (o.code ++ symbols)
    all_code = spelt.spells.code

    all_front : Begins u (text_of (o.code ++ symbols))
    all_front = further (take r1.good u) u (text_of (o.code ++ symbols)) (drop r1.good u, sym (take-append-drop r1.good u)) (r1.begun, spelt.spells.text)

    split_at : (n : ℕ) → o.code ++ symbols ≡ (o.code ++ take n symbols) ++ drop n symbols
    split_at n = ap (λ z. o.code ++ z) (sym (take-append-drop n symbols)) ∙ sym (append_assoc o.code (take n symbols) (drop n symbols))

    some_code : (n : ℕ) → IsCode (o.code ++ take n symbols)
    some_code n = code_front (o.code ++ take n symbols) (drop n symbols) (subst (λ z. IsCode z) (split_at n) all_code)

    some_front : (n : ℕ) → Begins u (text_of (o.code ++ take n symbols))
    some_front n =
        further (text_of (o.code ++ symbols)) u (text_of (o.code ++ take n symbols)) all_front
        (text_of (drop n symbols), ap (λ z. text_of z) (split_at n) ∙ text_of-append (o.code ++ take n symbols) (drop n symbols))

    none_next : HasNext u (o.code ++ symbols) → ⊥
    none_next has = by r1.bad refl has
      where
        within : (e : List ℕ) (x : Symbol) → IsCode ((o.code ++ symbols) ++ x ∷ []) → (next : Begins u e) → e ≡ text_of ((o.code ++ symbols) ++ x ∷ []) → length e < length (take (suc r1.good) u) → ⊥
        within e x code next is lt =
            let good_front : Begins (take r1.good u) e = shorter_front u e (take r1.good u) next (drop r1.good u, sym (take-append-drop r1.good u)) (omega (arith, lt, length-take r1.good u, length-take (suc r1.good) u)) in
            no_next g (take r1.good u) (o.code ++ symbols) r1.begun spelt.spells.text spelt.spells.front (x, code, subst (λ z. Begins (take r1.good u) z) is good_front)

        by : (b : Bool) → r1.bad ≡ b → HasNext u (o.code ++ symbols) → ⊥
        by false ok next =
            let all : take r1.good u ≡ u = take_all r1.good u (omega (arith, spelt.all ok)) in
            no_next g u (o.code ++ symbols) r1.begun (sym all ∙ spelt.spells.text) spelt.spells.front next
        by true bad (x, code, next) =
            let e : List ℕ = text_of ((o.code ++ symbols) ++ x ∷ []) in
            spelt.none bad (
              (o.code ++ symbols) ++ x ∷ [],
              code,
              shorter_front u (take (suc r1.good) u) e (drop (suc r1.good) u, sym (take-append-drop (suc r1.good) u)) next
                  (less (length (take (suc r1.good) u)) (length e) (λ lt. within e x code next refl lt)),
            )

    -- all symbols were performed
    all_begins : (out : List ℕ) → TookAll a a1 symbols old out → B (o.code ++ symbols)
    all_begins out took = by symbols refl
      where
        by : (s : List Symbol) → symbols ≡ s → B (o.code ++ symbols)
        by [] e = subst (λ z. B (o.code ++ z)) (sym e) (subst (λ z. B z) (sym (append-nil o.code)) o.begins)
        by (x ∷ s) e =
            let lt : length s < length symbols = omega (arith, ap (λ (z : List Symbol). length z) e) in
            let some = took.good o.code o.code (said) o.performed (length s) lt in
            let all : take (suc (length s)) symbols ≡ symbols = take_all (suc (length s)) symbols (omega (arith, ap (λ (z : List Symbol). length z) e)) in
            subst (λ g. BeginsRun g (o.code ++ symbols)) m (subst (λ z. BeginsRun a.machine (o.code ++ z)) all some)

    -- the answer's code, its text, and what holds where it goes on
    pub record Took (refused bad at : Option ℕ) : Type 0 where
      pub code : List Symbol
      pub text : List ℕ
      pub added : List ℕ
      pub whole_text : text ≡ said ++ added
      pub appended : new ≡ old ++ added
      pub writes : Writes code text
      pub on : PlaysOn B W Writes u code at
      pub opens : at ≡ None → (code ≡ o.code ++ symbols) × (r1.bad ≡ false) × HasPerformed a1 (o.code ++ symbols) (o.code ++ symbols) text × B (o.code ++ symbols)

    took : (refused bad at : Option ℕ) → size + length (text_of symbols) ≤ 2 ^ 64 - 1 → RefusesSymbol refused a a1 symbols old new → ((i : ℕ) → bad ≡ Some i → (r1.bad ≡ true) × (r1.good ≡ i)) → (bad ≡ None → r1.bad ≡ false) → BadAt refused bad size symbols at → Took refused bad at
    took (Some i) bad at fits s is_bad is_good place =
        let c = o.code ++ take i symbols in
        let text = said ++ s.went.more in
        let begins : B c = subst (λ g. BeginsRun g c) m (first i s.least) in
        let next_front = some_front (suc i) in
        let next_code = some_code (suc i) in
        let refused : BeginsRun g (o.code ++ take (suc i) symbols) → ⊥ =
        λ b. s.bad o.code o.code (said) o.performed (subst (λ g. BeginsRun g (o.code ++ take (suc i) symbols)) (sym m) b) in
        let one_more : length (o.code ++ take (suc i) symbols) ≡ length c + 1 =
        omega (arith, s.within, length-append o.code (take i symbols), length-append o.code (take (suc i) symbols), length-take i symbols, length-take (suc i) symbols) in
        let longest : LongestCode B W Writes u c = record {
          code = some_code i;
          front = some_front i;
          begins = begins;
          longest = λ d k q b. less (length d) (length c)
              (λ lt. refused (front g (o.code ++ take (suc i) symbols) d (longer_code u (o.code ++ take (suc i) symbols) d next_code k next_front q (omega (arith, lt, one_more))) b));
        } in
        let next : HasNext u c = by_next i s.within next_front next_code in
        let at_is : at ≡ Some (length (text_of c)) = place ∙ ap (λ n. Some n) (placed i) in
        record {
          code = c;
          text = text;
          added = s.went.more;
          whole_text = refl;
          appended = s.went.written;
          writes = writes_as (o.code ++ symbols) c text s.settled (s.went.performed o.code o.code (said) o.performed) begins;
          on = subst (λ z. PlaysOn B W Writes u c z) (sym at_is) (record { longest = longest; stops = inl (next, refl) });
          opens = λ none. absurd (some_none (length (text_of c)) (sym at_is ∙ none));
        }
      where
        some_none : (n : ℕ) → Some n ≡ None → ⊥
        some_none n e = cc

        first : (i : ℕ) → ((g c : List Symbol) (out : List ℕ) → HasPerformed a g c out → (j : ℕ) → j < i → BeginsRun a.machine (g ++ take (suc j) symbols)) → BeginsRun a.machine (o.code ++ take i symbols)
        first zero least = subst (λ z. BeginsRun a.machine z) (sym (append-nil o.code)) (subst (λ g. BeginsRun g o.code) (sym m) o.begins)
        first (suc j) least = least o.code o.code (said) o.performed j (omega arith)

        by_next : (i : ℕ) → i < length symbols → Begins u (text_of (o.code ++ take (suc i) symbols)) → IsCode (o.code ++ take (suc i) symbols) → HasNext u (o.code ++ take i symbols)
        by_next i lt q k =
            let x = get_or symbols i L in
            let e : o.code ++ take (suc i) symbols ≡ (o.code ++ take i symbols) ++ x ∷ [] = ap (λ z. o.code ++ z) (take-suc symbols i L lt) ∙ sym (append_assoc o.code (take i symbols) (x ∷ [])) in
            (x, subst (λ z. IsCode z) e k, subst (λ z. Begins u (text_of z)) e q)

        placed : (i : ℕ) → min (size + length (text_of (take i symbols))) (2 ^ 64 - 1) ≡ length (text_of (o.code ++ take i symbols))
        placed i =
            let whole : length (text_of symbols) ≡ length (text_of (take i symbols)) + length (text_of (drop i symbols)) =
            ap (λ z. length (text_of z)) (sym (take-append-drop i symbols)) ∙ ap (λ (z : List ℕ). length z) (text_of-append (take i symbols) (drop i symbols)) ∙ length-append (text_of (take i symbols)) (text_of (drop i symbols)) in
            let all : length (text_of (o.code ++ take i symbols)) ≡ length (text_of o.code) + length (text_of (take i symbols)) =
            ap (λ (z : List ℕ). length z) (text_of-append o.code (take i symbols)) ∙ length-append (text_of o.code) (text_of (take i symbols)) in
            omega (arith, fits, whole, all, o.long)
    took None bad at fits s is_bad is_good place =
        let c = o.code ++ symbols in
        let text = said ++ s.went.more in
        let begins : B c = all_begins new s in
        let done = s.went.performed o.code o.code (said) o.performed in
        let longest = longest_by g u c all_code all_front begins none_next in
        record {
          code = c;
          text = text;
          added = s.went.more;
          whole_text = refl;
          appended = s.went.written;
          writes = writes_as c c text s.settled done begins;
          on = subst (λ z. PlaysOn B W Writes u c z) (sym place) (record { longest = longest; stops = stops bad is_bad is_good });
          opens = λ none. (refl, is_good (sym place ∙ none), done, begins);
        }
      where
        stops : (bad : Option ℕ) → ((i : ℕ) → bad ≡ Some i → (r1.bad ≡ true) × (r1.good ≡ i)) → (bad ≡ None → r1.bad ≡ false) → StopsIn B W Writes u (o.code ++ symbols) bad
        stops None is_bad is_good =
            let all : take r1.good u ≡ u = take_all r1.good u (omega (arith, spelt.all (is_good refl))) in
            (none_next, subst (λ z. BeginsText z) all (spells_begins (take r1.good u) (o.code ++ symbols) r1.begun spelt.spells))
        stops (Some i) is_bad is_good =
            let b = is_bad i refl in
            inr (
              none_next,
              subst (λ k. IsBadByte u k) b.1 (record {
                within = less_than (length u) r1.good (λ le. spelt.none b.0 (past le));
                before = spells_begins (take r1.good u) (o.code ++ symbols) r1.begun spelt.spells;
                bad = λ t. spelt.none b.0 (subst (λ n. BeginsText (take n u)) (let e : r1.good + 1 ≡ suc r1.good = omega arith in e) t);
              }),
            )
          where
            less_than : (m n : ℕ) → (m ≤ n → ⊥) → n < m
            less_than m n h = omega arith

            past : length u ≤ r1.good → BeginsText (take (suc r1.good) u)
            past le =
                let all : take r1.good u ≡ u = take_all r1.good u le in
                let all' : take (suc r1.good) u ≡ u = take_all (suc r1.good) u (omega (arith, le)) in
                subst (λ z. BeginsText z) (all ∙ sym all') (spells_begins (take r1.good u) (o.code ++ symbols) r1.begun spelt.spells)

    -- the text of the symbols is short
    fits_of : r.good + length piece < 2 ^ 64 → size + length (text_of symbols) ≤ 2 ^ 64 - 1
    fits_of room =
        let short : length (text_of (o.code ++ symbols)) ≤ length u = omega (arith, ap (λ (z : List ℕ). length z) all_front.1, length-append (text_of (o.code ++ symbols)) all_front.0) in
        let long : length (text_of (o.code ++ symbols)) ≡ length (text_of o.code) + length (text_of symbols) = ap (λ (z : List ℕ). length z) (text_of-append o.code symbols) ∙ length-append (text_of o.code) (text_of symbols) in
        omega (arith, room, short, long, o.long, o.spelt.all o.good, length-append w piece)

    follows : (size1 : ℕ) (refused bad at : Option ℕ) (t : Took refused bad at) → r.good + length piece < 2 ^ 64 → size1 ≡ min (size + length (text_of symbols)) (2 ^ 64 - 1) → at ≡ None → PlayFollows g r1 a1 size1 (w ++ piece) t.text
    follows size1 refused bad at t room size_is none =
        let x = t.opens none in
        let long : length (text_of (o.code ++ symbols)) ≡ length (text_of o.code) + length (text_of symbols) = ap (λ (z : List ℕ). length z) (text_of-append o.code symbols) ∙ length-append (text_of o.code) (text_of symbols) in
        record {
          code = o.code ++ symbols;
          spelt = spelt;
          good = x.1;
          performed = x.2;
          begins = x.3;
          long = omega (arith, size_is, long, o.long, fits_of room);
        }

    pub play_reads : (size1 : ℕ) (refused bad at : Option ℕ) → r.good + length piece < 2 ^ 64 → size1 ≡ min (size + length (text_of symbols)) (2 ^ 64 - 1) → RefusesSymbol refused a a1 symbols old new → ((i : ℕ) → bad ≡ Some i → (r1.bad ≡ true) × (r1.good ≡ i)) → (bad ≡ None → r1.bad ≡ false) → BadAt refused bad size symbols at
        → ReadMore (λ u b t. SaysPlayed (BeginsRun g) (IsWholeCode g) (WritesRun g) u b t) (λ u t. PlayFollows g r1 a1 size1 u t) w said piece at old new
    play_reads size1 refused bad at room size_is refuses is_bad is_good place =
        let t = took refused bad at (fits_of room) refuses is_bad is_good place in
        record {
          more = t.added;
          written = t.appended;
          says = subst (λ z. SaysPlayed B W Writes u at z) t.whole_text (t.code, t.on, t.writes);
          follows = λ none. subst (λ z. PlayFollows g r1 a1 size1 u z) t.whole_text (follows size1 refused bad at t room size_is none);
        }

pub text_read : (bad : Option ℕ) (r r1 : CodeReading) (piece : List ℕ) (before after : List Symbol) → TakesText bad r r1 piece before after → ReadOn r r1 piece before after
text_read None r r1 piece before after t = t.0
text_read (Some i) r r1 piece before after t = t.0

pub bad_read : (bad : Option ℕ) (r r1 : CodeReading) (piece : List ℕ) (before after : List Symbol) → TakesText bad r r1 piece before after → (i : ℕ) → bad ≡ Some i → (r1.bad ≡ true) × (r1.good ≡ i)
bad_read None r r1 piece before after t i e = cc
bad_read (Some j) r r1 piece before after t i e =
    let same : j ≡ i = some_same j i e in
    (t.1, t.2 ∙ same)
  where
    some_same : (i j : ℕ) → Some i ≡ Some j → i ≡ j
    some_same i j e = cc

pub good_read : (bad : Option ℕ) (r r1 : CodeReading) (piece : List ℕ) (before after : List Symbol) → TakesText bad r r1 piece before after → bad ≡ None → r1.bad ≡ false
good_read None r r1 piece before after t e = t.1
good_read (Some j) r r1 piece before after t e = cc

-- of no symbols none is refused
pub took_nothing : (refused : Option ℕ) (a a1 : Position) (old new : List ℕ) → RefusesSymbol refused a a1 [] old new → IfSome refused (λ i. i < length {A = Symbol} []) → TookAll a a1 [] old new
took_nothing None a a1 old new t within = t
took_nothing (Some i) a a1 old new t within = absurd (omega arith)

-- the end
module _ (g : Graph) (r : CodeReading) (a a1 : Position) (size : ℕ) (w begun : List ℕ) (o : PlayFollows g r a size w begun) (m1 : a1.machine ≡ g) (old new : List ℕ) (took : TookAll a a1 [] old new) (is_whole : Bool) (tells : IsWholeOf r a1 is_whole) where
  abbrev said : List ℕ
  said = begun ++ took.went.more

  done : HasPerformed a1 o.code o.code said
  done =
      let d = took.went.performed o.code o.code begun o.performed in
      subst (λ z. HasPerformed a1 z z said) (append-nil o.code) d

  writes : WritesRun g o.code said
  writes =
      let (ks, run, b) = o.begins in
      let left = done.left took.settled ks (subst (λ g. IsRun g ks) (sym m1) run) b in
      (ks, run, b, subst (λ g. said ≡ (left_by g ks o.code).out) m1 (sym (ap (λ z. z.out) left)))

  spelt : w ≡ text_of o.code ++ r.begun
  spelt = sym (take_all r.good w (omega (arith, o.spelt.all o.good))) ∙ o.spelt.spells.text

  on : PlaysOn (BeginsRun g) (IsWholeCode g) (WritesRun g) w o.code None
  on =
      let none = no_next g w o.code r.begun spelt o.spelt.spells.front in
      record {
        longest = longest_by g w o.code o.spelt.spells.code (r.begun, spelt) o.begins none;
        stops = (none, subst (λ z. BeginsText z) (take_all r.good w (omega (arith, o.spelt.all o.good))) (spells_begins (take r.good w) o.code r.begun o.spelt.spells));
      }

  pub play_ends : CameToEnd (λ u b t. ClosesPlayed (BeginsRun g) (IsWholeCode g) (WritesRun g) u b t) w begun is_whole old new
  play_ends = record { more = took.went.more; written = took.went.written; closes = by is_whole (tells o.code said done) }
    where
      by : (b : Bool) → (IsTrue b ↔ ((r.bad ≡ false) × (r.begun ≡ []) × IsWholeCode a1.machine o.code)) → ClosesPlayed (BeginsRun g) (IsWholeCode g) (WritesRun g) w b said
      by true t =
          let x = t.0 refl in
          (o.code, on, spelt ∙ ap (λ z. text_of o.code ++ z) x.1 ∙ append-nil (text_of o.code), subst (λ g. IsWholeCode g o.code) m1 x.2, writes)
      by false t = (
        o.code,
        on,
        λ is whole.
            let bad : false ≡ true = t.1 (o.good, same_rest (text_of o.code) r.begun [] (sym spelt ∙ is ∙ sym (append-nil (text_of o.code))), subst (λ g. IsWholeCode g o.code) (sym m1) whole) in cc,
        writes,
      )
