-- What a reader has read when it is fed more.
use Rattle.std.proofs.Common.{◌≡◌, ℕ, suc, ◌<◌, ◌≤◌, ◌+◌, Bool, true, false, List, [], ◌∷◌, ◌++◌, ◌⊎◌, ⊎_elim, length, take, drop, get_or, refl, sym, ap, subst, ◌∙◌, append_assoc, append-nil, length-append, arith}
use Rattle.std.proofs.lemmas.List.{take_all, take_at, take-append-le, take-append-drop, take_more}
use Rattle.kex_code.specs.declared.symbol.Symbol.{Symbol}
use Rattle.kex_code.specs.declared.reader.Begun.{Begun}
use Rattle.kex_code.specs.declared.reader.Begun.TheVariants.{Nothing}
use Rattle.kex_code.specs.declared.reader.ReaderStep.TheVariants.{Open, Whole, Wrong}
use Rattle.kex_code.specs.Texts.{text_of, IsCode, IsText, BeginsText, IsBegun, SpellsCode}
use Rattle.kex_code.specs.Begun.{text_begun, StepsTo}
use Rattle.kex_code.specs.declared.reader.CodeError.{CodeError}
use Rattle.kex_code.specs.declared.reader.CodeError.TheVariants.{Bad, Memory}
use Rattle.kex_code.specs.Readers.{CodeReading, ReaderHasRead, ReadOn, FaultLeaves}
use Rattle.kex_code.proofs.Texts.{text_of-append, IsCode-append, text_behind, begins_behind, spells_begins, is_begun, none_begun}

-- where all was good
good_so_far : (r : CodeReading) (w : List ℕ) (c : List Symbol) → ReaderHasRead r w c → r.bad ≡ false → SpellsCode w c r.begun
good_so_far r w c h e = let long : r.good ≡ length w = h.all e in subst (λ z. SpellsCode z c r.begun) (take_all r.good w (omega arith)) h.spells

-- one byte more that was good
more_good : (r n : CodeReading) (w : List ℕ) (b : ℕ) (c : List Symbol) → r.good ≡ length w → n.bad ≡ false → n.good ≡ r.good + 1 → SpellsCode (w ++ b ∷ []) c n.begun → ReaderHasRead n (w ++ b ∷ []) c
more_good r n w b c l e g s =
    let long : n.good ≡ length (w ++ b ∷ []) = let both : length (w ++ b ∷ []) ≡ length w + 1 = length-append w (b ∷ []) in omega arith in
    record {
      spells = subst (λ z. SpellsCode z c n.begun) (sym (take_all n.good (w ++ b ∷ []) (omega arith))) s;
      all = λ _. long;
      none = λ e'. cc;
    }

-- one byte more of the text is one byte more of the symbol that is begun
text_more : (w : List ℕ) (c : List Symbol) (s t : List ℕ) (b : ℕ) → w ≡ text_of c ++ s → s ++ b ∷ [] ≡ t → w ++ b ∷ [] ≡ text_of c ++ t
text_more w c s t b e f = ap (λ z. z ++ b ∷ []) e ∙ append_assoc (text_of c) s (b ∷ []) ∙ ap (λ z. text_of c ++ z) f

module _ (r n : CodeReading) (p : Begun) (b : ℕ) (good : r.bad ≡ false) (here : r.begun ≡ text_begun p) where
  pub opened : (q : Begun) → StepsTo p b (Open q) → n.bad ≡ false → n.good ≡ r.good + 1 → n.begun ≡ text_begun q → (w : List ℕ) (c : List Symbol) → ReaderHasRead r w c → ReaderHasRead n (w ++ b ∷ []) (c ++ [])
  opened q s e g t w c h =
      let old = good_so_far r w c h good in
      subst (λ z. ReaderHasRead n (w ++ b ∷ []) z) (sym (append-nil c)) (more_good r n w b c (h.all good) e g (record {
        text = text_more w c r.begun n.begun b old.text (ap (λ z. z ++ b ∷ []) here ∙ s.0 ∙ sym t);
        code = old.code;
        front = subst IsBegun (sym t) (is_begun q s.1);
      }))

  pub completed : (x : Symbol) → StepsTo p b (Whole x) → n.bad ≡ false → n.good ≡ r.good + 1 → n.begun ≡ [] → (w : List ℕ) (c : List Symbol) → ReaderHasRead r w c → ReaderHasRead n (w ++ b ∷ []) (c ++ x ∷ [])
  completed x s e g t w c h =
      let old = good_so_far r w c h good in
      more_good r n w b (c ++ x ∷ []) (h.all good) e g (record {
        text = text_more w c r.begun (text_of (x ∷ [])) b old.text (ap (λ z. z ++ b ∷ []) here ∙ s.0) ∙ sym (text_of-append c (x ∷ [])) ∙ sym (append-nil (text_of (c ++ x ∷ []))) ∙ ap (λ z. text_of (c ++ x ∷ []) ++ z) (sym t);
        code = IsCode-append c (x ∷ []) old.code s.1;
        front = subst IsBegun (sym t) (is_begun Nothing tt);
      })

  pub broken : StepsTo p b Wrong → n.bad ≡ true → n.good ≡ r.good → n.begun ≡ r.begun → (w : List ℕ) (c : List Symbol) → ReaderHasRead r w c → ReaderHasRead n (w ++ b ∷ []) (c ++ [])
  broken s e g t w c h =
      let old = good_so_far r w c h good in
      let long : r.good ≡ length w = h.all good in
      let both : length (w ++ b ∷ []) ≡ length w + 1 = length-append w (b ∷ []) in
      subst (λ z. ReaderHasRead n (w ++ b ∷ []) z) (sym (append-nil c)) (record {
        spells = subst (λ z. SpellsCode z c n.begun) (sym (ap (λ z. take z (w ++ b ∷ [])) (g ∙ long) ∙ take_at w (b ∷ []) (length w) refl)) (subst (λ z. SpellsCode w c z) (sym t) old);
        all = λ e'. cc;
        none = λ _ f. s (begins_behind c (text_begun p ++ b ∷ []) (subst BeginsText (take_all (suc n.good) (w ++ b ∷ []) (omega arith) ∙ text_more w c r.begun (text_begun p ++ b ∷ []) b old.text (ap (λ z. z ++ b ∷ []) here)) f));
      })

-- a bad byte stays the first one
pub stays_bad : (r : CodeReading) (w v : List ℕ) (c : List Symbol) → r.bad ≡ true → ReaderHasRead r w c → ReaderHasRead r (w ++ v) (c ++ [])
stays_bad r w v c e h = subst (λ z. ReaderHasRead r (w ++ v) z) (sym (append-nil c)) (⊎_elim (λ lt. go lt) (λ le. absurd (h.none e (subst BeginsText (take_all r.good w le ∙ sym (take_all (suc r.good) w (omega arith))) (spells_begins (take r.good w) c r.begun h.spells)))) (below r.good (length w)))
  where
    below : (a b : ℕ) → (a < b) ⊎ (b ≤ a)
    below a b = grind arith

    go : r.good < length w → ReaderHasRead r (w ++ v) c
    go lt = record {
      spells = subst (λ z. SpellsCode z c r.begun) (sym (take-append-le r.good w v (omega arith))) h.spells;
      all = λ e'. cc;
      none = λ e' f. h.none e (subst BeginsText (take-append-le (suc r.good) w v (omega arith)) f);
    }

-- one piece after another
pub read_both : (r m n : CodeReading) (p q : List ℕ) (x y z : List Symbol) → ReadOn r m p x y → ReadOn m n q y z → ReadOn r n (p ++ q) x z
read_both r m n p q x y z h k = record {
  symbols = h.symbols ++ k.symbols;
  given = k.given ∙ ap (λ s. s ++ k.symbols) h.given ∙ append_assoc x h.symbols k.symbols;
  read = λ w c a. subst (λ s. ReaderHasRead n s (c ++ (h.symbols ++ k.symbols))) (append_assoc w p q) (subst (λ s. ReaderHasRead n ((w ++ p) ++ q) s) (append_assoc c h.symbols k.symbols) (k.read (w ++ p) (c ++ h.symbols) (h.read w c a)));
}

-- what comes after a bad byte is not read
pub read_no_more : (r n : CodeReading) (p q : List ℕ) (x y : List Symbol) → n.bad ≡ true → ReadOn r n p x y → ReadOn r n (p ++ q) x y
read_no_more r n p q x y e h = record {
  symbols = h.symbols;
  given = h.given;
  read = λ w c a. subst (λ s. ReaderHasRead n s (c ++ h.symbols)) (append_assoc w p q) (subst (λ s. ReaderHasRead n ((w ++ p) ++ q) s) (append-nil (c ++ h.symbols)) (stays_bad n (w ++ p) q (c ++ h.symbols) e (h.read w c a)));
}

pub read_nothing : (r : CodeReading) (x : List Symbol) → ReadOn r r [] x x
read_nothing r x = record { symbols = []; given = sym (append-nil x); read = λ w c a. subst (λ s. ReaderHasRead r s (c ++ [])) (sym (append-nil w)) (subst (λ s. ReaderHasRead r w s) (sym (append-nil c)) a) }

-- the reader is whole exactly where what it read is a text
pub whole_text : (r : CodeReading) (p : Begun) → r.begun ≡ text_begun p → (w : List ℕ) (c : List Symbol) → ReaderHasRead r w c → (r.bad ≡ false → r.begun ≡ [] → IsText w) × (IsText w → (r.bad ≡ false) × (r.begun ≡ []))
whole_text r p here w c h = (
  λ e t. let s = good_so_far r w c h e in (c, s.code, s.text ∙ ap (λ z. text_of c ++ z) t ∙ append-nil (text_of c)),
  λ (d, k, e). cases r.bad refl d k e,
)
  where
    cases : (x : Bool) → r.bad ≡ x → (d : List Symbol) → IsCode d → w ≡ text_of d → (r.bad ≡ false) × (r.begun ≡ [])
    cases true b d k e = absurd (h.none b (d, k, (drop (suc r.good) w, sym e ∙ sym (take-append-drop (suc r.good) w))))
    cases false b d k e =
        let s = good_so_far r w c h b in
        let f = text_behind c d (text_begun p) k (sym e ∙ s.text ∙ ap (λ z. text_of c ++ z) here) in
        (b, here ∙ none_begun p f.0 f.2)

-- a fault at a later byte of the piece
pub fault_behind : (e : CodeError) (r m n : CodeReading) (p q : List ℕ) (b : ℕ) (x y z : List Symbol) → ReadOn r m p x y → FaultLeaves e m n (b ∷ []) y z → FaultLeaves e r n ((p ++ b ∷ []) ++ q) x z
fault_behind (Bad f) r m n p q b x y z h k = (read_no_more r n (p ++ b ∷ []) q x z k.1 (read_both r m n p (b ∷ []) x y z h k.0), k.1, k.2)
fault_behind Memory r m n p q b x y z h (more, e) = (h.symbols ++ more, e ∙ ap (λ s. s ++ more) h.given ∙ append_assoc x h.symbols more)

-- a piece by the byte at a place in it
pub parted : (piece : List ℕ) (i : ℕ) → i < length piece → (take i piece ++ get_or piece i 0 ∷ []) ++ drop (i + 1) piece ≡ piece
parted piece i lt = ap (λ z. z ++ drop (i + 1) piece) (sym (take_more piece i 0 lt)) ∙ take-append-drop (i + 1) piece
