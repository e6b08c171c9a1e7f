-- What is done of a leap, act by act.
use Rattle.std.proofs.Common.{◌≡◌, ℕ, zero, suc, ◌<◌, ◌≤◌, ◌+◌, ◌-◌, List, [], ◌∷◌, ◌++◌, get_or, take, drop, length, reverse, refl, sym, ap, ap₂, subst, ◌∙◌, arith, append-nil, take-append-drop}
use Rattle.std.proofs.lemmas.List.{take_more, take_all, map-append, drop-take, length-append, length-drop, get_or_append_left}
use Rattle.std.proofs.lemmas.List.Elements.{All-drop}
use Rattle.std.proofs.Math.Seq.{get_or-append_seam}
use Rattle.kex_code.specs.Registers.{Registers}
use Rattle.kex_model.specs.Acting.{ActingState}
use Rattle.kex_machine.specs.declared.MNode.{MNode}
use Rattle.kex_action.specs.declared.sheet.Sheet.{Sheet}
use Rattle.kex_action.specs.Holdings.{with_bytes}
use Rattle.kex_action.specs.Sheets.{IsSheet, IsBlank, AreMarks}
use Rattle.kex_held.specs.Acts.{after_act, after_acts}
use Rattle.kex_held.specs.Slices.{slice_between}
use Rattle.kex_held.proofs.ActLists.{acted-append}
use Rattle.kex_held.proofs.ListJoins.{slices_joined}
use Rattle.kex_leaps.specs.declared.act.LeapAct.{LeapAct}
use Rattle.kex_leaps.specs.declared.act.LeapAct.TheVariants.{Text}
use Rattle.kex_leaps.specs.Leaps.{act_in, acts_in, IsActWithin, AreActsWithin, DoesAll}

pub blank_sheet : (s : Sheet) → IsBlank s → IsSheet s
blank_sheet s b = record { used = omega (arith, b.0); marks = subst (λ ms. AreMarks s.used (reverse ms)) (sym b.1) tt }

adds_none : (out : List ℕ) (bs : List (List ℕ)) (regs : Registers) → let s : ActingState = record { out = out; buffers = bs; registers = regs } in s ≡ with_bytes [] s
adds_none out [] regs = ap (λ (l : List ℕ). record { out = l; buffers = []; registers = regs }) (sym (append-nil out))
adds_none out (b ∷ bs) regs = ap (λ (l : List ℕ). record { out = out; buffers = l ∷ bs; registers = regs }) (sym (append-nil b))

-- no part of a text is written yet
pub wrote_none : (s : ActingState) → s ≡ with_bytes [] s
wrote_none s = adds_none s.out s.buffers s.registers

-- one part more
pub wrote_more : (text : List ℕ) (at n : ℕ) (s z z' : ActingState) → z ≡ with_bytes (take at text) s → z' ≡ with_bytes (slice_between text at (at + n)) z → z' ≡ with_bytes (take (at + n) text) s
wrote_more text at n s z z' was is =
    let front : (k : ℕ) → take k text ≡ slice_between text 0 k = λ k. ap (λ m. take m text) (omega arith) in
    is
    ∙ ap (with_bytes (slice_between text at (at + n))) (was ∙ ap (λ l. with_bytes l s) (front at))
    ∙ slices_joined [] text 0 at (at + n) (omega arith) (omega arith) s
    ∙ ap (λ l. with_bytes l s) (sym (front (at + n)))

take_front : {A : Type 0} (at m : ℕ) (xs : List A) → at ≤ m → take at (take m xs) ≡ take at xs
take_front zero m xs le = refl
take_front (suc at) zero xs le = absurd (omega (arith, le))
take_front (suc at) (suc m) [] le = refl
take_front (suc at) (suc m) (x ∷ xs) le = ap (λ l. x ∷ l) (take_front at m xs (omega (arith, le)))

take_apart : {A : Type 0} (at n : ℕ) (xs : List A) → take (at + n) xs ≡ take at xs ++ take n (drop at xs)
take_apart at n xs = sym (take-append-drop at (take (at + n) xs)) ∙ ap₂ (λ l k. l ++ k) (take_front at (at + n) xs (omega arith)) (drop-take at n xs)

front_within : (high : ℕ) (xs ys : List LeapAct) → AreActsWithin high (xs ++ ys) → AreActsWithin high xs
front_within high xs ys all = λ i d lt. subst (IsActWithin high) (get_or_append_left xs ys d i lt) (all i d (omega (arith, lt, length-append xs ys)))

last_within : (high : ℕ) (xs : List LeapAct) (x : LeapAct) → AreActsWithin high (xs ++ x ∷ []) → IsActWithin high x
last_within high xs x all = subst (IsActWithin high) (get_or-append_seam xs x [] x) (all (length xs) x (omega (arith, length-append xs (x ∷ []))))

pub part_within : (high : ℕ) (xs : List LeapAct) (at n : ℕ) → AreActsWithin high xs → AreActsWithin high (take n (drop at xs))
part_within high xs at n all = front_within high (take n (drop at xs)) (drop n (drop at xs)) (subst (AreActsWithin high) (sym (take-append-drop n (drop at xs))) (All-drop (IsActWithin high) at xs all))

-- some acts more, that one does
pub performed_all : (nodes : List MNode) (piece : List ℕ) (xs : List LeapAct) (at n : ℕ) (x : LeapAct) (s z z' : ActingState) → AreActsWithin (length piece) xs → DoesAll (take n (drop at xs)) x → z ≡ after_acts nodes (acts_in piece (take at xs)) s → z' ≡ after_act nodes (act_in piece x) z → z' ≡ after_acts nodes (acts_in piece (take (at + n) xs)) s
performed_all nodes piece xs at n x s z z' within does e f =
    f
    ∙ ap (after_act nodes (act_in piece x)) e
    ∙ sym ((does nodes piece (part_within (length piece) xs at n within)).1 (after_acts nodes (acts_in piece (take at xs)) s))
    ∙ sym (acted-append nodes (acts_in piece (take at xs)) (acts_in piece (take n (drop at xs))) s)
    ∙ ap (λ l. after_acts nodes l s) (sym (map-append (λ x. act_in piece x) (take at xs) (take n (drop at xs))) ∙ ap (acts_in piece) (sym (take_apart at n xs)))

-- what is after the first `at` is all the rest
pub does_rest : (xs : List LeapAct) (at n : ℕ) (x : LeapAct) → DoesAll (take n (take (length xs - at) (drop at xs))) x → DoesAll (take n (drop at xs)) x
does_rest xs at n x does = subst (λ l. DoesAll (take n l) x) (take_all (length xs - at) (drop at xs) (omega (arith, length-drop at xs))) does

-- a text that goes on where others end
pub does_more : (xs : List LeapAct) (i : ℕ) (d : LeapAct) (a m b : ℕ) → i < length xs → get_or xs i d ≡ Text m b → DoesAll (take i xs) (Text a m) → DoesAll (take (i + 1) xs) (Text a b)
does_more xs i d a m b lt e does = λ nodes piece within.
    let whole : take (i + 1) xs ≡ take i xs ++ Text m b ∷ [] = take_more xs i d lt ∙ ap (λ x. take i xs ++ x ∷ []) e in
    let all : AreActsWithin (length piece) (take i xs ++ Text m b ∷ []) = subst (AreActsWithin (length piece)) whole within in
    let first = does nodes piece (front_within (length piece) (take i xs) (Text m b ∷ []) all) in
    let last : IsActWithin (length piece) (Text m b) = last_within (length piece) (take i xs) (Text m b) all in (
      (omega (arith, first.0.0, last.0), last.1),
      λ s.
          ap (λ l. after_acts nodes (acts_in piece l) s) whole
          ∙ ap (λ l. after_acts nodes l s) (map-append (λ x. act_in piece x) (take i xs) (Text m b ∷ []))
          ∙ acted-append nodes (acts_in piece (take i xs)) (act_in piece (Text m b) ∷ []) s
          ∙ ap (after_act nodes (act_in piece (Text m b))) (first.1 s)
          ∙ slices_joined nodes piece a m b first.0.0 last.0 s,
    )
