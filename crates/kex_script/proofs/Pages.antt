-- Pages that grow: what is there stays.
use Rattle.std.proofs.Common.{◌≡◌, ℕ, zero, suc, ◌+◌, ◌<◌, ◌≤◌, List, [], ◌∷◌, ◌++◌, ◌⊎◌, inl, inr, ⊎_elim, Option, Some, None, length, get_or, take, drop, refl, sym, ap, subst, ◌∙◌, arith}
use Rattle.std.specs.Prelude.{slice_get}
use Rattle.std.proofs.lemmas.Option.{slice_get_within, slice_get-get_or}
use Rattle.std.proofs.lemmas.List.{get_or_append_left, get_or_push, length_push, take-append-drop}
use Rattle.kex_sst.specs.declared.parts.Part.{Part}
use Rattle.kex_sst.specs.declared.table.Transition.{Transition}
use Rattle.kex_sst.specs.Parts.{Change}
use Rattle.kex_sst.specs.Tables.{Row}
use Rattle.kex_script.specs.declared.script.Tail.{Tail}
use Rattle.kex_script.specs.declared.script.Entry.{Entry}
use Rattle.kex_script.specs.declared.entries.EntryPlace.{EntryPlace}
use Rattle.kex_script.specs.declared.entries.StateEntries.{StateEntries}
use Rattle.kex_script.specs.Scripts.{IsWord, IsTail, AreTails}
use Rattle.kex_script.specs.Pages.{Pages, KeepsItems, PagesGrow, IsListAt, AreListsAt, IsRow, HasRow, HasRowIf, IsEntryAt, IsClassAt, AreStatesWritten}

pub keeps_same : {A : Type 0} (xs : List A) → KeepsItems xs xs
keeps_same xs k x e = e

pub keeps_more : {A : Type 0} (xs ys : List A) → KeepsItems xs (xs ++ ys)
keeps_more [] ys k x e = let bad : ⊥ = cc in absurd bad
keeps_more (a ∷ xs) ys zero x e = e
keeps_more (a ∷ xs) ys (suc k) x e = keeps_more xs ys k x e

-- a list keeps the items of its front
pub keeps_front : {A : Type 0} (n : ℕ) (xs : List A) → KeepsItems (take n xs) xs
keeps_front n xs = subst (λ z. KeepsItems (take n xs) z) (take-append-drop n xs) (keeps_more (take n xs) (drop n xs))

slice_get-take : {A : Type 0} (n : ℕ) (xs : List A) (k : ℕ) → k < n → slice_get (take n xs) k ≡ slice_get xs k
slice_get-take zero xs k lt = absurd (omega arith)
slice_get-take (suc n) [] k lt = refl
slice_get-take (suc n) (x ∷ xs) zero lt = refl
slice_get-take (suc n) (x ∷ xs) (suc k) lt = slice_get-take n xs k (omega arith)

slice_get-drop : {A : Type 0} (n : ℕ) (xs : List A) (k : ℕ) → slice_get (drop n xs) k ≡ slice_get xs (n + k)
slice_get-drop zero xs k = let e : k ≡ 0 + k = omega arith in ap (λ z. slice_get xs z) e
slice_get-drop (suc n) [] k = refl
slice_get-drop (suc n) (x ∷ xs) k = let e : suc (n + k) ≡ suc n + k = omega arith in slice_get-drop n xs k ∙ ap (λ z. slice_get (x ∷ xs) z) e

-- what a list keeps of another is in any front of it that is as long as the other
pub kept_in_front : {A : Type 0} (n : ℕ) (xs ys : List A) → length xs ≤ n → KeepsItems xs ys → KeepsItems xs (take n ys)
kept_in_front n xs ys le h k x e = let within = slice_get_within xs k x e in slice_get-take n ys k (omega (arith, le, within)) ∙ h k x e

pub last_there : {A : Type 0} (xs : List A) (a : A) → slice_get (xs ++ a ∷ []) (length xs) ≡ Some a
last_there [] a = refl
last_there (x ∷ xs) a = last_there xs a

pub grows_on : {p q r : Pages} → PagesGrow p q → PagesGrow q r → PagesGrow p r
grows_on g h = record { lists = λ k x e. h.lists k x (g.lists k x e); rows = λ k x e. h.rows k x (g.rows k x e) }

word_kept : (words words' : List (List Part)) (n : Option ℕ) (w : List Part) → KeepsItems words words' → IsWord words n w → IsWord words' n w
word_kept words words' None w k h = h
word_kept words words' (Some n) w k h = k n w h

pub tail_kept : (words words' lists lists' : List (List Part)) (x : Tail) (whole : List Part) → KeepsItems words words' → KeepsItems lists lists' → IsTail words lists x whole → IsTail words' lists' x whole
tail_kept words words' lists lists' x whole kw kl h = record {
  front = h.front;
  before = kl x.before h.front h.before;
  shorter = h.shorter;
  parts = h.parts;
  word = word_kept words words' x.word h.parts kw h.word;
  plain = h.plain;
  joined = h.joined;
}

-- more words
pub tails_over : (words words' lists : List (List Part)) (tails : List Tail) → KeepsItems words words' → AreTails words lists tails → AreTails words' lists tails
tails_over words words' lists tails kw h = record {
  empty = h.empty;
  as_many = h.as_many;
  each = λ k x some at. tail_kept words words' lists lists x (get_or lists k []) kw (keeps_same lists) (h.each k x some at);
}

below : (k n : ℕ) → k < n + 1 → (k < n) ⊎ (k ≡ n)
below zero zero lt = inr refl
below zero (suc n) lt = inl (omega arith)
below (suc k) zero lt = absurd (omega arith)
below (suc k) (suc n) lt = ⊎_elim (λ l. inl (omega (arith, l))) (λ e. inr (ap suc e)) (below k n (omega (arith, lt)))

-- one more list, with its tail
pub tails_more : (words words' lists : List (List Part)) (tails : List Tail) (x : Tail) (whole : List Part) → KeepsItems words words' → AreTails words lists tails → IsTail words' lists x whole → AreTails words' (lists ++ whole ∷ []) (tails ++ x ∷ [])
tails_more words words' lists tails x whole kw h t = record {
  empty = keeps_more lists (whole ∷ []) 0 [] h.empty;
  as_many = omega (arith, length_push tails x, length_push lists whole, h.as_many);
  each = λ k y some at.
      let within = slice_get_within (tails ++ x ∷ []) k y at in
      one_more k y some (omega (arith, within, length_push tails x)) at;
}
  where
    same : {y z : Tail} → Some y ≡ Some z → y ≡ z
    same e = cc

    one_more : (k : ℕ) (y : Tail) → 0 < k → k < length tails + 1 → slice_get (tails ++ x ∷ []) k ≡ Some y → IsTail words' (lists ++ whole ∷ []) y (get_or (lists ++ whole ∷ []) k [])
    one_more k y some lt at =
        ⊎_elim
        (λ less.
        let there = slice_get-get_or tails k y less in
        let is : slice_get tails k ≡ Some y = there ∙ sym (keeps_more tails (x ∷ []) k (get_or tails k y) there) ∙ at in
        let here : get_or (lists ++ whole ∷ []) k [] ≡ get_or lists k [] = get_or_append_left lists (whole ∷ []) [] k (omega (arith, less, h.as_many)) in
        subst (λ z. IsTail words' (lists ++ whole ∷ []) y z) (sym here) (tail_kept words words' lists (lists ++ whole ∷ []) y (get_or lists k []) kw (keeps_more lists (whole ∷ [])) (h.each k y some is)))
        (λ e.
        let here : get_or (lists ++ whole ∷ []) k [] ≡ whole = get_or_push lists whole [] k (omega (arith, e, h.as_many)) in
        let is : x ≡ y = same (sym (ap (λ z. slice_get (tails ++ x ∷ []) z) e ∙ last_there tails x) ∙ at) in
        subst (λ z. IsTail words' (lists ++ whole ∷ []) z (get_or (lists ++ whole ∷ []) k [])) is (subst (λ z. IsTail words' (lists ++ whole ∷ []) x z) (sym here) (tail_kept words' words' lists (lists ++ whole ∷ []) x whole (keeps_same words') (keeps_more lists (whole ∷ [])) t)))
        (below k (length tails) lt)

list_kept : (p q : Pages) (k : ℕ) (parts : List Part) → PagesGrow p q → IsListAt p k parts → IsListAt q k parts
list_kept p q k parts g h = record { number = h.number; row = g.rows k h.number h.row; list = g.lists h.number parts h.list }

pub lists_kept : (p q : Pages) (k n : ℕ) (lists : List (List Part)) → PagesGrow p q → AreListsAt p k n lists → AreListsAt q k n lists
lists_kept p q k n lists g h i lt = list_kept p q (k + i) (get_or lists i []) g (h i lt)

pub row_kept : (p q : Pages) (at : ℕ) (u : Change) → PagesGrow p q → IsRow p at u → IsRow q at u
row_kept p q at u g h = record {
  count = g.rows at (length u.regs) h.count;
  out = list_kept p q (at + 1) u.out g h.out;
  regs = lists_kept p q (at + 2) (length u.regs) u.regs g h.regs;
}

pub has_kept : (p q : Pages) (e : Entry) (to : ℕ) (u : Change) → PagesGrow p q → HasRow p e to u → HasRow q e to u
has_kept p q e to u g h = record { goes = h.goes; target = h.target; row = row_kept p q e.update u g h.row; registers = h.registers; silent = h.silent; fresh = h.fresh }

if_kept : (p q : Pages) (e : Entry) (r : Option Transition) → PagesGrow p q → HasRowIf p e r → HasRowIf q e r
if_kept p q e None g h = h
if_kept p q e (Some r) g h = has_kept p q e r.target r.update g h

pub entry_kept : (p q : Pages) (es fs : List Entry) (at : ℕ) (r : Option Transition) → PagesGrow p q → KeepsItems es fs → IsEntryAt p es at r → IsEntryAt q fs at r
entry_kept p q es fs at r g keeps h = record { entry = h.entry; there = keeps at h.entry h.there; has = if_kept p q h.entry r g h.has }

-- one more entry
pub entries_next : (p q : Pages) (es es' : List Entry) (all : List (Option Transition)) (from i : ℕ) (e : Entry) (r : Option Transition) → PagesGrow p q → ((k : ℕ) → k < i → IsEntryAt p es (from + k) (get_or all k None)) → length es ≡ from + i → es' ≡ es ++ e ∷ [] → r ≡ get_or all i None → HasRowIf q e r → (k : ℕ) → k < i + 1 → IsEntryAt q es' (from + k) (get_or all k None)
entries_next p q es es' all from i e r g h long more is f k lt =
    ⊎_elim
    (λ less. entry_kept p q es es' (from + k) (get_or all k None) g (subst (λ z. KeepsItems es z) (sym more) (keeps_more es (e ∷ []))) (h k less))
    (λ same.
    let at : from + k ≡ length es = omega (arith, same, long) in
    record {
      entry = e;
      there = ap (λ z. slice_get z (from + k)) more ∙ ap (λ z. slice_get (es ++ e ∷ []) z) at ∙ last_there es e;
      has = subst (λ z. HasRowIf q e z) (is ∙ ap (λ z. get_or all z None) (sym same)) f;
    })
    (below k i lt)

front_item : {A : Type 0} (xs : List A) (a x : A) (k : ℕ) → k < length xs → slice_get (xs ++ a ∷ []) k ≡ Some x → slice_get xs k ≡ Some x
front_item [] a x k lt e = absurd (omega (arith, lt))
front_item (y ∷ ys) a x zero lt e = e
front_item (y ∷ ys) a x (suc k) lt e = front_item ys a x k (omega (arith, lt)) e

last_item : {A : Type 0} (xs : List A) (a x : A) (k : ℕ) → k ≡ length xs → slice_get (xs ++ a ∷ []) k ≡ Some x → a ≡ x
last_item xs a x k at e = same (sym (last_there xs a) ∙ ap (λ z. slice_get (xs ++ a ∷ []) z) (sym at) ∙ e)
  where
    same : {A : Type 0} {y z : A} → Some y ≡ Some z → y ≡ z
    same e = cc

class_kept : (p q : Pages) (ns ms : List ℕ) (es fs : List Entry) (x : EntryPlace) (class : ℕ) (r : Option Transition) → PagesGrow p q → KeepsItems ns ms → KeepsItems es fs → IsClassAt p ns es x class r → IsClassAt q ms fs x class r
class_kept p q ns ms es fs x class r g numbers entries h = record {
  number = h.number;
  told = numbers (x.numbers + class) h.number h.told;
  entry = entry_kept p q es fs (x.first + h.number) r g entries h.entry;
}

-- one more state
module _ (p q : Pages) (a b : StateEntries) (before : List Row) (s : Row) (x : EntryPlace) (g : PagesGrow p q) (numbers : KeepsItems a.numbers.items b.numbers.items) (entries : KeepsItems a.entries.items b.entries.items) (places : b.places.items ≡ a.places.items ++ x ∷ []) where
  pub states_next : AreStatesWritten p a before → ((class : ℕ) → class < length s.go → IsClassAt q b.numbers.items b.entries.items x class (get_or s.go class None)) → AreStatesWritten q b (before ++ s ∷ [])
  states_next h new = record {
    as_many = omega (arith, ap length places, length_push a.places.items x, length_push before s, h.as_many);
    zeros = λ k lt. numbers k 0 (h.zeros k lt);
    each = λ i r y at there.
        let placed : slice_get (a.places.items ++ x ∷ []) i ≡ Some y = ap (λ z. slice_get z i) (sym places) ∙ there in
        let within = slice_get_within (before ++ s ∷ []) i r at in
        ⊎_elim
        (λ less class lt. class_kept p q a.numbers.items b.numbers.items a.entries.items b.entries.items y class (get_or r.go class None) g numbers entries
        (h.each i r y (front_item before s r i less at) (front_item a.places.items x y i (omega (arith, less, h.as_many)) placed) class lt))
        (λ same class lt.
        let row : s ≡ r = last_item before s r i same at in
        let place : x ≡ y = last_item a.places.items x y i (omega (arith, same, h.as_many)) placed in
        subst (λ z. IsClassAt q b.numbers.items b.entries.items z class (get_or r.go class None)) place
        (subst (λ (z : Row). IsClassAt q b.numbers.items b.entries.items x class (get_or z.go class None)) row
        (new class (subst (λ (z : Row). class < length z.go) (sym row) lt))))
        (below i (length before) (omega (arith, within, length_push before s)));
  }

-- one more list in the rows
pub lists_next : (p q : Pages) (k i : ℕ) (lists : List (List Part)) (parts : List Part) → PagesGrow p q → AreListsAt p k i lists → length p.rows ≡ k + i → IsListAt q (length p.rows) parts → parts ≡ get_or lists i [] → AreListsAt q k (i + 1) lists
lists_next p q k i lists parts g h at new is j lt =
    ⊎_elim
    (λ less. list_kept p q (k + j) (get_or lists j []) g (h j less))
    (λ same. subst (λ z. IsListAt q (k + z) (get_or lists z [])) (sym same) (subst (λ z. IsListAt q z (get_or lists i [])) at (subst (λ z. IsListAt q (length p.rows) z) is new)))
    (below j i lt)

-- an update in the rows
pub the_row : (o p q r : Pages) (at count : ℕ) (u : Change) → at ≡ length o.rows → p.rows ≡ o.rows ++ count ∷ [] → count ≡ length u.regs → PagesGrow p q → PagesGrow q r → IsListAt q (length p.rows) u.out → length q.rows ≡ length p.rows + 1 → AreListsAt r (length q.rows) (length u.regs) u.regs → IsRow r at u
the_row o p q r at count u here pushed many g h out more regs =
    let first : slice_get p.rows at ≡ Some (length u.regs) = ap (λ z. slice_get z at) pushed ∙ ap (λ z. slice_get (o.rows ++ count ∷ []) z) here ∙ last_there o.rows count ∙ ap (λ z. Some z) many in
    let long : length p.rows ≡ at + 1 = omega (arith, ap length pushed, length_push o.rows count, here) in
    let longer : length q.rows ≡ at + 2 = omega (arith, long, more) in
    record {
      count = h.rows at (length u.regs) (g.rows at (length u.regs) first);
      out = list_kept q r (at + 1) u.out h (subst (λ z. IsListAt q z u.out) long out);
      regs = subst (λ z. AreListsAt r z (length u.regs) u.regs) longer regs;
    }

-- an update whose row is at another place too
module _ (p q : Pages) (at there : ℕ) (same : p.lists ≡ q.lists) (moved : KeepsItems (drop at p.rows) (drop there q.rows)) where
  number_moved : (j n : ℕ) → slice_get p.rows (at + j) ≡ Some n → slice_get q.rows (there + j) ≡ Some n
  number_moved j n e = sym (slice_get-drop there q.rows j) ∙ moved j n (slice_get-drop at p.rows j ∙ e)

  list_moved : (j : ℕ) (parts : List Part) → IsListAt p (at + j) parts → IsListAt q (there + j) parts
  list_moved j parts h = record { number = h.number; row = number_moved j h.number h.row; list = subst (λ z. slice_get z h.number ≡ Some parts) same h.list }

  pub row_moved : (u : Change) → IsRow p at u → IsRow q there u
  row_moved u h =
      let here : at ≡ at + 0 = omega arith in
      let elsewhere : there + 0 ≡ there = omega arith in
      record {
        count = subst (λ z. slice_get q.rows z ≡ Some (length u.regs)) elsewhere (number_moved 0 (length u.regs) (subst (λ z. slice_get p.rows z ≡ Some (length u.regs)) here h.count));
        out = list_moved 1 u.out h.out;
        regs = λ i lt.
            let from : at + 2 + i ≡ at + (2 + i) = omega arith in
            let to : there + (2 + i) ≡ there + 2 + i = omega arith in
            subst (λ z. IsListAt q z (get_or u.regs i [])) to (list_moved (2 + i) (get_or u.regs i []) (subst (λ z. IsListAt p z (get_or u.regs i [])) from (h.regs i lt)));
      }
