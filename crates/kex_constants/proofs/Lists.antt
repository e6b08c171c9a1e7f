-- Lists that are read and made item by item.
use Rattle.std.proofs.Common.{◌≡◌, ℕ, zero, suc, ◌+◌, ◌<◌, List, [], ◌∷◌, ◌++◌, Option, Some, None, map, length, get_or, take, refl, sym, ap, ◌∙◌, append_assoc, append-nil, arith}
use Rattle.std.specs.Prelude.{slice_get}
use Rattle.std.proofs.lemmas.List.{take_more, map-append, length-take-le}
use Rattle.kex_code.specs.declared.symbol.Symbol.{Symbol}
use Rattle.kex_code.specs.declared.symbol.Symbol.TheVariants as symbol
use Rattle.kex_machine.specs.declared.Bit.{Bit}
use Rattle.kex_machine.specs.declared.Bit.TheVariants.{L}
use Rattle.kex_machine.specs.Nodes.{side_of}
use Rattle.kex_model.specs.Moves.{symbol_of}
use Rattle.kex_sst.specs.declared.parts.Part.{Part}
use Rattle.kex_sst.specs.declared.parts.Part.TheVariants.{Put}
use Rattle.kex_sst.specs.declared.table.Transition.{Transition}
use Rattle.kex_sst.specs.Parts.{value, parts_code}
use Rattle.kex_sst.specs.Tables.{Row, transition_if}
use Rattle.kex_constants.specs.Known.{Constants, symbols, kept_items, item_if_kept}
use Rattle.kex_constants.specs.Clearing.{puts_bits, parts_for, cleared_parts, cleared_state, cleared_states}

pub symbols-append : (c d : List Bit) → symbols (c ++ d) ≡ symbols c ++ symbols d
symbols-append [] d = refl
symbols-append (x ∷ c) d = ap (λ z. symbol_of (side_of x) ∷ z) (symbols-append c d)

pub parts_code-append : (regs : List (List Symbol)) (b : ℕ) (xs ys : List Part) → parts_code regs b (xs ++ ys) ≡ parts_code regs b xs ++ parts_code regs b ys
parts_code-append regs b [] ys = refl
parts_code-append regs b (x ∷ xs) ys = ap (λ z. value regs b x ++ z) (parts_code-append regs b xs ys) ∙ sym (append_assoc (value regs b x) (parts_code regs b xs) (parts_code regs b ys))

pub parts_code-puts_bits : (regs : List (List Symbol)) (b : ℕ) (c : List Bit) → parts_code regs b (puts_bits c) ≡ symbols c
parts_code-puts_bits regs b [] = refl
parts_code-puts_bits regs b (x ∷ c) = ap (λ z. symbol_of (side_of x) ∷ z) (parts_code-puts_bits regs b c)

pub meant_more : (regs : List (List Symbol)) (b : ℕ) (xs : List Part) (i : ℕ) → i < length xs → parts_code regs b (take (i + 1) xs) ≡ parts_code regs b (take i xs) ++ value regs b (get_or xs i (Put symbol.L))
meant_more regs b xs i lt = ap (λ z. parts_code regs b z) (take_more xs i (Put symbol.L) lt) ∙ parts_code-append regs b (take i xs) (get_or xs i (Put symbol.L) ∷ []) ∙ ap (λ z. parts_code regs b (take i xs) ++ z) (append-nil (value regs b (get_or xs i (Put symbol.L))))

-- what holds of each item holds of each that is read
pub each_read : (P : Option Transition → Type 0) (go : List (Option Transition)) → P None → ((k : ℕ) → k < length go → P (get_or go k None)) → (k : ℕ) → P (transition_if (slice_get go k))
each_read P [] none each k = none
each_read P (r ∷ go) none each zero = each 0 (omega arith)
each_read P (r ∷ go) none each (suc k) = each_read P go none (λ j lt. each (suc j) (omega arith)) k

puts_bits-append : (c d : List Bit) → puts_bits (c ++ d) ≡ puts_bits c ++ puts_bits d
puts_bits-append [] d = refl
puts_bits-append (x ∷ c) d = ap (λ z. Put (symbol_of (side_of x)) ∷ z) (puts_bits-append c d)

pub puts_more : (c : List Bit) (i : ℕ) → i < length c → puts_bits (take (i + 1) c) ≡ puts_bits (take i c) ++ Put (symbol_of (side_of (get_or c i L))) ∷ []
puts_more c i lt = ap puts_bits (take_more c i L lt) ∙ puts_bits-append (take i c) (get_or c i L ∷ [])

pub cleared_parts-append : (cs : Constants) (xs ys : List Part) → cleared_parts cs (xs ++ ys) ≡ cleared_parts cs xs ++ cleared_parts cs ys
cleared_parts-append cs [] ys = refl
cleared_parts-append cs (x ∷ xs) ys = ap (λ z. parts_for cs x ++ z) (cleared_parts-append cs xs ys) ∙ sym (append_assoc (parts_for cs x) (cleared_parts cs xs) (cleared_parts cs ys))

pub replaced_more : (cs : Constants) (xs : List Part) (i : ℕ) → i < length xs → cleared_parts cs (take (i + 1) xs) ≡ cleared_parts cs (take i xs) ++ parts_for cs (get_or xs i (Put symbol.L))
replaced_more cs xs i lt = ap (λ z. cleared_parts cs z) (take_more xs i (Put symbol.L) lt) ∙ cleared_parts-append cs (take i xs) (get_or xs i (Put symbol.L) ∷ []) ∙ ap (λ z. cleared_parts cs (take i xs) ++ z) (append-nil (parts_for cs (get_or xs i (Put symbol.L))))

pub kept_none : {A : Type 0} (cs : Constants) → [] ≡ kept_items {A = A} cs []
kept_none [] = refl
kept_none (c ∷ cs) = refl

kept_push : {A : Type 0} (cs : Constants) (xs : List A) (y : A) → kept_items cs (xs ++ y ∷ []) ≡ kept_items cs xs ++ item_if_kept (get_or cs (length xs) None) y
kept_push [] xs y = refl
kept_push (None ∷ []) [] y = refl
kept_push (None ∷ c ∷ cs) [] y = refl
kept_push (Some v ∷ []) [] y = refl
kept_push (Some v ∷ c ∷ cs) [] y = refl
kept_push (Some v ∷ cs) (x ∷ xs) y = kept_push cs xs y
kept_push (None ∷ cs) (x ∷ xs) y = ap (λ z. x ∷ z) (kept_push cs xs y)

take_here : {A : Type 0} (xs : List A) (i : ℕ) (x : A) → i < length xs → x ≡ get_or xs i x → take (i + 1) xs ≡ take i xs ++ x ∷ []
take_here xs i x lt e = take_more xs i x lt ∙ ap (λ z. take i xs ++ z ∷ []) (sym e)

pub kept_more : (cs ds : Constants) (lists : List (List Part)) (i : ℕ) (x : List Part) → i < length lists → x ≡ get_or lists i x → map (λ y. cleared_parts cs y) (kept_items ds (take i lists)) ++ map (λ y. cleared_parts cs y) (item_if_kept (get_or ds i None) x) ≡ map (λ y. cleared_parts cs y) (kept_items ds (take (i + 1) lists))
kept_more cs ds lists i x lt e =
    let long : length (take i lists) ≡ i = length-take-le i lists (omega arith) in
    sym (
    ap (λ z. map (λ y. cleared_parts cs y) (kept_items ds z)) (take_here lists i x lt e)
    ∙ ap (λ z. map (λ y. cleared_parts cs y) z) (kept_push ds (take i lists) x)
    ∙ map-append (λ y. cleared_parts cs y) (kept_items ds (take i lists)) (item_if_kept (get_or ds (length (take i lists)) None) x)
    ∙ ap (λ z. map (λ y. cleared_parts cs y) (kept_items ds (take i lists)) ++ map (λ y. cleared_parts cs y) (item_if_kept (get_or ds z None) x)) long
    )

states_push : (css : List Constants) (i : ℕ) (ss : List Row) (s : Row) → cleared_states css i (ss ++ s ∷ []) ≡ cleared_states css i ss ++ cleared_state css (get_or css (i + length ss) []) s ∷ []
states_push css i [] s = let e : i ≡ i + 0 = omega arith in ap (λ z. cleared_state css (get_or css z []) s ∷ []) e
states_push css i (r ∷ ss) s =
    let e : suc i + length ss ≡ i + suc (length ss) = omega arith in
    ap (λ z. cleared_state css (get_or css i []) r ∷ z) (states_push css (suc i) ss s ∙ ap (λ z. cleared_states css (suc i) ss ++ cleared_state css (get_or css z []) s ∷ []) e)

pub states_more : (css : List Constants) (ss : List Row) (i : ℕ) (s : Row) → i < length ss → s ≡ get_or ss i s → cleared_states css 0 (take (i + 1) ss) ≡ cleared_states css 0 (take i ss) ++ cleared_state css (get_or css i []) s ∷ []
states_more css ss i s lt e =
    let long : length (take i ss) ≡ i = length-take-le i ss (omega arith) in
    let at : 0 + length (take i ss) ≡ i = omega (arith, long) in
    ap (λ z. cleared_states css 0 z) (take_here ss i s lt e)
    ∙ states_push css 0 (take i ss) s
    ∙ ap (λ z. cleared_states css 0 (take i ss) ++ cleared_state css (get_or css z []) s ∷ []) at
