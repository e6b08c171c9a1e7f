-- Buffers and pieces as lists.
use Rattle.std.proofs.Common.{◌≡◌, ℕ, zero, suc, Result, Ok, Err, OnOk, OnErr, ◌-◌, ◌<◌, List, [], ◌∷◌, ◌++◌, length, get_or, take, drop, subst, reverse, slice_set, refl, sym, ap, ap₂, ◌∙◌, append_assoc, inl, inr, arith, length-append}
use Rattle.std.proofs.lemmas.List.{reverse-append}
use Rattle.std.proofs.Math.Seq.{set-append_seam, take-length}
use Rattle.kex_code.specs.Codes.{IsAmong}
use Rattle.kex_code.specs.Registers.{Registers, pieces_text}
use Rattle.kex_code.specs.declared.piece.Piece.{Piece}
use Rattle.kex_code.specs.declared.piece.Piece.TheVariants.{Lit, Register}
use Rattle.kex_model.specs.Programs.{HasPieces}
use Rattle.kex_model.specs.Acting.{after_append}
use Rattle.kex_action.specs.Holdings.{state_of}

pub among_at : {A : Type 0} (xs : List A) (i : ℕ) (x : A) → i < length xs → x ≡ get_or xs i x → IsAmong xs x
among_at [] i x h e = absurd (omega arith)
among_at (y ∷ ys) zero x h e = inl (sym e)
among_at (y ∷ ys) (suc i) x h e = inr (among_at ys i x (omega arith) e)

-- a list that isn't empty is a front and its last
pub parted : {A : Type 0} (xs : List A) → (length xs ≡ 0 → ⊥) → (ys : List A) × (y : A) × (xs ≡ ys ++ y ∷ [])
parted [] h = absurd (h refl)
parted (x ∷ []) h = ([], x, refl)
parted (x ∷ z ∷ zs) h = let p = parted (z ∷ zs) (λ e. omega arith) in (x ∷ p.0, p.1, ap (λ q. x ∷ q) p.2)

get_or-last : {A : Type 0} (xs : List A) (y d : A) → get_or (xs ++ y ∷ []) (length xs) d ≡ y
get_or-last [] y d = refl
get_or-last (x ∷ xs) y d = get_or-last xs y d

-- the innermost buffer is the last one
pub innermost : (s out : List ℕ) (bs : List (List ℕ)) (k : ℕ) (b b' : List ℕ) (regs : Registers) → k ≡ length bs → (k ≡ 0 → ⊥) → b ≡ get_or bs (k - 1) b → b' ≡ b ++ s → state_of out (record { buffers = reverse (slice_set bs (k - 1) b'); registers = regs }) ≡ after_append s out (reverse bs) regs
innermost s out bs k b b' regs count some e f =
    let p = parted bs (λ z. some (count ∙ z)) in
    let n : k - 1 ≡ length p.0 = let l : length bs ≡ length (p.0 ++ p.1 ∷ []) = ap length p.2 in omega (arith, length-append p.0 (p.1 ∷ [])) in
    let same : b ≡ p.1 = e ∙ ap₂ (λ xs i. get_or xs i b) p.2 n ∙ get_or-last p.0 p.1 b in
    let set : slice_set bs (k - 1) b' ≡ p.0 ++ (p.1 ++ s) ∷ [] = ap₂ (λ xs i. slice_set xs i b') p.2 n ∙ set-append_seam p.0 p.1 [] b' ∙ ap (λ q. p.0 ++ q ∷ []) (f ∙ ap (λ q. q ++ s) same) in
    ap (λ q. state_of out (record { buffers = reverse q; registers = regs })) set
    ∙ ap (λ q. state_of out (record { buffers = q; registers = regs })) (reverse-append p.0 ((p.1 ++ s) ∷ []))
    ∙ sym (ap (λ q. after_append s out (reverse q) regs) p.2 ∙ ap (λ q. after_append s out q regs) (reverse-append p.0 (p.1 ∷ [])))

pub get_or-any : {A : Type 0} (xs : List A) (i : ℕ) (d e : A) → i < length xs → get_or xs i d ≡ get_or xs i e
get_or-any [] i d e h = absurd (omega arith)
get_or-any (x ∷ xs) zero d e h = refl
get_or-any (x ∷ xs) (suc i) d e h = get_or-any xs i d e (omega arith)

-- one piece more
pub joined-more : (ps : List Piece) (i : ℕ) (p : Piece) (regs : Registers) → i < length ps → p ≡ get_or ps i p → pieces_text (take (suc i) ps) regs ≡ pieces_text (take i ps) regs ++ pieces_text (p ∷ []) regs
joined-more [] i p regs h e = absurd (omega arith)
joined-more (q ∷ ps) zero p regs h e = ap (λ x. pieces_text (x ∷ []) regs) (sym e)
joined-more (Lit s ∷ ps) (suc i) p regs h e = ap (λ x. s ++ x) (joined-more ps i p regs (omega arith) e) ∙ sym (append_assoc s _ _)
joined-more (Register r ∷ ps) (suc i) p regs h e = ap (λ x. get_or regs r [] ++ x) (joined-more ps i p regs (omega arith) e) ∙ sym (append_assoc (get_or regs r []) _ _)

-- the slice after the first
pub behind_first : {A : Type 0} (xs : List A) (x : A) (rest : List A) → xs ≡ x ∷ rest → take (length xs - 1) (drop 1 xs) ≡ rest
behind_first [] x rest e = cc
behind_first (y ∷ ys) x rest e = let n : length (y ∷ ys) - 1 ≡ length ys = omega arith in ap (λ k. take k ys) n ∙ take-length ys ∙ tails e
  where
    tails : y ∷ ys ≡ x ∷ rest → ys ≡ rest
    tails f = cc

pub pieces_rest : (n : ℕ) (ps : List Piece) (p : Piece) (rest : List Piece) → ps ≡ p ∷ rest → HasPieces n ps → HasPieces n (take (length ps - 1) (drop 1 ps))
pieces_rest n ps p rest e h = subst (λ q. HasPieces n q) (sym (behind_first ps p rest e)) (λ r i. let all : HasPieces n (p ∷ rest) = subst (λ q. HasPieces n q) e h in all r (inr i))

pub on_ok : {T E P Q : Type 0} (r : Result T E) → OnOk r P → (P → Q) → OnOk r Q
on_ok (Ok x) p f = f p
on_ok (Err e) p f = tt

pub on_err : {T E P : Type 0} (r : Result T E) → P → OnErr r P
on_err (Ok x) p = tt
on_err (Err e) p = p
