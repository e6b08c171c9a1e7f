-- How a tree of places goes on with a byte, over any alphabet that its labels are written in: the
-- symbols of codes, or what is put for them.
use Rattle.std.specs.Prelude.{◌≡◌, ℕ, ◌<◌, Bool, true, false, List, [], ◌∷◌, get_or, set, length}
use Rattle.std.specs.Prelude.{Option, Some, None}
use Rattle.kex_code.specs.declared.symbol.Symbol.{Symbol}
use Rattle.kex_code.specs.declared.symbol.Symbol.TheVariants.{L, R}
use Rattle.kex_model.specs.Moves.{Move, accept, read, choose, forced, go, Side, symbol_of, Effect}
use Rattle.kex_model.specs.Moves.{took, Allows, IsWaiting}
use Rattle.kex_model.specs.Labelled.{Labelled, tip, fork, Shape, place, parts, Grown, with_prefix}
use Rattle.kex_model.specs.Labelled.{fork_of, map_labels}

-- from place n, left first and past the places that are marked, the tree of the waiting places that
-- are reached without a byte; `put` writes a symbol
pub data Visits {A : Type 0} (put : Symbol → A) (moves : ℕ → Move ℕ) : List Bool → ℕ
    → Option (Grown A ℕ) → List Bool → Type 0 where
  known : {f : List Bool} {n : ℕ} → get_or f n false ≡ true → Visits put moves f n None f
  stops : {f : List Bool} {n : ℕ} → n < length f → get_or f n false ≡ false → IsWaiting (moves n)
      → Visits put moves f n (Some (record { label = []; tree = tip n })) (set f n true)
  parts_off : {f g h : List Bool} {n l r : ℕ} {a b : Option (Grown A ℕ)} → n < length f
      → get_or f n false ≡ false → moves n ≡ choose l r → Visits put moves (set f n true) l a g
      → Visits put moves g r b h
      → Visits put moves f n (fork_of (with_prefix (put L ∷ []) a) (with_prefix (put R ∷ []) b)) h
  is_forced : {f g : List Bool} {n t : ℕ} {x : Side} {a : Option (Grown A ℕ)} → n < length f
      → get_or f n false ≡ false → moves n ≡ forced x t → Visits put moves (set f n true) t a g
      → Visits put moves f n (with_prefix (put (symbol_of x) ∷ []) a) g
  passes_on : {f g : List Bool} {n t : ℕ} {e : Effect} {a : Option (Grown A ℕ)} → n < length f
      → get_or f n false ≡ false → moves n ≡ go e t → Visits put moves (set f n true) t a g
      → Visits put moves f n a g

-- a tree goes on with byte b, left first; `input` writes the byte
pub data Advances {A : Type 0} (put : Symbol → A) (input : A) (moves : ℕ → Move ℕ)
    (b : ℕ) : List Bool → Labelled A ℕ → Option (Grown A ℕ) → List Bool → Type 0 where
  dies : {p : ℕ} {f : List Bool} → ((t : ℕ) → Allows (moves p) (took b t) → ⊥)
      → Advances put input moves b f (tip p) None f
  reads_on : {p t : ℕ} {f g : List Bool} {a : Option (Grown A ℕ)} → Allows (moves p) (took b t)
      → Visits put moves f t a g
      → Advances put input moves b f (tip p) (with_prefix (input ∷ []) a) g
  both : {f g h : List Bool} {u v : List A} {l r : Labelled A ℕ} {x y : Option (Grown A ℕ)}
      → Advances put input moves b f l x g → Advances put input moves b g r y h
      → Advances put input moves b f (fork u l v r) (fork_of (with_prefix u x) (with_prefix v y)) h

-- a symbol as itself
abbrev pub itself : Symbol → Symbol
itself s = s

-- the left, or where it is gone the right
abbrev pub left_or_right : {A S : Type 0} → Option (Grown A S) → Option (Grown A S)
    → Option (Grown A S)
left_or_right None r = r
left_or_right (Some l) r = Some l

abbrev pub at_end : {A : Type 0} → Move ℕ → ℕ → Option (Grown A ℕ)
at_end accept p = Some (record { label = []; tree = tip p })
at_end (read set t) p = None
at_end (choose l r) p = None
at_end (forced x t) p = None
at_end (go e t) p = None

-- the first tip that accepts, with the label to it
abbrev pub first_accepting : {A : Type 0} → (ℕ → Move ℕ) → Labelled A ℕ → Option (Grown A ℕ)
first_accepting moves (tip p) = at_end (moves p) p
first_accepting moves (fork x l y r) = left_or_right (with_prefix x (first_accepting moves l))
    (with_prefix y (first_accepting moves r))

-- the same tree and label, written in another alphabet
abbrev pub map_labels_if : {A B : Type 0} → (List A → List B) → Option (Grown A ℕ)
    → Option (Grown B ℕ)
map_labels_if h None = None
map_labels_if h (Some g) = Some (record { label = h g.label; tree = map_labels h g.tree })

-- the bytes lead to the same places from everywhere
abbrev pub LeadAlike : (ℕ → Move ℕ) → ℕ → ℕ → Type 0
LeadAlike moves b c = (p t : ℕ) → (Allows (moves p) (took b t) → Allows (moves p) (took c t))
    × (Allows (moves p) (took c t) → Allows (moves p) (took b t))

-- each place of the shape is below the count
abbrev pub EachPlace : ℕ → Shape ℕ → Type 0
EachPlace m (place p) = p < m
EachPlace m (parts l r) = EachPlace m l × EachPlace m r
