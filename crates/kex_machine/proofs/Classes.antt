-- The classes of the bytes that no node tells apart.
use Rattle.std.proofs.Common.{◌≡◌, ℕ, zero, suc, ◌<◌, Bool, false, List, [], ◌∷◌, ◌++◌, length, get_or, refl, sym, ap, subst, ◌∙◌, append-nil, arith}
use Rattle.std.specs.Prelude.{All, IsTrue}
use Rattle.std.proofs.lemmas.List.Elements.{All-append, All-nil, All-head, All-tail, All-cons}
use Rattle.kex_byteset.specs.Classes.{IsRefinedBy, class_at, AreAlike}
use Rattle.kex_model.specs.Moves.{Move, accept, read, took, Allows, reads}
use Rattle.kex_machine.specs.declared.MNode.{MNode}
use Rattle.kex_machine.specs.declared.MNode.TheVariants.{Accept, Read, Choice, Forced, Do, Skip}
use Rattle.kex_machine.specs.Nodes.{node_moves, sets_of, HasClasses}
use Rattle.kex_machine.specs.Advancing.{LeadAlike}

pub sets_of-append : (xs ys : List MNode) → sets_of (xs ++ ys) ≡ sets_of xs ++ sets_of ys
sets_of-append [] ys = refl
sets_of-append (Read s n ∷ xs) ys = ap (λ z. s ∷ z) (sets_of-append xs ys)
sets_of-append (Accept ∷ xs) ys = sets_of-append xs ys
sets_of-append (Choice l r ∷ xs) ys = sets_of-append xs ys
sets_of-append (Forced b n ∷ xs) ys = sets_of-append xs ys
sets_of-append (Do e n ∷ xs) ys = sets_of-append xs ys
sets_of-append (Skip n ∷ xs) ys = sets_of-append xs ys

-- no nodes have no sets
pub no_classes : (classes : List ℕ) → IsRefinedBy classes [] → HasClasses [] classes
no_classes classes h = record { refined = h; bytes = All-nil (λ set. length set ≡ 256) }

pub not_read : (m : MNode) → ((set : List Bool) (n : ℕ) → m ≡ Read set n → ⊥) → sets_of (m ∷ []) ≡ []
not_read (Read s n) none = absurd (none s n refl)
not_read Accept none = refl
not_read (Choice l r) none = refl
not_read (Forced b n) none = refl
not_read (Do e n) none = refl
not_read (Skip n) none = refl

-- a node that reads nothing
pub same_classes : (xs : List MNode) (m : MNode) (classes : List ℕ) → sets_of (m ∷ []) ≡ [] → HasClasses xs classes → HasClasses (xs ++ m ∷ []) classes
same_classes xs m classes e h =
    let same : sets_of xs ≡ sets_of (xs ++ m ∷ []) = sym (append-nil (sets_of xs)) ∙ ap (λ z. sets_of xs ++ z) (sym e) ∙ sym (sets_of-append xs (m ∷ [])) in
    record { refined = subst (λ z. IsRefinedBy classes z) same h.refined; bytes = subst (λ z. All (λ set. length set ≡ 256) z) same h.bytes }

-- a node that reads a set
pub more_classes : (xs : List MNode) (set : List Bool) (n : ℕ) (old new : List ℕ) → ((sets : List (List Bool)) → IsRefinedBy old sets → IsRefinedBy new (sets ++ set ∷ [])) → length set ≡ 256 → HasClasses xs old → HasClasses (xs ++ Read set n ∷ []) new
more_classes xs set n old new refines long h = record {
  refined = subst (λ z. IsRefinedBy new z) (sym (sets_of-append xs (Read set n ∷ []))) (refines (sets_of xs) h.refined);
  bytes = subst (λ z. All (λ set. length set ≡ 256) z) (sym (sets_of-append xs (Read set n ∷ []))) (All-append (λ set. length set ≡ 256) (sets_of xs) (set ∷ []) h.bytes (All-cons (λ set. length set ≡ 256) set [] long (All-nil (λ set. length set ≡ 256))));
}

module _ (P : List Bool → Type 0) where
  -- of a node before others, given the same of these
  at_first : (m : MNode) (nodes : List MNode) → ((q : ℕ) (set : List Bool) (t : ℕ) → All P (sets_of nodes) → node_moves nodes q ≡ read set t → P set) → (p : ℕ) (set : List Bool) (t : ℕ) → All P (sets_of (m ∷ nodes)) → node_moves (m ∷ nodes) p ≡ read set t → P set
  at_first (Read s n) nodes rest zero set t all e = let same : s ≡ set = cc in subst P same (All-head P s (sets_of nodes) all)
  at_first (Read s n) nodes rest (suc q) set t all e = rest q set t (All-tail P s (sets_of nodes) all) e
  at_first Accept nodes rest zero set t all e = cc
  at_first Accept nodes rest (suc q) set t all e = rest q set t all e
  at_first (Choice l r) nodes rest zero set t all e = cc
  at_first (Choice l r) nodes rest (suc q) set t all e = rest q set t all e
  at_first (Forced b n) nodes rest zero set t all e = cc
  at_first (Forced b n) nodes rest (suc q) set t all e = rest q set t all e
  at_first (Do x n) nodes rest zero set t all e = cc
  at_first (Do x n) nodes rest (suc q) set t all e = rest q set t all e
  at_first (Skip n) nodes rest zero set t all e = cc
  at_first (Skip n) nodes rest (suc q) set t all e = rest q set t all e

  -- what is true of the sets is true of the set that is read
  pub at_read : (nodes : List MNode) (p : ℕ) {set : List Bool} {t : ℕ} → All P (sets_of nodes) → node_moves nodes p ≡ read set t → P set
  at_read [] p {set = set} {t = t} all e = none e
    where
      none : accept ≡ read set t → P set
      none e = cc
  at_read (m ∷ nodes) p {set = set} {t = t} all e = at_first m nodes (λ q set t all e. at_read nodes q all e) p set t all e

from_read : {m : Move ℕ} {b t : ℕ} → Allows m (took b t) → (set : List Bool) × (m ≡ read set t) × IsTrue (get_or set b false)
from_read (reads {set = set} i) = (set, refl, i)

beyond : (set : List Bool) (b : ℕ) → IsTrue (get_or set b false) → b < length set
beyond [] b i = cc
beyond (x ∷ set) zero i = omega arith
beyond (x ∷ set) (suc b) i = let h = beyond set b i in omega arith

-- no other bytes are read
pub byte_read : (nodes : List MNode) (classes : List ℕ) → HasClasses nodes classes → (p b t : ℕ) → Allows (node_moves nodes p) (took b t) → b < 256
byte_read nodes classes h p b t a =
    let r = from_read a in
    let long : length r.0 ≡ 256 = at_read (λ set. length set ≡ 256) nodes p h.bytes r.1 in
    let lt = beyond r.0 b r.2 in
    omega (arith, long)

-- bytes of one class lead to the same places
pub lead_alike : (nodes : List MNode) (classes : List ℕ) → HasClasses nodes classes → (a b : ℕ) → a < 256 → b < 256 → class_at classes a ≡ class_at classes b → LeadAlike (node_moves nodes) a b
lead_alike nodes classes h a b la lb same p t = (
  onward p t a b ((h.refined.alike a b la lb).0 same),
  onward p t b a ((h.refined.alike b a lb la).0 (sym same)),
)
  where
    onward : (p t a b : ℕ) → AreAlike (sets_of nodes) a b → Allows (node_moves nodes p) (took a t) → Allows (node_moves nodes p) (took b t)
    onward p t a b alike i =
        let r = from_read i in
        let e : get_or r.0 a false ≡ get_or r.0 b false = at_read (λ set. get_or set a false ≡ get_or set b false) nodes p alike r.1 in
        subst (λ z. Allows z (took b t)) (sym r.1) (reads (sym e ∙ r.2))
