-- Constructs and the entries that they show.
use Rattle.std.proofs.Common.{◌≡◌, ℕ, length-append, ◌+◌, List, [], ◌∷◌, ◌++◌, length, Some, refl, sym, ap, ◌∙◌, subst, arith}
use Rattle.std.specs.Prelude.{Bool, true, false, MatchBool, reverse, slice_get}
use Rattle.std.proofs.lemmas.List.{reverse-append}
use Rattle.kex_model.specs.declared.program.Kind.TheVariants as kinds
use Rattle.kex_model.specs.declared.program.Node.{Node}
use Rattle.kex_regexp.specs.declared.constructs.Construct.{Construct}
use Rattle.kex_regexp.specs.declared.constructs.Construct.TheVariants as constructs
use Rattle.kex_regexp.specs.declared.constructs.Placed.{Placed}
use Rattle.kex_regexp.specs.Grammar.{Regex, Last, Or, Branch, Empty, Then, Piece, Once, Turns, Item, Plain, Escaped, Dot, Set, Group, Postfix, branch, piece}
use Rattle.kex_regexp.specs.Postfixes.{is_bad_count}
use Rattle.kex_regexp.specs.Shown.{IsNode, Adds}
use Rattle.kex_regexp.specs.Machine.{Entry, Mark, Ended, Read, entries, entry, take_pieces, take_branches, take_regex}
use Rattle.kex_regexp.proofs.Additions.{stays, Adds-to, added}
use Rattle.kex_regexp.specs.Holding.{IsTurns, HoldsRegex, HoldsBranch, HoldsPiece, HoldsItem, ConstructsShow, BranchOn, RegexOn}

pub turns_more : (t : Bool) (A B C : Type 0) → (B → C) → MatchBool t A B → MatchBool t A C
turns_more true A B C f h = h
turns_more false A B C f h = f h

-- an item with its postfix
pub turns-more : (p : Postfix) (lazy : Bool) (a b : List Node) (n l at : ℕ) → Adds a b → IsTurns p lazy a n l at → IsTurns p lazy b n l at
turns-more p lazy a b n l at k h = turns_more (is_bad_count p) _ _ _ (stays a b k n _) h

mutual
  unfolding HoldsRegex HoldsBranch HoldsPiece HoldsItem

  pub HoldsRegex-more : (r : Regex) (a b : List Node) (n at : ℕ) → Adds a b → HoldsRegex r a n at → HoldsRegex r b n at
  HoldsRegex-more (Last c) a b n at k h = HoldsBranch-more c a b n at k h
  HoldsRegex-more (Or c r) a b n at k h = (h.0, h.1, stays a b k n _ h.2, HoldsBranch-more c a b h.0 at k h.3, HoldsRegex-more r a b h.1 (at + length (branch c) + 1) k h.4)

  pub HoldsBranch-more : (c : Branch) (a b : List Node) (n at : ℕ) → Adds a b → HoldsBranch c a n at → HoldsBranch c b n at
  HoldsBranch-more Empty a b n at k h = stays a b k n _ h
  HoldsBranch-more (Then p Empty) a b n at k h = HoldsPiece-more p a b n at k h
  HoldsBranch-more (Then p (Then q c)) a b n at k h = (h.0, h.1, stays a b k n _ h.2, HoldsPiece-more p a b h.0 at k h.3, HoldsBranch-more (Then q c) a b h.1 (at + length (piece p)) k h.4)

  pub HoldsPiece-more : (p : Piece) (a b : List Node) (n at : ℕ) → Adds a b → HoldsPiece p a n at → HoldsPiece p b n at
  HoldsPiece-more (Once i) a b n at k h = HoldsItem-more i a b n at k h
  HoldsPiece-more (Turns i p lazy) a b n at k h = (h.0, turns-more p lazy a b n h.0 at k h.1, HoldsItem-more i a b h.0 at k h.2)

  pub HoldsItem-more : (i : Item) (a b : List Node) (n at : ℕ) → Adds a b → HoldsItem i a n at → HoldsItem i b n at
  HoldsItem-more (Plain c) a b n at k h = (h.0, h.1, stays a b k n _ h.2)
  HoldsItem-more (Escaped e) a b n at k h = (h.0, h.1, stays a b k n _ h.2)
  HoldsItem-more Dot a b n at k h = (h.0, h.1, stays a b k n _ h.2)
  HoldsItem-more (Set negated ms) a b n at k h = (h.0, h.1, stays a b k n _ h.2)
  HoldsItem-more (Group r) a b n at k h = HoldsRegex-more r a b n (at + 1) k h

pub ConstructsShow-more : (a b : List Node) (base : ℕ) (fs : List Construct) (es : List Entry) → Adds a b → ConstructsShow a base fs es → ConstructsShow b base fs es
unfolding ConstructsShow
ConstructsShow-more a b base [] [] k h = tt
ConstructsShow-more a b base [] (e ∷ es) k h = absurd h
ConstructsShow-more a b base (constructs.Mark at ∷ fs) [] k h = absurd h
ConstructsShow-more a b base (constructs.Mark at ∷ fs) (Mark ∷ es) k h = (h.0, ConstructsShow-more a b base fs es k h.1)
ConstructsShow-more a b base (constructs.Mark at ∷ fs) (Ended c ∷ es) k h = absurd h
ConstructsShow-more a b base (constructs.Mark at ∷ fs) (Read p ∷ es) k h = absurd h
ConstructsShow-more a b base (constructs.Ended n at ∷ fs) [] k h = absurd h
ConstructsShow-more a b base (constructs.Ended n at ∷ fs) (Mark ∷ es) k h = absurd h
ConstructsShow-more a b base (constructs.Ended n at ∷ fs) (Ended c ∷ es) k h = (h.0, HoldsBranch-more c a b n at k h.1, ConstructsShow-more a b base fs es k h.2)
ConstructsShow-more a b base (constructs.Ended n at ∷ fs) (Read p ∷ es) k h = absurd h
ConstructsShow-more a b base (constructs.Piece n at ∷ fs) [] k h = absurd h
ConstructsShow-more a b base (constructs.Piece n at ∷ fs) (Mark ∷ es) k h = absurd h
ConstructsShow-more a b base (constructs.Piece n at ∷ fs) (Ended c ∷ es) k h = absurd h
ConstructsShow-more a b base (constructs.Piece n at ∷ fs) (Read p ∷ es) k h = (h.0, HoldsPiece-more p a b n at k h.1, ConstructsShow-more a b base fs es k h.2)

-- a node that was added has the number that there was room for
pub at_number : (nodes more : List Node) (x : Node) (n : ℕ) → n ≡ length nodes → more ≡ nodes ++ x ∷ [] → slice_get more n ≡ Some x
at_number nodes more x n ne me = ap (slice_get more) ne ∙ ap (λ (y : List Node). slice_get y (length nodes)) me ∙ added nodes x

-- ---- what a construct on top shows

pub record PieceOn (nodes : List Node) (base : ℕ) (n at : ℕ) (fs : List Construct) (es : List Entry) : Type 0 where
  pub piece : Piece
  pub rest : List Entry
  pub is : es ≡ Read piece ∷ rest
  pub place : at ≡ base + length (entries rest)
  pub shows : HoldsPiece piece nodes n at
  pub below : ConstructsShow nodes base fs rest

pub piece_on : (nodes : List Node) (base n at : ℕ) (fs : List Construct) (es : List Entry) → ConstructsShow nodes base (constructs.Piece n at ∷ fs) es → PieceOn nodes base n at fs es
unfolding ConstructsShow
piece_on nodes base n at fs [] h = absurd h
piece_on nodes base n at fs (Mark ∷ es) h = absurd h
piece_on nodes base n at fs (Ended c ∷ es) h = absurd h
piece_on nodes base n at fs (Read p ∷ es) h = record { piece = p; rest = es; is = refl; place = h.0; shows = h.1; below = h.2 }

-- the top of a list that was pushed to
pub reverse_push : {A : Type 0} (xs ys : List A) (x : A) → xs ≡ ys ++ x ∷ [] → reverse xs ≡ x ∷ reverse ys
reverse_push xs ys x e = ap reverse e ∙ reverse-append ys (x ∷ [])

-- no piece on top: none is taken
pub no_pieces : (nodes : List Node) (base : ℕ) (fs : List Construct) (es : List Entry) (b : Branch) → ((n at : ℕ) (gs : List Construct) → fs ≡ constructs.Piece n at ∷ gs → ⊥) → ConstructsShow nodes base fs es → take_pieces es b ≡ (b, es)
unfolding ConstructsShow take_pieces
no_pieces nodes base fs [] b none_on h = refl
no_pieces nodes base fs (Mark ∷ es) b none_on h = refl
no_pieces nodes base fs (Ended c ∷ es) b none_on h = refl
no_pieces nodes base [] (Read p ∷ es) b none_on h = absurd h
no_pieces nodes base (constructs.Mark at ∷ fs) (Read p ∷ es) b none_on h = absurd h
no_pieces nodes base (constructs.Ended n at ∷ fs) (Read p ∷ es) b none_on h = absurd h
no_pieces nodes base (constructs.Piece n at ∷ fs) (Read p ∷ es) b none_on h = absurd (none_on n at fs refl)

-- a branch that is being put together, from its last piece on
pub record BranchSoFar (nodes : List Node) (base : ℕ) (fs : List Construct) (part : Placed) (t : Branch × List Entry) : Type 0 where
  pub rest : List Entry
  pub piece : Piece
  pub branch : Branch
  pub at : part.at ≡ base + length (entries rest)
  pub shows : HoldsBranch (Then piece branch) nodes part.node part.at
  pub below : ConstructsShow nodes base (reverse fs) rest
  pub same : take_pieces rest (Then piece branch) ≡ t

pub first_piece : (nodes : List Node) (base : ℕ) (old new : List Construct) (es : List Entry) (part : Placed) → old ≡ new ++ constructs.Piece part.node part.at ∷ [] → ConstructsShow nodes base (reverse old) es → BranchSoFar nodes base new part (take_pieces es Empty)
unfolding take_pieces HoldsBranch
first_piece nodes base old new es part e h =
    let p = piece_on nodes base part.node part.at (reverse new) es (subst (λ (x : List Construct). ConstructsShow nodes base x es) (reverse_push old new (constructs.Piece part.node part.at) e) h) in
    record { rest = p.rest; piece = p.piece; branch = Empty; at = p.place; shows = p.shows; below = p.below; same = ap (λ (x : List Entry). take_pieces x Empty) (sym p.is) }

pub further_piece : (nodes more : List Node) (base : ℕ) (old new : List Construct) (part front : Placed) (n : ℕ) (t : Branch × List Entry) → old ≡ new ++ constructs.Piece front.node front.at ∷ [] → n ≡ length nodes → more ≡ nodes ++ record { kind = kinds.Seq front.node part.node; at = front.at } ∷ [] → BranchSoFar nodes base old part t → BranchSoFar more base new (record { node = n; at = front.at }) t
unfolding take_pieces HoldsBranch entries entry
further_piece nodes more base old new part front n t e ne me s =
    let p = piece_on nodes base front.node front.at (reverse new) s.rest (subst (λ (x : List Construct). ConstructsShow nodes base x s.rest) (reverse_push old new (constructs.Piece front.node front.at) e) s.below) in
    let k : Adds nodes more = Adds-to nodes more _ _ me tt in
    let here : IsNode more n (kinds.Seq front.node part.node) front.at = at_number nodes more _ n ne me in
    let at : front.at + length (Rattle.kex_regexp.specs.Grammar.piece p.piece) ≡ part.at = omega (arith, p.place, s.at, ap (λ (x : List Entry). length (entries x)) p.is, length-append (entries p.rest) (Rattle.kex_regexp.specs.Grammar.piece p.piece)) in
    record {
      rest = p.rest;
      piece = p.piece;
      branch = Then s.piece s.branch;
      at = p.place;
      shows = (front.node, part.node, here, HoldsPiece-more p.piece nodes more front.node front.at k p.shows, subst (λ (x : ℕ). HoldsBranch (Then s.piece s.branch) more part.node x) (sym at) (HoldsBranch-more (Then s.piece s.branch) nodes more part.node part.at k s.shows));
      below = ConstructsShow-more nodes more base (reverse new) p.rest k p.below;
      same = ap (λ (x : List Entry). take_pieces x (Then s.piece s.branch)) (sym p.is) ∙ s.same;
    }

pub branch_done : (nodes : List Node) (base : ℕ) (old fs : List Construct) (part : Placed) (t : Branch × List Entry) → fs ≡ old → ((n at : ℕ) (gs : List Construct) → reverse old ≡ constructs.Piece n at ∷ gs → ⊥) → BranchSoFar nodes base old part t → BranchOn nodes base fs part t
branch_done nodes base old fs part t e none_on s =
    let n = no_pieces nodes base (reverse old) s.rest (Then s.piece s.branch) none_on s.below in
    subst (λ (x : Branch × List Entry). BranchOn nodes base fs part x) (sym n ∙ s.same)
    (record { at = s.at; shows = s.shows; below = subst (λ (x : List Construct). ConstructsShow nodes base (reverse x) s.rest) (sym e) s.below })

pub branch_empty : (nodes more : List Node) (base : ℕ) (old fs : List Construct) (es : List Entry) (n at : ℕ) → fs ≡ old → ((m a : ℕ) (gs : List Construct) → reverse old ≡ constructs.Piece m a ∷ gs → ⊥) → n ≡ length nodes → more ≡ nodes ++ record { kind = kinds.One; at = at } ∷ [] → ConstructsShow nodes base (reverse old) es → at ≡ base + length (entries es) → BranchOn more base fs (record { node = n; at = at }) (take_pieces es Empty)
unfolding HoldsBranch
branch_empty nodes more base old fs es n at e none_on ne me h a =
    let k : Adds nodes more = Adds-to nodes more _ _ me tt in
    let here : IsNode more n kinds.One at = at_number nodes more _ n ne me in
    subst (λ (x : Branch × List Entry). BranchOn more base fs (record { node = n; at = at }) x) (sym (no_pieces nodes base (reverse old) es Empty none_on h))
    (record { at = a; shows = here; below = subst (λ (x : List Construct). ConstructsShow more base (reverse x) es) (sym e) (ConstructsShow-more nodes more base (reverse old) es k h) })

-- ---- branches that bars have ended

pub record EndedOn (nodes : List Node) (base : ℕ) (n at : ℕ) (fs : List Construct) (es : List Entry) : Type 0 where
  pub branch : Branch
  pub rest : List Entry
  pub is : es ≡ Ended branch ∷ rest
  pub place : at ≡ base + length (entries rest)
  pub shows : HoldsBranch branch nodes n at
  pub below : ConstructsShow nodes base fs rest

pub ended_on : (nodes : List Node) (base n at : ℕ) (fs : List Construct) (es : List Entry) → ConstructsShow nodes base (constructs.Ended n at ∷ fs) es → EndedOn nodes base n at fs es
unfolding ConstructsShow
ended_on nodes base n at fs [] h = absurd h
ended_on nodes base n at fs (Mark ∷ es) h = absurd h
ended_on nodes base n at fs (Read p ∷ es) h = absurd h
ended_on nodes base n at fs (Ended b ∷ es) h = record { branch = b; rest = es; is = refl; place = h.0; shows = h.1; below = h.2 }

pub no_branches : (nodes : List Node) (base : ℕ) (fs : List Construct) (es : List Entry) (r : Regex) → ((n at : ℕ) (gs : List Construct) → fs ≡ constructs.Ended n at ∷ gs → ⊥) → ConstructsShow nodes base fs es → take_branches es r ≡ (r, es)
unfolding ConstructsShow take_branches
no_branches nodes base fs [] r none_on h = refl
no_branches nodes base fs (Mark ∷ es) r none_on h = refl
no_branches nodes base fs (Read p ∷ es) r none_on h = refl
no_branches nodes base [] (Ended b ∷ es) r none_on h = absurd h
no_branches nodes base (constructs.Mark at ∷ fs) (Ended b ∷ es) r none_on h = absurd h
no_branches nodes base (constructs.Piece n at ∷ fs) (Ended b ∷ es) r none_on h = absurd h
no_branches nodes base (constructs.Ended n at ∷ fs) (Ended b ∷ es) r none_on h = absurd (none_on n at fs refl)

pub record RegexSoFar (nodes : List Node) (base : ℕ) (fs : List Construct) (part : Placed) (t : Regex × List Entry) : Type 0 where
  pub rest : List Entry
  pub tree : Regex
  pub place : part.at ≡ base + length (entries rest)
  pub shows : HoldsRegex tree nodes part.node part.at
  pub below : ConstructsShow nodes base (reverse fs) rest
  pub same : take_branches rest tree ≡ t

pub first_branch : (nodes : List Node) (base : ℕ) (fs : List Construct) (es : List Entry) (part : Placed) → BranchOn nodes base fs part (take_pieces es Empty) → RegexSoFar nodes base fs part (take_regex es)
unfolding take_regex HoldsRegex
first_branch nodes base fs es part b = record { rest = (take_pieces es Empty).1; tree = Last (take_pieces es Empty).0; place = b.at; shows = b.shows; below = b.below; same = refl }

pub further_branch : (nodes more : List Node) (base : ℕ) (old new : List Construct) (part front : Placed) (n : ℕ) (t : Regex × List Entry) → old ≡ new ++ constructs.Ended front.node front.at ∷ [] → n ≡ length nodes → more ≡ nodes ++ record { kind = kinds.Alt front.node part.node; at = front.at } ∷ [] → RegexSoFar nodes base old part t → RegexSoFar more base new (record { node = n; at = front.at }) t
unfolding take_branches HoldsRegex entries entry
further_branch nodes more base old new part front n t e ne me s =
    let p = ended_on nodes base front.node front.at (reverse new) s.rest (subst (λ (x : List Construct). ConstructsShow nodes base x s.rest) (reverse_push old new (constructs.Ended front.node front.at) e) s.below) in
    let k : Adds nodes more = Adds-to nodes more _ _ me tt in
    let here : IsNode more n (kinds.Alt front.node part.node) front.at = at_number nodes more _ n ne me in
    let at : front.at + length (Rattle.kex_regexp.specs.Grammar.branch p.branch) + 1 ≡ part.at = omega (arith, p.place, s.place, ap (λ (x : List Entry). length (entries x)) p.is, length-append (entries p.rest) (Rattle.kex_regexp.specs.Grammar.branch p.branch ++ 124 ∷ []), length-append (Rattle.kex_regexp.specs.Grammar.branch p.branch) (124 ∷ [])) in
    record {
      rest = p.rest;
      tree = Or p.branch s.tree;
      place = p.place;
      shows = (front.node, part.node, here, HoldsBranch-more p.branch nodes more front.node front.at k p.shows, subst (λ (x : ℕ). HoldsRegex s.tree more part.node x) (sym at) (HoldsRegex-more s.tree nodes more part.node part.at k s.shows));
      below = ConstructsShow-more nodes more base (reverse new) p.rest k p.below;
      same = ap (λ (x : List Entry). take_branches x s.tree) (sym p.is) ∙ s.same;
    }

pub regex_done : (nodes : List Node) (base : ℕ) (old fs : List Construct) (part : Placed) (t : Regex × List Entry) → fs ≡ old → ((n at : ℕ) (gs : List Construct) → reverse old ≡ constructs.Ended n at ∷ gs → ⊥) → RegexSoFar nodes base old part t → RegexOn nodes base fs part t
regex_done nodes base old fs part t e none_on s =
    let n = no_branches nodes base (reverse old) s.rest s.tree none_on s.below in
    subst (λ (x : Regex × List Entry). RegexOn nodes base fs part x) (sym n ∙ s.same)
    (record { at = s.place; shows = s.shows; below = subst (λ (x : List Construct). ConstructsShow nodes base (reverse x) s.rest) (sym e) s.below })
