-- A node that shows something is in the list.
use Rattle.std.proofs.Common.{◌≡◌, ℕ, ◌+◌, ◌<◌, List, [], ◌∷◌, ◌++◌, length, subst, arith}
use Rattle.std.specs.Prelude.{Bool, true, false, MatchBool, Some, slice_get, reverse}
use Rattle.std.proofs.lemmas.Option.{slice_get_within}
use Rattle.kex_model.specs.declared.program.Node.{Node}
use Rattle.kex_regexp.specs.declared.constructs.Construct.{Construct}
use Rattle.kex_regexp.specs.declared.constructs.Construct.TheVariants as constructs
use Rattle.kex_regexp.specs.declared.constructs.Placed.{Placed}
use Rattle.kex_regexp.specs.declared.wait.Wait.{Wait}
use Rattle.kex_regexp.specs.declared.wait.Wait.TheVariants as waits
use Rattle.kex_regexp.specs.Grammar.{Regex, Last, Or, Branch, Empty, Then, Piece, Once, Turns, Item, Plain, Escaped, Dot, Set, Group}
use Rattle.kex_regexp.specs.Machine.{Entry, Read}
use Rattle.kex_regexp.specs.Postfixes.{is_bad_count}
use Rattle.kex_regexp.specs.declared.wait.Repetition.{Repetition}
use Rattle.kex_regexp.specs.Holding.{HoldsRegex, HoldsBranch, HoldsPiece, HoldsItem, ConstructsShow, OnTurned, SomeConstructs, SomeState, SomeBehind, SomeTurned}
use Rattle.kex_regexp.proofs.Stacks.{BranchSoFar, RegexSoFar, piece_on, ended_on, reverse_push}
use Rattle.kex_regexp.proofs.ShownSteps.{mode_ready, mode_after, mode_turned, ready_place, after_place, turned_place, once_shows, once_ends, eager_ends}

pub turns_within : (t : Bool) (nodes : List Node) (n l : ℕ) (m : Node) → MatchBool t (n ≡ l) (slice_get nodes n ≡ Some m) → l < length nodes → n < length nodes
turns_within true nodes n l m h lt = omega (arith, h, lt)
turns_within false nodes n l m h lt = slice_get_within nodes n m h

mutual
  unfolding HoldsRegex HoldsBranch HoldsPiece HoldsItem

  pub regex_within : (r : Regex) (nodes : List Node) (n at : ℕ) → HoldsRegex r nodes n at → n < length nodes
  regex_within (Last b) nodes n at h = branch_within b nodes n at h
  regex_within (Or b r) nodes n at h = slice_get_within nodes n _ h.2

  pub branch_within : (b : Branch) (nodes : List Node) (n at : ℕ) → HoldsBranch b nodes n at → n < length nodes
  branch_within Empty nodes n at h = slice_get_within nodes n _ h
  branch_within (Then p Empty) nodes n at h = piece_within p nodes n at h
  branch_within (Then p (Then q b)) nodes n at h = slice_get_within nodes n _ h.2

  pub piece_within : (p : Piece) (nodes : List Node) (n at : ℕ) → HoldsPiece p nodes n at → n < length nodes
  piece_within (Once i) nodes n at h = item_within i nodes n at h
  piece_within (Turns i p lazy) nodes n at h = turns_within (is_bad_count p) nodes n h.0 _ h.1 (item_within i nodes h.0 at h.2)

  pub item_within : (i : Item) (nodes : List Node) (n at : ℕ) → HoldsItem i nodes n at → n < length nodes
  item_within (Plain b) nodes n at h = slice_get_within nodes n _ h.2
  item_within (Escaped e) nodes n at h = slice_get_within nodes n _ h.2
  item_within Dot nodes n at h = slice_get_within nodes n _ h.2
  item_within (Set negated ms) nodes n at h = slice_get_within nodes n _ h.2
  item_within (Group r) nodes n at h = regex_within r nodes n (at + 1) h

pub pieces_within : (nodes : List Node) (base : ℕ) (old new : List Construct) (part front : Placed) (t : Branch × List Entry) → old ≡ new ++ constructs.Piece front.node front.at ∷ [] → BranchSoFar nodes base old part t → (front.node < length nodes) × (part.node < length nodes)
pieces_within nodes base old new part front t e s =
    let p = piece_on nodes base front.node front.at (reverse new) s.rest (subst (λ (x : List Construct). ConstructsShow nodes base x s.rest) (reverse_push old new (constructs.Piece front.node front.at) e) s.below) in
    (piece_within p.piece nodes front.node front.at p.shows, branch_within (Then s.piece s.branch) nodes part.node part.at s.shows)

pub branches_within : (nodes : List Node) (base : ℕ) (old new : List Construct) (part front : Placed) (t : Regex × List Entry) → old ≡ new ++ constructs.Ended front.node front.at ∷ [] → RegexSoFar nodes base old part t → (front.node < length nodes) × (part.node < length nodes)
branches_within nodes base old new part front t e s =
    let p = ended_on nodes base front.node front.at (reverse new) s.rest (subst (λ (x : List Construct). ConstructsShow nodes base x s.rest) (reverse_push old new (constructs.Ended front.node front.at) e) s.below) in
    (branch_within p.branch nodes front.node front.at p.shows, regex_within s.tree nodes part.node part.at s.shows)

pub some_item : (nodes : List Node) (fs : List Construct) (r : Repetition) (at : ℕ) → SomeTurned nodes fs r at → r.item.node < length nodes
some_item nodes fs r at s = item_within s.2 nodes r.item.node r.item.at s.7

pub some_ready : (nodes : List Node) (fs : List Construct) (w : Wait) (at : ℕ) → w ≡ waits.Ready → SomeState nodes fs w at → SomeConstructs nodes fs at
some_ready nodes fs w at e st =
    let m = mode_ready _ _ _ (rw e at st.2.mode) in
    (st.0, st.1.entries, st.2.below, ready_place st.1 st.0 at m st.3)

pub some_behind : (nodes : List Node) (fs : List Construct) (w : Wait) (part : Placed) (at : ℕ) → w ≡ waits.After part → SomeState nodes fs w at → SomeBehind nodes fs part at
some_behind nodes fs w part at e st =
    let m = mode_after _ _ part _ (rw e at st.2.mode) in
    (st.0, st.1.entries, m.tree, st.2.below, m.place, after_place st.1 st.0 at part.at m.tree m.is m.place st.3, m.shows)

pub some_once : (nodes : List Node) (fs gs : List Construct) (part : Placed) (at : ℕ) → gs ≡ fs ++ constructs.Piece part.node part.at ∷ [] → SomeBehind nodes fs part at → SomeConstructs nodes gs at
some_once nodes fs gs part at e s = (s.0, Read (Once s.2) ∷ s.1, once_shows nodes s.0 fs gs s.1 s.2 part s.3 s.4 s.6 e, once_ends s.0 at part.at s.1 s.2 s.4 s.5)

pub some_turned : (nodes : List Node) (fs : List Construct) (w : Wait) (r : Repetition) (at : ℕ) → w ≡ waits.Turned r → SomeState nodes fs w at → SomeTurned nodes fs r at
some_turned nodes fs w r at e st =
    let m = mode_turned _ _ r _ (rw e at st.2.mode) in
    (st.0, st.1.entries, m.tree, m.postfix, st.2.below, m.place, turned_place st.1 st.0 at r.item.at m.tree m.postfix m.is m.place st.3, m.shows, m.turns)

-- the constructs with such a piece on top
pub some_piece : (nodes more : List Node) (fs gs : List Construct) (r : Repetition) (at : ℕ) → SomeTurned nodes fs r at → OnTurned nodes fs r (λ base es i p. ConstructsShow more base (reverse gs) (Read (Turns i p false) ∷ es)) → SomeConstructs more gs at
some_piece nodes more fs gs r at s shows = (s.0, Read (Turns s.2 s.3 false) ∷ s.1, shows s.0 s.1 s.2 s.3 s.4 s.5 s.7 s.8, eager_ends s.0 at r.item.at s.1 s.2 s.3 s.5 s.6)
