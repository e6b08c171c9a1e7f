-- Nodes that are added, and what is shown still.
use Rattle.std.proofs.Common.{◌≡◌, ℕ, zero, suc, ◌+◌, inl, inr, List, [], ◌∷◌, ◌++◌, length, Some, refl, sym, ap, ◌∙◌, subst, append_assoc}
use Rattle.std.specs.Prelude.{slice_get}
use Rattle.std.proofs.lemmas.List.{append-nil}
use Rattle.kex_code.specs.Codes.{IsAmong}
use Rattle.kex_model.specs.Programs.{HasNames}
use Rattle.kex_model.specs.declared.program.Kind.{Kind}
use Rattle.kex_model.specs.declared.program.Kind.TheVariants as kinds
use Rattle.kex_model.specs.declared.program.Node.{Node}
use Rattle.kex_model.proofs.Shapes.{among-append}
use Rattle.kex_regexp.specs.Grammar.{Regex, Last, Or, Branch, Empty, Then, Piece, Once, Turns, Item, Plain, Escaped, Dot, Set, Group, branch, piece}
use Rattle.kex_regexp.specs.Shown.{Adds, IsOfBodies, ShowsRegex, ShowsBranch, ShowsPiece, ShowsItem}

-- a list with more after it
pub stays_behind : (a more : List Node) (k : ℕ) (v : Node) → slice_get a k ≡ Some v → slice_get (a ++ more) k ≡ Some v
stays_behind [] more k v h = absurd cc
stays_behind (x ∷ a) more zero v h = h
stays_behind (x ∷ a) more (suc k) v h = stays_behind a more k v h

-- ---- nodes that are added

-- what was in the list stays where it was
pub stays : (old new : List Node) → Adds old new → (k : ℕ) (v : Node) → slice_get old k ≡ Some v → slice_get new k ≡ Some v
stays old new a k v h = subst (λ (x : List Node). slice_get x k ≡ Some v) (sym a.is) (stays_behind old a.more k v h)

pub Adds-refl : (a : List Node) → Adds a a
Adds-refl a = record { more = []; is = sym (append-nil a); kinds = λ n h. absurd h }

pub Adds-trans : (a b c : List Node) → Adds a b → Adds b c → Adds a c
Adds-trans a b c f g = record {
  more = f.more ++ g.more;
  is = g.is ∙ ap (λ (x : List Node). x ++ g.more) f.is ∙ append_assoc a f.more g.more;
  kinds = λ n h. elim (among-append f.more g.more n h) [ inl l ↦ f.kinds n l | inr r ↦ g.kinds n r ];
}

-- one node more
pub Adds-to : (a b : List Node) (kind : Kind) (at : ℕ) → b ≡ a ++ record { kind = kind; at = at } ∷ [] → IsOfBodies kind → Adds a b
Adds-to a b kind at e of = record {
  more = record { kind = kind; at = at } ∷ [];
  is = e;
  kinds = λ n h. elim h [ inl same ↦ subst (λ (m : Node). IsOfBodies m.kind) same of | inr none ↦ absurd none ];
}

pub added : (a : List Node) (x : Node) → slice_get (a ++ x ∷ []) (length a) ≡ Some x
added [] x = refl
added (y ∷ a) x = added a x

-- ---- what is shown still

mutual
  unfolding ShowsRegex ShowsBranch ShowsPiece ShowsItem

  pub ShowsRegex-more : (r : Regex) (a b : List Node) (n at : ℕ) → Adds a b → ShowsRegex r a n at → ShowsRegex r b n at
  ShowsRegex-more (Last c) a b n at k h = ShowsBranch-more c a b n at k h
  ShowsRegex-more (Or c r) a b n at k h = (h.0, h.1, stays a b k n _ h.2, ShowsBranch-more c a b h.0 at k h.3, ShowsRegex-more r a b h.1 (at + length (branch c) + 1) k h.4)

  pub ShowsBranch-more : (c : Branch) (a b : List Node) (n at : ℕ) → Adds a b → ShowsBranch c a n at → ShowsBranch c b n at
  ShowsBranch-more Empty a b n at k h = stays a b k n _ h
  ShowsBranch-more (Then p Empty) a b n at k h = ShowsPiece-more p a b n at k h
  ShowsBranch-more (Then p (Then q c)) a b n at k h = (h.0, h.1, stays a b k n _ h.2, ShowsPiece-more p a b h.0 at k h.3, ShowsBranch-more (Then q c) a b h.1 (at + length (piece p)) k h.4)

  pub ShowsPiece-more : (p : Piece) (a b : List Node) (n at : ℕ) → Adds a b → ShowsPiece p a n at → ShowsPiece p b n at
  ShowsPiece-more (Once i) a b n at k h = ShowsItem-more i a b n at k h
  ShowsPiece-more (Turns i p lazy) a b n at k h = (h.0, stays a b k n _ h.1, ShowsItem-more i a b h.0 at k h.2)

  pub ShowsItem-more : (i : Item) (a b : List Node) (n at : ℕ) → Adds a b → ShowsItem i a n at → ShowsItem i b n at
  ShowsItem-more (Plain c) a b n at k h = (h.0, h.1, stays a b k n _ h.2)
  ShowsItem-more (Escaped e) a b n at k h = (h.0, h.1, stays a b k n _ h.2)
  ShowsItem-more Dot a b n at k h = (h.0, h.1, stays a b k n _ h.2)
  ShowsItem-more (Set negated ms) a b n at k h = (h.0, h.1, stays a b k n _ h.2)
  ShowsItem-more (Group r) a b n at k h = ShowsRegex-more r a b n (at + 1) k h

-- ---- names

pub named_of_bodies : (names registers : ℕ) (kind : Kind) → IsOfBodies kind → HasNames names registers kind
named_of_bodies names registers kinds.One h = tt
named_of_bodies names registers (kinds.Class s) h = tt
named_of_bodies names registers (kinds.Seq l r) h = tt
named_of_bodies names registers (kinds.Alt l r) h = tt
named_of_bodies names registers (kinds.Rep body min max lazy) h = tt
named_of_bodies names registers (kinds.Lit s) h = absurd h
named_of_bodies names registers (kinds.Call k) h = absurd h
named_of_bodies names registers (kinds.Mute t) h = absurd h
named_of_bodies names registers (kinds.At r t) h = absurd h
named_of_bodies names registers (kinds.Write r) h = absurd h
named_of_bodies names registers (kinds.Set r ps) h = absurd h
named_of_bodies names registers (kinds.Add r ps) h = absurd h

pub names_stay : (old new : List Node) (names registers : ℕ) → Adds old new → ((n : Node) → IsAmong old n → HasNames names registers n.kind) → (n : Node) → IsAmong new n → HasNames names registers n.kind
names_stay old new names registers a h n i = elim (among-append old a.more n (subst (λ (x : List Node). IsAmong x n) a.is i)) [
  | inl l ↦ h n l
  | inr r ↦ named_of_bodies names registers n.kind (a.kinds n r)
]

pub ruleset adding = (Adds-refl, Adds-to, Adds-trans)
