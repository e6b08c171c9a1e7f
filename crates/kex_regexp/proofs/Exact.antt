-- Where no rule is broken, what is held is what is shown.
use Rattle.std.proofs.Common.{◌≡◌, ℕ, ◌+◌, Bool, true, false, List, [], ◌∷◌, ◌++◌, length, refl}
use Rattle.std.specs.Prelude.{MatchBool, ◌==◌}
use Rattle.kex_model.specs.declared.program.Node.{Node}
use Rattle.kex_regexp.specs.Grammar.{Regex, Last, Or, Branch, Empty, Then, Piece, Once, Turns, Item, Plain, Escaped, Dot, Set, Group, branch, piece, item}
use Rattle.kex_regexp.specs.Breaks.{Break, BadCount, OverLimit, break_if, regex_breaks, branch_breaks, piece_breaks, item_breaks}
use Rattle.kex_regexp.specs.Postfixes.{is_bad_count}
use Rattle.kex_regexp.specs.Shown.{ShowsRegex, ShowsBranch, ShowsPiece, ShowsItem}
use Rattle.kex_regexp.specs.Holding.{HoldsRegex, HoldsBranch, HoldsPiece, HoldsItem}

pub left_none : {A : Type 0} (a b : List A) → a ++ b ≡ [] → a ≡ []
left_none [] b e = refl
left_none (x ∷ a) b e = absurd cc

pub right_none : {A : Type 0} (a b : List A) → a ++ b ≡ [] → b ≡ []
right_none [] b e = e
right_none (x ∷ a) b e = absurd cc

pub unless_bad : (t : Bool) (b : Break) (A B : Type 0) → break_if t b ≡ [] → MatchBool t A B → B
unless_bad true b A B e h = absurd cc
unless_bad false b A B e h = h

mutual
  unfolding HoldsRegex HoldsBranch HoldsPiece HoldsItem ShowsRegex ShowsBranch ShowsPiece ShowsItem regex_breaks branch_breaks piece_breaks item_breaks

  pub exact_regex : (r : Regex) (nodes : List Node) (n at depth : ℕ) → HoldsRegex r nodes n at → regex_breaks r at depth ≡ [] → ShowsRegex r nodes n at
  exact_regex (Last b) nodes n at depth h e = exact_branch b nodes n at depth h e
  exact_regex (Or b r) nodes n at depth h e = (h.0, h.1, h.2, exact_branch b nodes h.0 at depth h.3 (left_none (branch_breaks b at depth) (regex_breaks r (at + length (branch b) + 1) depth) e), exact_regex r nodes h.1 (at + length (branch b) + 1) depth h.4 (right_none (branch_breaks b at depth) (regex_breaks r (at + length (branch b) + 1) depth) e))

  pub exact_branch : (b : Branch) (nodes : List Node) (n at depth : ℕ) → HoldsBranch b nodes n at → branch_breaks b at depth ≡ [] → ShowsBranch b nodes n at
  exact_branch Empty nodes n at depth h e = h
  exact_branch (Then p Empty) nodes n at depth h e = exact_piece p nodes n at depth h (left_none (piece_breaks p at depth) [] e)
  exact_branch (Then p (Then q b)) nodes n at depth h e =
      let rest = at + length (piece p) in
      (h.0, h.1, h.2, exact_piece p nodes h.0 at depth h.3 (left_none (piece_breaks p at depth) (branch_breaks (Then q b) rest depth) e), exact_branch (Then q b) nodes h.1 rest depth h.4 (right_none (piece_breaks p at depth) (branch_breaks (Then q b) rest depth) e))

  pub exact_piece : (p : Piece) (nodes : List Node) (n at depth : ℕ) → HoldsPiece p nodes n at → piece_breaks p at depth ≡ [] → ShowsPiece p nodes n at
  exact_piece (Once i) nodes n at depth h e = exact_item i nodes n at depth h e
  exact_piece (Turns i p lazy) nodes n at depth h e =
      let brace = BadCount (at + length (item i)) in
      (h.0, unless_bad (is_bad_count p) brace _ _ (right_none (item_breaks i at depth) (break_if (is_bad_count p) brace) e) h.1, exact_item i nodes h.0 at depth h.2 (left_none (item_breaks i at depth) (break_if (is_bad_count p) brace) e))

  pub exact_item : (i : Item) (nodes : List Node) (n at depth : ℕ) → HoldsItem i nodes n at → item_breaks i at depth ≡ [] → ShowsItem i nodes n at
  exact_item (Plain b) nodes n at depth h e = h
  exact_item (Escaped x) nodes n at depth h e = h
  exact_item Dot nodes n at depth h e = h
  exact_item (Set negated ms) nodes n at depth h e = h
  exact_item (Group r) nodes n at depth h e = exact_regex r nodes n (at + 1) (depth + 1) h (right_none (break_if (depth == 200) (OverLimit at)) (regex_breaks r (at + 1) (depth + 1)) e)
