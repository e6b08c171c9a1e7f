-- The nodes that show a regex body in two programs, in pairs.
use Rattle.std.proofs.Common.{◌≡◌, ℕ, ◌<◌, ◌≤◌, ◌+◌, ◌*◌, Bool, false, List, [], ◌∷◌, ◌++◌, ◌⊎◌, ⊎_elim, length, refl, sym, ◌∙◌, arith, length-append}
use Rattle.std.proofs.lemmas.List.{get_or_past}
use Rattle.kex_byteset.specs.Sets.{has, HasExactly}
use Rattle.kex_model.specs.declared.program.Node.{Node}
use Rattle.kex_regexp.specs.Grammar.{Regex, Last, Or, Branch, Empty, Then, Piece, Once, Turns, Item, Plain, Escaped, Dot, Set, Group, Escape, Newline, Tab, Return, Hex, Punctuation, escape, regex, branch, piece, item, postfix, lazy_mark}
use Rattle.kex_regexp.specs.Shown.{IsClass, ShowsRegex, ShowsBranch, ShowsPiece, ShowsItem}
use Rattle.kex_compile.proofs.NodePairs.{one, class, seq, alt, rep, Together, on_top, alone, beside, within}

less_or_not : (a b : ℕ) → (a < b) ⊎ (b ≤ a)
less_or_not a b = grind arith

-- sets of the same bytes
same_sets : (s t : List Bool) (test : ℕ → Bool) → HasExactly s test → HasExactly t test → (b : ℕ) → has s b ≡ has t b
same_sets s t test h k b = ⊎_elim (λ l. h.bytes b l ∙ sym (k.bytes b l)) (λ l. get_or_past s b false (omega (arith, h.long, l)) ∙ sym (get_or_past t b false (omega (arith, k.long, l)))) (less_or_not b 256)

escape_some : (e : Escape) → 1 ≤ length (escape e)
unfolding escape
escape_some Newline = omega arith
escape_some Tab = omega arith
escape_some Return = omega arith
escape_some (Hex h l) = omega arith
escape_some (Punctuation b) = omega arith

module _ (nodes nodes' : List Node) (N G : ℕ → ℕ → Type 0) where
  class_of : (test : ℕ → Bool) (n n' at high : ℕ) → IsClass nodes n test at → IsClass nodes' n' test at → 4 * at + 4 ≤ high → Together nodes nodes' N G n n' (4 * at + 3) high
  class_of test n n' at high (s, h, e) (t, k, f) l = alone nodes nodes' N G n n' _ _ (4 * at + 3) high e f refl (class (same_sets s t test h k)) (omega arith) (omega (arith, l))

  mutual
    unfolding ShowsRegex ShowsBranch ShowsPiece ShowsItem regex branch piece item

    pub regex_of : (r : Regex) (n n' at : ℕ) → ShowsRegex r nodes n at → ShowsRegex r nodes' n' at → Together nodes nodes' N G n n' (4 * at) (4 * (at + length (regex r) + 1))
    regex_of (Last b) n n' at h k = within nodes nodes' N G n n' _ _ _ _ (omega arith) (omega arith) (branch_of b n n' at h k)
    regex_of (Or b r) n n' at (l, m, e, x, y) (l', m', e', x', y') =
        let s = length-append (branch b) (124 ∷ regex r) in
        let rest = beside nodes nodes' N G l l' m m' _ _ _ (branch_of b l l' at x x') (within nodes nodes' N G m m' _ _ _ (4 * (at + length (branch b ++ 124 ∷ regex r) + 1)) (omega arith) (omega (arith, s)) (regex_of r m m' (at + length (branch b) + 1) y y')) in
        on_top nodes nodes' N G n n' _ _ (4 * at) (4 * at + 1) _ rest.pairs e e' refl (alt rest.left rest.right) (omega arith) (omega arith) rest.match rest.rising

    branch_of : (b : Branch) (n n' at : ℕ) → ShowsBranch b nodes n at → ShowsBranch b nodes' n' at → Together nodes nodes' N G n n' (4 * at + 1) (4 * (at + length (branch b) + 1))
    branch_of Empty n n' at e e' = alone nodes nodes' N G n n' _ _ _ _ e e' refl one (omega arith) (omega arith)
    branch_of (Then p Empty) n n' at h k = within nodes nodes' N G n n' _ _ _ _ (omega arith) (omega (arith, length-append (piece p) [])) (piece_of p n n' at h k)
    branch_of (Then p (Then q b)) n n' at (l, m, e, x, y) (l', m', e', x', y') =
        let s = length-append (piece p) (branch (Then q b)) in
        let rest = beside nodes nodes' N G l l' m m' _ _ _ (piece_of p l l' at x x') (within nodes nodes' N G m m' _ _ _ (4 * (at + length (piece p ++ branch (Then q b)) + 1)) (omega arith) (omega (arith, s)) (branch_of (Then q b) m m' (at + length (piece p)) y y')) in
        on_top nodes nodes' N G n n' _ _ (4 * at + 1) (4 * at + 2) _ rest.pairs e e' refl (seq rest.left rest.right) (omega arith) (omega arith) rest.match rest.rising

    piece_of : (p : Piece) (n n' at : ℕ) → ShowsPiece p nodes n at → ShowsPiece p nodes' n' at → Together nodes nodes' N G n n' (4 * at + 2) (4 * (at + length (piece p)))
    piece_of (Once i) n n' at h k = within nodes nodes' N G n n' _ _ _ _ (omega arith) (omega arith) (item_of i n n' at h k)
    piece_of (Turns i p lazy) n n' at (l, e, x) (l', e', x') =
        let signs = postfix p ++ lazy_mark lazy in
        let rest = within nodes nodes' N G l l' (4 * at + 3) (4 * at + 3) (4 * (at + length (item i))) (4 * (at + length (item i ++ signs))) (omega arith) (omega (arith, length-append (item i) signs)) (item_of i l l' at x x') in
        on_top nodes nodes' N G n n' _ _ (4 * at + 2) (4 * at + 3) _ rest.pairs e e' refl (rep rest.top) (omega arith) (omega arith) rest.match rest.rising

    item_of : (i : Item) (n n' at : ℕ) → ShowsItem i nodes n at → ShowsItem i nodes' n' at → Together nodes nodes' N G n n' (4 * at + 3) (4 * (at + length (item i)))
    item_of (Plain byte) n n' at h k = class_of _ n n' at _ h k (omega arith)
    item_of (Escaped e) n n' at h k = class_of _ n n' at _ h k (omega (arith, escape_some e))
    item_of Dot n n' at h k = class_of _ n n' at _ h k (omega arith)
    item_of (Set negated ms) n n' at h k = class_of _ n n' at _ h k (omega arith)
    item_of (Group r) n n' at h k = within nodes nodes' N G n n' _ _ _ _ (omega arith) (omega (arith, length-append (regex r) (41 ∷ []))) (regex_of r n n' (at + 1) h k)
