-- What the entries break stays what it is when they become a branch, a regex, a group.
use Rattle.std.proofs.Common.{Option, Some, None, ◌≡◌, ℕ, suc, ◌+◌, Bool, true, false, List, [], ◌∷◌, ◌++◌, length, refl, sym, ap, ◌∙◌, subst, append_assoc, length-append, arith}
use Rattle.std.specs.Prelude.{◌==◌}
use Rattle.std.proofs.lemmas.List.{append-nil}
use Rattle.std.proofs.lemmas.Bool.{eqb-true}
use Rattle.kex_regexp.specs.Grammar.{is_plain, Postfix, ZeroOrMore, OneOrMore, Optional, Plain, Escaped, Dot, Set, Regex, Last, Or, Branch, Empty, Then, Once, Turns, Item, Group, branch, piece, item, postfix, lazy_mark}
use Rattle.kex_regexp.specs.Breaks.{Break, BadCount, OverLimit, break_if, regex_breaks, branch_breaks, piece_breaks, item_breaks}
use Rattle.kex_regexp.specs.Postfixes.{is_bad_count}
use Rattle.kex_regexp.specs.Machine.{Entry, Mark, Ended, Read, entries, entry, take_pieces, take_branches, take_regex, Begun, EscapeStep, EscapeOn, EscapeRead, EscapeWrong, escape_step, AtStart, SetStep, SetOn, SetRead, SetWrong, set_step, Opened, CountStep, CountOn, CountRead, CountWrong, count_step, Mode, Ready, After, Turned, InEscape, InSet, InCount, State, goes, after_group, end_branch, begin_piece, after_item, after_turns, on_escape, on_set, on_count, step_in}
use Rattle.kex_regexp.specs.Notes.{marks, entry_breaks, entries_breaks, mode_breaks, state_breaks, nesting_breaks, set_breaks, count_breaks, byte_breaks}
use Rattle.kex_regexp.proofs.Sound.{by_test}
use Rattle.kex_regexp.proofs.Complete.{apart, cond_yes, cond_no}

-- what a branch on top of entries breaks, all of it
pub with_branch : ℕ → ℕ → List Entry → Branch → List Break
with_branch base depth es b = entries_breaks base depth es ++ branch_breaks b (base + length (entries es)) (depth + marks es)

unfoldable pub with_regex : ℕ → ℕ → List Entry → Regex → List Break
with_regex base depth es r = entries_breaks base depth es ++ regex_breaks r (base + length (entries es)) (depth + marks es)

pub pieces_break : (base depth : ℕ) (es : List Entry) (b : Branch) → with_branch base depth (take_pieces es b).1 (take_pieces es b).0 ≡ with_branch base depth es b
unfolding take_pieces with_branch entries_breaks entry_breaks branch_breaks entries entry marks
pieces_break base depth [] b = refl
pieces_break base depth (Mark ∷ es) b = refl
pieces_break base depth (Ended a ∷ es) b = refl
pieces_break base depth (Read p ∷ es) b =
    let at = base + length (entries es) in
    let e : at + length (piece p) ≡ base + length (entries es ++ piece p) = omega (arith, length-append (entries es) (piece p)) in
    pieces_break base depth es (Then p b)
    ∙ sym (append_assoc (entries_breaks base depth es) (piece_breaks p at (depth + marks es)) (branch_breaks b (at + length (piece p)) (depth + marks es)))
    ∙ ap (λ (n : ℕ). (entries_breaks base depth es ++ piece_breaks p at (depth + marks es)) ++ branch_breaks b n (depth + marks es)) e

pub branches_break : (base depth : ℕ) (es : List Entry) (r : Regex) → with_regex base depth (take_branches es r).1 (take_branches es r).0 ≡ with_regex base depth es r
unfolding take_branches with_regex entries_breaks entry_breaks regex_breaks entries entry marks
branches_break base depth [] r = refl
branches_break base depth (Mark ∷ es) r = refl
branches_break base depth (Read p ∷ es) r = refl
branches_break base depth (Ended b ∷ es) r =
    let at = base + length (entries es) in
    let e : at + length (branch b) + 1 ≡ base + length (entries es ++ (branch b ++ 124 ∷ [])) = omega (arith, length-append (entries es) (branch b ++ 124 ∷ []), length-append (branch b) (124 ∷ [])) in
    branches_break base depth es (Or b r)
    ∙ sym (append_assoc (entries_breaks base depth es) (branch_breaks b at (depth + marks es)) (regex_breaks r (at + length (branch b) + 1) (depth + marks es)))
    ∙ ap (λ (n : ℕ). (entries_breaks base depth es ++ branch_breaks b at (depth + marks es)) ++ regex_breaks r n (depth + marks es)) e

pub regex_break : (base depth : ℕ) (es : List Entry) → with_regex base depth (take_regex es).1 (take_regex es).0 ≡ entries_breaks base depth es
unfolding take_regex with_regex with_branch regex_breaks branch_breaks
regex_break base depth es =
    branches_break base depth (take_pieces es Empty).1 (Last (take_pieces es Empty).0) ∙ pieces_break base depth es Empty ∙ append-nil (entries_breaks base depth es)

-- a group that closes
pub group_break : (base depth : ℕ) (es : List Entry) (r : Regex) → with_regex base depth (Mark ∷ es) r ≡ entries_breaks base depth es ++ item_breaks (Group r) (base + length (entries es)) (depth + marks es)
unfolding with_regex entries_breaks entry_breaks item_breaks entries entry marks
group_break base depth es r =
    let at = base + length (entries es) in
    let e : base + length (entries es ++ 40 ∷ []) ≡ at + 1 = omega (arith, length-append (entries es) (40 ∷ [])) in
    let d : depth + suc (marks es) ≡ depth + marks es + 1 = omega arith in
    append_assoc (entries_breaks base depth es) (break_if (depth + marks es == 200) (OverLimit at)) (regex_breaks r (base + length (entries es ++ 40 ∷ [])) (depth + suc (marks es)))
    ∙ ap (λ (n : ℕ). entries_breaks base depth es ++ (break_if (depth + marks es == 200) (OverLimit at) ++ regex_breaks r n (depth + suc (marks es)))) e
    ∙ ap (λ (n : ℕ). entries_breaks base depth es ++ (break_if (depth + marks es == 200) (OverLimit at) ++ regex_breaks r (at + 1) n)) d

-- ---- one byte more

module _ (base depth : ℕ) where
  unfoldable pub place : List Entry → ℕ
  place es = base + length (entries es)

  unfoldable pub level : List Entry → ℕ
  level es = depth + marks es

  unfoldable pub BreaksGo : List Break → Option State → Type 0
  BreaksGo w None = Unit {0}
  BreaksGo w (Some s) = state_breaks base depth s ≡ w

  pub goes_on : (m : Mode) (es : List Entry) (w : List Break) → entries_breaks base depth es ++ mode_breaks m (place es) (level es) ≡ w → BreaksGo w (goes m es)
  unfolding BreaksGo state_breaks place level
  goes_on m es w e = e

  pub closed : (at d b n : ℕ) → (b == n) ≡ true → (n == 40) ≡ false → nesting_breaks at d b ≡ []
  unfolding nesting_breaks
  closed at d b n e k = cond_no (b == 40) _ _ (ap (λ (x : ℕ). x == 40) (eqb-true b n e) ∙ k)

  -- nothing more is noted
  pub same : (E F : List Break) (at d b n : ℕ) → (b == n) ≡ true → (n == 40) ≡ false → E ≡ F → E ≡ F ++ nesting_breaks at d b
  same E F at d b n e k q = q ∙ sym (append-nil F) ∙ ap (λ (w : List Break). F ++ w) (sym (closed at d b n e k))

  pub plain_opens : (at d b : ℕ) → is_plain b ≡ true → nesting_breaks at d b ≡ []
  unfolding nesting_breaks is_plain
  plain_opens at d b h = cond_no (b == 40) _ _ (apart is_plain b 40 h refl)

  pub mark_opens : (at d b : ℕ) → (b == 40) ≡ true → nesting_breaks at d b ≡ break_if (d == 200) (OverLimit at)
  unfolding nesting_breaks
  mark_opens at d b e = cond_yes (b == 40) _ _ e

  pub group_here : (es : List Entry) (r : Regex) → entries_breaks base depth es ++ item_breaks (Group r) (place es) (level es) ≡ with_regex base depth (Mark ∷ es) r
  unfolding place level
  group_here es r = sym (group_break base depth es r)

  pub pieces_alone : (es : List Entry) → with_branch base depth (take_pieces es Empty).1 (take_pieces es Empty).0 ≡ entries_breaks base depth es
  unfolding with_branch branch_breaks
  pieces_alone es = pieces_break base depth es Empty ∙ append-nil (entries_breaks base depth es)

  pub close_breaks : (r : Regex) (es : List Entry) (w : List Break) → with_regex base depth es r ≡ w → BreaksGo w (after_group (r, es))
  unfolding after_group BreaksGo mode_breaks
  close_breaks r [] w e = tt
  close_breaks r (Ended a ∷ es) w e = tt
  close_breaks r (Read p ∷ es) w e = tt
  close_breaks r (Mark ∷ es) w e = goes_on (After (Group r)) es w (group_here es r ∙ e)

  pub bar_breaks : (t : Branch × List Entry) (w : List Break) → with_branch base depth t.1 t.0 ≡ w → BreaksGo w (end_branch t)
  unfolding end_branch mode_breaks entries_breaks entry_breaks with_branch
  bar_breaks t w e = goes_on Ready (Ended t.0 ∷ t.1) w (append-nil _ ∙ e)

  pub begin_breaks : (es : List Entry) (b : ℕ) → BreaksGo (entries_breaks base depth es ++ nesting_breaks (place es) (level es) b) (begin_piece es b)
  unfolding begin_piece mode_breaks item_breaks BreaksGo entries_breaks entry_breaks place level
  begin_breaks es b =
      let E = entries_breaks base depth es in
      let at = base + length (entries es) in
      let d = depth + marks es in
      let P = BreaksGo (E ++ nesting_breaks at d b) in
      by_test P (is_plain b) _ _ (λ e. goes_on (After (Plain b)) es _ (ap (λ (w : List Break). E ++ w) (sym (plain_opens at d b e)))) (λ _.
      by_test P (b == 92) _ _ (λ e. goes_on (InEscape Begun) es _ (same _ E at d b 92 e refl (append-nil E))) (λ _.
      by_test P (b == 46) _ _ (λ e. goes_on (After Dot) es _ (same _ E at d b 46 e refl (append-nil E))) (λ _.
      by_test P (b == 91) _ _ (λ e. goes_on (InSet false [] AtStart) es _ (same _ E at d b 91 e refl (append-nil E))) (λ _.
      by_test P (b == 40) _ _ (λ e. goes_on Ready (Mark ∷ es) _ (append-nil _ ∙ ap (λ (w : List Break). E ++ w) (sym (mark_opens at d b e)))) (λ _.
      by_test P (b == 124) _ _ (λ e. bar_breaks (take_pieces es Empty) _ (same _ E at d b 124 e refl (pieces_alone es))) (λ _.
      by_test P (b == 41) _ _ (λ e. close_breaks (take_regex es).0 (take_regex es).1 _ (same _ E at d b 41 e refl (regex_break base depth es))) (λ _. tt)))))))

  pub turns_break : (i : Item) (p : Postfix) (es : List Entry) (w : List Break) → entries_breaks base depth es ++ (item_breaks i (place es) (level es) ++ break_if (is_bad_count p) (BadCount (place es + length (item i)))) ≡ w → BreaksGo w (goes (Turned i p) es)
  unfolding mode_breaks
  turns_break i p es w e = goes_on (Turned i p) es w e

  lazy_breaks : (i : Item) (p : Postfix) (es : List Entry) (w : List Break) → entries_breaks base depth (Read (Turns i p true) ∷ es) ≡ w → BreaksGo w (goes Ready (Read (Turns i p true) ∷ es))
  unfolding mode_breaks
  lazy_breaks i p es w e = goes_on Ready (Read (Turns i p true) ∷ es) w (append-nil _ ∙ e)

  pub sign_breaks : (i : Item) (p : Postfix) (n : ℕ) (es : List Entry) (b at d : ℕ) → is_bad_count p ≡ false → (b == n) ≡ true → (n == 40) ≡ false → BreaksGo ((entries_breaks base depth es ++ item_breaks i (place es) (level es)) ++ nesting_breaks at d b) (goes (Turned i p) es)
  sign_breaks i p n es b at d good e k =
      turns_break i p es _ (same _ _ at d b n e k (ap (λ (x : Bool). entries_breaks base depth es ++ (item_breaks i (place es) (level es) ++ break_if x (BadCount (place es + length (item i))))) good ∙ ap (λ (w : List Break). entries_breaks base depth es ++ w) (append-nil (item_breaks i (place es) (level es)))))

  pub once_breaks : (i : Item) (es : List Entry) (b : ℕ) → BreaksGo ((entries_breaks base depth es ++ item_breaks i (place es) (level es)) ++ nesting_breaks (place es + length (item i)) (level es) b) (begin_piece (Read (Once i) ∷ es) b)
  unfolding place level entries entry entries_breaks entry_breaks piece_breaks piece marks
  once_breaks i es b =
      let e : base + length (entries es ++ item i) ≡ base + length (entries es) + length (item i) = omega (arith, length-append (entries es) (item i)) in
      subst (λ (n : ℕ). BreaksGo ((entries_breaks base depth es ++ item_breaks i (base + length (entries es)) (depth + marks es)) ++ nesting_breaks n (depth + marks es) b) (begin_piece (Read (Once i) ∷ es) b)) e (begin_breaks (Read (Once i) ∷ es) b)

  pub after_breaks : (i : Item) (es : List Entry) (b : ℕ) → BreaksGo ((entries_breaks base depth es ++ item_breaks i (place es) (level es)) ++ nesting_breaks (place es + length (item i)) (level es) b) (after_item i es b)
  unfolding after_item mode_breaks
  after_breaks i es b =
      let at = place es + length (item i) in
      let P = BreaksGo ((entries_breaks base depth es ++ item_breaks i (place es) (level es)) ++ nesting_breaks at (level es) b) in
      by_test P (b == 42) _ _ (λ e. sign_breaks i ZeroOrMore 42 es b at (level es) refl e refl) (λ _.
      by_test P (b == 43) _ _ (λ e. sign_breaks i OneOrMore 43 es b at (level es) refl e refl) (λ _.
      by_test P (b == 63) _ _ (λ e. sign_breaks i Optional 63 es b at (level es) refl e refl) (λ _.
      by_test P (b == 123) _ _ (λ e. goes_on (InCount i Opened) es _ (same _ _ at (level es) b 123 e refl refl)) (λ _.
      once_breaks i es b))))

  -- a piece with a postfix breaks what its item and its count do, lazy or not
  pub piece_break : (i : Item) (p : Postfix) (lazy : Bool) (es : List Entry) → entries_breaks base depth (Read (Turns i p lazy) ∷ es) ≡ entries_breaks base depth es ++ mode_breaks (Turned i p) (place es) (level es)
  unfolding place level entries_breaks entry_breaks piece_breaks mode_breaks
  piece_break i p lazy es = refl

  pub eager_breaks : (i : Item) (p : Postfix) (es : List Entry) (b : ℕ) → BreaksGo ((entries_breaks base depth es ++ mode_breaks (Turned i p) (place es) (level es)) ++ nesting_breaks (place es + length (item i ++ postfix p)) (level es) b) (begin_piece (Read (Turns i p false) ∷ es) b)
  unfolding place level entries entry piece lazy_mark marks
  eager_breaks i p es b =
      let e : base + length (entries es ++ (item i ++ (postfix p ++ []))) ≡ base + length (entries es) + length (item i ++ postfix p) = omega (arith, length-append (entries es) (item i ++ (postfix p ++ [])), length-append (item i) (postfix p ++ []), length-append (item i) (postfix p), length-append (postfix p) []) in
      subst (λ (n : ℕ). BreaksGo ((entries_breaks base depth es ++ mode_breaks (Turned i p) (base + length (entries es)) (depth + marks es)) ++ nesting_breaks n (depth + marks es) b) (begin_piece (Read (Turns i p false) ∷ es) b)) e
      (subst (λ (w : List Break). BreaksGo (w ++ nesting_breaks (base + length (entries es ++ (item i ++ (postfix p ++ [])))) (depth + marks es) b) (begin_piece (Read (Turns i p false) ∷ es) b)) (piece_break i p false es) (begin_breaks (Read (Turns i p false) ∷ es) b))

  pub turned_breaks : (i : Item) (p : Postfix) (es : List Entry) (b : ℕ) → BreaksGo ((entries_breaks base depth es ++ mode_breaks (Turned i p) (place es) (level es)) ++ nesting_breaks (place es + length (item i ++ postfix p)) (level es) b) (after_turns i p es b)
  unfolding after_turns
  turned_breaks i p es b =
      let at = place es + length (item i ++ postfix p) in
      by_test (BreaksGo ((entries_breaks base depth es ++ mode_breaks (Turned i p) (place es) (level es)) ++ nesting_breaks at (level es) b)) (b == 63) _ _
      (λ e. lazy_breaks i p es _ (same _ _ at (level es) b 63 e refl (piece_break i p true es)))
      (λ _. eager_breaks i p es b)

  pub escape_breaks : (es : List Entry) (t : EscapeStep) → BreaksGo (entries_breaks base depth es) (on_escape es t)
  unfolding on_escape BreaksGo mode_breaks item_breaks
  escape_breaks es (EscapeOn e) = goes_on (InEscape e) es _ (append-nil _)
  escape_breaks es (EscapeRead x) = goes_on (After (Escaped x)) es _ (append-nil _)
  escape_breaks es EscapeWrong = tt

  pub set_breaks_go : (es : List Entry) (t : SetStep) → BreaksGo (entries_breaks base depth es ++ set_breaks (place es) t) (on_set es t)
  unfolding on_set BreaksGo mode_breaks item_breaks set_breaks
  set_breaks_go es (SetOn n ms p) = goes_on (InSet n ms p) es _ refl
  set_breaks_go es (SetRead n ms) = goes_on (After (Set n ms)) es _ refl
  set_breaks_go es SetWrong = tt

  pub count_breaks_go : (i : Item) (es : List Entry) (t : CountStep) → BreaksGo ((entries_breaks base depth es ++ item_breaks i (place es) (level es)) ++ count_breaks (place es + length (item i)) t) (on_count i es t)
  unfolding on_count BreaksGo mode_breaks count_breaks
  count_breaks_go i es (CountOn c) = goes_on (InCount i c) es _ (sym (append-nil _))
  count_breaks_go i es (CountRead p) = turns_break i p es _ (sym (append_assoc (entries_breaks base depth es) (item_breaks i (place es) (level es)) _))
  count_breaks_go i es CountWrong = tt

  -- what a state breaks after a byte is what it broke before, and what the byte adds
  pub step_breaks : (m : Mode) (es : List Entry) (b : ℕ) → BreaksGo ((entries_breaks base depth es ++ mode_breaks m (place es) (level es)) ++ byte_breaks (place es) (level es) m b) (step_in m es b)
  unfolding step_in mode_breaks byte_breaks
  step_breaks Ready es b = subst (λ (w : List Break). BreaksGo (w ++ nesting_breaks (place es) (level es) b) (begin_piece es b)) (sym (append-nil (entries_breaks base depth es))) (begin_breaks es b)
  step_breaks (After i) es b = after_breaks i es b
  step_breaks (Turned i p) es b = turned_breaks i p es b
  step_breaks (InEscape e) es b = subst (λ (w : List Break). BreaksGo w (on_escape es (escape_step e b))) (sym (append-nil _ ∙ append-nil (entries_breaks base depth es))) (escape_breaks es (escape_step e b))
  step_breaks (InSet n ms p) es b = subst (λ (w : List Break). BreaksGo (w ++ set_breaks (place es) (set_step n ms p b)) (on_set es (set_step n ms p b))) (sym (append-nil (entries_breaks base depth es))) (set_breaks_go es (set_step n ms p b))
  step_breaks (InCount i c) es b = count_breaks_go i es (count_step c b)
