-- What the code notes is what the machine's states break, and its depth is theirs.
use Rattle.std.proofs.Common.{◌≡◌, ℕ, ◌^◌, ◌+◌, ◌-◌, ◌≤◌, ◌<◌, Bool, true, false, cond, List, [], ◌∷◌, ◌++◌, length, Option, Some, None, refl, sym, ap, ◌∙◌, subst, length-append, arith}
use Rattle.std.specs.Prelude.{◌==◌, ◌&&◌}
use Rattle.std.proofs.lemmas.Bool.{eqb-true}
use Rattle.std.proofs.lemmas.List.{append-nil}
use Rattle.kex_model.specs.declared.program.Node.{Node}
use Rattle.kex_regexp.specs.declared.constructs.Construct.{Construct}
use Rattle.kex_regexp.specs.declared.counts.CountOutcome.{CountOutcome}
use Rattle.kex_regexp.specs.declared.counts.CountOutcome.TheVariants as outcomes
use Rattle.kex_regexp.specs.declared.sets.SetSoFar.{SetSoFar}
use Rattle.kex_regexp.specs.declared.wait.Wait.{Wait}
use Rattle.kex_regexp.specs.declared.wait.Wait.TheVariants as waits
use Rattle.kex_regexp.specs.Grammar.{is_plain, Member, Item, Set, Postfix, Regex, Last, Or, Branch, Empty, Then, Once, Turns, item, postfix}
use Rattle.kex_regexp.specs.Breaks.{Break, BadCount, BadSet, OverLimit, break_if, is_bad_set, regex_breaks, piece_breaks}
use Rattle.kex_regexp.specs.Machine.{SetPhase, EscapeStep, EscapeOn, EscapeRead, EscapeWrong, escape_step, CountStep, CountOn, CountRead, CountWrong, count_step, SetStep, SetOn, SetRead, SetWrong, set_step, Entry, Mark, Ended, Read, Mode, Ready, After, Turned, InEscape, InSet, InCount, State, entries, entry, bytes_read, take_pieces, take_branches, take_regex, after_group, end_branch, begin_piece, after_item, after_turns, on_escape, on_set, on_count, step_in, step, whole_regex, finish, finish_in}
use Rattle.kex_regexp.specs.Holding.{HasMembers, IsSetIn, ShowsCountStep, ShowsMode, ShowsState}
use Rattle.kex_regexp.specs.Outcomes.{are_bad, count_outcome}
use Rattle.kex_regexp.specs.Notes.{lesser, least_from, marks, mode_breaks, state_breaks, entries_breaks, entry_breaks, nesting_breaks, set_breaks, count_breaks, byte_breaks, is_after, is_bad_set_so_far, count_break, nesting_break, byte_break, next_depth, depth_after, lesser_of}
use Rattle.kex_regexp.proofs.Sound.{by_test}
use Rattle.kex_regexp.proofs.Complete.{apart, cond_yes, cond_no}
use Rattle.kex_regexp.proofs.CappedCounts.{bad_bounds}
use Rattle.kex_regexp.proofs.Members.{NegatedIs, bad_set, step_negated}
use Rattle.kex_regexp.proofs.Refinement.{count_refines}
use Rattle.kex_regexp.proofs.ShownSteps.{ready_place, after_place, turned_place}
use Rattle.kex_regexp.proofs.EntryBreaks.{with_regex, regex_break, place, level, BreaksGo, step_breaks}

abbrev pub listed : Option Break → List Break
listed None = []
listed (Some b) = b ∷ []

pub listed_break_if : (t : Bool) (b : Break) → listed (cond t (Some b) None) ≡ break_if t b
listed_break_if true b = refl
listed_break_if false b = refl

-- ---- counts

pub count_notes : (at : ℕ) (o : CountOutcome) (t : CountStep) → ShowsCountStep o t → listed (count_break o at) ≡ count_breaks at t
unfolding ShowsCountStep count_break count_breaks
count_notes at (outcomes.On c) (CountOn d) s = refl
count_notes at (outcomes.Read b) (CountRead p) s = listed_break_if (are_bad b) (BadCount at) ∙ ap (λ (t : Bool). break_if t (BadCount at)) (bad_bounds b p s)
count_notes at outcomes.Wrong CountWrong s = refl
count_notes at _ _ s = absurd s

-- ---- sets

-- after a set a postfix is waited for, and within a set it isn't
pub waits_behind : (nodes : List Node) (at : ℕ) (w : Wait) (i : Item) → ShowsMode nodes at w (After i) → is_after w ≡ true
unfolding ShowsMode
waits_behind nodes at waits.Ready i s = absurd s
waits_behind nodes at (waits.After part) i s = refl
waits_behind nodes at (waits.Turned r) i s = absurd s
waits_behind nodes at (waits.InEscape e from) i s = absurd s
waits_behind nodes at (waits.InSet n e p from) i s = absurd s
waits_behind nodes at (waits.InCount part c brace) i s = absurd s

pub waits_within : (nodes : List Node) (at : ℕ) (w : Wait) (n : Bool) (ms : List Member) (q : SetPhase) → ShowsMode nodes at w (InSet n ms q) → is_after w ≡ false
unfolding ShowsMode
waits_within nodes at waits.Ready n ms q s = absurd s
waits_within nodes at (waits.After part) n ms q s = absurd s
waits_within nodes at (waits.Turned r) n ms q s = absurd s
waits_within nodes at (waits.InEscape e from) n ms q s = refl
waits_within nodes at (waits.InSet k e p from) n ms q s = refl
waits_within nodes at (waits.InCount part c brace) n ms q s = refl

pub set_notes : (nodes : List Node) (here at : ℕ) (next : Wait) (set : SetSoFar) (k : Bool) (es : List Entry) (t : SetStep) (s : State) → on_set es t ≡ Some s → NegatedIs k t → ShowsMode nodes here next s.mode → IsSetIn set s.mode → listed (cond (is_after next && is_bad_set_so_far set k) (Some (BadSet at)) None) ≡ set_breaks at t
unfolding on_set NegatedIs set_breaks IsSetIn
set_notes nodes here at next set k es (SetOn n ms p) s e neg sh i =
    let m : s.mode ≡ InSet n ms p = cc in
    ap (λ (x : Bool). listed (cond (x && is_bad_set_so_far set k) (Some (BadSet at)) None)) (waits_within nodes here next n ms p (subst (ShowsMode nodes here next) m sh))
set_notes nodes here at next set k es (SetRead n ms) s e neg sh i =
    let m : s.mode ≡ After (Set n ms) = cc in
    let has : HasMembers set ms = subst (IsSetIn set) m i in
    ap (λ (x : Bool). listed (cond (x && is_bad_set_so_far set k) (Some (BadSet at)) None)) (waits_behind nodes here next (Set n ms) (subst (ShowsMode nodes here next) m sh))
    ∙ listed_break_if (is_bad_set_so_far set k) (BadSet at) ∙ ap (λ (x : Bool). break_if x (BadSet at)) (bad_set set k ms has) ∙ ap (λ (x : Bool). break_if (is_bad_set x ms) (BadSet at)) (sym neg)
set_notes nodes here at next set k es SetWrong s e neg sh i = absurd cc

-- ---- parentheses

pub break_if_and : (t u : Bool) (b : Break) → break_if (t && u) b ≡ cond t (break_if u b) []
break_if_and true u b = refl
break_if_and false u b = refl

pub open_notes : (at d b : ℕ) → listed (nesting_break d at b) ≡ nesting_breaks at d b
unfolding nesting_break nesting_breaks
open_notes at d b = listed_break_if ((b == 40) && (d == 200)) (OverLimit at) ∙ break_if_and (b == 40) (d == 200) (OverLimit at)

-- ---- whatever is waited for

pub notes_are : (nodes more : List Node) (at here place d b : ℕ) (w next : Wait) (set : SetSoFar) (m : Mode) (es : List Entry) (t : State) → step_in m es b ≡ Some t → ShowsMode nodes at w m → ShowsMode more here next t.mode → IsSetIn set t.mode → (m ≡ Ready → place ≡ at) → ((i : Item) → m ≡ After i → place ≡ at + length (item i)) → ((i : Item) (p : Postfix) → m ≡ Turned i p → place ≡ at + length (item i ++ postfix p)) → listed (byte_break w next set d place b) ≡ byte_breaks at d m b
unfolding ShowsMode byte_break byte_breaks step_in
notes_are nodes more at here place d b waits.Ready next set Ready es t e s sh i r f g = open_notes place d b ∙ ap (λ (k : ℕ). nesting_breaks k d b) (r refl)
notes_are nodes more at here place d b (waits.After part) next set (After j) es t e s sh i r f g = open_notes place d b ∙ ap (λ (k : ℕ). nesting_breaks k d b) (f j refl)
notes_are nodes more at here place d b (waits.Turned x) next set (Turned j p) es t e s sh i r f g = open_notes place d b ∙ ap (λ (k : ℕ). nesting_breaks k d b) (g j p refl)
notes_are nodes more at here place d b (waits.InEscape x from) next set (InEscape y) es t e s sh i r f g = refl
notes_are nodes more at here place d b (waits.InSet n x p from) next set (InSet k ms q) es t e s sh i r f g =
    ap (λ (y : ℕ). listed (cond (is_after next && is_bad_set_so_far set n) (Some (BadSet y)) None)) s.3
    ∙ set_notes more here at next set n es (set_step k ms q b) t e (subst (λ (y : Bool). NegatedIs y (set_step k ms q b)) (sym s.0) (step_negated k ms q b)) sh i
notes_are nodes more at here place d b (waits.InCount part c brace) next set (InCount j x) es t e s sh i r f g =
    count_notes brace (count_outcome c b) (count_step x b) (count_refines c x b s.2) ∙ ap (λ (y : ℕ). count_breaks y (count_step x b)) s.3
notes_are nodes more at here place d b _ next set _ es t e s sh i r f g = absurd s

-- ---- depth

pub pieces_marks : (es : List Entry) (b : Branch) → marks (take_pieces es b).1 ≡ marks es
unfolding take_pieces marks
pieces_marks [] b = refl
pieces_marks (Mark ∷ es) b = refl
pieces_marks (Ended a ∷ es) b = refl
pieces_marks (Read p ∷ es) b = pieces_marks es (Then p b)

pub branches_marks : (es : List Entry) (r : Regex) → marks (take_branches es r).1 ≡ marks es
unfolding take_branches marks
branches_marks [] r = refl
branches_marks (Mark ∷ es) r = refl
branches_marks (Ended a ∷ es) r = branches_marks es (Or a r)
branches_marks (Read p ∷ es) r = refl

pub regex_marks : (es : List Entry) → marks (take_regex es).1 ≡ marks es
unfolding take_regex
regex_marks es = branches_marks (take_pieces es Empty).1 (Last (take_pieces es Empty).0) ∙ pieces_marks es Empty

unfoldable pub DepthGoes : ℕ → ℕ → Option State → Type 0
DepthGoes d0 d None = Unit {0}
DepthGoes d0 d (Some s) = d ≡ d0 + marks s.entries

pub no_paren : (d b n : ℕ) → (b == n) ≡ true → (n == 40) ≡ false → (n == 41) ≡ false → depth_after d b ≡ d
unfolding depth_after
no_paren d b n e k j = ap (λ (x : ℕ). depth_after d x) (eqb-true b n e) ∙ cond_no (n == 40) _ _ k ∙ cond_no (n == 41) _ _ j

pub plain_depth : (d b : ℕ) → is_plain b ≡ true → depth_after d b ≡ d
unfolding depth_after is_plain
plain_depth d b h = cond_no (b == 40) _ _ (apart is_plain b 40 h refl) ∙ cond_no (b == 41) _ _ (apart is_plain b 41 h refl)

pub open_depth : (d b : ℕ) → (b == 40) ≡ true → depth_after d b ≡ d + 1
unfolding depth_after
open_depth d b e = cond_yes (b == 40) _ _ e

pub depth_41 : (d : ℕ) → depth_after d 41 ≡ d - 1
unfolding depth_after
depth_41 d = refl

pub close_depth : (d b : ℕ) → (b == 41) ≡ true → depth_after d b ≡ d - 1
close_depth d b e = ap (λ (x : ℕ). depth_after d x) (eqb-true b 41 e) ∙ depth_41 d

pub closes_depth : (d0 d : ℕ) (r : Regex) (es : List Entry) → d ≡ d0 + marks es → DepthGoes d0 (d - 1) (after_group (r, es))
unfolding after_group DepthGoes marks
closes_depth d0 d r [] e = tt
closes_depth d0 d r (Mark ∷ es) e = omega (arith, e)
closes_depth d0 d r (Ended a ∷ es) e = tt
closes_depth d0 d r (Read p ∷ es) e = tt

pub begin_depth : (d0 d : ℕ) (es : List Entry) (b : ℕ) → d ≡ d0 + marks es → DepthGoes d0 (depth_after d b) (begin_piece es b)
unfolding begin_piece DepthGoes marks end_branch
begin_depth d0 d es b h =
    let P = DepthGoes d0 (depth_after d b) in
    by_test P (is_plain b) _ _ (λ e. plain_depth d b e ∙ h) (λ _.
    by_test P (b == 92) _ _ (λ e. no_paren d b 92 e refl refl ∙ h) (λ _.
    by_test P (b == 46) _ _ (λ e. no_paren d b 46 e refl refl ∙ h) (λ _.
    by_test P (b == 91) _ _ (λ e. no_paren d b 91 e refl refl ∙ h) (λ _.
    by_test P (b == 40) _ _ (λ e. omega (arith, open_depth d b e, h)) (λ _.
    by_test P (b == 124) _ _ (λ e. no_paren d b 124 e refl refl ∙ h ∙ ap (λ (x : ℕ). d0 + x) (sym (pieces_marks es Empty))) (λ _.
    by_test P (b == 41) _ _ (λ e. subst (λ (x : ℕ). DepthGoes d0 x (after_group (take_regex es))) (sym (close_depth d b e)) (closes_depth d0 d (take_regex es).0 (take_regex es).1 (h ∙ ap (λ (x : ℕ). d0 + x) (sym (regex_marks es))))) (λ _. tt)))))))

pub after_depth : (d0 d : ℕ) (i : Item) (es : List Entry) (b : ℕ) → d ≡ d0 + marks es → DepthGoes d0 (depth_after d b) (after_item i es b)
unfolding after_item DepthGoes marks
after_depth d0 d i es b h =
    let P = DepthGoes d0 (depth_after d b) in
    by_test P (b == 42) _ _ (λ e. no_paren d b 42 e refl refl ∙ h) (λ _.
    by_test P (b == 43) _ _ (λ e. no_paren d b 43 e refl refl ∙ h) (λ _.
    by_test P (b == 63) _ _ (λ e. no_paren d b 63 e refl refl ∙ h) (λ _.
    by_test P (b == 123) _ _ (λ e. no_paren d b 123 e refl refl ∙ h) (λ _. begin_depth d0 d (Read (Once i) ∷ es) b h))))

pub turns_depth : (d0 d : ℕ) (i : Item) (p : Postfix) (es : List Entry) (b : ℕ) → d ≡ d0 + marks es → DepthGoes d0 (depth_after d b) (after_turns i p es b)
unfolding after_turns DepthGoes marks
turns_depth d0 d i p es b h = by_test (DepthGoes d0 (depth_after d b)) (b == 63) _ _ (λ e. no_paren d b 63 e refl refl ∙ h) (λ _. begin_depth d0 d (Read (Turns i p false) ∷ es) b h)

pub escape_depth : (d0 d : ℕ) (es : List Entry) (t : EscapeStep) → d ≡ d0 + marks es → DepthGoes d0 d (on_escape es t)
unfolding on_escape DepthGoes
escape_depth d0 d es (EscapeOn e) h = h
escape_depth d0 d es (EscapeRead x) h = h
escape_depth d0 d es EscapeWrong h = tt

pub set_depth : (d0 d : ℕ) (es : List Entry) (t : SetStep) → d ≡ d0 + marks es → DepthGoes d0 d (on_set es t)
unfolding on_set DepthGoes
set_depth d0 d es (SetOn n ms p) h = h
set_depth d0 d es (SetRead n ms) h = h
set_depth d0 d es SetWrong h = tt

pub count_depth : (d0 d : ℕ) (i : Item) (es : List Entry) (t : CountStep) → d ≡ d0 + marks es → DepthGoes d0 d (on_count i es t)
unfolding on_count DepthGoes marks
count_depth d0 d i es (CountOn c) h = h
count_depth d0 d i es (CountRead p) h = h
count_depth d0 d i es CountWrong h = tt

pub depths_go : (nodes : List Node) (at d0 d b : ℕ) (w : Wait) (m : Mode) (es : List Entry) → ShowsMode nodes at w m → d ≡ d0 + marks es → DepthGoes d0 (next_depth w d b) (step_in m es b)
unfolding ShowsMode next_depth step_in depth_after
depths_go nodes at d0 d b waits.Ready Ready es s h = begin_depth d0 d es b h
depths_go nodes at d0 d b (waits.After part) (After i) es s h = after_depth d0 d i es b h
depths_go nodes at d0 d b (waits.Turned r) (Turned i p) es s h = turns_depth d0 d i p es b h
depths_go nodes at d0 d b (waits.InEscape e from) (InEscape g) es s h = escape_depth d0 d es (escape_step g b) h
depths_go nodes at d0 d b (waits.InSet n e p from) (InSet k ms q) es s h = set_depth d0 d es (set_step k ms q b) h
depths_go nodes at d0 d b (waits.InCount part c brace) (InCount i e) es s h = count_depth d0 d i es (count_step e b) h
depths_go nodes at d0 d b _ _ es s h = absurd s

pub marks_below : (es : List Entry) → marks es ≤ length (entries es)
unfolding marks entries entry
marks_below [] = omega arith
marks_below (Mark ∷ es) = omega (arith, marks_below es, length-append (entries es) (40 ∷ []))
marks_below (Ended b ∷ es) = omega (arith, marks_below es, length-append (entries es) (Rattle.kex_regexp.specs.Grammar.branch b ++ 124 ∷ []))
marks_below (Read p ∷ es) = omega (arith, marks_below es, length-append (entries es) (Rattle.kex_regexp.specs.Grammar.piece p))

-- ---- the least

pub least_append : (o : Option Break) (a b : List Break) → least_from o (a ++ b) ≡ least_from (least_from o a) b
unfolding least_from
least_append o [] b = refl
least_append o (x ∷ a) b = least_append (lesser o x) a b

pub least_listed : (o n : Option Break) → lesser_of o n ≡ least_from o (listed n)
unfolding lesser_of least_from
least_listed o None = refl
least_listed o (Some b) = refl

pub some_stays : (a : Break) (bs : List Break) → (c : Break) × (least_from (Some a) bs ≡ Some c)
unfolding least_from
some_stays a [] = (a, refl)
some_stays a (b ∷ bs) = by_test (λ (o : Option Break). (c : Break) × (least_from o bs ≡ Some c)) (Rattle.kex_regexp.specs.Breaks.comes_before b a) _ _ (λ _. some_stays b bs) (λ _. some_stays a bs)

pub none_least : (bs : List Break) → None ≡ least_from None bs → bs ≡ []
unfolding least_from
none_least [] e = refl
none_least (b ∷ bs) e = let s = some_stays b bs in absurd (cc)

-- ---- one turn of the loop

pub went_breaks : (base depth : ℕ) (w : List Break) (o : Option State) (t : State) → o ≡ Some t → BreaksGo base depth w o → state_breaks base depth t ≡ w
unfolding BreaksGo
went_breaks base depth w o t e g = subst (λ (x : Option State). BreaksGo base depth w x) e g

pub went_depth : (d0 d : ℕ) (o : Option State) (t : State) → o ≡ Some t → DepthGoes d0 d o → d ≡ d0 + marks t.entries
unfolding DepthGoes
went_depth d0 d o t e g = subst (λ (x : Option State). DepthGoes d0 d x) e g

pub turn_depth : (nodes : List Node) (at d0 nested b : ℕ) (fs : List Construct) (w : Wait) (s t : State) → ShowsState nodes at fs w s → step s b ≡ Some t → nested ≡ d0 + marks s.entries → next_depth w nested b ≡ d0 + marks t.entries
unfolding step
turn_depth nodes at d0 nested b fs w s t st e h = went_depth d0 (next_depth w nested b) (step s b) t e (depths_go nodes (at + length (entries s.entries)) d0 nested b w s.mode s.entries st.mode h)

pub step_breaks_here : (at d0 : ℕ) (s : State) (b : ℕ) → BreaksGo at d0 ((entries_breaks at d0 s.entries ++ mode_breaks s.mode (at + length (entries s.entries)) (d0 + marks s.entries)) ++ byte_breaks (at + length (entries s.entries)) (d0 + marks s.entries) s.mode b) (step_in s.mode s.entries b)
unfolding place level
step_breaks_here at d0 s b = step_breaks at d0 s.mode s.entries b

pub turn_least : (nodes more : List Node) (at d0 nested place b : ℕ) (fs gs : List Construct) (w next : Wait) (set : SetSoFar) (s t : State) (least new : Option Break) → ShowsState nodes at fs w s → step s b ≡ Some t → ShowsState more at gs next t → IsSetIn set t.mode → place ≡ at + length (bytes_read s) → nested ≡ d0 + marks s.entries → least ≡ least_from None (state_breaks at d0 s) → new ≡ byte_break w next set nested place b → lesser_of least new ≡ least_from None (state_breaks at d0 t)
unfolding step state_breaks
turn_least nodes more at d0 nested place b fs gs w next set s t least new st e st' i p h l n =
    let here = at + length (entries s.entries) in
    let notes : listed (byte_break w next set nested place b) ≡ byte_breaks here nested s.mode b = notes_are nodes more here (at + length (entries t.entries)) place nested b w next set s.mode s.entries t e st.mode st'.mode i (λ m. ready_place s at place m p) (λ j m. after_place s at place here j m refl p) (λ j q m. turned_place s at place here j q m refl p) in
    let level : byte_breaks here nested s.mode b ≡ byte_breaks here (d0 + marks s.entries) s.mode b = ap (λ (x : ℕ). byte_breaks here x s.mode b) h in
    let went = went_breaks at d0 _ (step s b) t e (step_breaks_here at d0 s b) in
    least_listed least new ∙ ap (λ (x : Option Break). least_from least (listed x)) n ∙ ap (least_from least) (notes ∙ level)
    ∙ ap (λ (x : Option Break). least_from x (byte_breaks here (d0 + marks s.entries) s.mode b)) l
    ∙ sym (least_append None (entries_breaks at d0 s.entries ++ mode_breaks s.mode here (d0 + marks s.entries)) (byte_breaks here (d0 + marks s.entries) s.mode b))
    ∙ ap (least_from None) (sym went)

pub open_below : (d0 nested at i n : ℕ) (s : State) (bytes : List ℕ) → nested ≡ d0 + marks s.entries → length (bytes_read s) ≡ i → i < n → d0 < 2 ^ 32 → n < 2 ^ 32 → nested + 1 < 2 ^ 64
unfolding bytes_read
open_below d0 nested at i n s bytes h l lt r q = omega (arith, h, l, lt, r, q, marks_below s.entries, length-append (entries s.entries) (Rattle.kex_regexp.specs.Machine.mode s.mode))

-- ---- the end

pub whole_breaks : (base depth : ℕ) (q : Regex) (es : List Entry) (r : Regex) → whole_regex (q, es) ≡ Some r → with_regex base depth es q ≡ regex_breaks r base depth
unfolding whole_regex with_regex entries_breaks entries marks
whole_breaks base depth q [] r e =
    let same : q ≡ r = cc in
    let a : base + 0 ≡ base = omega arith in
    let d : depth + 0 ≡ depth = omega arith in
    ap (λ (x : ℕ). regex_breaks q x (depth + 0)) a ∙ ap (λ (x : ℕ). regex_breaks q base x) d ∙ ap (λ (x : Regex). regex_breaks x base depth) same
whole_breaks base depth q (Mark ∷ es) r e = absurd cc
whole_breaks base depth q (Ended b ∷ es) r e = absurd cc
whole_breaks base depth q (Read p ∷ es) r e = absurd cc

pub finish_breaks : (base depth : ℕ) (m : Mode) (es : List Entry) (r : Regex) → finish_in m es ≡ Some r → entries_breaks base depth es ++ mode_breaks m (base + length (entries es)) (depth + marks es) ≡ regex_breaks r base depth
unfolding finish_in mode_breaks entries_breaks entry_breaks piece_breaks
finish_breaks base depth Ready es r e = append-nil (entries_breaks base depth es) ∙ sym (regex_break base depth es) ∙ whole_breaks base depth (take_regex es).0 (take_regex es).1 r e
finish_breaks base depth (After i) es r e = sym (regex_break base depth (Read (Once i) ∷ es)) ∙ whole_breaks base depth (take_regex (Read (Once i) ∷ es)).0 (take_regex (Read (Once i) ∷ es)).1 r e
finish_breaks base depth (Turned i p) es r e = sym (regex_break base depth (Read (Turns i p false) ∷ es)) ∙ whole_breaks base depth (take_regex (Read (Turns i p false) ∷ es)).0 (take_regex (Read (Turns i p false) ∷ es)).1 r e
finish_breaks base depth (InEscape x) es r e = absurd cc
finish_breaks base depth (InSet n ms p) es r e = absurd cc
finish_breaks base depth (InCount i c) es r e = absurd cc

pub finished_breaks : (base depth : ℕ) (s : State) (r : Regex) → finish s ≡ Some r → state_breaks base depth s ≡ regex_breaks r base depth
unfolding finish state_breaks
finished_breaks base depth s r e = finish_breaks base depth s.mode s.entries r e

pub least_of : (base depth : ℕ) (s : State) (r : Regex) (o : Option Break) → finish s ≡ Some r → o ≡ least_from None (state_breaks base depth s) → o ≡ least_from None (regex_breaks r base depth)
least_of base depth s r o e l = l ∙ ap (least_from None) (finished_breaks base depth s r e)

pub start_least : (base depth : ℕ) → None ≡ least_from None (state_breaks base depth (record { mode = Ready; entries = [] }))
unfolding least_from state_breaks entries_breaks mode_breaks
start_least base depth = refl

pub start_depth : (depth : ℕ) → depth ≡ depth + marks []
unfolding marks
start_depth depth = omega arith
