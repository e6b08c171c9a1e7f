-- What each step leaves shows what the machine makes.
use Rattle.std.proofs.Common.{◌≡◌, Bool, true, false, ℕ, length-append, ◌+◌, List, [], ◌∷◌, ◌++◌, length, Option, Some, None, Result, Ok, Err, refl, sym, ap, ◌∙◌, subst, arith}
use Rattle.std.specs.Prelude.{reverse, IfOk, IfErr, IsErrAnd, ◌==◌, not}
use Rattle.std.proofs.lemmas.Bool.{ne_eqb}
use Rattle.kex_byteset.specs.Sets.{HasExactly, has}
use Rattle.kex_byteset.proofs.Flags.{in_words}
use Rattle.kex_model.specs.declared.program.Kind.TheVariants as kinds
use Rattle.kex_model.specs.declared.program.Node.{Node}
use Rattle.kex_regexp.specs.declared.constructs.Construct.{Construct}
use Rattle.kex_regexp.specs.declared.constructs.Construct.TheVariants as constructs
use Rattle.kex_regexp.specs.declared.constructs.Placed.{Placed}
use Rattle.kex_regexp.specs.declared.wait.Wait.{Wait}
use Rattle.kex_regexp.specs.declared.wait.Wait.TheVariants as waits
use Rattle.kex_regexp.specs.declared.escapes.EscapeOutcome.TheVariants as escapes
use Rattle.kex_regexp.specs.declared.sets.SetPart.{SetPart}
use Rattle.kex_regexp.specs.declared.sets.SetPart.TheVariants as parts
use Rattle.kex_regexp.specs.declared.sets.SetOutcome.TheVariants as sets
use Rattle.kex_regexp.specs.declared.sets.SetSoFar.{SetSoFar}
use Rattle.kex_regexp.specs.declared.counts.Bounds.{Bounds}
use Rattle.kex_regexp.specs.declared.counts.Count.{Count}
use Rattle.kex_regexp.specs.declared.counts.Count.TheVariants as counts
use Rattle.kex_regexp.specs.declared.counts.CountOutcome.TheVariants as outcomes
use Rattle.kex_regexp.specs.declared.wait.Repetition.{Repetition}
use Rattle.kex_regexp.specs.declared.wait.StepFault.{StepFault}
use Rattle.kex_regexp.specs.declared.wait.StepFault.TheVariants as faults
use Rattle.kex_regexp.specs.Grammar.{is_plain, Member, Postfix, ZeroOrMore, OneOrMore, Optional, Regex, Branch, Empty, Once, Turns, Item, Plain, Escape, Escaped, Dot, Set, Group, piece, item, postfix, lazy_mark}
use Rattle.kex_regexp.specs.Postfixes.{high, low}
use Rattle.kex_regexp.specs.Values.{escaped_byte, membership, in_set}
use Rattle.kex_regexp.specs.Shown.{IsNode, Adds}
use Rattle.kex_regexp.specs.Machine.{SetPhase, Escaping, Begun, EscapeStep, EscapeOn, EscapeRead, EscapeWrong, SetStep, SetOn, SetRead, SetWrong, AtStart, Counting, Opened, CountStep, CountOn, CountRead, CountWrong, Entry, Mark, Ended, Read, Mode, Ready, After, Turned, InEscape, InSet, InCount, State, entries, entry, take_pieces, take_regex, goes, after_group, end_branch, begin_piece, after_item, after_turns, on_escape, on_set, on_count, step_in, step, bytes_read, mode, escape_step, set_step, count_step}
use Rattle.kex_regexp.specs.Holding.{HasMembers, HoldsBounds, IsSetAfter, IsSetIn, IsTurns, HoldsRegex, HoldsPiece, HoldsItem, ConstructsShow, BranchOn, RegexOn, Steps, ShowsMode, ShowsEscape, ShowsPart, ShowsSet, ShowsCount, ShowsCountStep, is_empty}
use Rattle.kex_regexp.proofs.Complete.{cond_no}
use Rattle.kex_regexp.proofs.Stacks.{HoldsItem-more, ConstructsShow-more, reverse_push}

pub memory_steps : (nodes : List Node) (base : ℕ) (fs : List Construct) (e : StepFault) (o : Option State) → e ≡ faults.Memory → Steps nodes base fs (Err e) o
unfolding Steps
memory_steps nodes base fs e o m = subst (λ (x : StepFault). Steps nodes base fs (Err x) o) (sym m) tt

pub memory_exit : (nodes : List Node) (base : ℕ) (fs : List Construct) (r : Result Wait StepFault) → IsErrAnd r (λ e. e ≡ faults.Memory) → (o : Option State) → Steps nodes base fs r o
memory_exit nodes base fs (Ok w) e o = absurd e
memory_exit nodes base fs (Err f) e o = memory_steps nodes base fs f o e

pub wrong_steps : (nodes : List Node) (base : ℕ) (fs : List Construct) → Steps nodes base fs (Err faults.Wrong) None
unfolding Steps
wrong_steps nodes base fs = tt

-- ---- a push

pub push_shows : (nodes : List Node) (base : ℕ) (old new : List Construct) (f : Construct) (es : List Entry) → new ≡ old ++ f ∷ [] → ConstructsShow nodes base (f ∷ reverse old) es → ConstructsShow nodes base (reverse new) es
push_shows nodes base old new f es e h = subst (λ (x : List Construct). ConstructsShow nodes base x es) (sym (reverse_push new old f e)) h

pub ready_steps : (nodes : List Node) (base : ℕ) (fs : List Construct) (es : List Entry) → ConstructsShow nodes base (reverse fs) es → Steps nodes base fs (Ok waits.Ready) (goes Ready es)
unfolding Steps ShowsMode
ready_steps nodes base fs es h = record { below = h; mode = tt }

pub bar_steps : (nodes : List Node) (base : ℕ) (fs gs : List Construct) (part : Placed) (t : Branch × List Entry) → BranchOn nodes base fs part t → gs ≡ fs ++ constructs.Ended part.node part.at ∷ [] → Steps nodes base gs (Ok waits.Ready) (end_branch t)
unfolding end_branch ConstructsShow
bar_steps nodes base fs gs part t b e = ready_steps nodes base gs (Ended t.0 ∷ t.1) (push_shows nodes base fs gs (constructs.Ended part.node part.at) (Ended t.0 ∷ t.1) e (b.at, b.shows, b.below))

pub item_steps : (nodes : List Node) (base : ℕ) (fs : List Construct) (es : List Entry) (i : Item) (part : Placed) → ConstructsShow nodes base (reverse fs) es → part.at ≡ base + length (entries es) → HoldsItem i nodes part.node part.at → Steps nodes base fs (Ok (waits.After part)) (goes (After i) es)
unfolding Steps ShowsMode
item_steps nodes base fs es i part h e s = record { below = h; mode = (e, subst (λ (x : ℕ). HoldsItem i nodes part.node x) e s) }

-- ---- a parenthesis that closes

pub record MarkOn (nodes : List Node) (base : ℕ) (at : ℕ) (fs : List Construct) (es : List Entry) : Type 0 where
  pub rest : List Entry
  pub is : es ≡ Mark ∷ rest
  pub place : at ≡ base + length (entries rest)
  pub below : ConstructsShow nodes base fs rest

pub mark_on : (nodes : List Node) (base at : ℕ) (fs : List Construct) (es : List Entry) → ConstructsShow nodes base (constructs.Mark at ∷ fs) es → MarkOn nodes base at fs es
unfolding ConstructsShow
mark_on nodes base at fs [] h = absurd h
mark_on nodes base at fs (Mark ∷ es) h = record { rest = es; is = refl; place = h.0; below = h.1 }
mark_on nodes base at fs (Ended b ∷ es) h = absurd h
mark_on nodes base at fs (Read p ∷ es) h = absurd h

pub closes : (t : Regex × List Entry) (rest : List Entry) → t.1 ≡ Mark ∷ rest → after_group t ≡ goes (After (Group t.0)) rest
unfolding after_group
closes t rest e = ap (λ (x : List Entry). after_group (t.0, x)) e

pub unclosed : (nodes : List Node) (base : ℕ) (fs : List Construct) (r : Regex) (es : List Entry) → ConstructsShow nodes base fs es → ((at : ℕ) (gs : List Construct) → fs ≡ constructs.Mark at ∷ gs → ⊥) → after_group (r, es) ≡ None
unfolding ConstructsShow after_group
unclosed nodes base fs r [] h none_on = refl
unclosed nodes base fs r (Ended b ∷ es) h none_on = refl
unclosed nodes base fs r (Read p ∷ es) h none_on = refl
unclosed nodes base [] r (Mark ∷ es) h none_on = absurd h
unclosed nodes base (constructs.Mark at ∷ fs) r (Mark ∷ es) h none_on = absurd (none_on at fs refl)
unclosed nodes base (constructs.Ended n at ∷ fs) r (Mark ∷ es) h none_on = absurd h
unclosed nodes base (constructs.Piece n at ∷ fs) r (Mark ∷ es) h none_on = absurd h

pub close_steps : (nodes : List Node) (base : ℕ) (old fs : List Construct) (part : Placed) (from : ℕ) (t : Regex × List Entry) → RegexOn nodes base old part t → old ≡ fs ++ constructs.Mark from ∷ [] → Steps nodes base fs (Ok (waits.After (record { node = part.node; at = from }))) (after_group t)
unfolding entries entry HoldsItem
close_steps nodes base old fs part from t r e =
    let m = mark_on nodes base from (reverse fs) t.1 (subst (λ (x : List Construct). ConstructsShow nodes base x t.1) (reverse_push old fs (constructs.Mark from) e) r.below) in
    let at : part.at ≡ from + 1 = omega (arith, r.at, m.place, ap (λ (x : List Entry). length (entries x)) m.is, length-append (entries m.rest) (40 ∷ [])) in
    subst (λ (x : Option State). Steps nodes base fs (Ok (waits.After (record { node = part.node; at = from }))) x) (sym (closes t m.rest m.is))
    (item_steps nodes base fs m.rest (Group t.0) (record { node = part.node; at = from }) m.below m.place (subst (λ (x : ℕ). HoldsRegex t.0 nodes part.node x) at r.shows))

-- no mark on top: nothing is closed
pub unclosed_steps : (nodes : List Node) (base : ℕ) (old gs : List Construct) (part : Placed) (t : Regex × List Entry) → RegexOn nodes base old part t → ((at : ℕ) (fs : List Construct) → reverse old ≡ constructs.Mark at ∷ fs → ⊥) → Steps nodes base gs (Err faults.Wrong) (after_group t)
unclosed_steps nodes base old gs part t r none_on = subst (λ (x : Option State). Steps nodes base gs (Err faults.Wrong) x) (sym (unclosed nodes base (reverse old) t.0 t.1 r.below none_on)) (wrong_steps nodes base gs)

-- ---- pieces with a postfix

pub turns_shows : (nodes more : List Node) (base : ℕ) (fs gs : List Construct) (es : List Entry) (i : Item) (p : Postfix) (lazy : Bool) (r : Repetition) (n : ℕ) → ConstructsShow nodes base (reverse fs) es → r.item.at ≡ base + length (entries es) → HoldsItem i nodes r.item.node r.item.at → Adds nodes more → IsTurns p lazy more n r.item.node r.item.at → gs ≡ fs ++ constructs.Piece n r.item.at ∷ [] → ConstructsShow more base (reverse gs) (Read (Turns i p lazy) ∷ es)
unfolding ConstructsShow HoldsPiece
turns_shows nodes more base fs gs es i p lazy r n below at shows k turns ge =
    push_shows more base fs gs (constructs.Piece n r.item.at) (Read (Turns i p lazy) ∷ es) ge
    (at, (r.item.node, turns, HoldsItem-more i nodes more r.item.node r.item.at k shows), ConstructsShow-more nodes more base (reverse fs) es k below)

-- a leaf
pub leaf_steps : (nodes more : List Node) (base : ℕ) (fs : List Construct) (es : List Entry) (i : Item) (s : List Bool) (at : ℕ) (r : Result Wait StepFault) → Adds nodes more → ConstructsShow nodes base (reverse fs) es → at ≡ base + length (entries es) → IfOk r (λ w. (n : ℕ) × (w ≡ waits.After (record { node = n; at = at })) × IsNode more n (kinds.Class s) at) → IfErr r (λ e. e ≡ faults.Memory) → ((n : ℕ) → IsNode more n (kinds.Class s) at → HoldsItem i more n at) → Steps more base fs r (goes (After i) es)
leaf_steps nodes more base fs es i s at (Err e) k below a ok err shows = memory_steps more base fs e _ err
leaf_steps nodes more base fs es i s at (Ok w) k below a ok err shows =
    subst (λ (x : Wait). Steps more base fs (Ok x) (goes (After i) es)) (sym ok.1)
    (item_steps more base fs es i (record { node = ok.0; at = at }) (ConstructsShow-more nodes more base (reverse fs) es k below) a (shows ok.0 ok.2))

pub plain_item : (more : List Node) (s : List Bool) (b at n : ℕ) → HasExactly s (λ c. c == b) → IsNode more n (kinds.Class s) at → HoldsItem (Plain b) more n at
unfolding HoldsItem
plain_item more s b at n x h = (s, x, h)

pub escaped_item : (more : List Node) (s : List Bool) (e : Escape) (at n : ℕ) → HasExactly s (λ c. c == escaped_byte e) → IsNode more n (kinds.Class s) at → HoldsItem (Escaped e) more n at
unfolding HoldsItem
escaped_item more s e at n x h = (s, x, h)

pub dot_item : (more : List Node) (s t : List Bool) (at n : ℕ) → HasExactly s (λ _. false) → HasExactly t (λ b. not (has s b)) → IsNode more n (kinds.Class t) at → HoldsItem Dot more n at
unfolding HoldsItem
dot_item more s t at n x y h = (t, in_words t (λ b. not (has s b)) (λ b. true) y (λ b below. ap not (x.bytes b below)), h)

pub set_item : (more : List Node) (set : SetSoFar) (s : List Bool) (negated : Bool) (ms : List Member) (at n : ℕ) → HasMembers set ms → HasExactly s (λ b. membership negated (has set.bytes b)) → IsNode more n (kinds.Class s) at → HoldsItem (Set negated ms) more n at
unfolding HoldsItem in_set
set_item more set s negated ms at n m x h = (s, in_words s (λ b. membership negated (has set.bytes b)) (in_set negated ms) x (λ b below. ap (membership negated) (m.bytes.bytes b below)), h)

-- ---- escapes, sets, counts

pub escape_on_steps : (nodes : List Node) (base : ℕ) (fs : List Construct) (es : List Entry) (e : Escaping) (from : ℕ) (t : EscapeStep) → ConstructsShow nodes base (reverse fs) es → from ≡ base + length (entries es) → ShowsEscape (escapes.On e) t → Steps nodes base fs (Ok (waits.InEscape e from)) (on_escape es t)
unfolding on_escape ShowsEscape Steps ShowsMode
escape_on_steps nodes base fs es e from (EscapeOn f) h a s = record { below = h; mode = (s, a) }
escape_on_steps nodes base fs es e from (EscapeRead x) h a s = absurd s
escape_on_steps nodes base fs es e from EscapeWrong h a s = absurd s

pub escape_read_steps : (nodes more : List Node) (base : ℕ) (fs : List Construct) (es : List Entry) (s : List Bool) (b at : ℕ) (t : EscapeStep) (r : Result Wait StepFault) → Adds nodes more → ConstructsShow nodes base (reverse fs) es → at ≡ base + length (entries es) → ShowsEscape (escapes.Read b) t → HasExactly s (λ c. c == b) → IfOk r (λ w. (n : ℕ) × (w ≡ waits.After (record { node = n; at = at })) × IsNode more n (kinds.Class s) at) → IfErr r (λ e. e ≡ faults.Memory) → Steps more base fs r (on_escape es t)
unfolding on_escape ShowsEscape
escape_read_steps nodes more base fs es s b at (EscapeOn f) r k h a e x ok err = absurd e
escape_read_steps nodes more base fs es s b at (EscapeRead y) r k h a e x ok err = leaf_steps nodes more base fs es (Escaped y) s at r k h a ok err (λ n i. escaped_item more s y at n (subst (λ (z : ℕ). HasExactly s (λ c. c == z)) e x) i)
escape_read_steps nodes more base fs es s b at EscapeWrong r k h a e x ok err = absurd e

pub escape_wrong_steps : (nodes : List Node) (base : ℕ) (fs : List Construct) (es : List Entry) (t : EscapeStep) → ShowsEscape escapes.Wrong t → Steps nodes base fs (Err faults.Wrong) (on_escape es t)
unfolding on_escape ShowsEscape
escape_wrong_steps nodes base fs es (EscapeOn f) s = absurd s
escape_wrong_steps nodes base fs es (EscapeRead x) s = absurd s
escape_wrong_steps nodes base fs es EscapeWrong s = wrong_steps nodes base fs

pub set_on_steps : (nodes : List Node) (base : ℕ) (fs : List Construct) (es : List Entry) (n e : Bool) (p : SetPart) (from : ℕ) (t : SetStep) → ConstructsShow nodes base (reverse fs) es → from ≡ base + length (entries es) → ShowsSet (sets.On n e p) t → Steps nodes base fs (Ok (waits.InSet n e p from)) (on_set es t)
unfolding on_set ShowsSet Steps ShowsMode
set_on_steps nodes base fs es n e p from (SetOn m ms q) h a s = record { below = h; mode = (s.0, s.1, s.2, a) }
set_on_steps nodes base fs es n e p from (SetRead m ms) h a s = absurd s
set_on_steps nodes base fs es n e p from SetWrong h a s = absurd s

pub set_read_steps : (nodes more : List Node) (base : ℕ) (fs : List Construct) (es : List Entry) (set : SetSoFar) (s : List Bool) (m : Bool) (at : ℕ) (t : SetStep) (r : Result Wait StepFault) → Adds nodes more → ConstructsShow nodes base (reverse fs) es → at ≡ base + length (entries es) → ShowsSet (sets.Read m) t → IsSetAfter set (on_set es t) → HasExactly s (λ b. membership m (has set.bytes b)) → IfOk r (λ w. (n : ℕ) × (w ≡ waits.After (record { node = n; at = at })) × IsNode more n (kinds.Class s) at) → IfErr r (λ e. e ≡ faults.Memory) → Steps more base fs r (on_set es t)
unfolding on_set ShowsSet IsSetIn
set_read_steps nodes more base fs es set s m at (SetOn n ms q) r k h a e i x ok err = absurd e
set_read_steps nodes more base fs es set s m at (SetRead n ms) r k h a e i x ok err = leaf_steps nodes more base fs es (Set n ms) s at r k h a ok err (λ j y. set_item more set s n ms at j i (subst (λ (z : Bool). HasExactly s (λ b. membership z (has set.bytes b))) e x) y)
set_read_steps nodes more base fs es set s m at SetWrong r k h a e i x ok err = absurd e

pub set_wrong_steps : (nodes : List Node) (base : ℕ) (fs : List Construct) (es : List Entry) (t : SetStep) → ShowsSet sets.Wrong t → Steps nodes base fs (Err faults.Wrong) (on_set es t)
unfolding on_set ShowsSet
set_wrong_steps nodes base fs es (SetOn n ms q) s = absurd s
set_wrong_steps nodes base fs es (SetRead n ms) s = absurd s
set_wrong_steps nodes base fs es SetWrong s = wrong_steps nodes base fs

pub count_on_steps : (nodes : List Node) (base : ℕ) (fs : List Construct) (es : List Entry) (i : Item) (part : Placed) (c : Count) (brace : ℕ) (t : CountStep) → ConstructsShow nodes base (reverse fs) es → part.at ≡ base + length (entries es) → brace ≡ part.at + length (item i) → HoldsItem i nodes part.node part.at → ShowsCountStep (outcomes.On c) t → Steps nodes base fs (Ok (waits.InCount part c brace)) (on_count i es t)
unfolding on_count ShowsCountStep Steps ShowsMode
count_on_steps nodes base fs es i part c brace (CountOn d) h a q x s = record { below = h; mode = (a, subst (λ (y : ℕ). HoldsItem i nodes part.node y) a x, s, omega (arith, q, a)) }
count_on_steps nodes base fs es i part c brace (CountRead p) h a q x s = absurd s
count_on_steps nodes base fs es i part c brace CountWrong h a q x s = absurd s

-- an item with its postfix
pub turned_steps : (nodes : List Node) (base : ℕ) (fs : List Construct) (es : List Entry) (i : Item) (p : Postfix) (r : Repetition) → ConstructsShow nodes base (reverse fs) es → r.item.at ≡ base + length (entries es) → HoldsItem i nodes r.item.node r.item.at → HoldsBounds r.bounds p → Steps nodes base fs (Ok (waits.Turned r)) (goes (Turned i p) es)
unfolding Steps ShowsMode
turned_steps nodes base fs es i p r h a x t = record { below = h; mode = (a, subst (λ (y : ℕ). HoldsItem i nodes r.item.node y) a x, t) }

-- the item begins to take turns
pub begins_turns : (nodes : List Node) (base : ℕ) (fs : List Construct) (es : List Entry) (i : Item) (p : Postfix) (r : Repetition) (item : Placed) (b : Bounds) → r ≡ record { item = item; bounds = b } → ConstructsShow nodes base (reverse fs) es → item.at ≡ base + length (entries es) → HoldsItem i nodes item.node item.at → HoldsBounds b p → Steps nodes base fs (Ok (waits.Turned r)) (goes (Turned i p) es)
begins_turns nodes base fs es i p r item b e below a x t = subst (λ (y : Repetition). Steps nodes base fs (Ok (waits.Turned y)) (goes (Turned i p) es)) (sym e) (turned_steps nodes base fs es i p (record { item = item; bounds = b }) below a x t)

pub count_read_steps : (nodes : List Node) (base : ℕ) (fs : List Construct) (es : List Entry) (i : Item) (r : Repetition) (t : CountStep) → ConstructsShow nodes base (reverse fs) es → r.item.at ≡ base + length (entries es) → HoldsItem i nodes r.item.node r.item.at → ShowsCountStep (outcomes.Read r.bounds) t → Steps nodes base fs (Ok (waits.Turned r)) (on_count i es t)
unfolding on_count ShowsCountStep
count_read_steps nodes base fs es i r (CountOn d) h a x s = absurd s
count_read_steps nodes base fs es i r (CountRead p) h a x s = turned_steps nodes base fs es i p r h a x s
count_read_steps nodes base fs es i r CountWrong h a x s = absurd s

pub count_wrong_steps : (nodes : List Node) (base : ℕ) (fs : List Construct) (es : List Entry) (i : Item) (t : CountStep) → ShowsCountStep outcomes.Wrong t → Steps nodes base fs (Err faults.Wrong) (on_count i es t)
unfolding on_count ShowsCountStep
count_wrong_steps nodes base fs es i (CountOn d) s = absurd s
count_wrong_steps nodes base fs es i (CountRead p) s = absurd s
count_wrong_steps nodes base fs es i CountWrong s = wrong_steps nodes base fs

-- ---- where a piece may begin

pub to : (nodes : List Node) (base : ℕ) (fs : List Construct) (r : Result Wait StepFault) (o p : Option State) → o ≡ p → Steps nodes base fs r p → Steps nodes base fs r o
to nodes base fs r o p e s = subst (λ (x : Option State). Steps nodes base fs r x) (sym e) s

pub mark_steps : (nodes : List Node) (base : ℕ) (fs gs : List Construct) (es : List Entry) (at : ℕ) → ConstructsShow nodes base (reverse fs) es → at ≡ base + length (entries es) → gs ≡ fs ++ constructs.Mark at ∷ [] → Steps nodes base gs (Ok waits.Ready) (goes Ready (Mark ∷ es))
unfolding ConstructsShow
mark_steps nodes base fs gs es at h a e = ready_steps nodes base gs (Mark ∷ es) (push_shows nodes base fs gs (constructs.Mark at) (Mark ∷ es) e (a, h))

pub set_begins_steps : (nodes : List Node) (base : ℕ) (fs : List Construct) (es : List Entry) (at : ℕ) → ConstructsShow nodes base (reverse fs) es → at ≡ base + length (entries es) → Steps nodes base fs (Ok (waits.InSet false true parts.AtStart at)) (goes (InSet false [] AtStart) es)
unfolding Steps ShowsMode ShowsPart
set_begins_steps nodes base fs es at h a = record { below = h; mode = (refl, refl, tt, a) }

pub escape_begins_steps : (nodes : List Node) (base : ℕ) (fs : List Construct) (es : List Entry) (at : ℕ) → ConstructsShow nodes base (reverse fs) es → at ≡ base + length (entries es) → Steps nodes base fs (Ok (waits.InEscape Begun at)) (goes (InEscape Begun) es)
unfolding Steps ShowsMode
escape_begins_steps nodes base fs es at h a = record { below = h; mode = (refl, a) }

pub begin_is : (es : List Entry) (b n : ℕ) (o : Option State) → b ≡ n → begin_piece es n ≡ o → begin_piece es b ≡ o
begin_is es b n o e f = ap (begin_piece es) e ∙ f

pub begin_bar : (es : List Entry) → begin_piece es 124 ≡ end_branch (take_pieces es Empty)
unfolding begin_piece is_plain
begin_bar es = refl

pub begin_close : (es : List Entry) → begin_piece es 41 ≡ after_group (take_regex es)
unfolding begin_piece is_plain
begin_close es = refl

pub begin_none : (es : List Entry) (b : ℕ) → is_plain b ≡ false → (b ≡ 92 → ⊥) → (b ≡ 46 → ⊥) → (b ≡ 91 → ⊥) → (b ≡ 40 → ⊥) → (b ≡ 124 → ⊥) → (b ≡ 41 → ⊥) → begin_piece es b ≡ None
unfolding begin_piece
begin_none es b p n1 n2 n3 n4 n5 n6 =
    cond_no (is_plain b) _ _ p ∙ cond_no (b == 92) _ _ (ne_eqb b 92 n1) ∙ cond_no (b == 46) _ _ (ne_eqb b 46 n2) ∙ cond_no (b == 91) _ _ (ne_eqb b 91 n3)
    ∙ cond_no (b == 40) _ _ (ne_eqb b 40 n4) ∙ cond_no (b == 124) _ _ (ne_eqb b 124 n5) ∙ cond_no (b == 41) _ _ (ne_eqb b 41 n6)

-- ---- after an item

pub count_begins_steps : (nodes : List Node) (base : ℕ) (fs : List Construct) (es : List Entry) (i : Item) (part : Placed) (at : ℕ) → ConstructsShow nodes base (reverse fs) es → part.at ≡ base + length (entries es) → at ≡ part.at + length (item i) → HoldsItem i nodes part.node part.at → Steps nodes base fs (Ok (waits.InCount part counts.Opened at)) (goes (InCount i Opened) es)
unfolding Steps ShowsMode ShowsCount
count_begins_steps nodes base fs es i part at h a q x = record { below = h; mode = (a, subst (λ (y : ℕ). HoldsItem i nodes part.node y) a x, tt, omega (arith, q, a)) }

pub behind_is : (i : Item) (es : List Entry) (b n : ℕ) (o : Option State) → b ≡ n → after_item i es n ≡ o → after_item i es b ≡ o
behind_is i es b n o e f = ap (after_item i es) e ∙ f

pub behind_star : (i : Item) (es : List Entry) → after_item i es 42 ≡ goes (Turned i ZeroOrMore) es
unfolding after_item
behind_star i es = refl

pub behind_plus : (i : Item) (es : List Entry) → after_item i es 43 ≡ goes (Turned i OneOrMore) es
unfolding after_item
behind_plus i es = refl

pub behind_quest : (i : Item) (es : List Entry) → after_item i es 63 ≡ goes (Turned i Optional) es
unfolding after_item
behind_quest i es = refl

pub behind_brace : (i : Item) (es : List Entry) → after_item i es 123 ≡ goes (InCount i Opened) es
unfolding after_item
behind_brace i es = refl

pub behind_other : (i : Item) (es : List Entry) (b : ℕ) → (b ≡ 42 → ⊥) → (b ≡ 43 → ⊥) → (b ≡ 63 → ⊥) → (b ≡ 123 → ⊥) → after_item i es b ≡ begin_piece (Read (Once i) ∷ es) b
unfolding after_item
behind_other i es b n1 n2 n3 n4 = cond_no (b == 42) _ _ (ne_eqb b 42 n1) ∙ cond_no (b == 43) _ _ (ne_eqb b 43 n2) ∙ cond_no (b == 63) _ _ (ne_eqb b 63 n3) ∙ cond_no (b == 123) _ _ (ne_eqb b 123 n4)

pub star_bounds : HoldsBounds (record { low = 0; high = None }) ZeroOrMore
unfolding low high
star_bounds = (refl, refl)

pub plus_bounds : HoldsBounds (record { low = 1; high = None }) OneOrMore
unfolding low high
plus_bounds = (refl, refl)

pub quest_bounds : HoldsBounds (record { low = 0; high = Some 1 }) Optional
unfolding low high
quest_bounds = (refl, refl)

-- ---- after a postfix

pub turned_lazy : (i : Item) (p : Postfix) (es : List Entry) (b : ℕ) → b ≡ 63 → after_turns i p es b ≡ goes Ready (Read (Turns i p true) ∷ es)
unfolding after_turns
turned_lazy i p es b e = ap (after_turns i p es) e

pub turned_other : (i : Item) (p : Postfix) (es : List Entry) (b : ℕ) → (b ≡ 63 → ⊥) → after_turns i p es b ≡ begin_piece (Read (Turns i p false) ∷ es) b
unfolding after_turns
turned_other i p es b n = cond_no (b == 63) _ _ (ne_eqb b 63 n)

pub eager_ends : (base at from : ℕ) (es : List Entry) (i : Item) (p : Postfix) → from ≡ base + length (entries es) → at ≡ from + length (item i ++ postfix p) → at ≡ base + length (entries (Read (Turns i p false) ∷ es))
unfolding entries entry piece lazy_mark
eager_ends base at from es i p a b = omega (arith, a, b, length-append (entries es) (item i ++ (postfix p ++ [])), length-append (item i) (postfix p ++ []), length-append (item i) (postfix p), length-append (postfix p) [])

-- the item becomes a piece
pub once_shows : (nodes : List Node) (base : ℕ) (fs gs : List Construct) (es : List Entry) (i : Item) (part : Placed) → ConstructsShow nodes base (reverse fs) es → part.at ≡ base + length (entries es) → HoldsItem i nodes part.node part.at → gs ≡ fs ++ constructs.Piece part.node part.at ∷ [] → ConstructsShow nodes base (reverse gs) (Read (Once i) ∷ es)
unfolding ConstructsShow HoldsPiece
once_shows nodes base fs gs es i part h a x e = push_shows nodes base fs gs (constructs.Piece part.node part.at) (Read (Once i) ∷ es) e (a, x, h)

pub once_ends : (base at from : ℕ) (es : List Entry) (i : Item) → from ≡ base + length (entries es) → at ≡ from + length (item i) → at ≡ base + length (entries (Read (Once i) ∷ es))
unfolding entries entry piece
once_ends base at from es i a b = omega (arith, a, b, length-append (entries es) (item i))

-- ---- the machine's mode, for each thing that the code waits for

pub mode_ready : (nodes : List Node) (at : ℕ) (m : Mode) → ShowsMode nodes at waits.Ready m → m ≡ Ready
unfolding ShowsMode
mode_ready nodes at Ready s = refl
mode_ready nodes at (After i) s = absurd s
mode_ready nodes at (Turned i p) s = absurd s
mode_ready nodes at (InEscape e) s = absurd s
mode_ready nodes at (InSet n ms p) s = absurd s
mode_ready nodes at (InCount i c) s = absurd s

pub record IsAfter (nodes : List Node) (at : ℕ) (part : Placed) (m : Mode) : Type 0 where
  pub tree : Item
  pub is : m ≡ After tree
  pub place : part.at ≡ at
  pub shows : HoldsItem tree nodes part.node part.at

pub mode_after : (nodes : List Node) (at : ℕ) (part : Placed) (m : Mode) → ShowsMode nodes at (waits.After part) m → IsAfter nodes at part m
unfolding ShowsMode
mode_after nodes at part Ready s = absurd s
mode_after nodes at part (After i) s = record { tree = i; is = refl; place = s.0; shows = subst (λ (x : ℕ). HoldsItem i nodes part.node x) (sym s.0) s.1 }
mode_after nodes at part (Turned i p) s = absurd s
mode_after nodes at part (InEscape e) s = absurd s
mode_after nodes at part (InSet n ms p) s = absurd s
mode_after nodes at part (InCount i c) s = absurd s

pub record IsTurned (nodes : List Node) (at : ℕ) (r : Repetition) (m : Mode) : Type 0 where
  pub tree : Item
  pub postfix : Postfix
  pub is : m ≡ Turned tree postfix
  pub place : r.item.at ≡ at
  pub shows : HoldsItem tree nodes r.item.node r.item.at
  pub turns : HoldsBounds r.bounds postfix

pub mode_turned : (nodes : List Node) (at : ℕ) (r : Repetition) (m : Mode) → ShowsMode nodes at (waits.Turned r) m → IsTurned nodes at r m
unfolding ShowsMode
mode_turned nodes at r Ready s = absurd s
mode_turned nodes at r (After i) s = absurd s
mode_turned nodes at r (Turned i p) s = record { tree = i; postfix = p; is = refl; place = s.0; shows = subst (λ (x : ℕ). HoldsItem i nodes r.item.node x) (sym s.0) s.1; turns = s.2 }
mode_turned nodes at r (InEscape e) s = absurd s
mode_turned nodes at r (InSet n ms p) s = absurd s
mode_turned nodes at r (InCount i c) s = absurd s

pub mode_escape : (nodes : List Node) (at : ℕ) (e : Escaping) (from : ℕ) (m : Mode) → ShowsMode nodes at (waits.InEscape e from) m → (m ≡ InEscape e) × (from ≡ at)
unfolding ShowsMode
mode_escape nodes at e from Ready s = absurd s
mode_escape nodes at e from (After i) s = absurd s
mode_escape nodes at e from (Turned i p) s = absurd s
mode_escape nodes at e from (InEscape f) s = (ap InEscape (sym s.0), s.1)
mode_escape nodes at e from (InSet n ms p) s = absurd s
mode_escape nodes at e from (InCount i c) s = absurd s

pub record IsInSet (n e : Bool) (p : SetPart) (m : Mode) : Type 0 where
  pub members : List Member
  pub part : SetPhase
  pub is : m ≡ InSet n members part
  pub empty : e ≡ is_empty members
  pub shows : ShowsPart p part

pub mode_set : (nodes : List Node) (at : ℕ) (n e : Bool) (p : SetPart) (from : ℕ) (m : Mode) → ShowsMode nodes at (waits.InSet n e p from) m → IsInSet n e p m × (from ≡ at)
unfolding ShowsMode
mode_set nodes at n e p from Ready s = absurd s
mode_set nodes at n e p from (After i) s = absurd s
mode_set nodes at n e p from (Turned i q) s = absurd s
mode_set nodes at n e p from (InEscape f) s = absurd s
mode_set nodes at n e p from (InSet k ms q) s = (record { members = ms; part = q; is = ap (λ (x : Bool). InSet x ms q) (sym s.0); empty = s.1; shows = s.2 }, s.3)
mode_set nodes at n e p from (InCount i c) s = absurd s

pub record IsInCount (nodes : List Node) (at : ℕ) (part : Placed) (c : Count) (brace : ℕ) (m : Mode) : Type 0 where
  pub tree : Item
  pub counting : Counting
  pub is : m ≡ InCount tree counting
  pub place : part.at ≡ at
  pub shows : HoldsItem tree nodes part.node part.at
  pub count : ShowsCount c counting
  pub opened : brace ≡ part.at + length (item tree)

pub mode_count : (nodes : List Node) (at : ℕ) (part : Placed) (c : Count) (brace : ℕ) (m : Mode) → ShowsMode nodes at (waits.InCount part c brace) m → IsInCount nodes at part c brace m
unfolding ShowsMode
mode_count nodes at part c brace Ready s = absurd s
mode_count nodes at part c brace (After i) s = absurd s
mode_count nodes at part c brace (Turned i p) s = absurd s
mode_count nodes at part c brace (InEscape f) s = absurd s
mode_count nodes at part c brace (InSet k ms q) s = absurd s
mode_count nodes at part c brace (InCount i d) s = record { tree = i; counting = d; is = refl; place = s.0; shows = subst (λ (x : ℕ). HoldsItem i nodes part.node x) (sym s.0) s.1; count = s.2; opened = omega (arith, s.3, s.0) }

pub step_mode : (s : State) (b : ℕ) (m : Mode) → s.mode ≡ m → step s b ≡ step_in m s.entries b
unfolding step
step_mode s b m e = ap (λ (x : Mode). step_in x s.entries b) e

pub spelled_mode : (s : State) (m : Mode) → s.mode ≡ m → length (bytes_read s) ≡ length (entries s.entries) + length (mode m)
unfolding bytes_read
spelled_mode s m e = length-append (entries s.entries) (mode s.mode) ∙ ap (λ (x : Mode). length (entries s.entries) + length (mode x)) e

pub ready_place : (s : State) (base at : ℕ) → s.mode ≡ Ready → at ≡ base + length (bytes_read s) → at ≡ base + length (entries s.entries)
unfolding mode
ready_place s base at e a = omega (arith, a, spelled_mode s Ready e)

pub after_place : (s : State) (base at from : ℕ) (i : Item) → s.mode ≡ After i → from ≡ base + length (entries s.entries) → at ≡ base + length (bytes_read s) → at ≡ from + length (item i)
unfolding mode
after_place s base at from i e f a = omega (arith, a, f, spelled_mode s (After i) e)

pub turned_place : (s : State) (base at from : ℕ) (i : Item) (p : Postfix) → s.mode ≡ Turned i p → from ≡ base + length (entries s.entries) → at ≡ base + length (bytes_read s) → at ≡ from + length (item i ++ postfix p)
unfolding mode
turned_place s base at from i p e f a = omega (arith, a, f, spelled_mode s (Turned i p) e)

pub step_ready : (s : State) (b : ℕ) → s.mode ≡ Ready → step s b ≡ begin_piece s.entries b
unfolding step_in
step_ready s b e = step_mode s b Ready e

pub step_after : (s : State) (b : ℕ) (i : Item) → s.mode ≡ After i → step s b ≡ after_item i s.entries b
unfolding step_in
step_after s b i e = step_mode s b (After i) e

pub step_turned : (s : State) (b : ℕ) (i : Item) (p : Postfix) → s.mode ≡ Turned i p → step s b ≡ after_turns i p s.entries b
unfolding step_in
step_turned s b i p e = step_mode s b (Turned i p) e

pub step_escape : (s : State) (b : ℕ) (x : Escaping) → s.mode ≡ InEscape x → step s b ≡ on_escape s.entries (escape_step x b)
unfolding step_in
step_escape s b x e = step_mode s b (InEscape x) e

pub step_set : (s : State) (b : ℕ) (n : Bool) (ms : List Member) (p : SetPhase) → s.mode ≡ InSet n ms p → step s b ≡ on_set s.entries (set_step n ms p b)
unfolding step_in
step_set s b n ms p e = step_mode s b (InSet n ms p) e

pub step_count : (s : State) (b : ℕ) (i : Item) (x : Counting) → s.mode ≡ InCount i x → step s b ≡ on_count i s.entries (count_step x b)
unfolding step_in
step_count s b i x e = step_mode s b (InCount i x) e
