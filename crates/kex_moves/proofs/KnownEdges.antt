-- What is learnt stays right.
use Rattle.std.proofs.Common.{◌≡◌, ℕ, zero, suc, ◌<◌, ◌≤◌, ◌+◌, ◌*◌, Bool, true, false, cond, List, [], ◌∷◌, ◌++◌, All, Option, Some, None, length, get_or, take, drop, set, refl, sym, ap, subst, ◌∙◌, arith, length-drop, inl, inr, ⊎_elim}
use Rattle.std.specs.Prelude.{slice_get, ◌⊎◌}
use Rattle.std.proofs.lemmas.List.{take-append-le, drop-append-le}
use Rattle.std.proofs.lemmas.List.Elements.{All-append, All-get_or, All-from_get_or}
use Rattle.std.proofs.lemmas.Option.{slice_get_within, slice_get-get_or, get_or_from_slice_get}
use Rattle.std.proofs.lemmas.Nat.{same_from_place}
use Rattle.std.proofs.Math.Nat.{mul-le-mul_right, le-max_left, le-max_right}
use Rattle.kex_model.specs.Acting.{ActingState}
use Rattle.kex_machine.specs.declared.MNode.{MNode}
use Rattle.kex_machine.specs.Nodes.{Graph}
use Rattle.kex_action.specs.declared.action.Action.{Action}
use Rattle.kex_action.specs.declared.deed.Deed.{Deed}
use Rattle.kex_action.specs.Holdings.{LeadsByCode, with_bytes}
use Rattle.kex_action.specs.Actions.{after_actions}
use Rattle.kex_action.specs.Deeds.{after_deeds}
use Rattle.kex_byteset.specs.Classes.{class_count}
use Rattle.kex_sst.specs.declared.parts.Part.{Part}
use Rattle.kex_sst.specs.declared.table.Transition.{Transition}
use Rattle.kex_sst.specs.Tables.{Transducer, transition_of}
use Rattle.kex_moves.specs.declared.edge.Edge.{Edge}
use Rattle.kex_moves.specs.declared.edge.EdgeKind.{EdgeKind}
use Rattle.kex_moves.specs.declared.edge.EdgeKind.TheVariants.{Keep, Drop, Text, Acts, Opens, Plain, Unknown}
use Rattle.kex_moves.specs.declared.edges.Pair.{Pair}
use Rattle.kex_moves.specs.Edges.{writes, is_written, is_known, has_acts, IsUnlearnt, IsSilent, HasRoom, IsAtRow}
use Rattle.kex_moves.specs.Runs.{HasEdgeRow, LeadsBack, HasRoomBelow, AreEdgesWithin}
use Rattle.kex_moves.specs.Trails.{EdgesLeadBelow}
use Rattle.kex_held.specs.Walks.{code_with_byte, TakesCode, Learns}
use Rattle.kex_moves.specs.Known.{Known, rows_of, IsEdge, IsOrdered, IsPairRow, HasRowFor, IsRight, AreRight, IsPairOf, IsKnown, IsLed, KnownGrows, Widens, Lengthens, Settles, makes}

-- the edge of a row at a class is one of the edges
pub index_in : (k : Known) (row : ℕ) (p : Pair) (class : ℕ) → IsOrdered k → IsPairRow k row p → class < k.width → row + class < length k.edges
index_in k row p class o r h =
    let n : r.number < length k.pairs = slice_get_within k.pairs r.number p r.at in
    let all : suc r.number * k.width ≤ length k.pairs * k.width = mul-le-mul_right k.width n in
    let one : suc r.number * k.width ≡ r.number * k.width + k.width = omega arith in
    omega (arith, o.rows, r.begins, all, one, h)

-- the row of a pair is within
pub row_fits : (k : Known) (row : ℕ) (p : Pair) → IsOrdered k → IsPairRow k row p → row + k.width ≤ length k.edges
row_fits k row p o r =
    let n : r.number < length k.pairs = slice_get_within k.pairs r.number p r.at in
    let all : suc r.number * k.width ≤ length k.pairs * k.width = mul-le-mul_right k.width n in
    let one : suc r.number * k.width ≡ r.number * k.width + k.width = omega arith in
    omega (arith, o.rows, r.begins, all, one)

has_row : (k : Known) (row : ℕ) → IsOrdered k → row + k.width ≤ length k.edges → HasEdgeRow k.classes k.edges row
has_row k row o h = λ i d lt. omega (arith, o.classes i d lt)

pub row_in : (k : Known) (row : ℕ) (p : Pair) → IsOrdered k → IsPairRow k row p → HasEdgeRow k.classes k.edges row
row_in k row p o r = has_row k row o (row_fits k row p o r)

pub back_in : (k : Known) (row : ℕ) (number : ℕ) → IsOrdered k → row ≡ number * k.width → LeadsBack k.classes k.edges row
back_in k row number o begins = λ i d lt e at. subst (λ r. IsAtRow r e) (sym begins) (o.back number (get_or k.classes i d) e (o.classes i d lt) (ap (λ r. slice_get k.edges (r + get_or k.classes i d)) (sym begins) ∙ at))

pub known_if : (k : EdgeKind) → is_written k ≡ true → is_known k ≡ true
known_if Keep h = refl
known_if Drop h = refl
known_if Text h = refl
known_if Acts h = cc
known_if Opens h = cc
known_if Plain h = cc
known_if Unknown h = cc

-- where edges lead that are written there is a row, and what they write is within
pub rooms_below : (k : Known) → IsOrdered k → HasRoomBelow (length k.text) k.edges
rooms_below k o = λ i d lt written. (o.edges i d lt).room written

pub leads_below : (k : Known) → IsOrdered k → EdgesLeadBelow k.width k.edges
leads_below k o = λ i d lt written. (o.edges i d lt).next (known_if (get_or k.edges i d).kind written)

pub rows_within : (k : Known) → IsOrdered k → AreEdgesWithin (rows_of k)
rows_within k o = record {
  next = λ i d lt written.
      let e = get_or k.edges i d in
      let begins = (o.edges i d lt).begins (known_if e.kind written) in
      (has_row k e.next o (leads_below k o i d lt written), back_in k e.next begins.0 o begins.1);
  room = rooms_below k o;
  alone = λ i d lt. (o.edges i d lt).alone;
}

pub front_of : {A : Type 0} (xs ys : List A) (i : ℕ) → i < length xs → slice_get (xs ++ ys) i ≡ slice_get xs i
front_of [] ys i h = absurd (omega arith)
front_of (x ∷ xs) ys zero h = refl
front_of (x ∷ xs) ys (suc i) h = front_of xs ys i (omega arith)

pub behind_of : {A : Type 0} (P : A → Type 0) (xs ys : List A) (i : ℕ) (x : A) → length xs ≤ i → All P ys → slice_get (xs ++ ys) i ≡ Some x → P x
behind_of P [] ys i x h all e = subst P (get_or_from_slice_get ys i x x e) (All-get_or P ys i x (slice_get_within ys i x e) all)
behind_of P (z ∷ xs) ys zero x h all e = absurd (omega arith)
behind_of P (z ∷ xs) ys (suc i) x h all e = behind_of P xs ys i x (omega arith) all e

pub at_of : {A : Type 0} (P : A → Type 0) (xs : List A) (i : ℕ) (x : A) → All P xs → slice_get xs i ≡ Some x → P x
at_of P xs i x all e = subst P (get_or_from_slice_get xs i x x e) (All-get_or P xs i x (slice_get_within xs i x e) all)

-- the class of a byte is within a row
pub class_within : (k : Known) (b class : ℕ) → IsOrdered k → slice_get k.classes b ≡ Some class → class < k.width
class_within k b class h is = at_of (λ c. c < k.width) k.classes b class h.classes is

some_front : {A : Type 0} (xs ys : List A) (i : ℕ) (x : A) → slice_get xs i ≡ Some x → slice_get (xs ++ ys) i ≡ Some x
some_front xs ys i x e = front_of xs ys i (slice_get_within xs i x e) ∙ e

pub parts_of : (i n : ℕ) → (i < n) ⊎ (n ≤ i)
parts_of zero zero = inr (omega arith)
parts_of zero (suc n) = inl (omega arith)
parts_of (suc i) zero = inr (omega arith)
parts_of (suc i) (suc n) = ⊎_elim (λ h. inl (omega arith)) (λ h. inr (omega arith)) (parts_of i n)

-- an edge is as right with other rows and edges after the old ones, where what it makes is the same
right_moved : (t : Transducer) (nodes : List MNode) (k k' : Known) (p : Pair) (class : ℕ) (e : Edge) → ((row : ℕ) (q : Pair) → IsPairRow k row q → IsPairRow k' row q) → ((b : ℕ) (s : ActingState) → makes nodes k e b s ≡ makes nodes k' e b s) → IsRight t nodes k p class e → IsRight t nodes k' p class e
right_moved t nodes k k' p class e rows same r = record {
  by = r.by;
  goes = r.goes;
  bare = r.bare;
  to = r.to;
  row = rows e.next r.to r.row;
  target = r.target;
  does = λ b c takes before. subst (λ z. LeadsByCode nodes p.node before (code_with_byte b r.by.update.out) r.to.node z) (same b before) (r.does b c takes before);
  takes = r.takes;
  opens = λ is b s. sym (same b s) ∙ r.opens is b s;
}

-- rows that are added
abbrev wide : Known → List Pair → List Edge → Known
wide k pairs edges = record { classes = k.classes; width = k.width; shift = k.shift; pairs = k.pairs ++ pairs; edges = k.edges ++ edges; text = k.text; acts = k.acts }

rows_wide : (k : Known) (pairs : List Pair) (edges : List Edge) (row : ℕ) (p : Pair) → IsPairRow k row p → IsPairRow (wide k pairs edges) row p
rows_wide k pairs edges row p r = record { number = r.number; at = some_front k.pairs pairs r.number p r.at; begins = r.begins }

right_wide : (t : Transducer) (nodes : List MNode) (k : Known) (pairs : List Pair) (edges : List Edge) → IsOrdered k → All IsUnlearnt edges → AreRight t nodes k → AreRight t nodes (wide k pairs edges)
right_wide t nodes k pairs edges o unknown right number class p e at lt is known = ⊎_elim old new (parts_of number (length k.pairs))
  where
    old : number < length k.pairs → IsRight t nodes (wide k pairs edges) p class e
    old h =
        let old_at : slice_get k.pairs number ≡ Some p = sym (front_of k.pairs pairs number h) ∙ at in
        let index = index_in k (number * k.width) p class o (record { number = number; at = old_at; begins = refl }) lt in
        let old_is : slice_get k.edges (number * k.width + class) ≡ Some e = sym (front_of k.edges edges (number * k.width + class) index) ∙ is in
        right_moved t nodes k (wide k pairs edges) p class e (rows_wide k pairs edges) (λ b s. refl) (right number class p e old_at lt old_is known)

    new : length k.pairs ≤ number → IsRight t nodes (wide k pairs edges) p class e
    new h =
        let more : length k.pairs * k.width ≤ number * k.width = mul-le-mul_right k.width h in
        let none = behind_of IsUnlearnt k.edges edges (number * k.width + class) e (omega (arith, o.rows, more)) unknown is in
        let said : is_known e.kind ≡ false = ap is_known none.0 in
        let no : true ≡ false = sym known ∙ said in
        cc

pub known_wider : (t : Transducer) (g : Graph) (old new : Known) (state node : ℕ) → IsKnown t g old → Widens old new state node → IsOrdered new → state < length t.states → node < length g.nodes → IsKnown t g new
known_wider t g old new state node h w o s n = subst (λ k. IsKnown t g k) (sym w.wider) (record {
  ordered = subst (λ k. IsOrdered k) w.wider o;
  classes = h.classes;
  pairs = All-append (IsPairOf t g) old.pairs w.pairs h.pairs (λ i d l. of_pair (get_or w.pairs i d) (w.of i d l));
  right = right_wide t g.nodes old w.pairs w.edges h.ordered w.unknown h.right;
})
  where
    of_pair : (p : Pair) → (p.state ≡ state) × (p.node ≡ node) → IsPairOf t g p
    of_pair p e = record {
      state = subst (λ x. x < length t.states) (sym e.0) s;
      node = subst (λ x. x < length g.nodes) (sym e.1) n;
    }

pub grows_wider : (old new : Known) (state node : ℕ) → Widens old new state node → KnownGrows old new
grows_wider old new state node w = subst (λ k. KnownGrows old k) (sym w.wider) (record { width = refl; rows = rows_wide old w.pairs w.edges })

-- texts and deeds that are added
abbrev long : Known → List ℕ → List Deed → Known
long k text acts = record { classes = k.classes; width = k.width; shift = k.shift; pairs = k.pairs; edges = k.edges; text = k.text ++ text; acts = k.acts ++ acts }

rows_long : (k : Known) (text : List ℕ) (acts : List Deed) (row : ℕ) (p : Pair) → IsPairRow k row p → IsPairRow (long k text acts) row p
rows_long k text acts row p r = record { number = r.number; at = r.at; begins = r.begins }

writes_long : (text more : List ℕ) (e : Edge) (b : ℕ) → HasRoom (length text) e → writes text e b ≡ writes (text ++ more) e b
writes_long text more e b h =
    let same : take 16 (drop e.from (text ++ more)) ≡ take 16 (drop e.from text) = ap (take 16) (drop-append-le e.from text more (omega (arith, h.text))) ∙ take-append-le 16 (drop e.from text) more (omega (arith, h.text, length-drop e.from text)) in
    ap (λ l. take e.adds (set l e.byte_at b)) (sym same)

acts_long : (acts more : List Deed) (e : Edge) → e.from + e.adds ≤ length acts → take e.adds (drop e.from acts) ≡ take e.adds (drop e.from (acts ++ more))
acts_long acts more e h = sym (ap (take e.adds) (drop-append-le e.from acts more (omega arith)) ∙ take-append-le e.adds (drop e.from acts) more (omega (arith, length-drop e.from acts)))

-- what is known is written, or deeds
acts_unless : (k : EdgeKind) → is_known k ≡ true → is_written k ≡ false → has_acts k ≡ true
acts_unless Keep h w = cc
acts_unless Drop h w = cc
acts_unless Text h w = cc
acts_unless Acts h w = refl
acts_unless Opens h w = refl
acts_unless Plain h w = cc
acts_unless Unknown h w = cc

makes_long : (nodes : List MNode) (k : Known) (text : List ℕ) (acts : List Deed) (e : Edge) (b : ℕ) (s : ActingState) → IsEdge k e → is_known e.kind ≡ true → makes nodes k e b s ≡ makes nodes (long k text acts) e b s
makes_long nodes k text acts e b s h known = by (is_written e.kind) refl
  where
    by : (x : Bool) → is_written e.kind ≡ x → makes nodes k e b s ≡ makes nodes (long k text acts) e b s
    by true is =
        let first : makes nodes k e b s ≡ with_bytes (writes k.text e b) s = ap (λ x. cond x (with_bytes (writes k.text e b) s) (after_deeds nodes b (take e.adds (drop e.from k.acts)) s)) is in
        let last : makes nodes (long k text acts) e b s ≡ with_bytes (writes (k.text ++ text) e b) s = ap (λ x. cond x (with_bytes (writes (k.text ++ text) e b) s) (after_deeds nodes b (take e.adds (drop e.from (k.acts ++ acts))) s)) is in
        first ∙ ap (λ l. with_bytes l s) (writes_long k.text text e b (h.room is)) ∙ sym last
    by false is =
        let first : makes nodes k e b s ≡ after_deeds nodes b (take e.adds (drop e.from k.acts)) s = ap (λ x. cond x (with_bytes (writes k.text e b) s) (after_deeds nodes b (take e.adds (drop e.from k.acts)) s)) is in
        let last : makes nodes (long k text acts) e b s ≡ after_deeds nodes b (take e.adds (drop e.from (k.acts ++ acts))) s = ap (λ x. cond x (with_bytes (writes (k.text ++ text) e b) s) (after_deeds nodes b (take e.adds (drop e.from (k.acts ++ acts))) s)) is in
        first ∙ ap (λ l. after_deeds nodes b l s) (acts_long k.acts acts e (h.acts (acts_unless e.kind known is))) ∙ sym last

pub known_longer : (t : Transducer) (g : Graph) (old new : Known) → IsKnown t g old → Lengthens old new → IsOrdered new → IsKnown t g new
known_longer t g old new h l o = subst (λ k. IsKnown t g k) (sym l.longer) (record {
  ordered = subst (λ k. IsOrdered k) l.longer o;
  classes = h.classes;
  pairs = h.pairs;
  right = λ number class p e at lt is known. right_moved t g.nodes old (long old l.text l.acts) p class e (rows_long old l.text l.acts) (λ b s. makes_long g.nodes old l.text l.acts e b s (at_of (IsEdge old) old.edges (number * old.width + class) e h.ordered.edges is) known) (h.right number class p e at lt is known);
})

pub grows_longer : (old mid new : Known) → KnownGrows old mid → Lengthens mid new → KnownGrows old new
grows_longer old mid new g l = subst (λ k. KnownGrows old k) (sym l.longer) (record { width = g.width; rows = λ row p r. rows_long mid l.text l.acts row p (g.rows row p r) })

pub led : (nodes : List MNode) (mid new : Known) (state node next : ℕ) (actions : List Action) (e : Edge) → IsOrdered new → HasRowFor mid next state node → Lengthens mid new → Settles nodes new next (λ b. after_actions nodes b actions) e → IsLed nodes new state node actions e
led nodes mid new state node next actions e o r l s =
    let row = λ (known : is_known e.kind ≡ true). subst (λ x. IsPairRow new x r.0) (sym (s.goes known)) (subst (λ k. IsPairRow k next r.0) (sym l.longer) (rows_long mid l.text l.acts next r.0 r.1)) in
    record {
      edge = record { next = λ known. row_fits new e.next r.0 o (row known); begins = λ known. ((row known).number, (row known).begins); room = s.room; acts = s.acts; alone = s.alone };
      row = λ known. (r.0, row known, r.2, r.3);
      does = s.does;
      opens = s.opens;
    }

-- an edge that says nothing leads nowhere
pub led_silent : (nodes : List MNode) (k : Known) (state node : ℕ) (actions : List Action) (e : Edge) → IsSilent e → IsLed nodes k state node actions e
led_silent nodes k state node actions e silent = record {
  edge = record { next = λ known. absurd (never known); begins = λ known. absurd (never known); room = λ written. absurd (never (known_if e.kind written)); acts = λ acts. absurd (never (known_acts e.kind acts)); alone = λ alone. let clash : true ≡ false = sym alone ∙ silent.1 in cc };
  row = λ known. absurd (never known);
  does = λ known. absurd (never known);
  opens = λ is. absurd (never (ap is_known is));
}
  where
    never : is_known e.kind ≡ true → ⊥
    never known = let clash : true ≡ false = sym known ∙ silent.0 in cc

    known_acts : (k : EdgeKind) → has_acts k ≡ true → is_known k ≡ true
    known_acts Keep h = cc
    known_acts Drop h = cc
    known_acts Text h = cc
    known_acts Acts h = refl
    known_acts Opens h = refl
    known_acts Plain h = cc
    known_acts Unknown h = cc

-- an edge that is put
pub slice_get-set : (xs : List Edge) (i j : ℕ) (x y : Edge) → slice_get (set xs i x) j ≡ Some y → (((i ≡ j) × (x ≡ y)) ⊎ (slice_get xs j ≡ Some y))
slice_get-set [] i j x y e = inr e
slice_get-set (z ∷ xs) zero zero x y e = inl (refl, cc)
slice_get-set (z ∷ xs) zero (suc j) x y e = inr e
slice_get-set (z ∷ xs) (suc i) zero x y e = inr e
slice_get-set (z ∷ xs) (suc i) (suc j) x y e = elim (slice_get-set xs i j x y e) [ inl h ↦ inl (ap suc h.0, h.1) | inr h ↦ inr h ]

abbrev with_edges : Known → List Edge → Known
with_edges k edges = record { classes = k.classes; width = k.width; shift = k.shift; pairs = k.pairs; edges = edges; text = k.text; acts = k.acts }

rows_put : (k : Known) (edges : List Edge) (row : ℕ) (p : Pair) → IsPairRow k row p → IsPairRow (with_edges k edges) row p
rows_put k edges row p r = record { number = r.number; at = r.at; begins = r.begins }

some_same : {A : Type 0} (x y : A) (o : Option A) → o ≡ Some x → o ≡ Some y → x ≡ y
some_same x y o e f = let g : Some x ≡ Some y = sym e ∙ f in cc

pub known_put : (t : Transducer) (g : Graph) (k new : Known) (row class : ℕ) (p : Pair) (e : Edge) → IsKnown t g k → IsPairRow k row p → class < k.width → (is_known e.kind ≡ true → IsRight t g.nodes k p class e) → IsOrdered new → new ≡ with_edges k (set k.edges (row + class) e) → IsKnown t g new
known_put t g k new row class p e h r lt right o is = subst (λ x. IsKnown t g x) (sym is) (record {
  ordered = subst (λ x. IsOrdered x) is o;
  classes = h.classes;
  pairs = h.pairs;
  right = λ number class' p' e' at lt' is' known. moved p' class' e' (⊎_elim (λ q. here number class' p' e' at lt' known q.0 q.1) (λ q. h.right number class' p' e' at lt' q known) (slice_get-set k.edges (row + class) (number * k.width + class') e e' is'));
})
  where
    moved : (p' : Pair) (class' : ℕ) (e' : Edge) → IsRight t g.nodes k p' class' e' → IsRight t g.nodes (with_edges k (set k.edges (row + class) e)) p' class' e'
    moved p' class' e' q = right_moved t g.nodes k (with_edges k (set k.edges (row + class) e)) p' class' e' (rows_put k (set k.edges (row + class) e)) (λ b s. refl) q

    here : (number class' : ℕ) (p' : Pair) (e' : Edge) → slice_get k.pairs number ≡ Some p' → class' < k.width → is_known e'.kind ≡ true → row + class ≡ number * k.width + class' → e ≡ e' → IsRight t g.nodes k p' class' e'
    here number class' p' e' at lt' known place same =
        let both = same_from_place r.number class number class' k.width lt lt' (ap (λ x. x + class) (sym r.begins) ∙ place) in
        let pair : p ≡ p' = some_same p p' (slice_get k.pairs number) (sym (ap (slice_get k.pairs) both.0) ∙ r.at) at in
        subst (λ x. IsRight t g.nodes k p' class' x) same (subst (λ x. IsRight t g.nodes k p' x e) both.1 (subst (λ x. IsRight t g.nodes k x class e) pair (right (ap (λ (x : Edge). is_known x.kind) same ∙ known))))

-- an edge that was right is right as it is in a row
makes_at_row : (nodes : List MNode) (k : Known) (e : Edge) (b : ℕ) (s : ActingState) → is_written e.kind ≡ true → makes nodes k e b s ≡ with_bytes (writes k.text e b) s
makes_at_row nodes k e b s w = ap (λ x. cond x (with_bytes (writes k.text e b) s) (after_deeds nodes b (take e.adds (drop e.from k.acts)) s)) w

abbrev as_text : Edge → Edge
as_text e = record { next = e.next; from = e.from; byte_at = e.byte_at; adds = e.adds; alone = e.alone; kind = Text }

pub right_at_row : (t : Transducer) (nodes : List MNode) (k : Known) (p : Pair) (class : ℕ) (e x : Edge) → (x ≡ e) ⊎ ((is_written e.kind ≡ true) × (x ≡ as_text e)) → (is_known e.kind ≡ true → IsRight t nodes k p class e) → is_known x.kind ≡ true → IsRight t nodes k p class x
right_at_row t nodes k p class e x (inl h) right known = subst (λ y. IsRight t nodes k p class y) (sym h) (right (ap (λ (y : Edge). is_known y.kind) (sym h) ∙ known))
right_at_row t nodes k p class e x (inr h) right known =
    let r = right (known_if e.kind h.0) in
    subst (λ y. IsRight t nodes k p class y) (sym h.1) (record {
      by = r.by;
      goes = r.goes;
      bare = r.bare;
      to = r.to;
      row = r.row;
      target = r.target;
      does = λ b c takes before. subst (λ z. LeadsByCode nodes p.node before (code_with_byte b r.by.update.out) r.to.node z) (makes_at_row nodes k e b before h.0) (r.does b c takes before);
      takes = r.takes;
      opens = λ q. cc;
    })

-- where there is no row all is right
pub known_none : (t : Transducer) (g : Graph) (k : Known) → IsOrdered k → k.classes ≡ t.classes → k.pairs ≡ [] → IsKnown t g k
known_none t g k ordered classes none = record {
  ordered = ordered;
  classes = classes;
  pairs = subst (λ l. All (IsPairOf t g) l) (sym none) (λ i d l. absurd (omega arith));
  right = λ number class p e at lt is known. let clash : None ≡ Some p = sym (ap (λ l. slice_get l number) none) ∙ at in cc;
}

-- an edge that is led by what was learnt of the update's code is right
pub right_led : (t : Transducer) (nodes : List MNode) (k : Known) (p : Pair) (class : ℕ) (by : Transition) (out : List Part) (node : ℕ) (actions : List Action) (e : Edge) → transition_of t p.state class ≡ Some by → by.update.regs ≡ [] → out ≡ by.update.out → Learns nodes p.node out node actions → IsLed nodes k by.target node actions e → is_known e.kind ≡ true → IsRight t nodes k p class e
right_led t nodes k p class by out node actions e goes bare same l h known =
    let learns : Learns nodes p.node by.update.out node actions = subst (λ x. Learns nodes p.node x node actions) same l in
    let r = h.row known in
    record {
      by = by;
      goes = goes;
      bare = bare;
      to = r.0;
      row = r.1;
      target = r.2;
      does = λ b c takes before. subst (λ z. LeadsByCode nodes p.node before (code_with_byte b by.update.out) r.0.node z) (h.does known b before) (subst (λ n. LeadsByCode nodes p.node before (code_with_byte b by.update.out) n (after_actions nodes b actions before)) (sym r.3) (learns.does b c takes before));
      takes = λ b c takes. subst (λ n. TakesCode nodes n c) (sym r.3) (learns.takes b c takes);
      opens = h.opens;
    }

-- the class of a byte is one of them
pub class_below : (classes : List ℕ) (b c : ℕ) → slice_get classes b ≡ Some c → c < class_count classes
class_below [] b c e = cc
class_below (x ∷ xs) zero c e = let same : x ≡ c = cc in omega (arith, same, le-max_left (suc x) (class_count xs))
class_below (x ∷ xs) (suc b) c e = omega (arith, class_below xs b c e, le-max_right (suc x) (class_count xs))

pub pair_known : (t : Transducer) (g : Graph) (k : Known) (row : ℕ) (p q : Pair) → IsKnown t g k → IsPairRow k row p → q ≡ p → IsPairOf t g q
pair_known t g k row p q h r e = subst (λ x. IsPairOf t g x) (sym e) (at_of (IsPairOf t g) k.pairs r.number p h.pairs r.at)

pub none_left : {A : Type 0} (xs : List A) → length xs ≡ 0 → xs ≡ []
none_left [] e = refl
none_left (x ∷ xs) e = absurd (omega arith)

pub classes_below : (classes : List ℕ) → All (λ c. c < class_count classes) classes
classes_below classes = All-from_get_or (λ c. c < class_count classes) classes 0 (λ i lt. class_below classes i (get_or classes i 0) (slice_get-get_or classes i 0 lt))
