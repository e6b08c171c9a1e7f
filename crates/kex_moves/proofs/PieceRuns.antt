-- What pieces make an actor do, edge by edge and symbol by symbol.
use Rattle.std.proofs.Common.{◌≡◌, ℕ, zero, suc, ◌<◌, ◌+◌, Bool, true, false, cond, IsTrue, List, [], ◌∷◌, ◌++◌, Some, map, length, get_or, take, drop, reverse, refl, sym, ap, ap₂, subst, ◌∙◌, arith, append_assoc, append-nil}
use Rattle.std.specs.Prelude.{slice_get}
use Rattle.std.proofs.lemmas.List.{length-take-le}
use Rattle.kex_code.specs.declared.symbol.Symbol.{Symbol}
use Rattle.kex_model.specs.Acting.{ActingState}
use Rattle.kex_machine.specs.declared.MNode.{MNode}
use Rattle.kex_machine.specs.Nodes.{Graph}
use Rattle.kex_action.specs.declared.sheet.Sheet.{Sheet}
use Rattle.kex_action.specs.Holdings.{LeadsByCode, Does, with_bytes, state_of}
use Rattle.kex_action.specs.Actors.{Position, HasPerformed, BeginsRun, WentOn, TookAll}
use Rattle.kex_action.specs.Deeds.{after_deeds}
use Rattle.kex_action.specs.Sheets.{with_marked_bytes, AreMarks, IsSheet, IsBlank, state_with}
use Rattle.kex_action.proofs.NodeSteps.{leads_on, stays}
use Rattle.kex_action.proofs.ActorRuns.{begins_front}
use Rattle.kex_action.proofs.Sheets.{laid_adds}
use Rattle.kex_sst.specs.declared.parts.Part.{Part}
use Rattle.kex_sst.specs.declared.table.Transition.{Transition}
use Rattle.kex_sst.specs.Parts.{value, parts_code}
use Rattle.kex_sst.specs.Tables.{transition_of, transition_if}
use Rattle.kex_script.specs.declared.piece.ByteWord.{ByteWord}
use Rattle.kex_script.specs.Pieces.{word_code, code_over}
use Rattle.kex_moves.specs.declared.edge.Edge.{Edge}
use Rattle.kex_moves.specs.declared.edge.EdgeKind.TheVariants.{Acts}
use Rattle.kex_moves.specs.declared.edges.Pair.{Pair}
use Rattle.kex_moves.specs.Edges.{writes, is_written, is_known}
use Rattle.kex_moves.specs.Runs.{RunStep}
use Rattle.kex_held.specs.Walks.{TakesCode, code_with_byte}
use Rattle.kex_moves.specs.Known.{Known, IsPairRow, IsRight, IsKnown, makes}
use Rattle.kex_moves.specs.Along.{with_sheet, written_with}
use Rattle.kex_moves.specs.Trails.{IsTrail}
use Rattle.kex_moves.specs.Speech.{says_word, words_table, PerformsSaid, RefusesCode, SaidWith, SaidOn}
use Rattle.kex_moves.proofs.KnownEdges.{known_if, pair_known}
use Rattle.kex_moves.proofs.PlacedTexts.{adding_more, adding_none}
use Rattle.kex_moves.proofs.EdgeRuns.{right_at, went_none, went_more, takes_run}
use Rattle.kex_moves.proofs.SheetRuns.{moved, blank_position, blank_written}

-- a word's transition
pub by_word : (words : List (List Part)) (class : ℕ) (w : List Part) → slice_get words class ≡ Some w → transition_of (words_table words) 0 class ≡ says_word w
by_word words class w e = at words class e
  where
    at : (ws : List (List Part)) (i : ℕ) → slice_get ws i ≡ Some w → transition_if (slice_get (map says_word ws) i) ≡ says_word w
    at [] i e = cc
    at (x ∷ ws) zero e = let same : x ≡ w = cc in ap says_word same
    at (x ∷ ws) (suc i) e = at ws i e

-- says the word
says : (words : List (List Part)) (class : ℕ) (by : Transition) → transition_of (words_table words) 0 class ≡ Some by → by.update.out ≡ get_or words class []
says words class by e = at words class e
  where
    at : (ws : List (List Part)) (i : ℕ) → transition_if (slice_get (map says_word ws) i) ≡ Some by → by.update.out ≡ get_or ws i []
    at [] i e = cc
    at (x ∷ ws) zero e = let same : record { target = 0; update = record { out = x; regs = [] } } ≡ by = cc in sym (ap (λ (r : Transition). r.update.out) same)
    at (x ∷ ws) (suc i) e = at ws i e

-- the edge of a row at a piece is right, and is that of its word
record Fits (words : List (List Part)) (nodes : List MNode) (k : Known) (p : Pair) (q : ByteWord) (e : Edge) : Type 0 where
  pub right : IsRight (words_table words) nodes k p q.word e
  pub code : code_with_byte q.byte right.by.update.out ≡ word_code words q

fits : (words : List (List Part)) (g : Graph) (k : Known) (row : ℕ) (p : Pair) (q : ByteWord) (e : Edge) → IsKnown (words_table words) g k → IsPairRow k row p → q.word < k.width → slice_get k.edges (row + q.word) ≡ Some e → is_known e.kind ≡ true → Fits words g.nodes k p q e
fits words g k row p q e h r lt is known =
    let right = right_at (words_table words) g k row q.word p e h r lt is known in
    let state : p.state < 1 = (pair_known (words_table words) g k row p p h r refl).state in
    let first : p.state ≡ 0 = omega arith in
    record { right = right; code = ap (code_with_byte q.byte) (says words q.word right.by (ap (λ s. transition_of (words_table words) s q.word) (sym first) ∙ right.goes)) }

-- what a trail does, from the row of a pair
record Trailed (words : List (List Part)) (nodes : List MNode) (k : Known) (p : Pair) (ps : List ByteWord) (s z : RunStep) : Type 0 where
  pub to : Pair
  pub row : IsPairRow k z.row to
  pub bytes : List ℕ
  pub written : z.writes ≡ s.writes ++ bytes
  pub does : (x : List Symbol) → TakesCode nodes p.node (code_over words ps ++ x) → Does nodes p.node (code_over words ps) to.node (with_bytes bytes)
  pub takes : (x : List Symbol) → TakesCode nodes p.node (code_over words ps ++ x) → TakesCode nodes to.node x

trailed_none : (words : List (List Part)) (nodes : List MNode) (k : Known) (p : Pair) (s : RunStep) → IsPairRow k s.row p → Trailed words nodes k p [] s s
trailed_none words nodes k p s r = record {
  to = p;
  row = r;
  bytes = [];
  written = sym (append-nil s.writes);
  does = λ x takes before. subst (λ z. LeadsByCode nodes p.node before [] p.node z) (adding_none before) (stays nodes p.node before);
  takes = λ x takes. takes;
}

trailed_more : (words : List (List Part)) (nodes : List MNode) (k : Known) (p : Pair) (q : ByteWord) (qs : List ByteWord) (e : Edge) (s z : RunStep) → is_written e.kind ≡ true → (f : Fits words nodes k p q e) → Trailed words nodes k f.right.to qs (record { row = e.next; writes = s.writes ++ writes k.text e q.byte }) z → Trailed words nodes k p (q ∷ qs) s z
trailed_more words nodes k p q qs e s z written f more = record {
  to = more.to;
  row = more.row;
  bytes = bytes ++ more.bytes;
  written = more.written ∙ append_assoc s.writes bytes more.bytes;
  does = λ x takes before.
      let here = at x takes in
      let middle = with_bytes bytes before in
      let one = subst (λ c. LeadsByCode nodes p.node before c f.right.to.node middle) f.code (subst (λ z. LeadsByCode nodes p.node before (code_with_byte q.byte f.right.by.update.out) f.right.to.node z) (made before) (f.right.does q.byte (rest ++ x) here before)) in
      subst (λ z. LeadsByCode nodes p.node before (first ++ rest) more.to.node z) (adding_more bytes more.bytes before) (leads_on nodes p.node f.right.to.node more.to.node first rest before middle (with_bytes more.bytes middle) one (more.does x (f.right.takes q.byte (rest ++ x) here) middle));
  takes = λ x takes. more.takes x (f.right.takes q.byte (rest ++ x) (at x takes));
}
  where
    bytes : List ℕ
    bytes = writes k.text e q.byte

    first : List Symbol
    first = word_code words q

    rest : List Symbol
    rest = code_over words qs

    made : (before : ActingState) → makes nodes k e q.byte before ≡ with_bytes bytes before
    made before = ap (λ x. cond x (with_bytes bytes before) (after_deeds nodes q.byte (take e.adds (drop e.from k.acts)) before)) written

    at : (x : List Symbol) → TakesCode nodes p.node ((first ++ rest) ++ x) → TakesCode nodes p.node (code_with_byte q.byte f.right.by.update.out ++ (rest ++ x))
    at x takes = subst (λ c. TakesCode nodes p.node (c ++ (rest ++ x))) (sym f.code) (subst (λ l. TakesCode nodes p.node l) (append_assoc first rest x) takes)

trailed : (words : List (List Part)) (g : Graph) (k : Known) (ps : List ByteWord) (s z : RunStep) (p : Pair) → IsKnown (words_table words) g k → IsPairRow k s.row p → IsTrail k.edges k.text k.width ps s z → Trailed words g.nodes k p ps s z
trailed words g k [] s z p h r same = subst (λ (y : RunStep). Trailed words g.nodes k p [] s y) (sym same) (trailed_none words g.nodes k p s r)
trailed words g k (q ∷ qs) s z p h r trail =
    let e = trail.0 in
    let f = fits words g k s.row p q e h r trail.1.within trail.1.edge (known_if e.kind trail.1.written) in
    trailed_more words g.nodes k p q qs e s z trail.1.written f (trailed words g k qs (record { row = e.next; writes = s.writes ++ writes k.text e q.byte }) z f.right.to h f.right.row trail.2)

-- what is spelled by one list and another
pub spelled_more : (words : List (List Part)) (ps qs : List ByteWord) → code_over words (ps ++ qs) ≡ code_over words ps ++ code_over words qs
spelled_more words [] qs = refl
spelled_more words (p ∷ ps) qs = ap (λ l. word_code words p ++ l) (spelled_more words ps qs) ∙ sym (append_assoc (word_code words p) (code_over words ps) (code_over words qs))

-- a part more of a word
pub meant_more : (b : ℕ) (xs : List Part) (x : Part) → parts_code [] b (xs ++ x ∷ []) ≡ parts_code [] b xs ++ value [] b x
meant_more b [] x = append-nil (value [] b x)
meant_more b (y ∷ xs) x = ap (λ l. value [] b y ++ l) (meant_more b xs x) ∙ sym (append_assoc (value [] b y) (parts_code [] b xs) (value [] b x))

-- nothing is said
pub performs_none : (a : Position) (x : List ℕ) → PerformsSaid a a [] x x
performs_none a x = λ given c w h run. went_none a x

-- one and then another
pub performs_more : (old mid new : Position) (c d : List Symbol) (x y z : List ℕ) → mid.machine ≡ old.machine → PerformsSaid old mid c x y → PerformsSaid mid new d y z → PerformsSaid old new (c ++ d) x z
performs_more old mid new c d x y z machine p q = λ given code w h run.
    let all = sym (append_assoc code c d) in
    let first = p given code w h (begins_front old.machine (code ++ c) (code ++ (c ++ d)) run (d, all)) in
    let then = subst (λ l. BeginsRun old.machine l) all run in
    went_more old mid new c d x y z first (q (given ++ c) (code ++ c) (w ++ first.more) (first.performed given code w h) (subst (λ g. BeginsRun g ((code ++ c) ++ d)) (sym machine) then))

pub performs_took : (old new : Position) (c : List Symbol) (x y : List ℕ) → TookAll old new c x y → PerformsSaid old new c x y
performs_took old new c x y t = λ given code w h run. t.went

-- what was given begins a run's code: it is all that was performed
given_is : (a : Position) (given c : List Symbol) (w : List ℕ) → HasPerformed a given c w → BeginsRun a.machine given → given ≡ c
given_is a given c w h run = by a.refused refl
  where
    by : (r : Bool) → a.refused ≡ r → given ≡ c
    by false e = h.all e
    by true e = absurd (h.none e run)

-- what is refused later is refused, and so is all that has it
pub refuses_later : (old mid : Position) (front word rest : List Symbol) (x y : List ℕ) → mid.machine ≡ old.machine → PerformsSaid old mid front x y → RefusesCode mid word → RefusesCode old (front ++ (word ++ rest))
refuses_later old mid front word rest x y machine p r = λ given c w h run.
    let g = old.machine in
    let all = given ++ (front ++ (word ++ rest)) in
    let behind : all ≡ (given ++ front) ++ (word ++ rest) = sym (append_assoc given front (word ++ rest)) in
    let one = begins_front g (given ++ front) all run (word ++ rest, behind) in
    let two = begins_front g ((given ++ front) ++ word) all run (rest, behind ∙ sym (append_assoc (given ++ front) word rest)) in
    let same = given_is old given c w h (begins_front g given all run (front ++ (word ++ rest), refl)) in
    let went = p given c w h (subst (λ l. BeginsRun g (l ++ front)) same one) in
    r (given ++ front) (c ++ front) (w ++ went.more) (went.performed given c w h) (subst (λ m. BeginsRun m ((given ++ front) ++ word)) (sym machine) two)

-- where it can be taken from here, on the way to anything
performs_taken : (old new : Position) (c : List Symbol) (x y : List ℕ) → ((d : List Symbol) → TakesCode old.machine.nodes old.at (c ++ d) → WentOn old new c c x y) → PerformsSaid old new c x y
performs_taken old new c x y f = λ given code w h run. let t = takes_run old given code c w h run in f t.0 t.1

-- along a trail
pub said_trail : (words : List (List Part)) (k : Known) (a : Position) (s s' : Sheet) (row row' : ℕ) (ps : List ByteWord) (out : List ℕ) → IsKnown (words_table words) a.machine k → IsSheet s → s'.marks.items ≡ s.marks.items → IsTrail k.edges k.text k.width ps (record { row = row; writes = take s.used s.bytes.items }) (record { row = row'; writes = take s'.used s'.bytes.items }) → SaidOn k a a s s' row row' (code_over words ps) out out
said_trail words k a s s' row row' ps out known sheet marks trail p r =
    let before = take s.used s.bytes.items in
    let t = trailed words a.machine k ps (record { row = row; writes = before }) (record { row = row'; writes = take s'.used s'.bytes.items }) p known r trail in
    let n : length before ≡ s.used = length-take-le s.used s.bytes.items sheet.used in
    let adds : state_with s' out a.holding ≡ with_bytes t.bytes (state_with s out a.holding) =
    ap₂ (λ b ms. with_marked_bytes b (reverse ms) (state_of out a.holding)) t.written marks ∙ laid_adds before t.bytes (reverse s.marks.items) (state_of out a.holding) (subst (λ u. AreMarks u (reverse s.marks.items)) (sym n) sheet.marks) in
    record {
      to = t.to;
      row_of = t.row;
      performs = performs_taken (with_sheet a p.node s out) (with_sheet a t.to.node s' out) (code_over words ps) (written_with a s out) (written_with a s' out) (λ x takes. moved a a p.node t.to.node s s' out out (with_bytes t.bytes) refl refl adds (code_over words ps) (t.does x takes));
    }

-- where an edge's actions are done
pub said_acts : (words : List (List Part)) (k : Known) (a b : Position) (s s' : Sheet) (row : ℕ) (q : ByteWord) (e : Edge) (x y : List ℕ) → IsKnown (words_table words) a.machine k → q.word < k.width → slice_get k.edges (row + q.word) ≡ Some e → e.kind ≡ Acts → b.machine ≡ a.machine → b.refused ≡ a.refused → state_with s' y b.holding ≡ after_deeds a.machine.nodes q.byte (take e.adds (drop e.from k.acts)) (state_with s x a.holding) → SaidOn k a b s s' row e.next (code_over words (q ∷ [])) x y
said_acts words k a b s s' row q e x y known lt is acts machine refused did p r =
    let nodes = a.machine.nodes in
    let f = fits words a.machine k row p q e known r lt is (ap is_known acts) in
    let actions = take e.adds (drop e.from k.acts) in
    let code = code_with_byte q.byte f.right.by.update.out in
    let whole : code ≡ word_code words q ++ [] = f.code ∙ sym (append-nil (word_code words q)) in
    let made = λ (before : ActingState). ap (λ v. cond v (with_bytes (writes k.text e q.byte) before) (after_deeds nodes q.byte actions before)) (ap is_written acts) in
    record {
      to = f.right.to;
      row_of = f.right.row;
      performs = performs_taken (with_sheet a p.node s x) (with_sheet b f.right.to.node s' y) (word_code words q ++ []) (written_with a s x) (written_with b s' y) (λ d takes. moved a b p.node f.right.to.node s s' x y (after_deeds nodes q.byte actions) machine refused did (word_code words q ++ []) (λ before.
          let here = subst (λ c. TakesCode nodes p.node (c ++ d)) (sym whole) takes in
          subst (λ c. LeadsByCode nodes p.node before c f.right.to.node (after_deeds nodes q.byte actions before)) whole (subst (λ z. LeadsByCode nodes p.node before code f.right.to.node z) (made before) (f.right.does q.byte d here before))));
    }

-- where nothing is taken
pub said_none : (k : Known) (a : Position) (s : Sheet) (row : ℕ) (x : List ℕ) → SaidOn k a a s s row row [] x x
said_none k a s row x p r = record { to = p; row_of = r; performs = performs_none (with_sheet a p.node s x) (written_with a s x) }

-- one and then another
pub said_more : (k : Known) (a b d : Position) (s s' s'' : Sheet) (row row' row'' : ℕ) (u v : List Symbol) (x y z : List ℕ) → b.machine ≡ a.machine → SaidOn k a b s s' row row' u x y → SaidOn k b d s' s'' row' row'' v y z → SaidOn k a d s s'' row row'' (u ++ v) x z
said_more k a b d s s' s'' row row' row'' u v x y z machine f g p r =
    let one = f p r in
    let two = g one.to one.row_of in
    record {
      to = two.to;
      row_of = two.row_of;
      performs = performs_more (with_sheet a p.node s x) (with_sheet b one.to.node s' y) (with_sheet d two.to.node s'' z) u v (written_with a s x) (written_with b s' y) (written_with d s'' z) machine one.performs two.performs;
    }

-- from what is the same with its sheet
pub said_from : (k : Known) (a a' b : Position) (s s' s'' : Sheet) (row row' : ℕ) (c : List Symbol) (x x' y : List ℕ) → ((p : Pair) → IsPairRow k row p → (with_sheet a' p.node s' x' ≡ with_sheet a p.node s x) × (written_with a' s' x' ≡ written_with a s x)) → SaidOn k a' b s' s'' row row' c x' y → SaidOn k a b s s'' row row' c x y
said_from k a a' b s s' s'' row row' c x x' y same f p r =
    let e = same p r in
    subst (λ u. SaidWith k u b s'' row' c (written_with a s x) y) e.0 (subst (λ u. SaidWith k (with_sheet a' p.node s' x') b s'' row' c u y) e.1 (f p r))

-- at its end all is handed on
pub told : (k : Known) (a b b' : Position) (s s' : Sheet) (row row' state : ℕ) (c : List Symbol) (x y y' : List ℕ) → IsBlank s → IsTrue a.usable → SaidOn k a b s s' row row' c x y → ((p : Pair) → IsPairRow k row' p → (state ≡ p.state) × (b' ≡ with_sheet b p.node s' y) × (y' ≡ written_with b s' y)) → (q : Pair) → IsPairRow k row q → q.node ≡ a.at → PerformsSaid a b' c x y'
told k a b b' s s' row row' state c x y y' blank usable f there q h node =
    let r = f q h in
    let all = there r.to r.row_of in
    let new = with_sheet b r.to.node s' y in
    let one = subst (λ u. PerformsSaid u new c (written_with a s x) (written_with b s' y)) (blank_position a q.node s x blank node usable) r.performs in
    let two = subst (λ u. PerformsSaid a new c u (written_with b s' y)) (blank_written a s x blank) one in
    let three = subst (λ u. PerformsSaid a u c x (written_with b s' y)) (sym all.1) two in
    subst (λ u. PerformsSaid a b' c x u) (sym all.2) three
