-- A run along edges, with the table and the actor.
use Rattle.std.proofs.Common.{◌≡◌, ℕ, zero, suc, ◌<◌, ◌≤◌, ◌+◌, Bool, true, false, cond, List, [], ◌∷◌, ◌++◌, All, Option, Some, None, map, length, get_or, take, drop, refl, sym, ap, ap₂, subst, ◌∙◌, arith, append_assoc, append-nil}
use Rattle.std.specs.Prelude.{slice_get}
use Rattle.std.proofs.Math.Seq.{take-add}
use Rattle.std.proofs.lemmas.List.{take-append-drop, take-append-le, take_more, append_cancel_right}
use Rattle.std.proofs.lemmas.List.Elements.{All-from_get_or}
use Rattle.std.proofs.lemmas.Option.{slice_get-get_or}
use Rattle.kex_code.specs.declared.symbol.Symbol.{Symbol}
use Rattle.kex_model.specs.Moves.{code_of}
use Rattle.kex_model.specs.Acting.{ActingState}
use Rattle.kex_machine.specs.declared.MNode.{MNode}
use Rattle.kex_machine.specs.Nodes.{Graph}
use Rattle.kex_action.specs.Holdings.{LeadsByCode, Does, with_bytes}
use Rattle.kex_action.specs.Actors.{Position, HasPerformed, BeginsRun, WentOn}
use Rattle.kex_action.specs.Deeds.{after_deeds}
use Rattle.kex_action.proofs.NodeSteps.{leads_on, stays}
use Rattle.kex_action.proofs.ActorRuns.{goes_from}
use Rattle.kex_sst.specs.Parts.{parts_code}
use Rattle.kex_sst.specs.Tables.{Transducer}
use Rattle.kex_sst.specs.Passes.{transition_at, next_of, next_pass, passes_if}
use Rattle.kex_sst.proofs.Passes.{passes_more}
use Rattle.kex_moves.specs.declared.edge.Edge.{Edge}
use Rattle.kex_moves.specs.declared.edges.Pair.{Pair}
use Rattle.kex_moves.specs.Edges.{writes, is_written, is_known}
use Rattle.kex_moves.specs.Runs as runs
use Rattle.kex_moves.specs.Runs.{RunStop, by_edge, edge_step, stop_behind, on_step, run_of}
use Rattle.kex_held.specs.Walks.{TakesCode, code_with_byte}
use Rattle.kex_moves.specs.Known.{Known, rows_of, IsPairRow, IsRight, IsKnown, makes}
use Rattle.kex_moves.specs.Along.{bare, GoesAlong, Reached, RunsOn}
use Rattle.kex_moves.proofs.KnownEdges.{at_of, known_if}
use Rattle.kex_moves.proofs.PlacedTexts.{adding_more, adding_none}

-- what a step comes from
record Stands (k : Known) (row b : ℕ) (w : runs.RunStep) : Type 0 where
  class : ℕ
  class_is : slice_get k.classes b ≡ Some class
  edge : Edge
  edge_is : slice_get k.edges (row + class) ≡ Some edge
  written : is_written edge.kind ≡ true
  step : w ≡ record { row = edge.next; writes = writes k.text edge b }

stands : (k : Known) (row b : ℕ) (w : runs.RunStep) → b < length k.classes → edge_step (rows_of k) row b ≡ Some w → Stands k row b w
stands k row b w lt h = by_edge_is (slice_get k.edges (row + get_or k.classes b 0)) refl h
  where
    by_kind : (e : Edge) (x : Bool) → slice_get k.edges (row + get_or k.classes b 0) ≡ Some e → is_written e.kind ≡ x → cond x (Some (record { row = e.next; writes = writes k.text e b })) None ≡ Some w → Stands k row b w
    by_kind e true is kind f = record { class = get_or k.classes b 0; class_is = slice_get-get_or k.classes b 0 lt; edge = e; edge_is = is; written = kind; step = cc }
    by_kind e false is kind f = cc

    by_edge_is : (o : Option Edge) → slice_get k.edges (row + get_or k.classes b 0) ≡ o → by_edge k.text b o ≡ Some w → Stands k row b w
    by_edge_is None is f = cc
    by_edge_is (Some e) is f = by_kind e (is_written e.kind) is refl f

-- along an edge the table goes on
pub one_pass : (t : Transducer) (nodes : List MNode) (k : Known) (p : Pair) (class b : ℕ) (e : Edge) (c : List Symbol) (bs : List ℕ) → slice_get t.classes b ≡ Some class → (r : IsRight t nodes k p class e) → passes_if t (Some (bare p.state c)) (b ∷ bs) ≡ passes_if t (Some (bare r.to.state (c ++ code_with_byte b r.by.update.out))) bs
one_pass t nodes k p class b e c bs is r =
    let next : next_of t p.state b ≡ Some r.by = ap (transition_at t p.state) is ∙ r.goes in
    let left : next_pass (Some r.by) b (bare p.state c) ≡ Some (bare r.to.state (c ++ code_with_byte b r.by.update.out)) = ap₂ (λ (q : ℕ) (regs : List (List Symbol)). Some (record { state = q; code = c ++ code_with_byte b r.by.update.out; registers = regs })) (sym r.target) (ap (map (λ xs. parts_code [] b xs)) r.bare) in
    ap (λ o. passes_if t (next_pass o b (bare p.state c)) bs) next ∙ ap (λ o. passes_if t o bs) left

-- a run from the row of a pair
pub record RunsTo (t : Transducer) (nodes : List MNode) (k : Known) (p : Pair) (bs : List ℕ) (stop : RunStop) : Type 0 where
  pub to : Pair
  pub row : IsPairRow k stop.row to
  pub gone : List ℕ
  pub parts : bs ≡ gone ++ stop.left
  pub said : List Symbol
  pub passed : (c : List Symbol) → passes_if t (Some (bare p.state c)) gone ≡ Some (bare to.state (c ++ said))
  pub does : (x : List Symbol) → TakesCode nodes p.node (said ++ x) → Does nodes p.node said to.node (with_bytes stop.written)
  pub takes : (x : List Symbol) → TakesCode nodes p.node (said ++ x) → TakesCode nodes to.node x

runs_none : (t : Transducer) (nodes : List MNode) (k : Known) (p : Pair) (row : ℕ) (bs : List ℕ) → IsPairRow k row p → RunsTo t nodes k p bs (record { written = []; row = row; left = bs })
runs_none t nodes k p row bs r = record {
  to = p;
  row = r;
  gone = [];
  parts = refl;
  said = [];
  passed = λ c. ap (λ l. Some (bare p.state l)) (sym (append-nil c));
  does = λ x takes s. subst (λ z. LeadsByCode nodes p.node s [] p.node z) (adding_none s) (stays nodes p.node s);
  takes = λ x takes. takes;
}

runs_more : (t : Transducer) (nodes : List MNode) (k : Known) (p : Pair) (class b : ℕ) (e : Edge) (bs : List ℕ) (stop : RunStop) → slice_get t.classes b ≡ Some class → is_written e.kind ≡ true → (r : IsRight t nodes k p class e) → RunsTo t nodes k r.to bs stop → RunsTo t nodes k p (b ∷ bs) (stop_behind (writes k.text e b) stop)
runs_more t nodes k p class b e bs stop is written r q =
    let first = code_with_byte b r.by.update.out in
    let made = λ (s : ActingState). ap (λ x. cond x (with_bytes (writes k.text e b) s) (after_deeds nodes b (take e.adds (drop e.from k.acts)) s)) written in
    record {
      to = q.to;
      row = q.row;
      gone = b ∷ q.gone;
      parts = ap (λ l. b ∷ l) q.parts;
      said = first ++ q.said;
      passed = λ c. one_pass t nodes k p class b e c q.gone is r ∙ q.passed (c ++ first) ∙ ap (λ l. Some (bare q.to.state l)) (append_assoc c first q.said);
      does = λ x takes s.
          let here = subst (λ l. TakesCode nodes p.node l) (append_assoc first q.said x) takes in
          let middle = with_bytes (writes k.text e b) s in
          let one = subst (λ z. LeadsByCode nodes p.node s first r.to.node z) (made s) (r.does b (q.said ++ x) here s) in
          let rest = q.does x (r.takes b (q.said ++ x) here) middle in
          subst (λ z. LeadsByCode nodes p.node s (first ++ q.said) q.to.node z) (adding_more (writes k.text e b) stop.written s) (leads_on nodes p.node r.to.node q.to.node first q.said s middle (with_bytes stop.written middle) one rest);
      takes = λ x takes. q.takes x (r.takes b (q.said ++ x) (subst (λ l. TakesCode nodes p.node l) (append_assoc first q.said x) takes));
    }

pub runs_to : (t : Transducer) (g : Graph) (k : Known) (row : ℕ) (p : Pair) (bs : List ℕ) → IsKnown t g k → IsPairRow k row p → All (λ b. b < length k.classes) bs → RunsTo t g.nodes k p bs (run_of (rows_of k) row bs)
runs_to t g k row p [] h r all = runs_none t g.nodes k p row [] r
runs_to t g k row p (b ∷ bs) h r all = by (edge_step (rows_of k) row b) refl (λ row p r. runs_to t g k row p bs h r (λ i d lt. all (suc i) d (omega arith)))
  where
    by : (o : Option runs.RunStep) → edge_step (rows_of k) row b ≡ o → ((row : ℕ) (p : Pair) → IsPairRow k row p → RunsTo t g.nodes k p bs (run_of (rows_of k) row bs)) → RunsTo t g.nodes k p (b ∷ bs) (run_of (rows_of k) row (b ∷ bs))
    by None e more = subst (λ o. RunsTo t g.nodes k p (b ∷ bs) (on_step (record { written = []; row = row; left = b ∷ bs }) (λ w. stop_behind w.writes (run_of (rows_of k) w.row bs)) o)) (sym e) (runs_none t g.nodes k p row (b ∷ bs) r)
    by (Some w) e more =
        let f = stands k row b w (all 0 0 (omega arith)) e in
        let right = h.right r.number f.class p f.edge r.at (at_of (λ c. c < k.width) k.classes b f.class h.ordered.classes f.class_is) (ap (λ x. slice_get k.edges (x + f.class)) (sym r.begins) ∙ f.edge_is) (known_if f.edge.kind f.written) in
        let class : slice_get t.classes b ≡ Some f.class = ap (λ l. slice_get l b) (sym h.classes) ∙ f.class_is in
        let rest = runs_more t g.nodes k p f.class b f.edge bs (run_of (rows_of k) f.edge.next bs) class f.written right (more f.edge.next right.to right.row) in
        let same : run_of (rows_of k) row (b ∷ bs) ≡ stop_behind (writes k.text f.edge b) (run_of (rows_of k) f.edge.next bs) = ap (on_step (record { written = []; row = row; left = b ∷ bs }) (λ w. stop_behind w.writes (run_of (rows_of k) w.row bs))) e ∙ ap (λ (x : runs.RunStep). stop_behind x.writes (run_of (rows_of k) x.row bs)) f.step in
        subst (λ s. RunsTo t g.nodes k p (b ∷ bs) s) (sym same) rest

-- what is gone before the rest
pub gone_is : (gone left bs : List ℕ) (at : ℕ) → bs ≡ gone ++ left → left ≡ drop at bs → gone ≡ take at bs
gone_is gone left bs at e f = append_cancel_right gone (take at bs) (drop at bs) (ap (λ l. gone ++ l) (sym f) ∙ sym e ∙ sym (take-append-drop at bs))

-- one and then another
pub went_more : (old mid new : Position) (c d : List Symbol) (xs ys zs : List ℕ) → WentOn old mid c c xs ys → WentOn mid new d d ys zs → WentOn old new (c ++ d) (c ++ d) xs zs
went_more old mid new c d xs ys zs p q = record {
  more = p.more ++ q.more;
  written = q.written ∙ ap (λ l. l ++ q.more) p.written ∙ append_assoc xs p.more q.more;
  performed = λ given code out h.
      let all = q.performed (given ++ c) (code ++ c) (out ++ p.more) (p.performed given code out h) in
      subst (λ l. HasPerformed new (given ++ (c ++ d)) (code ++ (c ++ d)) l) (append_assoc out p.more q.more) (subst (λ l. HasPerformed new (given ++ (c ++ d)) l ((out ++ p.more) ++ q.more)) (append_assoc code c d) (subst (λ l. HasPerformed new l ((code ++ c) ++ d) ((out ++ p.more) ++ q.more)) (append_assoc given c d) all));
}

pub went_none : (a : Position) (xs : List ℕ) → WentOn a a [] [] xs xs
went_none a xs = record {
  more = [];
  written = sym (append-nil xs);
  performed = λ given code out h. subst (λ l. HasPerformed a (given ++ []) (code ++ []) l) (sym (append-nil out)) (subst (λ l. HasPerformed a (given ++ []) l out) (sym (append-nil code)) (subst (λ l. HasPerformed a l code out) (sym (append-nil given)) h));
}

pub goes_none : (t : Transducer) (a : Position) (q : ℕ) (xs : List ℕ) → GoesAlong t a a q q [] xs xs
goes_none t a q xs = record { said = []; passed = λ c. ap (λ l. Some (bare q l)) (sym (append-nil c)); went = λ x takes. went_none a xs; takes = λ x takes. takes }

pub goes_more : (t : Transducer) (old mid new : Position) (q r s : ℕ) (us vs xs ys zs : List ℕ) → GoesAlong t old mid q r us xs ys → GoesAlong t mid new r s vs ys zs → GoesAlong t old new q s (us ++ vs) xs zs
goes_more t old mid new q r s us vs xs ys zs p n = record {
  said = p.said ++ n.said;
  passed = λ c. passes_more t (Some (bare q c)) us vs ∙ ap (λ o. passes_if t o vs) (p.passed c) ∙ n.passed (c ++ p.said) ∙ ap (λ l. Some (bare s l)) (append_assoc c p.said n.said);
  went = λ x takes.
      let here = subst (λ l. TakesCode old.machine.nodes old.at l) (append_assoc p.said n.said x) takes in
      went_more old mid new p.said n.said xs ys zs (p.went (n.said ++ x) here) (n.went x (p.takes (n.said ++ x) here));
  takes = λ x takes. n.takes x (p.takes (n.said ++ x) (subst (λ l. TakesCode old.machine.nodes old.at l) (append_assoc p.said n.said x) takes));
}

-- where a run's code goes on from what was performed, it can be taken
pub takes_run : (a : Position) (given c d : List Symbol) (out : List ℕ) → HasPerformed a given c out → BeginsRun a.machine (c ++ d) → (x : List Symbol) × TakesCode a.machine.nodes a.at (d ++ x)
takes_run a given c d out h run =
    let code : code_of run.0 ≡ c ++ (d ++ run.2.0) = run.2.1 ∙ append_assoc c d run.2.0 in
    let on = goes_from a.machine h.came.steps run.0 a.at c h.came.walk h.came.codes run.1 (d ++ run.2.0, code) in
    (run.2.0, record { steps = on.rest; to = run.1.0; walk = on.walk; codes = on.codes })

pub runs_on : (t : Transducer) (old new : Position) (q r : ℕ) (bs xs ys : List ℕ) → GoesAlong t old new q r bs xs ys → RunsOn t old new q r bs xs ys
runs_on t old new q r bs xs ys p = record {
  said = p.said;
  passed = λ w c e. passes_more t (Some _) w bs ∙ ap (λ o. passes_if t o bs) e ∙ p.passed c;
  went = λ given c written h run. let x = takes_run old given c p.said written h run in p.went x.0 x.1;
}

-- a run over bytes
pub to_stop : (t : Transducer) (g : Graph) (k : Known) (row : ℕ) (p : Pair) (piece : List ℕ) (stop : RunStop) → IsKnown t g k → IsPairRow k row p → ((i : ℕ) → get_or piece i 0 < 256) → stop ≡ run_of (rows_of k) row piece → RunsTo t g.nodes k p piece stop
to_stop t g k row p piece stop h r bytes e = subst (λ s. RunsTo t g.nodes k p piece s) (sym e) (runs_to t g k row p piece h r (All-from_get_or (λ b. b < length k.classes) piece 0 (λ i lt. omega (arith, h.ordered.bytes, bytes i))))

-- the actor that has gone where a run leads and has written what it wrote
pub reached_along : (t : Transducer) (k : Known) (old new : Position) (q at row : ℕ) (p : Pair) (piece bytes xs ys : List ℕ) (ran : RunsTo t old.machine.nodes k p piece (record { written = bytes; row = row; left = drop at piece })) → p.state ≡ q → p.node ≡ old.at → new.machine ≡ old.machine → new.at ≡ ran.to.node → ((d : List Symbol) → Does old.machine.nodes old.at d new.at (with_bytes bytes) → WentOn old new d d xs ys) → Reached t k old new q row (take at piece) xs ys
reached_along t k old new q at row p piece bytes xs ys ran state node machine there went = record {
  state = ran.to.state;
  row_for = (ran.to, ran.row, refl, sym there);
  goes = record {
    said = ran.said;
    passed = λ c. subst (λ l. passes_if t (Some (bare q c)) l ≡ Some (bare ran.to.state (c ++ ran.said))) (gone_is ran.gone (drop at piece) piece at ran.parts refl) (subst (λ s. passes_if t (Some (bare s c)) ran.gone ≡ Some (bare ran.to.state (c ++ ran.said))) state (ran.passed c));
    went = λ x takes. went ran.said (λ before. subst (λ n. LeadsByCode old.machine.nodes old.at before ran.said n (with_bytes bytes before)) (sym there) (subst (λ n. LeadsByCode old.machine.nodes n before ran.said ran.to.node (with_bytes bytes before)) node (ran.does x (from x takes) before)));
    takes = λ x takes. subst (λ m. TakesCode m.nodes new.at x) (sym machine) (subst (λ n. TakesCode old.machine.nodes n x) (sym there) (ran.takes x (from x takes)));
  };
}
  where
    from : (x : List Symbol) → TakesCode old.machine.nodes old.at (ran.said ++ x) → TakesCode old.machine.nodes p.node (ran.said ++ x)
    from x takes = subst (λ n. TakesCode old.machine.nodes n (ran.said ++ x)) (sym node) takes

-- the edge of a row at a class is right
pub right_at : (t : Transducer) (g : Graph) (k : Known) (row class : ℕ) (p : Pair) (e : Edge) → IsKnown t g k → IsPairRow k row p → class < k.width → slice_get k.edges (row + class) ≡ Some e → is_known e.kind ≡ true → IsRight t g.nodes k p class e
right_at t g k row class p e h r lt is known = h.right r.number class p e r.at lt (ap (λ x. slice_get k.edges (x + class)) (sym r.begins) ∙ is) known

-- the actor that has gone where an edge leads and has done its actions
pub reached_act : (t : Transducer) (k : Known) (old new : Position) (p : Pair) (class b : ℕ) (e : Edge) (xs ys : List ℕ) → slice_get t.classes b ≡ Some class → (r : IsRight t old.machine.nodes k p class e) → is_written e.kind ≡ false → p.node ≡ old.at → new.machine ≡ old.machine → new.at ≡ r.to.node → ((d : List Symbol) → Does old.machine.nodes old.at d new.at (after_deeds old.machine.nodes b (take e.adds (drop e.from k.acts))) → WentOn old new d d xs ys) → Reached t k old new p.state e.next (b ∷ []) xs ys
reached_act t k old new p class b e xs ys is r acts node machine there went = record {
  state = r.to.state;
  row_for = (r.to, r.row, refl, sym there);
  goes = record {
    said = code;
    passed = λ c. one_pass t old.machine.nodes k p class b e c [] is r;
    went = λ x takes. went code (λ before. subst (λ z. LeadsByCode old.machine.nodes old.at before code new.at z) (made before) (subst (λ n. LeadsByCode old.machine.nodes old.at before code n (makes old.machine.nodes k e b before)) (sym there) (subst (λ n. LeadsByCode old.machine.nodes n before code r.to.node (makes old.machine.nodes k e b before)) node (r.does b x (from x takes) before))));
    takes = λ x takes. subst (λ m. TakesCode m.nodes new.at x) (sym machine) (subst (λ n. TakesCode old.machine.nodes n x) (sym there) (r.takes b x (from x takes)));
  };
}
  where
    code : List Symbol
    code = code_with_byte b r.by.update.out

    made : (s : ActingState) → makes old.machine.nodes k e b s ≡ after_deeds old.machine.nodes b (take e.adds (drop e.from k.acts)) s
    made s = ap (λ x. cond x (with_bytes (writes k.text e b) s) (after_deeds old.machine.nodes b (take e.adds (drop e.from k.acts)) s)) acts

    from : (x : List Symbol) → TakesCode old.machine.nodes old.at (code ++ x) → TakesCode old.machine.nodes p.node (code ++ x)
    from x takes = subst (λ n. TakesCode old.machine.nodes n (code ++ x)) (sym node) takes

-- a part of the piece more
pub part_more : {A : Type 0} (piece part : List A) (at n count : ℕ) → part ≡ take n (drop at piece) → count ≤ length part → take at piece ++ take count part ≡ take (at + count) piece
part_more piece part at n count e le =
    let rest = drop at piece in
    let whole : part ++ drop n rest ≡ rest = ap (λ l. l ++ drop n rest) e ∙ take-append-drop n rest in
    let same : take count part ≡ take count rest = sym (take-append-le count part (drop n rest) le) ∙ ap (take count) whole in
    ap (λ l. take at piece ++ l) same ∙ sym (take-add at count piece)

-- one more, or none
pub one_more : {A : Type 0} (piece : List A) (d : A) (at count : ℕ) → at < length piece → count ≤ 1 → take at piece ++ take count (get_or piece at d ∷ []) ≡ take (at + count) piece
one_more piece d at zero lt le = append-nil (take at piece) ∙ ap (λ n. take n piece) at_zero
  where
    at_zero : at ≡ at + 0
    at_zero = omega arith
one_more piece d at (suc zero) lt le = sym (take_more piece at d lt)
one_more piece d at (suc (suc n)) lt le = absurd (omega arith)
