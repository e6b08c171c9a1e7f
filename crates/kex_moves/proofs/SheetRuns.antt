-- A run along edges, with the table, the actor and a sheet.
use Rattle.std.proofs.Common.{◌≡◌, ℕ, ◌<◌, ◌≤◌, true, false, cond, Bool, IsTrue, List, [], ◌∷◌, ◌++◌, length, get_or, take, drop, reverse, refl, sym, ap, ap₂, subst, ◌∙◌, arith, length-append}
use Rattle.std.specs.Prelude.{slice_get, Some}
use Rattle.std.proofs.lemmas.List.{length-take-le}
use Rattle.kex_code.specs.declared.symbol.Symbol.{Symbol}
use Rattle.kex_model.specs.Acting.{ActingState}
use Rattle.kex_machine.specs.Nodes.{Graph}
use Rattle.kex_action.specs.declared.sheet.Sheet.{Sheet}
use Rattle.kex_action.specs.Holdings.{Holding, LeadsByCode, Does, with_bytes, state_of}
use Rattle.kex_action.specs.Actors.{Position, WentOn}
use Rattle.kex_action.specs.Deeds.{after_deeds}
use Rattle.kex_action.specs.Sheets.{with_buffer, with_marked_bytes, AreMarks, IsSheet, IsBlank, state_with}
use Rattle.kex_action.proofs.ActorRuns.{went_on, position}
use Rattle.kex_action.proofs.Sheets.{laid_none, laid_adds}
use Rattle.kex_sst.specs.Tables.{Transducer}
use Rattle.kex_moves.specs.declared.edge.Edge.{Edge}
use Rattle.kex_moves.specs.declared.edge.EdgeKind.TheVariants.{Opens}
use Rattle.kex_moves.specs.declared.edges.Pair.{Pair}
use Rattle.kex_moves.specs.Edges.{writes, is_written}
use Rattle.kex_moves.specs.Runs.{RunStop, stop_behind, run_of}
use Rattle.kex_moves.specs.Known.{Known, rows_of, IsPairRow, HasRowFor, IsRight, IsKnown, KnownGrows}
use Rattle.kex_moves.specs.Along.{GoesAlong, Reached, with_sheet, written_with, ReachedWith, ReachedOn}
use Rattle.kex_moves.proofs.EdgeRuns.{to_stop, reached_along, reached_act, goes_none, goes_more}

abbrev pub stop_at : List ℕ → ℕ → List ℕ → RunStop
stop_at written row left = record { written = written; row = row; left = left }

-- a state as the actor at a node, once it is handed on
abbrev pub as_position : Position → ℕ → ActingState → Position
as_position a n z = record { machine = a.machine; at = n; holding = record { buffers = z.buffers; registers = z.registers }; refused = a.refused; usable = true }

blank_state : (s : Sheet) (out : List ℕ) (h : Holding) → IsBlank s → state_with s out h ≡ state_of out h
blank_state s out h b = ap₂ (λ n ms. with_marked_bytes (take n s.bytes.items) (reverse ms) (state_of out h)) b.0 b.1 ∙ laid_none (state_of out h)

-- a sheet on which nothing is
pub blank_position : (a : Position) (n : ℕ) (s : Sheet) (out : List ℕ) → IsBlank s → n ≡ a.at → IsTrue a.usable → with_sheet a n s out ≡ a
blank_position a n s out b at usable =
    ap (as_position a n) (blank_state s out a.holding b)
    ∙ ap₂ (λ (m : ℕ) (u : Bool). record { machine = a.machine; at = m; holding = a.holding; refused = a.refused; usable = u }) at (sym usable)

pub blank_written : (a : Position) (s : Sheet) (out : List ℕ) → IsBlank s → written_with a s out ≡ out
blank_written a s out b = ap (λ z. z.out) (blank_state s out a.holding b)

-- one more is handed on of what can be handed on
pub moved : (a b : Position) (n m : ℕ) (s s' : Sheet) (x y : List ℕ) (f : ActingState → ActingState) → b.machine ≡ a.machine → b.refused ≡ a.refused → state_with s' y b.holding ≡ f (state_with s x a.holding) → (d : List Symbol) → Does a.machine.nodes n d m f → WentOn (with_sheet a n s x) (with_sheet b m s' y) d d (written_with a s x) (written_with b s' y)
moved a b n m s s' x y f machine refused e d does =
    let z = state_with s x a.holding in
    let z' = state_with s' y b.holding in
    let h : Holding = record { buffers = z.buffers; registers = z.registers } in
    let h' : Holding = record { buffers = z'.buffers; registers = z'.registers } in
    let leads : LeadsByCode a.machine.nodes n z d m z' = subst (λ q. LeadsByCode a.machine.nodes n z d m q) (sym e) (does z) in
    let went = went_on a.machine n m h h' a.refused true true d z.out z'.out leads in
    subst (λ r. WentOn (position a.machine n h a.refused true) (position b.machine m h' r true) d d z.out z'.out) (sym refused) (subst (λ g. WentOn (position a.machine n h a.refused true) (position g m h' a.refused true) d d z.out z'.out) (sym machine) went)

-- what a run wrote is the bytes that come after those that were there before
record Put (k : Known) (s s' : Sheet) (row row' at : ℕ) (piece : List ℕ) : Type 0 where
  pub bytes : List ℕ
  pub stop : record { written = bytes; row = row'; left = drop at piece } ≡ run_of (rows_of k) row piece
  pub adds : (out : List ℕ) (h : Holding) → state_with s' out h ≡ with_bytes bytes (state_with s out h)

put_by : (k : Known) (s s' : Sheet) (row row' at : ℕ) (piece : List ℕ) → IsSheet s → s'.marks.items ≡ s.marks.items → record { written = take s'.used s'.bytes.items; row = row'; left = drop at piece } ≡ stop_behind (take s.used s.bytes.items) (run_of (rows_of k) row piece) → Put k s s' row row' at piece
put_by k s s' row row' at piece h marks e =
    let stop = run_of (rows_of k) row piece in
    let before = take s.used s.bytes.items in
    let n : length before ≡ s.used = length-take-le s.used s.bytes.items h.used in
    record {
      bytes = stop.written;
      stop = ap₂ (λ (r : ℕ) (l : List ℕ). record { written = stop.written; row = r; left = l }) (ap (λ (z : RunStop). z.row) e) (ap (λ (z : RunStop). z.left) e);
      adds = λ out hold. ap₂ (λ b ms. with_marked_bytes b (reverse ms) (state_of out hold)) (ap (λ (z : RunStop). z.written) e) marks ∙ laid_adds before stop.written (reverse s.marks.items) (state_of out hold) (subst (λ u. AreMarks u (reverse s.marks.items)) (sym n) h.marks);
    }

-- along a run
pub reached_run : (t : Transducer) (k : Known) (a : Position) (s s' : Sheet) (row row' at : ℕ) (piece out : List ℕ) → IsKnown t a.machine k → ((i : ℕ) → get_or piece i 0 < 256) → IsSheet s → s'.marks.items ≡ s.marks.items → record { written = take s'.used s'.bytes.items; row = row'; left = drop at piece } ≡ stop_behind (take s.used s.bytes.items) (run_of (rows_of k) row piece) → ReachedOn t k k a a s s' row row' (take at piece) out out
reached_run t k a s s' row row' at piece out known bytes sheet marks e q n h =
    let p = put_by k s s' row row' at piece sheet marks e in
    let ran = to_stop t a.machine k row h.0 piece (record { written = p.bytes; row = row'; left = drop at piece }) known h.1 bytes p.stop in
    let m = ran.to.node in
    record {
      node = m;
      reached = reached_along t k (with_sheet a n s out) (with_sheet a m s' out) q at row' h.0 piece p.bytes (written_with a s out) (written_with a s' out) ran h.2 h.3 refl refl (λ d does. moved a a n m s s' out out (with_bytes p.bytes) refl refl (p.adds out a.holding) d does);
    }

-- where an edge's actions are done
pub reached_acts : (t : Transducer) (k : Known) (a b : Position) (s s' : Sheet) (row class byte : ℕ) (e : Edge) (x y : List ℕ) → slice_get t.classes byte ≡ Some class → ((p : Pair) → IsPairRow k row p → IsRight t a.machine.nodes k p class e) → is_written e.kind ≡ false → b.machine ≡ a.machine → b.refused ≡ a.refused → state_with s' y b.holding ≡ after_deeds a.machine.nodes byte (take e.adds (drop e.from k.acts)) (state_with s x a.holding) → ReachedOn t k k a b s s' row e.next (byte ∷ []) x y
reached_acts t k a b s s' row class byte e x y is right acts machine refused did q n h =
    let r = right h.0 h.1 in
    let m = r.to.node in
    record {
      node = m;
      reached = subst (λ z. Reached t k (with_sheet a n s x) (with_sheet b m s' y) z e.next (byte ∷ []) (written_with a s x) (written_with b s' y)) h.2 (reached_act t k (with_sheet a n s x) (with_sheet b m s' y) h.0 class byte e (written_with a s x) (written_with b s' y) is r acts h.3 machine refl (λ d does. moved a b n m s s' x y (after_deeds a.machine.nodes byte (take e.adds (drop e.from k.acts))) machine refused did d does));
    }

-- where an edge opens a buffer
pub reached_opens : (t : Transducer) (k : Known) (a : Position) (s s' : Sheet) (row class byte : ℕ) (e : Edge) (x : List ℕ) → slice_get t.classes byte ≡ Some class → ((p : Pair) → IsPairRow k row p → IsRight t a.machine.nodes k p class e) → e.kind ≡ Opens → ((out : List ℕ) (h : Holding) → state_with s' out h ≡ with_buffer (byte ∷ []) (state_with s out h)) → ReachedOn t k k a a s s' row e.next (byte ∷ []) x x
reached_opens t k a s s' row class byte e x is right opens opened q n h =
    let z = state_with s x a.holding in
    let acts = after_deeds a.machine.nodes byte (take e.adds (drop e.from k.acts)) z in
    let unwritten : is_written e.kind ≡ false = ap is_written opens in
    let made : with_buffer (byte ∷ []) z ≡ acts = sym ((right h.0 h.1).opens opens byte z) ∙ ap (λ w. cond w (with_bytes (writes k.text e byte) z) acts) unwritten in
    reached_acts t k a a s s' row class byte e x x is right unwritten refl refl (opened x a.holding ∙ made) q n h

-- where nothing is taken
pub reached_none : (t : Transducer) (k k' : Known) (a : Position) (s : Sheet) (row : ℕ) (x : List ℕ) → KnownGrows k k' → ReachedOn t k k' a a s s row row [] x x
reached_none t k k' a s row x grows q n h = record {
  node = n;
  reached = record { state = q; row_for = (h.0, grows.rows row h.0 h.1, h.2, h.3); goes = goes_none t (with_sheet a n s x) q (written_with a s x) };
}

pub same_grows : (k : Known) → KnownGrows k k
same_grows k = record { width = refl; rows = λ row p r. r }

-- one and then another
pub reached_on : (t : Transducer) (k k' k'' : Known) (a b c : Position) (s s' s'' : Sheet) (row row' row'' : ℕ) (us vs x y z : List ℕ) → ReachedOn t k k' a b s s' row row' us x y → ReachedOn t k' k'' b c s' s'' row' row'' vs y z → ReachedOn t k k'' a c s s'' row row'' (us ++ vs) x z
reached_on t k k' k'' a b c s s' s'' row row' row'' us vs x y z f g q n h =
    let p = f q n h in
    let r = g p.reached.state p.node p.reached.row_for in
    record {
      node = r.node;
      reached = record {
        state = r.reached.state;
        row_for = r.reached.row_for;
        goes = goes_more t (with_sheet a n s x) (with_sheet b p.node s' y) (with_sheet c r.node s'' z) q p.reached.state r.reached.state us vs (written_with a s x) (written_with b s' y) (written_with c s'' z) p.reached.goes r.reached.goes;
      };
    }

-- what is reached is a row
pub row_reached : (t : Transducer) (g : Graph) (k : Known) (s s' : Sheet) (row row' : ℕ) (bs : List ℕ) → IsKnown t g k → (p : Pair) × IsPairRow k row p → ((t : Transducer) (a : Position) (out : List ℕ) → IsKnown t a.machine k → ReachedOn t k k a a s s' row row' bs out out) → (p : Pair) × IsPairRow k row' p
row_reached t g k s s' row row' bs known from reached =
    let a : Position = record { machine = g; at = 0; holding = record { buffers = []; registers = [] }; refused = false; usable = true } in
    let r = reached t a [] known from.0.state from.0.node (from.0, from.1, refl, refl) in
    (r.reached.row_for.0, r.reached.row_for.1)

-- at its end all is handed on
pub arrived : (t : Transducer) (k k' : Known) (a b b' : Position) (s s' : Sheet) (row row' state : ℕ) (bs x y y' : List ℕ) → IsBlank s → IsTrue a.usable → ReachedOn t k k' a b s s' row row' bs x y → ((p : Pair) → IsPairRow k' row' p → (state ≡ p.state) × (b' ≡ with_sheet b p.node s' y) × (y' ≡ written_with b s' y)) → (q : ℕ) → HasRowFor k row q a.at → GoesAlong t a b' q state bs x y'
arrived t k k' a b b' s s' row row' state bs x y y' blank usable f there q h =
    let r = f q a.at h in
    let p = r.reached.row_for.0 in
    let all = there p r.reached.row_for.1 in
    let node : p.node ≡ r.node = r.reached.row_for.3 in
    let one = subst (λ u. GoesAlong t u (with_sheet b r.node s' y) q r.reached.state bs (written_with a s x) (written_with b s' y)) (blank_position a a.at s x blank refl usable) r.reached.goes in
    let two = subst (λ u. GoesAlong t a (with_sheet b r.node s' y) q r.reached.state bs u (written_with b s' y)) (blank_written a s x blank) one in
    let three = subst (λ u. GoesAlong t a u q r.reached.state bs x (written_with b s' y)) (sym (all.1 ∙ ap (λ m. with_sheet b m s' y) node)) two in
    let four = subst (λ u. GoesAlong t a b' q r.reached.state bs x u) (sym all.2) three in
    subst (λ u. GoesAlong t a b' q u bs x y') (sym (all.0 ∙ r.reached.row_for.2)) four

-- from what is the same with its sheet
pub reached_from : (t : Transducer) (k k' : Known) (a a' b : Position) (s s' s'' : Sheet) (row row' : ℕ) (bs x x' y : List ℕ) → ((p : Pair) → IsPairRow k row p → (with_sheet a' p.node s' x' ≡ with_sheet a p.node s x) × (written_with a' s' x' ≡ written_with a s x)) → ReachedOn t k k' a' b s' s'' row row' bs x' y → ReachedOn t k k' a b s s'' row row' bs x y
reached_from t k k' a a' b s s' s'' row row' bs x x' y same f q n h =
    let e = same h.0 h.1 in
    let from : with_sheet a' n s' x' ≡ with_sheet a n s x = subst (λ m. with_sheet a' m s' x' ≡ with_sheet a m s x) h.3 e.0 in
    subst (λ u. ReachedWith t k' u b s'' q row' bs (written_with a s x) y) from (subst (λ u. ReachedWith t k' (with_sheet a' n s' x') b s'' q row' bs u y) e.1 (f q n h))

-- what there is up to more is no less
pub longer : (u u' : ℕ) (b b' w : List ℕ) → u ≤ length b → u' ≤ length b' → take u' b' ≡ take u b ++ w → u ≤ u'
longer u u' b b' w h h' e = omega (arith, length-take-le u b h, length-take-le u' b' h', ap length e ∙ length-append (take u b) w)

pub blank_sheet : (s : Sheet) → IsBlank s → IsSheet s
blank_sheet s b = record { used = omega (arith, b.0); marks = subst (λ ms. AreMarks s.used (reverse ms)) (sym b.1) tt }

-- all is handed on
pub handed_on : (a b : Position) (n m : ℕ) (s : Sheet) (x y : List ℕ) → b.machine ≡ a.machine → b.refused ≡ a.refused → b.at ≡ m → m ≡ n → IsTrue b.usable → state_of y b.holding ≡ state_with s x a.holding → (b ≡ with_sheet a n s x) × (y ≡ written_with a s x)
handed_on a b n m s x y machine refused at to usable did = (
  ap₂ (λ (g : Graph) (k : ℕ). record { machine = g; at = k; holding = b.holding; refused = b.refused; usable = b.usable }) machine (at ∙ to)
      ∙ ap₂ (λ (r u : Bool). record { machine = a.machine; at = n; holding = b.holding; refused = r; usable = u }) refused usable
      ∙ ap (as_position a n) did,
  ap (λ z. z.out) did,
)

-- a sheet that was handed on stands for the same
pub cleared : (a b : Position) (n : ℕ) (s s' : Sheet) (x y : List ℕ) → IsBlank s' → IsTrue b.usable → b ≡ with_sheet a n s x → y ≡ written_with a s x → (with_sheet b n s' y ≡ with_sheet a n s x) × (written_with b s' y ≡ written_with a s x)
cleared a b n s s' x y blank usable e w = (blank_position b n s' y blank (sym (ap (λ (p : Position). p.at) e)) usable ∙ e, blank_written b s' y blank ∙ w)
