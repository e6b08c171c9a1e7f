-- A run, byte by byte.
use Rattle.std.proofs.Common.{◌≡◌, ℕ, zero, suc, ◌+◌, ◌-◌, ◌<◌, ◌≤◌, All, subst, Bool, true, false, IsTrue, cond, List, [], ◌∷◌, ◌++◌, Some, None, length, take, drop, set, get_or, refl, ap, ap₂, ◌∙◌, sym, arith, append_assoc, length-take, length-drop}
use Rattle.std.proofs.Math.Seq.{take-add}
use Rattle.std.proofs.lemmas.List.{get_or-drop, drop_more, take_more, append-nil, take_all, drop_at, drop-drop, take-append-le, length-take-le}
use Rattle.std.proofs.lemmas.Slice.{take-put_mid_below}
use borrow.Rule.Slice.PartMut.{put_mid, post_of}
use Rattle.std.proofs.lemmas.List.Elements.{All-append, All-get_or}
use Rattle.std.specs.Prelude.{slice_get}
use Rattle.std.proofs.lemmas.Option.{slice_get-get_or, get_or_from_slice_get}
use Rattle.kex_moves.specs.declared.edge.Edge.{Edge}
use Rattle.kex_moves.specs.declared.edge.EdgeKind.{EdgeKind}
use Rattle.kex_moves.specs.declared.edge.EdgeKind.TheVariants.{Keep, Drop, Text, Acts, Opens, Plain, Unknown}
use Rattle.kex_moves.specs.Edges.{writes, is_written, HasRoom, IsAtRow}
use Rattle.kex_moves.specs.Runs.{Rows, RunStep, HasEdgeRow, LeadsBack, HasKind, HasRoomBelow, AreEdgesWithin, StopsAt, CopiesAlong, by_edge, edge_step, stop_behind, on_step, run_of, run_from}
use Rattle.kex_moves.proofs.KnownEdges.{at_of}

abbrev pub no_edge : Edge
no_edge = record { next = 0; from = 0; byte_at = 0; adds = 0; alone = false; kind = Keep }

-- the edge that the loop reads
abbrev pub edge_at : Rows → ℕ → ℕ → Edge
edge_at t r b = get_or t.edges (r + get_or t.classes b 0) no_edge

-- the edge of a byte is one of the edges
pub edge_in : (t : Rows) (r b : ℕ) → HasEdgeRow t.classes t.edges r → b < length t.classes → r + get_or t.classes b 0 < length t.edges
edge_in t r b row h = All-get_or (λ c. r + c < length t.edges) t.classes b 0 h row

read : (t : Rows) (r b : ℕ) → HasEdgeRow t.classes t.edges r → b < length t.classes → edge_step t r b ≡ by_edge t.text b (Some (edge_at t r b))
read t r b row h = ap (by_edge t.text b) (slice_get-get_or t.edges (r + get_or t.classes b 0) no_edge (edge_in t r b row h))

pub no_step : (t : Rows) (r b : ℕ) → HasEdgeRow t.classes t.edges r → b < length t.classes → is_written (edge_at t r b).kind ≡ false → edge_step t r b ≡ None
no_step t r b row h k = read t r b row h ∙ ap (λ x. cond x (Some (record { row = (edge_at t r b).next; writes = writes t.text (edge_at t r b) b })) None) k

pub one_step : (t : Rows) (r b : ℕ) → HasEdgeRow t.classes t.edges r → b < length t.classes → is_written (edge_at t r b).kind ≡ true → edge_step t r b ≡ Some (record { row = (edge_at t r b).next; writes = writes t.text (edge_at t r b) b })
one_step t r b row h k = read t r b row h ∙ ap (λ x. cond x (Some (record { row = (edge_at t r b).next; writes = writes t.text (edge_at t r b) b })) None) k

-- where no edge is written the run is at its end
pub stops : (t : Rows) (r : ℕ) (xs ws : List ℕ) (at : ℕ) → at < length ws → edge_step t r (get_or ws at 0) ≡ None → record { written = xs; row = r; left = drop at ws } ≡ stop_behind xs (run_of t r (drop at ws))
stops t r xs ws at h e =
    let f = drop_more ws at 0 h in
    sym (ap (λ l. stop_behind xs (run_of t r l)) f ∙ ap (λ o. stop_behind xs (on_step (record { written = []; row = r; left = get_or ws at 0 ∷ drop (at + 1) ws }) (λ w. stop_behind w.writes (run_of t w.row (drop (at + 1) ws))) o)) e ∙ ap₂ (λ (p q : List ℕ). record { written = p; row = r; left = q }) (append-nil xs) (sym f))

-- one edge more
pub goes_on : (t : Rows) (r : ℕ) (xs ys ws : List ℕ) (at : ℕ) (w : RunStep) → at < length ws → edge_step t r (get_or ws at 0) ≡ Some w → ys ≡ xs ++ w.writes → stop_behind ys (run_of t w.row (drop (at + 1) ws)) ≡ stop_behind xs (run_of t r (drop at ws))
goes_on t r xs ys ws at w h e g =
    let rest = run_of t w.row (drop (at + 1) ws) in
    let first = ap (λ l. stop_behind xs (run_of t r l)) (drop_more ws at 0 h) ∙ ap (λ o. stop_behind xs (on_step (record { written = []; row = r; left = get_or ws at 0 ∷ drop (at + 1) ws }) (λ w. stop_behind w.writes (run_of t w.row (drop (at + 1) ws))) o)) e in
    ap (λ l. stop_behind l rest) g ∙ ap (λ (l : List ℕ). record { written = l; row = rest.row; left = rest.left }) (append_assoc xs w.writes rest.written) ∙ sym first

pub one : (xs : List ℕ) (b : ℕ) → 0 < length xs → take 1 (set xs 0 b) ≡ b ∷ []
one [] b h = absurd (omega arith)
one (x ∷ xs) b h = refl

pub room_at : (t : Rows) (r b : ℕ) → HasEdgeRow t.classes t.edges r → b < length t.classes → HasRoomBelow (length t.text) t.edges → is_written (edge_at t r b).kind ≡ true → HasRoom (length t.text) (edge_at t r b)
room_at t r b row h room = All-get_or (λ (e : Edge). is_written e.kind ≡ true → HasRoom (length t.text) e) t.edges (r + get_or t.classes b 0) no_edge (edge_in t r b row h) room

slice_get-drop : (r : ℕ) (es : List Edge) (i : ℕ) → slice_get (drop r es) i ≡ slice_get es (r + i)
slice_get-drop zero es i = let same : i ≡ 0 + i = omega arith in ap (slice_get es) same
slice_get-drop (suc r) [] i = refl
slice_get-drop (suc r) (e ∷ es) i = let same : suc (r + i) ≡ suc r + i = omega arith in slice_get-drop r es i ∙ ap (slice_get (e ∷ es)) same

-- a byte's edge in a row
in_row : (t : Rows) (r b : ℕ) (k : EdgeKind) → (h : HasKind t.classes (drop r t.edges) k b) → slice_get t.edges (r + h.class) ≡ Some h.edge
in_row t r b k h = sym (slice_get-drop r t.edges h.class) ∙ h.at

room_of : (t : Rows) (r b : ℕ) (k : EdgeKind) → HasRoomBelow (length t.text) t.edges → is_written k ≡ true → (h : HasKind t.classes (drop r t.edges) k b) → HasRoom (length t.text) h.edge
room_of t r b k room w h = at_of (λ (e : Edge). is_written e.kind ≡ true → HasRoom (length t.text) e) t.edges (r + h.class) h.edge room (in_row t r b k h) (ap is_written h.kind ∙ w)

leads_of : (t : Rows) (r b : ℕ) (k : EdgeKind) → LeadsBack t.classes t.edges r → (h : HasKind t.classes (drop r t.edges) k b) → IsAtRow r h.edge
leads_of t r b k back h = at_of (λ c. (e : Edge) → slice_get t.edges (r + c) ≡ Some e → IsAtRow r e) t.classes b h.class back h.of h.edge (in_row t r b k h)

steps_back : (t : Rows) (r b : ℕ) (k : EdgeKind) (w : List ℕ) → (h : HasKind t.classes (drop r t.edges) k b) → is_written k ≡ true → h.edge.next ≡ r → writes t.text h.edge b ≡ w → edge_step t r b ≡ Some (record { row = r; writes = w })
steps_back t r b k w h written next said =
    let e = h.edge in
    ap (λ c. by_edge t.text b (slice_get t.edges (r + c))) (get_or_from_slice_get t.classes b h.class 0 h.of)
    ∙ ap (by_edge t.text b) (in_row t r b k h)
    ∙ ap (λ x. cond x (Some (record { row = e.next; writes = writes t.text e b })) None) (ap is_written h.kind ∙ written)
    ∙ ap₂ (λ (i : ℕ) (x : List ℕ). Some (record { row = i; writes = x })) next said

-- an edge that drops writes nothing
drops : (t : Rows) (r b : ℕ) → LeadsBack t.classes t.edges r → HasRoomBelow (length t.text) t.edges → HasKind t.classes (drop r t.edges) Drop b → edge_step t r b ≡ Some (record { row = r; writes = [] })
drops t r b back room h =
    let e = h.edge in
    let said : writes t.text e b ≡ [] = ap (λ m. take m (set (take 16 (drop e.from t.text)) e.byte_at b)) ((room_of t r b Drop room refl h).drops h.kind) in
    steps_back t r b Drop [] h refl ((leads_of t r b Drop back h).drops h.kind) said

-- along bytes that are dropped nothing is written, and the row stays
dropped : (t : Rows) (r : ℕ) (xs ws : List ℕ) (n : ℕ) → LeadsBack t.classes t.edges r → HasRoomBelow (length t.text) t.edges → All (HasKind t.classes (drop r t.edges) Drop) (take n ws) → stop_behind xs (run_of t r (drop n ws)) ≡ stop_behind xs (run_of t r ws)
dropped t r xs ws zero back room all = refl
dropped t r xs [] (suc n) back room all = refl
dropped t r xs (b ∷ bs) (suc n) back room all =
    dropped t r xs bs n back room (λ i d lt. all (suc i) d (omega arith))
    ∙ goes_on t r xs xs (b ∷ bs) 0 (record { row = r; writes = [] }) (omega arith) (drops t r b back room (all 0 b (omega arith))) (sym (append-nil xs))

-- the rest of a list, as a slice of it
pub rest_is : {A : Type 0} (i : ℕ) (xs : List A) → take (length xs - i) (drop i xs) ≡ drop i xs
rest_is i xs = take_all (length xs - i) (drop i xs) (omega (arith, length-drop i xs))

-- an edge that is alone is written
pub alone_at : (t : Rows) (r b : ℕ) → HasEdgeRow t.classes t.edges r → b < length t.classes → AreEdgesWithin t → (edge_at t r b).alone ≡ true → is_written (edge_at t r b).kind ≡ true
alone_at t r b row h within is = All-get_or (λ (e : Edge). e.alone ≡ true → is_written e.kind ≡ true) t.edges (r + get_or t.classes b 0) no_edge (edge_in t r b row h) within.alone is

-- such an edge writes the byte alone
pub copies_byte : (t : Rows) (r b : ℕ) → HasEdgeRow t.classes t.edges r → b < length t.classes → AreEdgesWithin t → (edge_at t r b).alone ≡ true → edge_step t r b ≡ Some (record { row = (edge_at t r b).next; writes = b ∷ [] })
copies_byte t r b row h within is =
    let e = edge_at t r b in
    let written = alone_at t r b row h within is in
    let fits = room_at t r b row h within.room written in
    let alone = fits.alone is in
    let said : writes t.text e b ≡ b ∷ [] = ap₂ (λ i m. take m (set (take 16 (drop e.from t.text)) i b)) alone.0 alone.1 ∙ one (take 16 (drop e.from t.text)) b (omega (arith, fits.text, length-take 16 (drop e.from t.text), length-drop e.from t.text)) in
    one_step t r b row h written ∙ ap (λ (x : List ℕ). Some (record { row = e.next; writes = x })) said

-- an edge that keeps writes the byte alone, and the row stays
pub keeps_byte : (t : Rows) (r b : ℕ) → HasEdgeRow t.classes t.edges r → LeadsBack t.classes t.edges r → b < length t.classes → AreEdgesWithin t → (edge_at t r b).kind ≡ Keep → edge_step t r b ≡ Some (record { row = r; writes = b ∷ [] })
keeps_byte t r b row back h within is =
    let c = get_or t.classes b 0 in
    let e = edge_at t r b in
    let leads = at_of (λ c. (e : Edge) → slice_get t.edges (r + c) ≡ Some e → IsAtRow r e) t.classes b c back (slice_get-get_or t.classes b 0 h) e (slice_get-get_or t.edges (r + c) no_edge (edge_in t r b row h)) in
    copies_byte t r b row h within ((room_at t r b row h within.room (ap is_written is)).keeps is) ∙ ap (λ n. Some (record { row = n; writes = b ∷ [] })) (leads.keeps is)

-- one byte more is copied
pub copies_more : (t : Rows) (piece : List ℕ) (from i r n to : ℕ) → i + n < length piece → edge_step t r (get_or piece (i + n) 0) ≡ Some (record { row = to; writes = get_or piece (i + n) 0 ∷ [] }) → CopiesAlong t piece from i r n → CopiesAlong t piece from i to (n + 1)
copies_more t piece from i r n to h e before = λ xs.
    let b = get_or piece (i + n) 0 in
    let part = drop i piece in
    let ys = xs ++ take n part in
    let same : i + (n + 1) ≡ i + n + 1 = omega arith in
    let byte : get_or part n 0 ≡ b = get_or-drop i piece n 0 in
    let more : xs ++ take (n + 1) part ≡ ys ++ b ∷ [] = ap (λ l. xs ++ l) (take_more part n 0 (omega (arith, length-drop i piece)) ∙ ap (λ x. take n part ++ x ∷ []) byte) ∙ sym (append_assoc xs (take n part) (b ∷ [])) in
    ap (λ j. run_from t piece (xs ++ take (n + 1) part) to j) same
    ∙ goes_on t r ys (xs ++ take (n + 1) part) piece (i + n) (record { row = to; writes = b ∷ [] }) h e more
    ∙ before xs

-- bytes are copied after others
pub copies_on : (t : Rows) (piece : List ℕ) (from i r n j to m k : ℕ) → j ≡ i + n → k ≡ n + m → CopiesAlong t piece from i r n → CopiesAlong t piece r j to m → CopiesAlong t piece from i to k
copies_on t piece from i r n j to m k behind all before after = λ xs.
    let part = drop i piece in
    let ys = xs ++ take n part in
    let rest : take m (drop n part) ≡ take m (drop j piece) = ap (take m) (drop-drop n i piece ∙ ap (λ a. drop a piece) (sym behind)) in
    let text : xs ++ take k part ≡ ys ++ take m (drop j piece) = ap (λ a. xs ++ take a part) all ∙ ap (λ l. xs ++ l) (take-add n m part ∙ ap (λ l. take n part ++ l) rest) ∙ sym (append_assoc xs (take n part) (take m (drop j piece))) in
    ap₂ (λ (l : List ℕ) (a : ℕ). run_from t piece l to a) text (omega arith) ∙ after ys ∙ ap (λ a. run_from t piece ys r a) behind ∙ before xs

-- a run goes on past bytes that are copied from a place of a piece to one of a buffer
pub copied_from : (t : Rows) (r at used k n next to : ℕ) (xs ys ws : List ℕ) → used ≤ length xs → n ≤ length ys → 0 < n → at < length ws → edge_step t r (get_or ws at 0) ≡ Some (record { row = next; writes = get_or ws at 0 ∷ [] }) → CopiesAlong t (take (length ws - at) (drop at ws)) next 1 to (n - 1) → take n ys ≡ take n (take (length ws - at) (drop at ws)) → stop_behind (take (used + n) (put_mid used k xs ys)) (run_of t to (drop (at + n) ws)) ≡ stop_behind (take used xs) (run_of t r (drop at ws))
copied_from t r at used k n next to xs ys ws fits long some lt step ran copied =
    let part = drop at ws in
    let b = get_or ws at 0 in
    let front = take used xs in
    let zs = front ++ b ∷ [] in
    let rest = drop 1 part in
    let same : take n ys ≡ take n part = copied ∙ ap (take n) (rest_is at ws) in
    let post = post_of used k xs in
    let last : take n (drop used (put_mid used k xs ys)) ≡ take n part = ap (take n) (drop_at front (ys ++ post) used (length-take-le used xs fits)) ∙ take-append-le n ys post long ∙ same in
    let count : n ≡ 1 + (n - 1) = omega arith in
    let first : take 1 part ≡ b ∷ [] = ap (take 1) (drop_more ws at 0 lt) in
    let split : take n part ≡ (b ∷ []) ++ take (n - 1) rest = ap (λ m. take m part) count ∙ take-add 1 (n - 1) part ∙ ap (λ l. l ++ take (n - 1) rest) first in
    let buffer : take (used + n) (put_mid used k xs ys) ≡ zs ++ take (n - 1) rest = take-add used n (put_mid used k xs ys) ∙ ap₂ (λ p q. p ++ q) (take-put_mid_below used k xs ys used (omega arith) fits) (last ∙ split) ∙ sym (append_assoc front (b ∷ []) (take (n - 1) rest)) in
    let along : run_from t part (zs ++ take (n - 1) rest) to (1 + (n - 1)) ≡ run_from t part zs next 1 = subst (λ l. CopiesAlong t l next 1 to (n - 1)) (rest_is at ws) ran zs in
    let end : drop (at + n) ws ≡ drop (1 + (n - 1)) part = sym (drop-drop n at ws) ∙ ap (λ m. drop m part) count in
    ap₂ (λ (l m : List ℕ). stop_behind l (run_of t to m)) buffer end
    ∙ along
    ∙ ap (λ l. stop_behind zs (run_of t next l)) (drop-drop 1 at ws)
    ∙ goes_on t r front zs ws at (record { row = next; writes = b ∷ [] }) lt step refl

pub dropped_from : (t : Rows) (r at n : ℕ) (xs ws : List ℕ) → LeadsBack t.classes t.edges r → HasRoomBelow (length t.text) t.edges → All (HasKind t.classes (take (length t.edges - r) (drop r t.edges)) Drop) (take n (take (length ws - at) (drop at ws))) → stop_behind xs (run_of t r (drop (at + n) ws)) ≡ stop_behind xs (run_of t r (drop at ws))
dropped_from t r at n xs ws back room all =
    ap (λ m. stop_behind xs (run_of t r m)) (sym (drop-drop n at ws))
    ∙ dropped t r xs (drop at ws) n back room (subst (λ l. All (HasKind t.classes l Drop) (take n (drop at ws))) (rest_is r t.edges) (subst (λ l. All (HasKind t.classes (take (length t.edges - r) (drop r t.edges)) Drop) (take n l)) (rest_is at ws) all))

one_of : (P : ℕ → Type 0) (b : ℕ) → P b → All P (b ∷ [])
one_of P b h zero d l = h
one_of P b h (suc i) d l = absurd (omega arith)

-- the byte that is next is of the kind of its edge
pub first_kind : (t : Rows) (r at : ℕ) (k : EdgeKind) (ws : List ℕ) → HasEdgeRow t.classes t.edges r → at < length ws → get_or ws at 0 < length t.classes → (edge_at t r (get_or ws at 0)).kind ≡ k → All (HasKind t.classes (take (length t.edges - r) (drop r t.edges)) k) (take 1 (take (length ws - at) (drop at ws)))
first_kind t r at k ws row lt byte is =
    let b = get_or ws at 0 in
    let c = get_or t.classes b 0 in
    let here : HasKind t.classes (drop r t.edges) k b = record {
      class = c;
      edge = edge_at t r b;
      of = slice_get-get_or t.classes b 0 byte;
      at = slice_get-drop r t.edges c ∙ slice_get-get_or t.edges (r + c) no_edge (edge_in t r b row byte);
      kind = is;
    } in
    let one : take 1 (take (length ws - at) (drop at ws)) ≡ b ∷ [] = ap (take 1) (rest_is at ws ∙ drop_more ws at 0 lt) in
    subst (λ l. All (HasKind t.classes l k) (take 1 (take (length ws - at) (drop at ws)))) (sym (rest_is r t.edges)) (subst (λ l. All (HasKind t.classes (drop r t.edges) k) l) (sym one) (one_of (HasKind t.classes (drop r t.edges) k) b here))

-- the edge of the byte that is next
pub stops_at : (t : Rows) (r at : ℕ) (ws : List ℕ) → HasEdgeRow t.classes t.edges r → at < length ws → get_or ws at 0 < length t.classes → StopsAt t.classes t.edges r at ws (edge_at t r (get_or ws at 0))
stops_at t r at ws row lt byte =
    let b = get_or ws at 0 in
    let c = get_or t.classes b 0 in
    (lt, record { class = c; of = slice_get-get_or t.classes b 0 byte; at = slice_get-get_or t.edges (r + c) no_edge (edge_in t r b row byte) })

-- an edge that neither is alone nor drops nor has a text isn't written
pub not_written : (k : EdgeKind) (text alone drop : Bool) → (k ≡ Text → IsTrue text) → (k ≡ Keep → alone ≡ true) → (k ≡ Drop → IsTrue drop) → text ≡ false → alone ≡ false → drop ≡ false → is_written k ≡ false
not_written Keep text alone drop t k d no_text others no_drop = let bad : true ≡ false = sym (k refl) ∙ others in cc
not_written Drop text alone drop t k d no_text others no_drop = let bad : true ≡ false = sym (d refl) ∙ no_drop in cc
not_written Text text alone drop t k d no_text others no_drop = let bad : true ≡ false = sym (t refl) ∙ no_text in cc
not_written Acts text alone drop t k d no_text others no_drop = refl
not_written Opens text alone drop t k d no_text others no_drop = refl
not_written Plain text alone drop t k d no_text others no_drop = refl
not_written Unknown text alone drop t k d no_text others no_drop = refl

-- one byte more of a kind
pub one_kind : (classes ws : List ℕ) (es : List Edge) (k : EdgeKind) (at : ℕ) → at < length ws → get_or ws at 0 < length classes → All (λ c. c < length es) classes → (get_or es (get_or classes (get_or ws at 0) 0) no_edge).kind ≡ k → All (HasKind classes es k) (take at ws) → All (HasKind classes es k) (take (at + 1) ws)
one_kind classes ws es k at lt byte row is before =
    let b = get_or ws at 0 in
    let c = get_or classes b 0 in
    let e = get_or es c no_edge in
    let here : HasKind classes es k b = record {
      class = c;
      edge = e;
      of = slice_get-get_or classes b 0 byte;
      at = slice_get-get_or es c no_edge (All-get_or (λ c. c < length es) classes b 0 byte row);
      kind = is;
    } in
    subst (λ l. All (HasKind classes es k) l) (sym (take_more ws at 0 lt)) (All-append (HasKind classes es k) (take at ws) (b ∷ []) before (one_of (HasKind classes es k) b here))

-- an edge that is written leads to a row
pub row_at : (t : Rows) (r b : ℕ) → HasEdgeRow t.classes t.edges r → b < length t.classes → AreEdgesWithin t → is_written (edge_at t r b).kind ≡ true → HasEdgeRow t.classes t.edges (edge_at t r b).next × LeadsBack t.classes t.edges (edge_at t r b).next
row_at t r b row h within k = All-get_or (λ (e : Edge). is_written e.kind ≡ true → HasEdgeRow t.classes t.edges e.next × LeadsBack t.classes t.edges e.next) t.edges (r + get_or t.classes b 0) no_edge (edge_in t r b row h) within.next k
