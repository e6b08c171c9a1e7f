-- Along pieces, edge by edge.
use Rattle.std.proofs.Common.{◌≡◌, ℕ, ◌<◌, ◌+◌, ◌-◌, true, false, List, [], ◌∷◌, ◌++◌, Some, length, get_or, take, drop, sym, ap, subst, ◌∙◌, append_assoc, append-nil}
use Rattle.std.specs.Prelude.{slice_get}
use Rattle.std.proofs.Math.Seq.{take-add}
use Rattle.std.proofs.lemmas.List.{drop_more, take_more}
use Rattle.std.proofs.lemmas.Option.{slice_get-get_or}
use Rattle.kex_script.specs.declared.piece.ByteWord.{ByteWord}
use Rattle.kex_moves.specs.declared.edge.Edge.{Edge}
use Rattle.kex_moves.specs.Edges.{writes, is_written}
use Rattle.kex_moves.specs.Runs.{RunStep}
use Rattle.kex_moves.specs.Trails.{IsWrittenEdge, IsTrail, IsTrailOver}
use Rattle.kex_moves.proofs.Runs.{no_edge, rest_is}

abbrev pub no_piece : ByteWord
no_piece = record { word = 0; byte = 0 }

-- one piece more
trail_more : (edges : List Edge) (text : List ℕ) (width : ℕ) (ps : List ByteWord) (p : ByteWord) (e : Edge) (s z y : RunStep) → IsTrail edges text width ps s z → IsWrittenEdge edges width z.row p e → y ≡ record { row = e.next; writes = z.writes ++ writes text e p.byte } → IsTrail edges text width (ps ++ p ∷ []) s y
trail_more edges text width [] p e s z y same step is = (e, subst (λ (q : RunStep). IsWrittenEdge edges width q.row p e) same step, is ∙ ap (λ (q : RunStep). record { row = e.next; writes = q.writes ++ writes text e p.byte }) same)
trail_more edges text width (q ∷ ps) p e s z y trail step is = (trail.0, trail.1, trail_more edges text width ps p e (record { row = trail.0.next; writes = s.writes ++ writes text trail.0 q.byte }) z y trail.2 step is)

-- the piece that is next
pub trail_next : (edges : List Edge) (text : List ℕ) (width : ℕ) (ps : List ByteWord) (at : ℕ) (e : Edge) (s z y : RunStep) → at < length ps → IsTrail edges text width (take at ps) s z → IsWrittenEdge edges width z.row (get_or ps at no_piece) e → y ≡ record { row = e.next; writes = z.writes ++ writes text e (get_or ps at no_piece).byte } → IsTrail edges text width (take (at + 1) ps) s y
trail_next edges text width ps at e s z y h trail step is = subst (λ l. IsTrail edges text width l s y) (sym (take_more ps at no_piece h)) (trail_more edges text width (take at ps) (get_or ps at no_piece) e s z y trail step is)

-- one trail after another
trail_joined : (edges : List Edge) (text : List ℕ) (width : ℕ) (ps qs : List ByteWord) (s z y : RunStep) → IsTrail edges text width ps s z → IsTrail edges text width qs z y → IsTrail edges text width (ps ++ qs) s y
trail_joined edges text width [] qs s z y same more = subst (λ (q : RunStep). IsTrail edges text width qs q y) same more
trail_joined edges text width (p ∷ ps) qs s z y trail more = (trail.0, trail.1, trail_joined edges text width ps qs (record { row = trail.0.next; writes = s.writes ++ writes text trail.0 p.byte }) z y trail.2 more)

-- a trail along the pieces that are left
pub trail_on : (edges : List Edge) (text : List ℕ) (width : ℕ) (ps : List ByteWord) (at count : ℕ) (s z y : RunStep) → IsTrail edges text width (take at ps) s z → IsTrail edges text width (take count (take (length ps - at) (drop at ps))) z y → IsTrail edges text width (take (at + count) ps) s y
trail_on edges text width ps at count s z y trail more =
    subst (λ l. IsTrail edges text width l s y) (sym (take-add at count ps)) (trail_joined edges text width (take at ps) (take count (drop at ps)) s z y trail (subst (λ l. IsTrail edges text width (take count l) z y) (rest_is at ps) more))

-- pieces of one word have one edge
pub same_step : (edges : List Edge) (width row : ℕ) (p q : ByteWord) (e : Edge) → q.word ≡ p.word → IsWrittenEdge edges width row p e → IsWrittenEdge edges width row q e
same_step edges width row p q e same step = record {
  within = subst (λ w. w < width) (sym same) step.within;
  edge = ap (λ w. slice_get edges (row + w)) same ∙ step.edge;
  written = step.written;
}

-- the edge that the loop reads
pub edge_read : (edges : List Edge) (i : ℕ) → i < length edges → slice_get edges i ≡ Some (get_or edges i no_edge)
edge_read edges i h = slice_get-get_or edges i no_edge h

over_at : (edges : List Edge) (width row : ℕ) (pieces : List ByteWord) (at : ℕ) → at < length pieces → ((e : Edge) → IsWrittenEdge edges width row (get_or pieces at no_piece) e → ⊥) → IsTrailOver edges width row (drop at pieces)
over_at edges width row pieces at h none = subst (λ l. IsTrailOver edges width row l) (sym (drop_more pieces at no_piece h)) none

-- an edge that isn't written
pub over_unwritten : (edges : List Edge) (width row : ℕ) (pieces : List ByteWord) (at : ℕ) (e : Edge) → at < length pieces → slice_get edges (row + (get_or pieces at no_piece).word) ≡ Some e → is_written e.kind ≡ false → IsTrailOver edges width row (drop at pieces)
over_unwritten edges width row pieces at e h read none = over_at edges width row pieces at h (λ f step. same f (sym step.edge ∙ read) step.written)
  where
    same : (f : Edge) → Some f ≡ Some e → is_written f.kind ≡ true → ⊥
    same f is written = cc

-- what is written comes after what was there before
pub trail_writes : (edges : List Edge) (text : List ℕ) (width : ℕ) (ps : List ByteWord) (s z : RunStep) → IsTrail edges text width ps s z → (bytes : List ℕ) × (z.writes ≡ s.writes ++ bytes)
trail_writes edges text width [] s z same = ([], ap (λ (q : RunStep). q.writes) same ∙ sym (append-nil s.writes))
trail_writes edges text width (p ∷ ps) s z trail =
    let first = writes text trail.0 p.byte in
    let more = trail_writes edges text width ps (record { row = trail.0.next; writes = s.writes ++ first }) z trail.2 in
    (first ++ more.0, more.1 ∙ append_assoc s.writes first more.0)
