use Rattle.std.proofs.Common.{◌≡◌, ℕ, ◌<◌, ◌≤◌, ◌+◌, ◌-◌, ◌++◌, ◌∷◌, [], Some, length, sym, ap, subst, ◌∙◌, length-append, arith}
use Rattle.std.specs.Prelude.{slice_get}
use Rattle.std.proofs.lemmas.Option.{slice_get_within}
use Rattle.kex_code.specs.Codes.{HasNumber}
use Rattle.kex_model.proofs.Tables.{get_last}
use Rattle.kex_rules.specs.Graphs.{vertices, vertex_successors}
use Rattle.kex_rules.specs.Searches.{IsSearch}
use Rattle.kex_rules.specs.declared.components.Bound.{Bound}
use Rattle.kex_rules.proofs.Ways.{successors_below}
use Rattle.kex_rules.proofs.OpenVertices.{taken, all_lead_on}
use Rattle.kex_rules.proofs.components.Search.explore.Goals as goal
use Rattle.kex_rules.proofs.components.Search.explore.Goals.{In-Some-pop}

-- the search, with the vertex that is taken at the end of what is ahead
popped : (c : In-Some-pop) → IsSearch (vertex_successors c.args.program.now) (vertices c.args.program.now) [] c.bounds.self.marks.items c.bounds.self.path.items (c.pop.new.self.items ++ c.in-Some-pop.next ∷ []) c.bounds.self.bounds.items c.bounds.self.closed
popped c = subst (λ z. IsSearch (vertex_successors c.args.program.now) (vertices c.args.program.now) [] c.bounds.self.marks.items c.bounds.self.path.items z c.bounds.self.bounds.items c.bounds.self.closed) c.in-Some-pop.ensures.items c.bounds.invariant.search

-- the last bound
last : (c : In-Some-pop) → (k : ℕ) × (length c.bounds.self.bounds.items ≡ k + 1) × HasNumber c.bounds.self.bounds.items c.in-Some.bound k
last c =
    let here : slice_get c.bounds.self.bounds.items (length c.bounds.self.bounds.items - 1) ≡ Some c.in-Some.bound = subst (λ z. slice_get z (length z - 1) ≡ Some c.in-Some.bound) c.deref.ensures.value (sym c.last.ensures.value ∙ sym c.copied.ensures ∙ c.in-Some.is) in
    let fits : length c.bounds.self.bounds.items - 1 < length c.bounds.self.bounds.items = slice_get_within c.bounds.self.bounds.items (length c.bounds.self.bounds.items - 1) c.in-Some.bound here in
    (length c.bounds.self.bounds.items - 1, omega arith, here)

-- it lies before what is taken
low : (c : In-Some-pop) → (k : ℕ) (b : Bound) → HasNumber c.bounds.self.bounds.items b k → b.ahead ≤ length c.pop.new.self.items
low c k b h =
    let l = last c in
    let n : length c.bounds.self.bounds.items ≡ l.0 + 1 = l.1 in
    let lt : k < length c.bounds.self.bounds.items = slice_get_within c.bounds.self.bounds.items k b h in
    let r : b.ahead ≤ c.in-Some.bound.ahead = (c.bounds.invariant.search.rising k l.0 b c.in-Some.bound (omega arith) h l.2).1 in
    omega (arith, c.if-len-bound.false, c.len.ensures, c.bounds.self.ahead.ok.0, ap length c.in-Some-pop.ensures.items, length-append c.pop.new.self.items (c.in-Some-pop.next ∷ []))

pub meet-requires-clause-fits : goal.meet-requires-clause-fits
meet-requires-clause-fits c =
    let o = (popped (goal.at.meet-requires-clause-fits c).In-Some-pop).sourced c.in-Some-pop.next (length c.pop.new.self.items) (get_last c.pop.new.self.items c.in-Some-pop.next) in
    successors_below c.args.program.now c.requires.grammar o.0 c.in-Some-pop.next o.3

pub meet-requires-clause-search : goal.meet-requires-clause-search
meet-requires-clause-search c =
    let at = (goal.at.meet-requires-clause-search c).In-Some-pop in
    taken (vertex_successors c.args.program.now) (vertices c.args.program.now) c.bounds.self.marks.items c.bounds.self.path.items c.pop.new.self.items c.in-Some-pop.next c.bounds.self.bounds.items c.bounds.self.closed (popped at) (low at)

pub meet-requires-clause-reached : goal.meet-requires-clause-reached
meet-requires-clause-reached c =
    let at = (goal.at.meet-requires-clause-reached c).In-Some-pop in
    let l = last at in
    all_lead_on (vertex_successors c.args.program.now) (vertices c.args.program.now) c.bounds.self.marks.items c.bounds.self.path.items c.pop.new.self.items c.in-Some-pop.next c.bounds.self.bounds.items c.bounds.self.closed (popped at) c.in-Some.bound l.0 l.1 l.2 (low at l.0 c.in-Some.bound l.2)
