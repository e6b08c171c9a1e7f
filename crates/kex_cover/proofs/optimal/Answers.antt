use Rattle.std.proofs.Common.{◌≡◌, ℕ, ◌≤◌, List, length, refl, sym, ap, subst, ◌∙◌, arith}
use Rattle.kex_model.specs.Labelled.{Shape}
use Rattle.kex_model.specs.States.{HasMoreStates, HasStates}
use Rattle.kex_machine.specs.Nodes.{Graph, node_moves}
use Rattle.kex_sst.specs.Machines.{IsBestTableOf}
use Rattle.kex_sst.specs.Tables.{IsTable, Transducer}
use Rattle.kex_paths.specs.Nexts.{Outline}
use Rattle.kex_determine.specs.declared.refusal.DetRefusal.{DetRefusal}
use Rattle.kex_determine.specs.declared.refusal.DetRefusal.TheVariants as determining
use Rattle.kex_determine.specs.Determined.{AreStateTrees, IsDetermined}
use Rattle.kex_determine.specs.Numbering.{Refuses}
use Rattle.kex_cover.specs.declared.fault.CoverFault.{CoverFault}
use Rattle.kex_cover.specs.declared.fault.CoverFault.TheVariants as covering
use Rattle.kex_cover.specs.declared.refusal.CoverRefusal.TheVariants.{Memory}
use Rattle.kex_cover.specs.Keeping.{AreBestRowsTo, AreStatesLeft, IsBestStart, OneAsksMore}
use Rattle.kex_cover.specs.Optimal.{IsOptimal, RefusesOptimal, SomeAsksMore, refusal_by_pairs, refusal_by_states}
use Rattle.kex_cover.specs.Searches.{RefusesPairs}
use Rattle.kex_cover.proofs.BestRows.{is_best, is_formed, is_optimal}
use Rattle.kex_cover.proofs.PairSteps.{err_as}
use Rattle.kex_cover.proofs.optimal.Goals as goal
use Rattle.kex_cover.proofs.optimal.Goals.{In_ok-lefts, In_ok-rows}

-- what is left of a table's states, with their trees
abbrev Known : Graph → Transducer → List Outline → List Outline → Type 0
Known g t lefts trees = (k : AreStatesLeft g t lefts) × AreStateTrees g k.determined.shapes trees

module _ (c : In_ok-lefts) where
  abbrev determined : IsDetermined c.args.machine.now c.in_ok-table.table
  determined = c.in_ok-table.ensures.determined.0

  trees : AreStateTrees c.args.machine.now determined.shapes c.deref.result.now
  trees = subst (AreStateTrees c.args.machine.now determined.shapes) (sym c.deref.ensures.value) c.in_ok-table.ensures.determined.1

  abbrev states : AreStatesLeft c.args.machine.now c.in_ok-table.table c.in_ok-lefts.lefts.items
  states = record { in_range = c.nodes-nodes.ensures.in_range; trimmed = c.nodes-nodes.ensures.trimmed; determined = determined; left = c.in_ok-lefts.ensures.left determined.shapes trees }

-- a refusal of a step is one of the whole
by_states : (g : Graph) (most_states most_pairs : ℕ) (e : DetRefusal) → Refuses most_states (HasMoreStates (node_moves g.nodes) g.start most_states) e → RefusesOptimal g most_states most_pairs (refusal_by_states e)
by_states g most_states most_pairs (determining.TooManyStates seen) h = h
by_states g most_states most_pairs determining.Memory h = tt

by_pairs : (g : Graph) (most_states most_pairs : ℕ) (P : Type 0) → ((n : ℕ) × (n ≤ most_states) × HasStates (node_moves g.nodes) g.start n) → (P → SomeAsksMore g most_pairs) → (e : CoverFault) → RefusesPairs most_pairs P e → RefusesOptimal g most_states most_pairs (refusal_by_pairs e)
by_pairs g most_states most_pairs P has more (covering.TooManyPairs seen) h = (h.0, has, more h.1)
by_pairs g most_states most_pairs P has more covering.Memory h = tt

pub returns-in_err-table-clause-refused : goal.returns-in_err-table-clause-refused
returns-in_err-table-clause-refused c =
    let err = c.in_err-table.field-0.0 in
    err_as (RefusesOptimal c.args.machine.now c.args.max_states c.args.max_pairs) c.from_residual.result (refusal_by_states err) c.from_residual.ensures.1 (by_states c.args.machine.now c.args.max_states c.args.max_pairs err c.in_err-table.ensures.refused)

pub returns-in_err-lefts-clause-refused : goal.returns-in_err-lefts-clause-refused
returns-in_err-lefts-clause-refused c =
    let g = c.args.machine.now in
    let err = c.in_err-lefts.field-0.0 in
    let has = c.in_ok-table.ensures.states in
    let d = c.in_ok-table.ensures.determined.0 in
    let trees : AreStateTrees g d.shapes c.deref.result.now = subst (AreStateTrees g d.shapes) (sym c.deref.ensures.value) c.in_ok-table.ensures.determined.1 in
    err_as (RefusesOptimal g c.args.max_states c.args.max_pairs) c.from_residual-in_err-lefts.result (refusal_by_pairs err) c.from_residual-in_err-lefts.ensures.1
    (by_pairs g c.args.max_states c.args.max_pairs ((shapes : List (Shape ℕ)) → AreStateTrees g shapes c.deref.result.now → OneAsksMore g c.args.max_pairs shapes) (length c.in_ok-table.table.states, has.1, has.0) (λ h. let one = h d.shapes trees in (one.0, d.each one.0 one.1, one.2)) err c.in_err-lefts.ensures.refused)

pub returns-in_err-tools-clause-refused : goal.returns-in_err-tools-clause-refused
returns-in_err-tools-clause-refused c = err_as (RefusesOptimal c.args.machine.now c.args.max_states c.args.max_pairs) c.from_residual-in_err-tools.result Memory c.from_residual-in_err-tools.ensures.1 tt

pub returns-in_err-update-clause-refused : goal.returns-in_err-update-clause-refused
returns-in_err-update-clause-refused c = err_as (RefusesOptimal c.args.machine.now c.args.max_states c.args.max_pairs) c.from_residual-in_err-update.result Memory c.from_residual-in_err-update.ensures.1 tt

pub first_update-requires-clause-left : goal.first_update-requires-clause-left
first_update-requires-clause-left c =
    let top = (goal.at.first_update-requires-clause-left c).In_ok-lefts in
    let t = c.in_ok-table.table in
    let known : Known c.args.machine.now t c.in_ok-lefts.lefts.items c.in_ok-table.trees.items = (states top, c.in_ok-table.ensures.determined.1) in
    subst (λ z. Known z t c.deref-3.result.now c.deref-2.result.now) (sym c.in_ok-tools.ensures.workspace)
    (subst (λ z. Known c.args.machine.now t z c.deref-2.result.now) (sym c.deref-3.ensures.value)
    (subst (λ z. Known c.args.machine.now t c.in_ok-lefts.lefts.items z) (sym c.deref-2.ensures.value) known))

pub rows_of-requires-clause-left : goal.rows_of-requires-clause-left
rows_of-requires-clause-left c =
    let top = (goal.at.rows_of-requires-clause-left c).In_ok-lefts in
    subst (AreStatesLeft c.args.machine.now c.in_ok-table.table) (sym c.deref-4.ensures.value) (states top)

pub returns-in_err-rows-clause-refused : goal.returns-in_err-rows-clause-refused
returns-in_err-rows-clause-refused c = err_as (RefusesOptimal c.args.machine.now c.args.max_states c.args.max_pairs) c.from_residual-in_err-rows.result Memory c.from_residual-in_err-rows.ensures.1 tt

module _ (c : In_ok-rows) where
  abbrev g : Graph
  g = c.args.machine.now

  abbrev table : Transducer
  table = c.in_ok-table.table

  abbrev lefts : List Outline
  lefts = c.in_ok-lefts.lefts.items

  abbrev made : Transducer
  made = record { classes = table.classes; initial = c.in_ok-update.update; states = c.in_ok-rows.rows.items }

  first : (k : AreStatesLeft g table lefts) → AreStateTrees g k.determined.shapes c.in_ok-table.trees.items → IsBestStart g table k.left.states c.in_ok-update.update
  first = subst (λ z. (k : AreStatesLeft g table lefts) → AreStateTrees g k.determined.shapes z → IsBestStart g table k.left.states c.in_ok-update.update) c.deref-2.ensures.value
      (subst (λ z. (k : AreStatesLeft g table z) → AreStateTrees g k.determined.shapes c.deref-2.result.now → IsBestStart g table k.left.states c.in_ok-update.update) c.deref-3.ensures.value
      (subst (λ z. (k : AreStatesLeft z table c.deref-3.result.now) → AreStateTrees z k.determined.shapes c.deref-2.result.now → IsBestStart z table k.left.states c.in_ok-update.update) c.in_ok-tools.ensures.workspace c.in_ok-update.ensures.first))

  rows : (k : AreStatesLeft g table lefts) → AreBestRowsTo g (length table.states) table.classes k.left.states c.in_ok-rows.rows.items
  rows = subst (λ z. (k : AreStatesLeft g table z) → AreBestRowsTo g (length table.states) table.classes k.left.states c.in_ok-rows.rows.items) c.deref-4.ensures.value c.in_ok-rows.ensures.rows

  count : (k : AreStatesLeft g table lefts) → length c.in_ok-rows.rows.items ≡ length table.states
  count k = (rows k).count

-- the classes are a copy
same : (c : In_ok-rows) (classes : List ℕ) → classes ≡ c.in_ok-table.table.classes → record { classes = classes; initial = c.in_ok-update.update; states = c.in_ok-rows.rows.items } ≡ made c
same c classes e = ap (λ z. record { classes = z; initial = c.in_ok-update.update; states = c.in_ok-rows.rows.items }) e

pub new-requires-2 : goal.new-requires-2
new-requires-2 c =
    let at = goal.at.new-requires-2 c in
    let k = states at.In_ok-lefts in
    let r = at.In_ok-rows in
    let few = c.in_ok-table.ensures.states.1 in
    subst (λ z. IsTable z) (sym (same r c.copy.result (c.copy.ensures ∙ c.partition.ensures.same)))
    (is_formed (g r) (table r) (made r) (lefts r) k refl (first r k c.in_ok-table.ensures.determined.1) (rows r k) (omega (arith, count r k, few, c.requires.few_states)))

pub returns-clause-best : goal.returns-clause-best
returns-clause-best c =
    let at = goal.at.returns-clause-best c in
    let k = states at.In_ok-lefts in
    let r = at.In_ok-rows in
    subst (IsBestTableOf c.args.machine.now) (sym (c.new-2.ensures ∙ same r c.copy.result (c.copy.ensures ∙ c.partition.ensures.same)))
    (is_best (g r) (table r) (made r) (lefts r) k refl (first r k c.in_ok-table.ensures.determined.1) (rows r k))

pub returns-clause-optimal : goal.returns-clause-optimal
returns-clause-optimal c =
    let at = goal.at.returns-clause-optimal c in
    let k = states at.In_ok-lefts in
    let r = at.In_ok-rows in
    subst (IsOptimal c.args.machine.now) (sym (c.new-2.ensures ∙ same r c.copy.result (c.copy.ensures ∙ c.partition.ensures.same)))
    (is_optimal (g r) (table r) (made r) (lefts r) k refl (first r k c.in_ok-table.ensures.determined.1) (rows r k))

pub returns-clause-states : goal.returns-clause-states
returns-clause-states c =
    let at = goal.at.returns-clause-states c in
    let k = states at.In_ok-lefts in
    let r = at.In_ok-rows in
    let long : length c.new-2.result.states ≡ length c.in_ok-table.table.states = ap (λ z. length z.states) c.new-2.ensures ∙ count r k in
    let has = c.in_ok-table.ensures.states in
    (subst (HasStates (node_moves c.args.machine.now.nodes) c.args.machine.now.start) (sym long) has.0, subst (λ z. z ≤ c.args.max_states) (sym long) has.1)

pub returns-clause-pairs : goal.returns-clause-pairs
returns-clause-pairs c =
    let top = (goal.at.returns-clause-pairs c).In_ok-lefts in
    λ s is. c.in_ok-lefts.ensures.count (determined top).shapes (trees top) s ((determined top).all s is)
