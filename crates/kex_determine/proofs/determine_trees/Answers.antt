use Rattle.std.proofs.Common.{◌≡◌, ℕ, ◌≤◌, [], List, Some, length, ap, sym, subst, ◌∙◌, arith}
use Rattle.kex_model.specs.Labelled.{Shape, shape_of}
use Rattle.kex_model.specs.States.{HasStates, HasMoreStates}
use Rattle.std.specs.Global.{Vec}
use Rattle.kex_machine.specs.Nodes.{Graph, node_moves}
use Rattle.kex_paths.specs.Nexts.{Outline, IsFirstTree}
use Rattle.kex_machine.proofs.Nexts.{IsTrim}
use Rattle.kex_machine.proofs.Ranges.{is_trim}
use Rattle.kex_sst.specs.Tables.{Transducer, IsTable}
use Rattle.kex_sst.specs.Machines.{IsTableOf}
use Rattle.kex_determine.specs.Determined.{AreStateTrees, IsDetermined}
use Rattle.kex_determine.specs.Numbering.{IsMet, AreNumbered, Refuses}
use Rattle.kex_determine.specs.Rows.{AreRows}
use Rattle.kex_determine.proofs.StateRows.{none_yet, first_met, first_filled, all_rows, with_trees, tabled, has_states, more_states}
use Rattle.kex_determine.proofs.Transitions.{err_as, refuses_as}
use Rattle.kex_determine.proofs.TableForms.{well_formed}
use Rattle.kex_determine.proofs.determine_trees.Goals as goal
use Rattle.kex_determine.proofs.determine_trees.Goals.{After-enter, In_ok-rows}

trim : (c : After-enter) → IsTrim (node_moves c.args.machine.now.nodes) c.args.machine.now.start
trim c = is_trim c.args.machine.now c.nodes-nodes.ensures.trimmed

none : (c : After-enter) → AreNumbered c.args.machine.now c.new-states.result.keys.keys c.new-states.result.trees.items []
none c = none_yet c.args.machine.now c.new-states.result.keys.keys c.new-states.result.trees.items c.new-states.ensures.keys c.new-states.ensures.trees

met : (c : After-enter) → IsMet c.args.machine.now c.in_ok-tree.tree (shape_of c.in_ok-tree.ensures.first.0.tree)
met c = first_met c.args.machine.now c.in_ok-tree.tree c.in_ok-tree.update c.in_ok-tree.ensures.machine c.in_ok-tree.ensures.first

pub returns-in_err-enter-clause-refused : goal.returns-in_err-enter-clause-refused
returns-in_err-enter-clause-refused c =
    let top = (goal.at.returns-in_err-enter-clause-refused c).After-enter in
    let more : Refuses c.new-states.result.most (HasMoreStates (node_moves c.args.machine.now.nodes) c.args.machine.now.start c.new-states.result.most) c.in_err-enter.field-0.0 =
    refuses_as c.new-states.result.most _ _ c.in_err-enter.field-0.0 (λ h. more_states c.args.machine.now (trim top) c.new-states.result.most (h c.args.machine.now [] (shape_of c.in_ok-tree.ensures.first.0.tree) (none top) (met top))) c.in_err-enter.ensures.err in
    err_as _ c.from_residual-in_err-enter.result c.in_err-enter.field-0.0 c.from_residual-in_err-enter.ensures.1 (subst (λ m. Refuses m (HasMoreStates (node_moves c.args.machine.now.nodes) c.args.machine.now.start m) c.in_err-enter.field-0.0) c.new-states.ensures.most more)

pub rows_of-requires-clause-begun : goal.rows_of-requires-clause-begun
rows_of-requires-clause-begun c =
    let top = (goal.at.rows_of-requires-clause-begun c).After-enter in
    let w = c.in_ok-enter.ensures.ok c.args.machine.now [] (shape_of c.in_ok-tree.ensures.first.0.tree) (none top) (met top) in
    first_filled c.args.machine.now c.partition-partition.result.now c.enter.new.self.keys.keys c.enter.new.self.trees.items c.in_ok-tree.tree c.in_ok-tree.update c.in_ok-enter.field-0 w.0 c.in_ok-tree.ensures.machine c.in_ok-tree.ensures.first w.1

pub returns-in_err-rows-clause-refused : goal.returns-in_err-rows-clause-refused
returns-in_err-rows-clause-refused c =
    let top = (goal.at.returns-in_err-rows-clause-refused c).After-enter in
    let same : c.enter.new.self.most ≡ c.args.max_states = c.in_ok-enter.ensures.most ∙ c.new-states.ensures.most in
    let more : Refuses c.enter.new.self.most (HasMoreStates (node_moves c.args.machine.now.nodes) c.args.machine.now.start c.enter.new.self.most) c.in_err-rows.field-0.0 =
    refuses_as c.enter.new.self.most _ _ c.in_err-rows.field-0.0 (λ h. more_states c.args.machine.now (trim top) c.enter.new.self.most h) c.in_err-rows.ensures.err in
    err_as _ c.from_residual-in_err-rows.result c.in_err-rows.field-0.0 c.from_residual-in_err-rows.ensures.1 (subst (λ m. Refuses m (HasMoreStates (node_moves c.args.machine.now.nodes) c.args.machine.now.start m) c.in_err-rows.field-0.0) same more)

-- the trees are those of the states
state_trees : (g : Graph) (keys : List (Vec ℕ)) (trees : List Outline) (shapes : List (Shape ℕ)) → AreNumbered g keys trees shapes → AreStateTrees g shapes trees
state_trees g keys trees shapes n = record { count = n.count; each = λ i s e. let t = n.shaped i s e in (t.0, t.1, t.2.machine, t.2.shape) }

-- the table that is made
module _ (c : In_ok-rows) where
  abbrev g : Graph
  g = c.args.machine.now

  abbrev classes : List ℕ
  classes = c.partition-partition.result.now

  abbrev keys : List (Vec ℕ)
  keys = c.rows_of.new.states.keys.keys

  abbrev trees : List Outline
  trees = c.rows_of.new.states.trees.items

  abbrev made : Transducer
  made = record { classes = classes; initial = c.in_ok-tree.update; states = c.in_ok-rows.rows.items }

  first : IsFirstTree g (Some c.in_ok-tree.ensures.first.0)
  first = subst (λ z. IsFirstTree z (Some c.in_ok-tree.ensures.first.0)) c.in_ok-tree.ensures.machine c.in_ok-tree.ensures.first.1

  few : length c.in_ok-rows.rows.items ≤ c.args.max_states
  few = omega (arith, c.in_ok-rows.ensures.filled.within, c.in_ok-rows.ensures.filled.numbered.count, c.in_ok-rows.ensures.within, c.in_ok-enter.ensures.most, c.new-states.ensures.most)

  rows : AreRows g made c.in_ok-rows.ensures.filled.shapes
  rows = all_rows g classes c.in_ok-tree.update keys trees c.in_ok-rows.rows.items c.in_ok-rows.ensures.filled c.in_ok-rows.ensures.all c.in_ok-tree.ensures.first.0 first c.in_ok-tree.ensures.first.3

  trimmed : IsTrim (node_moves g.nodes) g.start
  trimmed = is_trim g c.nodes-nodes.ensures.trimmed

  well : IsTable made
  well = well_formed g made c.in_ok-rows.ensures.filled.shapes c.partition-partition.ensures rows (omega (arith, few, c.ranges.max_states.fits))

  is_tabled : IsTableOf g made
  is_tabled = tabled g trimmed classes c.partition-partition.ensures c.in_ok-tree.update keys trees c.in_ok-rows.rows.items c.in_ok-rows.ensures.filled c.in_ok-rows.ensures.all c.in_ok-tree.ensures.first.0 first c.in_ok-tree.ensures.first.3

  counted : HasStates (node_moves g.nodes) g.start (length c.in_ok-rows.rows.items)
  counted = has_states g trimmed classes c.partition-partition.ensures c.in_ok-tree.update keys trees c.in_ok-rows.rows.items c.in_ok-rows.ensures.filled c.in_ok-rows.ensures.all c.in_ok-tree.ensures.first.0 first c.in_ok-tree.ensures.first.3

  shown : (d : IsDetermined g made) × AreStateTrees g d.shapes trees
  shown = with_trees g trimmed classes c.partition-partition.ensures c.in_ok-tree.update keys trees c.in_ok-rows.rows.items c.in_ok-rows.ensures.filled c.in_ok-rows.ensures.all c.in_ok-tree.ensures.first.0 first c.in_ok-tree.ensures.first.3 (state_trees g keys trees c.in_ok-rows.ensures.filled.shapes c.in_ok-rows.ensures.filled.numbered)

  -- the classes are a copy
  same : (t : Transducer) → (classes' : List ℕ) → classes' ≡ classes → t ≡ record { classes = classes'; initial = c.in_ok-tree.update; states = c.in_ok-rows.rows.items } → t ≡ made
  same t classes' copied is = is ∙ ap (λ z. record { classes = z; initial = c.in_ok-tree.update; states = c.in_ok-rows.rows.items }) copied

pub new-table-requires : goal.new-table-requires
new-table-requires c = subst (λ z. IsTable (record { classes = z; initial = c.in_ok-tree.update; states = c.in_ok-rows.rows.items })) (sym c.copy.ensures) (well (goal.at.new-table-requires c).In_ok-rows)

pub returns-clause-determined : goal.returns-clause-determined
returns-clause-determined c =
    let top = (goal.at.returns-clause-determined c).In_ok-rows in
    subst (λ t. (d : IsDetermined c.args.machine.now t) × AreStateTrees c.args.machine.now d.shapes c.into_trees.result.items) (sym (same top c.new-table.result c.copy.result c.copy.ensures c.new-table.ensures))
    (subst (λ z. (d : IsDetermined c.args.machine.now (made top)) × AreStateTrees c.args.machine.now d.shapes z.items) (sym c.into_trees.ensures) (shown top))

pub returns-clause-table : goal.returns-clause-table
returns-clause-table c =
    let top = (goal.at.returns-clause-table c).In_ok-rows in
    subst (λ t. IsTableOf c.args.machine.now t) (sym (same top c.new-table.result c.copy.result c.copy.ensures c.new-table.ensures)) (is_tabled top)

pub returns-clause-states : goal.returns-clause-states
returns-clause-states c =
    let top = (goal.at.returns-clause-states c).In_ok-rows in
    let rows : c.new-table.result.states ≡ c.in_ok-rows.rows.items = ap (λ t. t.states) c.new-table.ensures in
    (subst (λ z. HasStates (node_moves c.args.machine.now.nodes) c.args.machine.now.start (length z)) (sym rows) (counted top), omega (arith, ap length rows, few top))
