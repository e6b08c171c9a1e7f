use Rattle.std.proofs.Common.{◌≡◌, ◌≤◌, List, length, sym, subst}
use Rattle.kex_machine.specs.Nodes.{Graph, node_moves}
use Rattle.kex_model.specs.States.{HasStates}
use Rattle.kex_sst.specs.Tables.{Row}
use Rattle.kex_lowering.proofs.Causes.{if_err}
use Rattle.kex_alike.proofs.OrderedSets.{asks_one}
use Rattle.kex_cover.specs.Optimal.{EachAsksAtMost, RefusesOptimal}
use Rattle.kex_compile.specs.declared.limits.Limits.{Limits}
use Rattle.kex_compile.specs.Stages.{HasMoreNodes, IsUntabledBy, most_pairs}
use Rattle.kex_compile.proofs.StageTables.{not_more, unoptimal}
use Rattle.kex_compile.proofs.tables.plan.Goals as goal

pub returns-in_err-table-clause-refused : goal.returns-in_err-table-clause-refused
returns-in_err-table-clause-refused c =
    let e = c.in_err-table.field-0.0 in
    let on = c.if-limits.true in
    if_err c.from_residual.result e (λ x. IsUntabledBy c.args.limits.now c.args.machine x) c.from_residual.ensures.1 (unoptimal c.args.limits.now c.args.machine e (c.requires.optimal on) on (subst (λ (z : Graph). RefusesOptimal z c.args.limits.now.states most_pairs e) c.get.ensures c.in_err-table.ensures.refused))

-- the states of a machine, of which a table has this many
counted : (limits : Limits) (m n : Graph) (rows states : List Row) → m ≡ n → rows ≡ states → HasStates (node_moves m.nodes) m.start (length states) × (length states ≤ limits.states) → HasStates (node_moves n.nodes) n.start (length rows) × (HasMoreNodes limits n → ⊥)
counted limits m n rows states same is h = subst (λ (z : Graph). HasStates (node_moves z.nodes) z.start (length rows) × (HasMoreNodes limits z → ⊥)) same
    (subst (λ (z : List Row). HasStates (node_moves m.nodes) m.start (length z)) (sym is) h.0, not_more (λ k. node_moves m.nodes k) m.start (length states) limits.states h.0 h.1)

pub returns-then-limits-clause-states : goal.returns-then-limits-clause-states
returns-then-limits-clause-states c = λ asked.
    counted c.args.limits.now c.get.result.now c.args.machine c.states.result.now c.in_ok-table.table.states c.get.ensures c.states.ensures.same c.in_ok-table.ensures.states

pub returns-then-limits-clause-pairs : goal.returns-then-limits-clause-pairs
returns-then-limits-clause-pairs c = λ h.
    asks_one c.args.machine most_pairs (subst (λ (z : Graph). EachAsksAtMost z most_pairs) c.get.ensures c.in_ok-table.ensures.pairs) h.1

pub returns-clause-states : goal.returns-clause-states
returns-clause-states c = λ asked.
    counted c.args.limits.now c.get-2.result.now c.args.machine c.states-2.result.now c.in_ok-table-2.table.states c.get-2.ensures c.states-2.ensures.same c.in_ok-table-2.ensures.states
