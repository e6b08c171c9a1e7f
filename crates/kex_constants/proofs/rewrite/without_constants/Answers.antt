use Rattle.std.proofs.Common.{◌≡◌, [], get_or, sym, ap, ap₂, subst, ◌∙◌}
use Rattle.kex_sst.specs.Tables.{Transducer, IsTable}
use Rattle.kex_constants.specs.Clearing.{cleared_change, cleared_states, cleared_table}
use Rattle.kex_constants.proofs.ClearedTables.{cleared_is_table}
use Rattle.kex_constants.proofs.rewrite.without_constants.Goals as goal

pub new-requires-3 : goal.new-requires-3
new-requires-3 c = subst (λ z. IsTable z) is (cleared_is_table c.args.constants.now c.args.table.now c.partition.ensures.table)
  where
    made : Transducer
    made = record { classes = c.copy.result; initial = c.in_ok-initial.initial; states = c.in_ok-states.states.items }

    is : cleared_table c.args.constants.now c.args.table.now ≡ made
    is =
        let classes : c.args.table.now.classes ≡ c.copy.result = sym (c.copy.ensures ∙ c.partition.ensures.same) in
        let initial : cleared_change [] c.args.table.now.initial (get_or c.args.constants.now 0 []) ≡ c.in_ok-initial.initial = sym (
        c.in_ok-initial.ensures
        ∙ ap (λ z. cleared_change z c.initial.result.now c.known.result.now) (c.in_ok-none.ensures ∙ c.new.ensures.items)
        ∙ ap₂ (λ y z. cleared_change [] y z) c.initial.ensures.same c.known.ensures
        ) in
        let states : cleared_states c.args.constants.now 0 c.args.table.now.states ≡ c.in_ok-states.states.items = sym (c.in_ok-states.ensures ∙ ap (λ z. cleared_states c.args.constants.now 0 z) c.states.ensures.same) in
        cc
