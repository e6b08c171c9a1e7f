use Rattle.std.proofs.Common.{◌≡◌, Ok, Err, IfOk, sym, subst}
use Rattle.std.specs.Prelude.{Result}
use Rattle.kex_machine.specs.Nodes.{Graph}
use Rattle.kex_sst.specs.Machines.{IsBestTableOf, IsTableOf}
use Rattle.kex_constants.specs.Alike.{PassAlike}
use Rattle.kex_constants.specs.Clearing.{cleared_table}
use Rattle.kex_constants.proofs.ClearedRuns.{pass_alike}
use Rattle.kex_constants.proofs.Machines.{machine_alike, speaks}
use Rattle.kex_constants.proofs.clear_table.Goals as goal

if_ok : {T E : Type 0} (P : T → Type 0) (r : Result T E) (x : T) → IfOk r (λ t. t ≡ x) → P x → IfOk r P
if_ok P (Ok t) x is h = subst P (sym is) h
if_ok P (Err e) x is h = tt

pub returns-clause-alike : goal.returns-clause-alike
returns-clause-alike c =
    if_ok (λ t. PassAlike c.args.table.now t) c.without_constants.result (cleared_table c.in_ok-constants.constants c.args.table.now) c.without_constants.ensures
    (pass_alike c.in_ok-constants.constants c.args.table.now c.in_ok-constants.ensures)

pub returns-clause-machine : goal.returns-clause-machine
returns-clause-machine c =
    if_ok (λ t. (g : Graph) → IsTableOf g c.args.table.now → IsTableOf g t) c.without_constants.result (cleared_table c.in_ok-constants.constants c.args.table.now) c.without_constants.ensures
    (λ g h. machine_alike g c.args.table.now (cleared_table c.in_ok-constants.constants c.args.table.now) (speaks c.args.table.now (cleared_table c.in_ok-constants.constants c.args.table.now) (pass_alike c.in_ok-constants.constants c.args.table.now c.in_ok-constants.ensures)) h)

pub returns-clause-best : goal.returns-clause-best
returns-clause-best c =
    if_ok (λ t. (g : Graph) → IsBestTableOf g c.args.table.now → IsBestTableOf g t) c.without_constants.result (cleared_table c.in_ok-constants.constants c.args.table.now) c.without_constants.ensures
    (λ g h. machine_alike g c.args.table.now (cleared_table c.in_ok-constants.constants c.args.table.now) (speaks c.args.table.now (cleared_table c.in_ok-constants.constants c.args.table.now) (pass_alike c.in_ok-constants.constants c.args.table.now c.in_ok-constants.ensures)) h)
