use Rattle.kex_machine.specs.Nodes.{Graph}
use Rattle.kex_sst.specs.Machines.{IsBestTableOf, IsTableOf}
use Rattle.kex_constants.specs.Alike.{SpeakAlike}
use Rattle.kex_constants.specs.Copies.{HasCopiedStates}
use Rattle.kex_constants.proofs.CopiedLists.{if_some}
use Rattle.kex_constants.proofs.CopiedRuns.{split_alike}
use Rattle.kex_constants.proofs.Machines.{machine_alike}
use Rattle.kex_constants.proofs.split.split_table.Goals as goal

pub returns-clause-alike : goal.returns-clause-alike
returns-clause-alike c = let t = c.args.table.now in if_some (HasCopiedStates t) (SpeakAlike t) c.in_ok-split.split (λ u s. split_alike t u s) (c.in_ok-split.ensures {u = tt})

pub returns-clause-machine : goal.returns-clause-machine
returns-clause-machine c = let t = c.args.table.now in if_some (HasCopiedStates t) (λ u. (g : Graph) → IsTableOf g t → IsTableOf g u) c.in_ok-split.split (λ u s. λ g h. machine_alike g t u (split_alike t u s) h) (c.in_ok-split.ensures {u = tt})

pub returns-clause-best : goal.returns-clause-best
returns-clause-best c = let t = c.args.table.now in if_some (HasCopiedStates t) (λ u. (g : Graph) → IsBestTableOf g t → IsBestTableOf g u) c.in_ok-split.split (λ u s. λ g h. machine_alike g t u (split_alike t u s) h) (c.in_ok-split.ensures {u = tt})
