-- What holds of a code that an oracle tells, be it agreed or best.
use Rattle.std.proofs.Common.{◌≡◌, ℕ, List, ◌++◌, Option, Some, None, refl}
use Rattle.std.specs.Prelude.{IfSome}
use Rattle.kex_code.specs.declared.symbol.Symbol.{Symbol}
use Rattle.kex_code.specs.Codes.{Begins}
use Rattle.kex_model.proofs.AgreedFronts.{agreed_greedy}
use Rattle.kex_machine.specs.Nodes.{Graph, node_moves}
use Rattle.kex_machine.specs.Answers.{IsViableFor, IsGreedy}
use Rattle.kex_machine.proofs.BestAnswers.{best_greedy}
use Rattle.kex_sst.specs.Tables.{Transducer}
use Rattle.kex_sst.specs.Machines.{IsBestTableOf, IsTableOf}
use Rattle.kex_plan.specs.Plans.{IsTableAs, IsTableFor, ToldBy}
use Rattle.kex_plan.specs.declared.plan.Telling.{Telling}
use Rattle.kex_plan.specs.declared.plan.Telling.TheVariants as telling

-- a text can go on if there is a code to tell of it
pub viable_told : (k : Telling) (g : Graph) (w : List ℕ) (c : List Symbol) → ToldBy k g w c → IsViableFor g w
viable_told telling.Agreed g w c h = h.viable
viable_told telling.Best g w c h = h.viable

-- the greedy code of a longer text begins with the code that an oracle tells
pub greedy_told : (k : Telling) (g : Graph) (w v : List ℕ) (c d : List Symbol) → ToldBy k g w c → IsGreedy g (w ++ v) d → Begins d c
greedy_told telling.Agreed g w v c d h greedy = agreed_greedy (node_moves g.nodes) g.start w v c d h greedy.greedy
greedy_told telling.Best g w v c d h greedy = best_greedy g w v c d h greedy

-- the table of a plan that has one tells what the plan does
pub table_for : (k : Telling) (g : Graph) (o : Option Transducer) → IsTableFor k g o → IfSome o (λ t. IsTableAs k g t)
table_for telling.Agreed g None h = tt
table_for telling.Agreed g (Some t) h = h
table_for telling.Best g None h = absurd h
table_for telling.Best g (Some t) h = h

-- a plan without a table tells what is agreed
pub told_without : (k : Telling) (g : Graph) → IsTableFor k g None → k ≡ telling.Agreed
told_without telling.Agreed g h = refl
told_without telling.Best g h = absurd h

-- a table that is of the machine as another is tells what the other does
pub same_telling : (k : Telling) (g : Graph) (t u : Transducer) → (IsTableOf g t → IsTableOf g u) → (IsBestTableOf g t → IsBestTableOf g u) → IsTableAs k g t → IsTableAs k g u
same_telling telling.Agreed g t u agreed best h = agreed h
same_telling telling.Best g t u agreed best h = best h
