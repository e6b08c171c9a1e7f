use Rattle.std.proofs.Common.{List, Option, ℕ, subst}
use Rattle.kex_code.specs.declared.symbol.Symbol.{Symbol}
use Rattle.kex_machine.specs.Answers.{IsViableFor}
use Rattle.kex_machine.specs.Nodes.{Graph, IsTrimmed}
use Rattle.kex_runner.specs.Running.{IsRunOf}
use Rattle.kex_sst.specs.Machines.{IsTableOf}
use Rattle.kex_single.specs.Told.{HasTold, TellsMore}
use Rattle.kex_single.specs.declared.code_oracle.CodeOracle.TheVariants.{Table}
use Rattle.kex_single.proofs.Codings.{if_ok}
use Rattle.kex_single.proofs.code_oracle.CodeOracle.go_on.Goals as goal

pub returns-in-Table-clause-tells : goal.returns-in-Table-clause-tells
returns-in-Table-clause-tells c =
    let old = c.in-Table.reader in
    let new = Table c.go_on-in-Table.new.self in
    let piece = c.args.piece.now in
    let before = c.args.out.now.items in
    let after = c.go_on-in-Table.new.out.items in
    if_ok (λ (bad : Option ℕ). (g : Graph) (w : List ℕ) (d : List Symbol) → IsTrimmed g → IsTableOf g old.runner.table → IsRunOf old.runner w d → IsViableFor g w → TellsMore g new w piece bad d before after)
    (λ (bad : Option ℕ). (g : Graph) (w : List ℕ) (d : List Symbol) → HasTold g c.args.self.now w d → IsViableFor g w → TellsMore g new w piece bad d before after)
    c.go_on-in-Table.result
    (λ bad h. λ g w d told good. let t : HasTold g (Table old) w d = subst (λ o. HasTold g o w d) c.in-Table.is told in h g w d t.0 t.1 t.2 good)
    c.go_on-in-Table.ensures.tells
