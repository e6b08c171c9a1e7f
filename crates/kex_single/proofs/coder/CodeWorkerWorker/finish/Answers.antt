use Rattle.std.proofs.Common.{List, ℕ}
use Rattle.kex_code.specs.declared.symbol.Symbol.{Symbol}
use Rattle.kex_machine.specs.Answers.{IsViableFor}
use Rattle.kex_machine.specs.Nodes.{Graph}
use Rattle.kex_pipe.specs.Working.{CameToEnd}
use Rattle.kex_single.specs.Told.{CodeFollows, HasTold, TellsLast}
use Rattle.kex_single.proofs.Codings.{ClosesIts, code_ends, if_ok}
use Rattle.kex_single.proofs.coder.CodeWorkerWorker.finish.Goals as goal

pub returns-clause-ends : goal.returns-clause-ends
returns-clause-ends c =
    let s = c.args.self.now in
    let g = s.machine.now in
    let before = c.args.out.now.items in
    let after = c.finish.new.out.items in
    if_ok (λ parsed. (h : Graph) (w : List ℕ) (d : List Symbol) → HasTold h s.oracle w d → IsViableFor h w → TellsLast h w parsed d before after)
    (λ parsed. (w text : List ℕ) → CodeFollows g s.oracle s.count w text → CameToEnd (λ u b t. ClosesIts g u b t) w text parsed before after)
    c.finish.result
    (λ parsed h. λ w text f. code_ends g s.oracle s.count w text before after f parsed (h g w f.code f.told f.good))
    c.finish.ensures.tells
