use Rattle.kex_single.proofs.Codings.{code_reads}
use Rattle.kex_single.proofs.coder.CodeWorkerWorker.go_on.Goals as goal

pub returns-clause-reads : goal.returns-clause-reads
returns-clause-reads c = λ w text follows.
    let s = c.args.self.now in
    let tells = c.in_ok-bad.ensures.tells s.machine.now w follows.code follows.told follows.good in
    code_reads s.machine.now s.oracle c.go_on.new.self s.count w text c.args.out.now.items c.go_on.new.out.items follows c.args.piece.now c.in_ok-bad.bad c.place_of.result c.place_of.ensures tells
