use Rattle.std.proofs.Common.{sym, subst}
use Rattle.kex_machine.specs.Answers.{IsViableFor}
use Rattle.kex_single.proofs.PathCodes.{paths_tell}
use Rattle.kex_single.proofs.path_codes.go_on.Goals as goal

pub returns-clause-tells : goal.returns-clause-tells
returns-clause-tells c = λ g w d e fed good.
    let reads = c.in_ok-bad.ensures.reads w d fed (subst (λ z. IsViableFor z w) (sym e) good) in
    paths_tell c.args.oracle.now c.read.new.oracle c.write_agreed.new.oracle g w c.args.piece.now c.in_ok-bad.bad d c.args.out.now.items c.write_agreed.new.out.items e c.in_ok-bad.ensures.machine c.in_ok-write_agreed.ensures.machine c.in_ok-write_agreed.ensures.written
    c.in_ok-write_agreed.ensures.fed reads.0 reads.1
