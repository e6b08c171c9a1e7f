use Rattle.kex_single.proofs.PathCodes.{paths_end}
use Rattle.kex_single.proofs.path_codes.finish.Goals as goal

pub returns-clause-tells : goal.returns-clause-tells
returns-clause-tells c = λ g w d e fed good.
    paths_end c.args.oracle.now c.end.new.self g w c.in_ok-ended.ended c.is_parsed.result d c.args.out.now.items c.write_agreed.new.out.items e c.in_ok-ended.ensures.machine c.in_ok-write_agreed.ensures.written c.is_parsed.ensures
    (c.in_ok-ended.ensures.over w d fed) good
