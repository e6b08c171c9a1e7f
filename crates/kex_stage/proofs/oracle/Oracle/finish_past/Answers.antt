use Rattle.std.proofs.Common.{sym, subst, IfOk}
use Rattle.std.specs.Prelude.{IsTrue}
use Rattle.kex_stage.specs.Ahead.{FinishesPast, IsStill}
use Rattle.kex_stage.specs.declared.oracle.Oracle.TheVariants.{Table}
use Rattle.kex_stage.proofs.WaitingBytes.{if_ok}
use Rattle.kex_stage.proofs.oracle.Oracle.finish_past.Goals as goal

pub returns-in-Table-clause-finishes : goal.returns-in-Table-clause-finishes
returns-in-Table-clause-finishes c = subst (λ o. IfOk c.end_past.result (λ done. IsTrue done → FinishesPast o c.args.actor.now c.args.bytes.now c.args.out.now.items c.end_past.new.out.items)) (sym c.in-Table.is) c.end_past.ensures.finishes

pub returns-in-Table-clause-none : goal.returns-in-Table-clause-none
returns-in-Table-clause-none c = if_ok c.end_past.result (λ done none e. (subst (λ o. IsStill o (Table c.end_past.new.self)) (sym c.in-Table.is) c.end_past.ensures.same, (none e).0, (none e).1)) c.end_past.ensures.none
