use Rattle.std.proofs.Common.{[], refl, subst, sym}
use Rattle.kex_machine.specs.Answers.{IsViableFor}
use Rattle.kex_single.specs.Told.{HasTold}
use Rattle.kex_single.proofs.coder.CodeWorkerWorker.start.Goals as goal

pub returns-clause-follows : goal.returns-clause-follows
returns-clause-follows c = record {
  code = [];
  told = subst (λ g. HasTold g c.in_ok-oracle.oracle [] []) (sym c.machine-machine.ensures) c.in_ok-oracle.ensures.told.0;
  written = refl;
  count = refl;
  good = subst (λ g. IsViableFor g []) (sym c.machine-machine.ensures) c.in_ok-oracle.ensures.told.1;
}
