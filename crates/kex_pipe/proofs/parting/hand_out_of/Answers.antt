use Rattle.std.proofs.Common.{refl}
use Rattle.kex_pipe.proofs.parting.hand_out_of.Goals as goal

pub returns-clause-stays : goal.returns-clause-stays
returns-clause-stays g c = record {
  plan = c.hand_out.ensures.plan;
  stands = c.hand_out.ensures.stands;
  turned = refl;
  inbox = refl;
  outbox = refl;
  usable = refl;
}
