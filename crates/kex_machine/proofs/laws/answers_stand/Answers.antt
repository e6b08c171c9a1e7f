use Rattle.kex_machine.proofs.NodeAnswers.{one_answer, grows, stays, ends, past_limit}
use Rattle.kex_machine.proofs.laws.answers_stand.Goals as goal

pub returns : goal.returns
returns c = λ g limit. record {
  one = λ w e a b h k. one_answer g limit h k;
  grows = λ w v e a b h k. grows g limit w v h k;
  stays = λ w v e a b h k. stays g limit w v h k;
  ends = λ w e a h. ends g limit h;
  past_limit = λ w e a h. past_limit g limit h;
}
