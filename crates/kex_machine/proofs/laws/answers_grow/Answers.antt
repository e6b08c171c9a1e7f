use Rattle.std.proofs.Common.{◌++◌, refl}
use Rattle.kex_model.proofs.AgreedFronts.{agreed_grows, agreed_greedy}
use Rattle.kex_machine.specs.Nodes.{node_moves}
use Rattle.kex_machine.proofs.NodeAnswers.{orderly}
use Rattle.kex_machine.proofs.laws.answers_grow.Goals as goal

pub returns : goal.returns
returns c = λ g w v. record {
  viable = λ h. (orderly g).front w (w ++ v) (v, refl) h;
  agreed = λ c d h k. agreed_grows (node_moves g.nodes) g.start w v c d h k;
  greedy = λ c d h k. agreed_greedy (node_moves g.nodes) g.start w v c d h k;
  said = λ s t h k. (orderly g).said w (w ++ v) s t (v, refl) h k;
  meant = λ s t h k. (orderly g).meant w (w ++ v) s t (v, refl) h k;
}
