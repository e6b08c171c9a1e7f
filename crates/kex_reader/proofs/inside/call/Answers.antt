use Rattle.kex_reader.proofs.Uses.{held_as, in_call, none_lost}
use Rattle.kex_reader.proofs.inside.call.Goals as goal

pub returns-clause-held : goal.returns-clause-held
returns-clause-held c = none_lost _ _ _ _ _ _ c.in_ok-node.ensures.keeps c.in_ok-number.ensures.held (held_as _ _ _ _ _ _ (in_call c.in_ok-number.number) (λ x e. e) c.in_ok-node.ensures.held)
