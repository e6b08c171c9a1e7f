use Rattle.kex_reader.proofs.Uses.{held_as, prefixed_as}
use Rattle.kex_reader.proofs.terms.prefixed.Goals as goal

pub returns-in_ok-node-in-Mute-clause-held : goal.returns-in_ok-node-in-Mute-clause-held
returns-in_ok-node-in-Mute-clause-held c = held_as _ _ _ _ _ _ (λ x h. prefixed_as c.args.prefix _ c.args.part.node c.in-Mute.is x h) (λ x e. e) c.in_ok-node-in-Mute.ensures.held

pub returns-in_ok-node-in-Store-clause-held : goal.returns-in_ok-node-in-Store-clause-held
returns-in_ok-node-in-Store-clause-held c = held_as _ _ _ _ _ _ (λ x h. prefixed_as c.args.prefix _ c.args.part.node c.in-Store.is x h) (λ x e. e) c.in_ok-node-in-Store.ensures.held
