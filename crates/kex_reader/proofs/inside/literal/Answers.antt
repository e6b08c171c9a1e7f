use Rattle.std.proofs.Common.{inl, inr}
use Rattle.kex_reader.proofs.Uses.{step_from}
use Rattle.kex_reader.proofs.inside.literal.Goals as goal

pub returns-clause-held : goal.returns-clause-held
returns-clause-held c = λ fs. step_from c.leaf.result _ _ _ _ fs (λ x h. elim h [ inl i ↦ inl i | inr z ↦ absurd z ]) (c.leaf.ensures.held fs)
