use Rattle.std.proofs.Common.{inl}
use Rattle.kex_reader.proofs.Uses.{held_as}
use Rattle.kex_reader.proofs.reader.Reader.head.Goals as goal

pub returns-clause-held : goal.returns-clause-held
returns-clause-held c = held_as _ _ _ _ _ _ (λ x h. h) (λ x e. inl e) c.in_ok-number.ensures.held
