use Rattle.std.proofs.Common.{subst, inl, inr}
use Rattle.kex_reader.specs.Reading.{take_term}
use Rattle.kex_reader.proofs.Steps.{memory_exit, close_wrong, close_steps, unclosed}
use Rattle.kex_reader.proofs.Uses.{constructs_are, held_as, parts_are}
use Rattle.kex_reader.proofs.inside.close.Goals as goal

pub returns-in_err-closed-clause-step : goal.returns-in_err-closed-clause-step
returns-in_err-closed-clause-step c = λ at base es h. memory_exit c.close_term.new.draft at base c.close_term.new.stack c.from_residual.result c.from_residual.ensures.1 _

pub returns-in_default-clause-step : goal.returns-in_default-clause-step
returns-in_default-clause-step c = λ at base es h. close_wrong c.close_term.new.draft at base c.close_term.new.stack c.close_term.new.stack (take_term es) (subst (λ o. Rattle.kex_reader.specs.Stands.TermTaken c.close_term.new.draft at base c.close_term.new.stack o (take_term es)) c.in_default.is (c.in_ok-closed.ensures.term at base es h))

pub returns-in_default-take_mark-clause-step : goal.returns-in_default-take_mark-clause-step
returns-in_default-take_mark-clause-step c = λ at base es h. unclosed c.close_term.new.draft at base c.close_term.new.stack c.take_mark.new.self c.in-Some.term (take_term es) c.in_default-take_mark.ensures.top (subst (λ o. Rattle.kex_reader.specs.Stands.TermTaken c.close_term.new.draft at base c.close_term.new.stack o (take_term es)) c.in-Some.is (c.in_ok-closed.ensures.term at base es h))

pub returns-clause-step : goal.returns-clause-step
returns-clause-step c = λ at base es h. close_steps c.close_term.new.draft at base c.close_term.new.stack c.take_mark.new.self c.in-Some.term c.in-Some-take_mark.at (take_term es) c.in-Some-take_mark.ensures.some (subst (λ o. Rattle.kex_reader.specs.Stands.TermTaken c.close_term.new.draft at base c.close_term.new.stack o (take_term es)) c.in-Some.is (c.in_ok-closed.ensures.term at base es h))

pub returns-clause-held : goal.returns-clause-held
returns-clause-held c = held_as _ _ _ _ _ _ (λ x h. elim h [ inl i ↦ i | inr z ↦ absurd z ]) (λ x h. elim h [ inl p ↦ inr (parts_are _ _ c.in-Some.is x p) | inr i ↦ elim (constructs_are _ _ c.in-Some-take_mark.ensures.some x i) [ inl z ↦ absurd z | inr j ↦ inl j ] ]) c.in_ok-closed.ensures.held
