use Rattle.std.proofs.Common.{subst, inl, inr, sym}
use Rattle.kex_reader.specs.Reading.{take_seq}
use Rattle.kex_reader.proofs.Steps.{memory_exit, bar_steps, bar_wrong}
use Rattle.kex_reader.proofs.Uses.{constructs_are, held_as, parts_are}
use Rattle.kex_reader.proofs.inside.bar.Goals as goal

pub returns-in_err-closed-clause-step : goal.returns-in_err-closed-clause-step
returns-in_err-closed-clause-step c = λ at base es h. memory_exit c.close_seq.new.draft at base c.close_seq.new.stack c.from_residual.result c.from_residual.ensures.1 _

pub returns-in_default-clause-step : goal.returns-in_default-clause-step
returns-in_default-clause-step c = λ at base es h. bar_wrong c.close_seq.new.draft at base c.close_seq.new.stack c.close_seq.new.stack (take_seq es) (subst (λ o. Rattle.kex_reader.specs.Stands.SeqTaken c.close_seq.new.draft at base c.close_seq.new.stack o (take_seq es)) c.in_default.is (c.in_ok-closed.ensures.seq at base es h))

pub returns-in_err-push-clause-step : goal.returns-in_err-push-clause-step
returns-in_err-push-clause-step c = λ at base es h. memory_exit c.close_seq.new.draft at base c.push.new.self c.from_residual-in_err-push.result c.from_residual-in_err-push.ensures.1 _

pub returns-clause-step : goal.returns-clause-step
returns-clause-step c = λ at base es h. bar_steps c.close_seq.new.draft c.close_seq.new.draft at base c.close_seq.new.stack c.push.new.self c.in-Some.seq (take_seq es) c.in_ok-push.ensures (subst (λ o. Rattle.kex_reader.specs.Stands.SeqTaken c.close_seq.new.draft at base c.close_seq.new.stack o (take_seq es)) c.in-Some.is (c.in_ok-closed.ensures.seq at base es h))

pub returns-clause-held : goal.returns-clause-held
returns-clause-held c = held_as _ _ _ _ _ _ (λ x h. elim h [ inl i ↦ i | inr z ↦ absurd z ]) (λ x h. inl (constructs_are _ _ (sym c.in_ok-push.ensures) x (elim h [ inl p ↦ inl (parts_are _ _ c.in-Some.is x p) | inr i ↦ inr i ]))) c.in_ok-closed.ensures.held
