use Rattle.std.proofs.Common.{true, false, sym, ap, ◌∙◌}
use Rattle.std.specs.Prelude.{bytes_eq}
use Rattle.kex_reader.specs.Syntax.{start}
use Rattle.kex_reader.proofs.Programs.{to_state, state_wrong, first_other, first_define, first_colon, first_steps, started, first_is}
use Rattle.kex_reader.specs.declared.reader.Phase.TheVariants.{FirstName, StartLine}
use Rattle.kex_reader.proofs.Uses.{head_first, reader_still}
use Rattle.kex_reader.proofs.reader.Reader.first.Goals as goal

pub returns-in-Define-clause-step : goal.returns-in-Define-clause-step
returns-in-Define-clause-step c = λ at n b st. to_state c.head.new.self.draft at c.head.new.self.stack c.head.new.self.definitions.items c.head.new.self.stages.items _ _ _ (first_define n c.args.kind b c.in-Define.is)
    (first_steps c.args.self.now.draft c.head.new.self.draft at c.args.self.now.stack c.head.new.self.stack c.args.self.now.definitions.items c.head.new.self.definitions.items c.args.self.now.stages.items c.head.new.self.stages.items c.args.name n _ st c.head.ensures.keeps c.head.ensures.rest c.head.ensures.phase c.head.ensures.fault)

pub returns-then-eq-clause-step : goal.returns-then-eq-clause-step
returns-then-eq-clause-step c = λ at n b st. to_state c.args.self.now.draft at c.args.self.now.stack c.args.self.now.definitions.items c.args.self.now.stages.items _ _ _ (first_colon n c.args.kind b true c.in-Colon.is (ap (λ x. bytes_eq x start) (sym (first_is c.args.self.now.draft at c.args.self.now.stack c.args.self.now.definitions.items c.args.self.now.stages.items c.args.name n st)) ∙ ap (bytes_eq c.args.name.bytes.now) (sym c.as_slice.ensures) ∙ sym c.eq.ensures ∙ c.if-eq.true)) (started c.args.self.now.draft at c.args.self.now.stack c.args.self.now.definitions.items c.args.self.now.stages.items c.args.name n st)

pub returns-else-eq-clause-step : goal.returns-else-eq-clause-step
returns-else-eq-clause-step c = λ at n b st. to_state c.args.self.now.draft at c.args.self.now.stack c.args.self.now.definitions.items c.args.self.now.stages.items _ _ _ (first_colon n c.args.kind b false c.in-Colon.is (ap (λ x. bytes_eq x start) (sym (first_is c.args.self.now.draft at c.args.self.now.stack c.args.self.now.definitions.items c.args.self.now.stages.items c.args.name n st)) ∙ ap (bytes_eq c.args.name.bytes.now) (sym c.as_slice.ensures) ∙ sym c.eq.ensures ∙ c.if-eq.false)) (state_wrong c.args.self.now.draft at c.args.self.now.stack c.args.self.now.definitions.items c.args.self.now.stages.items)

pub returns-in_default-clause-step : goal.returns-in_default-clause-step
returns-in_default-clause-step c = λ at n b st. to_state c.args.self.now.draft at c.args.self.now.stack c.args.self.now.definitions.items c.args.self.now.stages.items _ _ _ (first_other n c.args.kind b c.in_default.not-Define c.in_default.not-Colon) (state_wrong c.args.self.now.draft at c.args.self.now.stack c.args.self.now.definitions.items c.args.self.now.stages.items)

pub returns-in-Define-clause-held : goal.returns-in-Define-clause-held
returns-in-Define-clause-held c = head_first c.head.result c.args.self.now c.head.new.self (FirstName c.args.name) (λ x z. z) c.head.ensures.keeps c.head.ensures.rest c.head.ensures.held

pub returns-then-eq-clause-held : goal.returns-then-eq-clause-held
returns-then-eq-clause-held c = reader_still c.args.self.now (FirstName c.args.name) StartLine (λ x z. z)
