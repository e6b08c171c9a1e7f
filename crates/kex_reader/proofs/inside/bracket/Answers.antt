use Rattle.std.proofs.Common.{inl, inr}
use Rattle.kex_reader.proofs.Stacks.{constructs_more}
use Rattle.kex_reader.proofs.Steps.{to, memory_exit, wrong, bracket_name, name_other, name_is}
use Rattle.kex_reader.specs.Stands.{InConstructs}
use Rattle.kex_reader.proofs.Uses.{beside}
use Rattle.kex_reader.proofs.inside.bracket.Goals as goal

pub returns-in_default-clause-step : goal.returns-in_default-clause-step
returns-in_default-clause-step c = λ place base fs es h a. to _ place base _ _ _ _ (name_other _ c.args.word.kind c.args.word.spelling.now c.in_default.not-Name) (wrong c.args.draft.now place base fs)

pub returns-in_err-register-clause-step : goal.returns-in_err-register-clause-step
returns-in_err-register-clause-step c = λ place base fs es h a. memory_exit c.register.new.self place base fs c.from_residual.result c.from_residual.ensures.1 _

pub returns-clause-step : goal.returns-clause-step
returns-clause-step c = λ place base fs es h a.
    to _ place base _ _ _ _ (name_is _ c.args.word.kind c.args.word.spelling.now c.in-Name.is) (bracket_name c.register.new.self place base fs es c.args.at c.in_ok-register.register c.args.word.spelling.now (constructs_more c.args.draft.now c.register.new.self place base fs es c.in_ok-register.ensures.keeps h) a c.in_ok-register.ensures.number)

pub returns-clause-held : goal.returns-clause-held
returns-clause-held c = λ fs. beside _ _ _ _ (InConstructs fs) _ _ (λ x h. elim h [ inl i ↦ inr i | inr z ↦ absurd z ]) (λ x e. inr e) (λ x i. inl i) c.in_ok-register.ensures.held
