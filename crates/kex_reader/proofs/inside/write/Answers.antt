use Rattle.std.proofs.Common.{◌+◌, length, ◌≡◌, ◌⊎◌, inl, inr}
use Rattle.kex_reader.specs.Syntax.{Write}
use Rattle.kex_reader.specs.Reading.{entries}
use Rattle.kex_reader.proofs.Stacks.{constructs_more}
use Rattle.kex_reader.proofs.Steps.{to, memory_exit, wrong, name_other, name_is, atom_steps}
use Rattle.std.proofs.lemmas.Option.{slice_get_within}
use Rattle.kex_reader.proofs.Modes.{write_of}
use Rattle.kex_reader.specs.Stands.{InConstructs}
use Rattle.kex_reader.specs.Uses.{RegisterNumber}
use Rattle.kex_reader.proofs.Uses.{beside, in_write, step_then}
use Rattle.kex_reader.proofs.inside.write.Goals as goal

pub returns-in_default-clause-step : goal.returns-in_default-clause-step
returns-in_default-clause-step c = λ place base fs es h a. to _ place base _ _ _ _ (name_other _ c.args.word.kind c.args.word.spelling.now c.in_default.not-Name) (wrong c.args.draft.now place base fs)

pub returns-in_err-register-clause-step : goal.returns-in_err-register-clause-step
returns-in_err-register-clause-step c = λ place base fs es h a. memory_exit c.register.new.self place base fs c.from_residual.result c.from_residual.ensures.1 _

pub returns-clause-step : goal.returns-clause-step
returns-clause-step c = λ place base fs es h a.
    let i = base + length (entries es) in
    to _ place base _ _ _ _ (name_is _ c.args.word.kind c.args.word.spelling.now c.in-Name.is)
    (atom_steps c.register.new.self c.leaf.new.draft place base fs fs es _ (Write c.args.word.spelling.now) c.args.at c.leaf.ensures.keeps (write_of c.register.new.self c.leaf.new.draft place i c.in_ok-register.register c.args.at c.args.word.spelling.now _ a c.leaf.ensures.keeps c.in_ok-register.ensures.number c.leaf.ensures.wait) c.leaf.ensures.fault (constructs_more c.args.draft.now c.register.new.self place base fs es c.in_ok-register.ensures.keeps h) a)

pub leaf-requires-clause-below : goal.leaf-requires-clause-below
leaf-requires-clause-below c = slice_get_within c.register.new.self.registers c.in_ok-register.register _ c.in_ok-register.ensures.number

pub returns-clause-held : goal.returns-clause-held
returns-clause-held c = λ fs. step_then c.leaf.result _ _ _ _ _ _ fs c.leaf.ensures.keeps (beside _ _ _ _ (InConstructs fs) _ (λ x. (x ≡ RegisterNumber c.in_ok-register.register) ⊎ InConstructs fs x) (λ x h. elim h [ inl i ↦ inr i | inr z ↦ absurd z ]) (λ x e. inl e) (λ x i. inr i) c.in_ok-register.ensures.held) (λ x h. elim h [ inl e ↦ inr (in_write c.in_ok-register.register x e) | inr i ↦ inl i ]) (c.leaf.ensures.held fs)
