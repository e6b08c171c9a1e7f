use Rattle.std.proofs.Common.{length, subst, arith, ◌≡◌, refl}
use Rattle.kex_reader.specs.Shown.{Made}
use Rattle.kex_reader.specs.Stands.{Keeps}
use Rattle.kex_reader.proofs.Drafts.{all_named, begins_same, begun_long, keeping}
use Rattle.kex_reader.specs.Stands.{LosesNone}
use Rattle.kex_reader.specs.Uses.{NameNumber}
use Rattle.kex_reader.proofs.Uses.{name_added}
use Rattle.kex_reader.proofs.draft.Draft.name.Goals as goal

pub invariant_of-self : goal.invariant_of-self
invariant_of-self c = let d = c.self.inside in all_named (length d.names) (length c.number.new.self) (length d.registers) (length d.registers) d.nodes (begun_long d.names c.number.new.self c.number.ensures.grown) (omega arith) c.self.invariant

pub invariant_of-self-2 : goal.invariant_of-self-2
invariant_of-self-2 c = let d = c.self.inside in all_named (length d.names) (length c.number.new.self) (length d.registers) (length d.registers) d.nodes (begun_long d.names c.number.new.self c.number.ensures.grown) (omega arith) c.self.invariant

pub returns-clause-keeps : goal.returns-clause-keeps
returns-clause-keeps c =
    let d = c.self.inside in
    subst (λ (z : Made). Keeps z (record { nodes = d.nodes; names = c.number.new.self; registers = d.registers; broken = d.broken })) c.self.view_is
    (keeping (record { nodes = d.nodes; names = d.names; registers = d.registers; broken = d.broken }) (record { nodes = d.nodes; names = c.number.new.self; registers = d.registers; broken = d.broken }) (begins_same d.nodes) (c.number.ensures.grown) (begins_same d.registers) (λ e. e))

pub returns-clause-held : goal.returns-clause-held
returns-clause-held c =
    let d = c.self.inside in
    subst (λ (z : Made). LosesNone z (record { nodes = d.nodes; names = c.number.new.self; registers = d.registers; broken = d.broken }) (λ x. ⊥) (λ x. x ≡ NameNumber c.in_ok-number.number)) c.self.view_is
    (name_added (record { nodes = d.nodes; names = d.names; registers = d.registers; broken = d.broken }) (record { nodes = d.nodes; names = c.number.new.self; registers = d.registers; broken = d.broken }) c.in_ok-number.number refl refl c.in_ok-number.ensures.added)
