use Rattle.std.proofs.Common.{List, length, sym, ap, ◌∙◌, subst, ◌≡◌, refl}
use Rattle.std.specs.Prelude.{slice_get}
use Rattle.kex_code.specs.Codes.{IsAmong}
use Rattle.kex_model.specs.Programs.{HasNames}
use Rattle.kex_model.specs.declared.program.Node.{Node}
use Rattle.kex_reader.specs.Shown.{Made}
use Rattle.kex_reader.specs.Stands.{Keeps}
use Rattle.kex_reader.proofs.Drafts.{begins_same, keeping, named_push}
use Rattle.kex_model.proofs.Tables.{get_last}
use Rattle.kex_reader.specs.Stands.{LosesNone}
use Rattle.kex_reader.specs.Uses.{InKind, NodeNumber}
use Rattle.kex_reader.proofs.Uses.{node_added}
use Rattle.kex_reader.proofs.draft.Draft.add.Goals as goal

pub invariant_of-self-2 : goal.invariant_of-self-2
invariant_of-self-2 c =
    let d = c.self.inside in
    let x : Node = record { kind = c.args.kind; at = c.args.at } in
    let named : HasNames (length d.names) (length d.registers) c.args.kind = subst (λ (z : Made). HasNames (length z.names) (length z.registers) c.args.kind) (sym c.self.view_is) c.requires.named in
    subst (λ (ns : List Node). (n : Node) → IsAmong ns n → HasNames (length d.names) (length d.registers) n.kind) (sym c.in_ok-number.ensures.added) (named_push (length d.names) (length d.registers) d.nodes x c.self.invariant named)

pub returns-clause-keeps : goal.returns-clause-keeps
returns-clause-keeps c =
    let d = c.self.inside in
    subst (λ (z : Made). Keeps z (record { nodes = c.add.new.self; names = d.names; registers = d.registers; broken = d.broken })) c.self.view_is
    (keeping (record { nodes = d.nodes; names = d.names; registers = d.registers; broken = d.broken }) (record { nodes = c.add.new.self; names = d.names; registers = d.registers; broken = d.broken }) (_, c.in_ok-number.ensures.added) (begins_same d.names) (begins_same d.registers) (λ e. e))

pub returns-clause-node : goal.returns-clause-node
returns-clause-node c =
    let d = c.self.inside in
    ap (slice_get c.add.new.self) c.in_ok-number.ensures.number ∙ ap (λ (ns : List Node). slice_get ns (length d.nodes)) c.in_ok-number.ensures.added ∙ get_last d.nodes (record { kind = c.args.kind; at = c.args.at })

pub returns-clause-held : goal.returns-clause-held
returns-clause-held c =
    let d = c.self.inside in
    subst (λ (z : Made). LosesNone z (record { nodes = c.add.new.self; names = d.names; registers = d.registers; broken = d.broken }) (InKind c.args.kind) (λ x. x ≡ NodeNumber c.in_ok-number.number)) c.self.view_is
    (node_added (record { nodes = d.nodes; names = d.names; registers = d.registers; broken = d.broken }) (record { nodes = c.add.new.self; names = d.names; registers = d.registers; broken = d.broken }) c.args.kind c.args.at c.in_ok-number.number c.in_ok-number.ensures.added refl refl c.in_ok-number.ensures.number)
