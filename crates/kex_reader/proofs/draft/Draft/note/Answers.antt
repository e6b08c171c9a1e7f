use Rattle.std.proofs.Common.{sym, ◌∙◌, subst}
use Rattle.kex_reader.specs.Stands.{Keeps}
use Rattle.kex_reader.proofs.Drafts.{begins_same, keeping}
use Rattle.kex_reader.proofs.LeastBreak.{never_none}
use Rattle.kex_reader.proofs.draft.Draft.note.Goals as goal

pub returns-clause-keeps : goal.returns-clause-keeps
returns-clause-keeps c =
    let d = c.self.inside in
    subst (λ z. Keeps z (record { nodes = d.nodes; names = d.names; registers = d.registers; broken = c.lesser-self-inside.result })) c.self.view_is
    (keeping (record { nodes = d.nodes; names = d.names; registers = d.registers; broken = d.broken }) (record { nodes = d.nodes; names = d.names; registers = d.registers; broken = c.lesser-self-inside.result }) (begins_same d.nodes) (begins_same d.names) (begins_same d.registers) (λ e. absurd (never_none d.broken c.args.broken (sym c.lesser-self-inside.ensures ∙ e))))
