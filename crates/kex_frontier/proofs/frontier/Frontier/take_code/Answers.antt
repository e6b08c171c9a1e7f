use Rattle.std.proofs.Common.{◌++◌, refl, sym, subst, ◌∙◌}
use Rattle.kex_frontier.specs.Views.{edges_at}
use Rattle.kex_machine.specs.Answers.{IsSaid}
use Rattle.kex_frontier.specs.Frontiers.{Front, IsFed}
use Rattle.kex_machine.proofs.Ranges.{is_trim}
use Rattle.kex_frontier.proofs.FedTexts.{code_taken}
use Rattle.kex_frontier.proofs.frontier.Frontier.take_code.Goals as goal

pub returns-clause-fed : goal.returns-clause-fed
returns-clause-fed c =
    let old : Front = record { machine = c.self.inside.machine.now; untaken = c.self.inside.untaken; edges = edges_at c.self.inside.tree.items; ended = c.self.inside.ended; usable = c.self.inside.usable } in
    let new : Front = record { machine = c.self.inside.machine.now; untaken = c.replace.new.dest; edges = edges_at c.self.inside.tree.items; ended = c.self.inside.ended; usable = c.self.inside.usable } in
    λ w taken h.
    let r = code_taken old new w taken c.replace.result (is_trim old.machine c.self.invariant.trimmed) refl refl (c.replace.ensures.after ∙ c.new.ensures) c.replace.ensures.value (subst (λ z. IsFed z w taken) (sym c.self.view_is) h) in
    (r.0, subst (λ z. IsSaid z.machine w (taken ++ c.replace.result)) c.self.view_is r.1)
