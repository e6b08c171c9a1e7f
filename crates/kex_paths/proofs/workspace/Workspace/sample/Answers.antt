use Rattle.std.proofs.Common.{ℕ, None, get_or, sym, subst}
use Rattle.std.specs.Prelude.{MatchOption}
use Rattle.kex_machine.specs.Nodes.{node_moves}
use Rattle.kex_machine.specs.Advancing.{LeadAlike}
use Rattle.kex_paths.specs.Nexts.{HasClass}
use Rattle.kex_paths.proofs.Samples.{sample_at}
use Rattle.kex_paths.proofs.workspace.Workspace.sample.Goals as goal

pub returns : goal.returns
returns c =
    subst (λ z. (b : ℕ) → HasClass c.args.self.now c.args.class b → MatchOption (get_or c.self.inside.samples z None) ⊥ (λ byte. LeadAlike (node_moves c.args.self.now.nodes) byte b)) (sym c.from.ensures)
    (subst (λ z. (b : ℕ) → HasClass z c.args.class b → MatchOption (get_or c.self.inside.samples c.args.class None) ⊥ (λ byte. LeadAlike (node_moves z.nodes) byte b)) c.self.view_is
    (sample_at c.self.inside.machine.now c.self.inside.samples c.self.inside.tools.marks c.args.class c.ranges.class.fits c.self.invariant))
