use Rattle.std.proofs.Common.{Some, sym, subst}
use Rattle.kex_paths.specs.Forests.{LeadsToTree}
use Rattle.kex_paths.proofs.TaskSteps.{next_in}
use Rattle.kex_paths.proofs.workspace.Workspace.advance_shared.Goals as goal

pub gather_shared-requires-clause-fits : goal.gather_shared-requires-clause-fits
gather_shared-requires-clause-fits c =
    let g = c.self.inside.machine.now in
    let s = c.requires.shape in
    let root = c.in-Some.root in
    let edges = c.edges-edges.result.now in
    let r = c.in_ok-reach.ensures.next s (c.requires.inner_is, c.requires.places_are) in
    let taken = subst (λ z. LeadsToTree c.reach.new.tools.forest.edges z r.0) c.in-Some.is r.2 in
    next_in g c.args.byte s edges root r.0 r.1 (subst (λ z. LeadsToTree z (Some root) r.0) (sym c.edges-edges.ensures) taken)
