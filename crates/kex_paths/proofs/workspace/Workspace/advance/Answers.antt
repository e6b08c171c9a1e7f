use Rattle.std.proofs.Common.{Some, None, sym, subst}
use Rattle.std.specs.Prelude.{IfOk}
use Rattle.kex_paths.specs.Forests.{LeadsToTree}
use Rattle.kex_paths.specs.Nexts.{IsNext}
use Rattle.kex_paths.proofs.TaskSteps.{GoesOnBy, next_in, follows, none_follows}
use Rattle.kex_paths.proofs.workspace.Workspace.advance.Goals as goal
use Rattle.kex_paths.proofs.workspace.Workspace.advance.Goals.{in-None, in-Some+in_ok-next-in-Some}

pub gather-requires-clause-fits : goal.gather-requires-clause-fits
gather-requires-clause-fits c =
    let g = c.self.inside.machine.now in
    let s = c.requires.shape in
    let root = c.in-Some.root in
    let edges = c.edges.result.now in
    let r = c.in_ok-reach.ensures.next s (c.requires.inner_is, c.requires.places_are) in
    let taken = subst (λ z. LeadsToTree c.reach.new.tools.forest.edges z r.0) c.in-Some.is r.2 in
    next_in g c.args.byte s edges root r.0 r.1 (subst (λ z. LeadsToTree z (Some root) r.0) (sym c.edges.ensures) taken)

pub returns-clause-next : goal.returns-clause-next
returns-clause-next c =
    let g = c.self.inside.machine.now in
    let below = c.reach.new.tools.forest.edges in
    elim c.match-branch-2.branch [
      | in-None w ↦ (
          subst (λ z. IfOk z (GoesOnBy c.args.self.now c.args.shape.now c.args.leaves.now c.args.byte)) (sym w.result-is)
          (λ s is.
          let r = c.in_ok-reach.ensures.next s is in
          subst (λ z. IsNext z c.args.byte s None) c.self.view_is (none_follows g c.args.byte s below r.0 r.1 (subst (λ z. LeadsToTree below z r.0) w.in-None.is r.2)))
          )
      | in-Some+in_ok-next-in-Some w ↦ (
          subst (λ z. IfOk z (GoesOnBy c.args.self.now c.args.shape.now c.args.leaves.now c.args.byte)) (sym w.result-is)
          (λ s is.
          let r = c.in_ok-reach.ensures.next s is in
          let root = w.in-Some.root in
          let taken = subst (λ z. LeadsToTree below z r.0) w.in-Some.is r.2 in
          let at = subst (λ z. LeadsToTree z (Some root) r.0) (sym w.edges.ensures) taken in
          follows g c.args.byte s w.edges.result.now root w.in_ok-next-in-Some.next.0 w.in_ok-next-in-Some.next.1 w.in_ok-next-in-Some.ensures.machine w.in_ok-next-in-Some.ensures.tree r.0 r.1 at)
          )
    ]
