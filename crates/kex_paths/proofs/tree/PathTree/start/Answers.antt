use Rattle.std.proofs.Common.{◌≡◌, [], ◌∷◌, Some, length, sym, subst}
use Rattle.kex_machine.specs.Nodes.{node_moves, StaysWithin, IsTrimmed}
use Rattle.kex_machine.proofs.Ranges.{stays_within}
use Rattle.kex_paths.specs.declared.walk.Task.TheVariants.{Visit}
use Rattle.kex_paths.specs.Forests.{LeadsToTree}
use Rattle.kex_paths.specs.Nexts.{BeginsTree, ShowsFirst}
use Rattle.kex_paths.proofs.TaskSteps.{IsDone, done_first, some_first, first_in, begins, shows_first, if_ok_both, IsGathered}
use Rattle.kex_paths.proofs.tree.PathTree.start.Goals as goal

pub walk-requires-clause-range : goal.walk-requires-clause-range
walk-requires-clause-range c = subst (λ z. StaysWithin z) (sym c.nodes-nodes.ensures.same) (stays_within c.args.machine.now c.nodes-nodes.ensures.in_range)

pub unwrap-root-requires : goal.unwrap-root-requires
unwrap-root-requires c =
    let g = c.args.machine.now in
    let done : IsDone (node_moves g.nodes) 0 (length g.nodes) [] (Visit g.start) c.walk.new.tools.forest = subst (λ z. IsDone (node_moves g.nodes) 0 (length g.nodes) [] (Visit z) c.walk.new.tools.forest) c.start.ensures (subst (λ z. IsDone (node_moves z) 0 (length z) [] (Visit c.start.result) c.walk.new.tools.forest) c.nodes-nodes.ensures.same c.in_ok-walk.ensures.done) in
    let r = done_first g c.walk.new.tools.forest c.pop_root.new.self.edges c.pop_root.result done (λ rs a h. (c.pop_root.ensures.trees (a ∷ []) h).0) in
    some_first g c.nodes-nodes.ensures.trimmed c.pop_root.new.self.edges c.pop_root.result r.0 r.1 r.2

pub gather-requires-clause-fits : goal.gather-requires-clause-fits
gather-requires-clause-fits c =
    let g = c.args.machine.now in
    let done : IsDone (node_moves g.nodes) 0 (length g.nodes) [] (Visit g.start) c.walk.new.tools.forest = subst (λ z. IsDone (node_moves g.nodes) 0 (length g.nodes) [] (Visit z) c.walk.new.tools.forest) c.start.ensures (subst (λ z. IsDone (node_moves z) 0 (length z) [] (Visit c.start.result) c.walk.new.tools.forest) c.nodes-nodes.ensures.same c.in_ok-walk.ensures.done) in
    let r = done_first g c.walk.new.tools.forest c.edges.result.now (Some c.unwrap-root.result) done (λ rs a h. subst (λ z. LeadsToTree z (Some c.unwrap-root.result) a) (sym c.edges.ensures) (subst (λ z. LeadsToTree c.pop_root.new.self.edges z a) c.unwrap-root.ensures (c.pop_root.ensures.trees (a ∷ []) h).0)) in
    first_in g c.edges.result.now c.unwrap-root.result r.0 r.1 r.2

pub returns-clause-first : goal.returns-clause-first
returns-clause-first c =
    let g = c.args.machine.now in
    let done : IsDone (node_moves g.nodes) 0 (length g.nodes) [] (Visit g.start) c.walk.new.tools.forest = subst (λ z. IsDone (node_moves g.nodes) 0 (length g.nodes) [] (Visit z) c.walk.new.tools.forest) c.start.ensures (subst (λ z. IsDone (node_moves z) 0 (length z) [] (Visit c.start.result) c.walk.new.tools.forest) c.nodes-nodes.ensures.same c.in_ok-walk.ensures.done) in
    let r = done_first g c.walk.new.tools.forest c.edges.result.now (Some c.unwrap-root.result) done (λ rs a h. subst (λ z. LeadsToTree z (Some c.unwrap-root.result) a) (sym c.edges.ensures) (subst (λ z. LeadsToTree c.pop_root.new.self.edges z a) c.unwrap-root.ensures (c.pop_root.ensures.trees (a ∷ []) h).0)) in
    if_ok_both (λ n. n.0.machine ≡ g) (λ n. IsGathered c.edges.result.now c.unwrap-root.result n.0 n.1) (λ n. BeginsTree n.0 n.1) c.gather.result (λ n same got. begins g c.edges.result.now c.unwrap-root.result n.0 n.1 same got r.0 r.1 r.2) c.gather.ensures.machine c.gather.ensures.tree

pub returns-clause-shows : goal.returns-clause-shows
returns-clause-shows c =
    let g = c.args.machine.now in
    let done : IsDone (node_moves g.nodes) 0 (length g.nodes) [] (Visit g.start) c.walk.new.tools.forest = subst (λ z. IsDone (node_moves g.nodes) 0 (length g.nodes) [] (Visit z) c.walk.new.tools.forest) c.start.ensures (subst (λ z. IsDone (node_moves z) 0 (length z) [] (Visit c.start.result) c.walk.new.tools.forest) c.nodes-nodes.ensures.same c.in_ok-walk.ensures.done) in
    let r = done_first g c.walk.new.tools.forest c.edges.result.now (Some c.unwrap-root.result) done (λ rs a h. subst (λ z. LeadsToTree z (Some c.unwrap-root.result) a) (sym c.edges.ensures) (subst (λ z. LeadsToTree c.pop_root.new.self.edges z a) c.unwrap-root.ensures (c.pop_root.ensures.trees (a ∷ []) h).0)) in
    if_ok_both (λ n. n.0.machine ≡ g) (λ n. IsGathered c.edges.result.now c.unwrap-root.result n.0 n.1) (λ n. ShowsFirst n.0 n.1) c.gather.result (λ n same got. shows_first n.0 n.1 (subst (λ z. IsTrimmed z) (sym same) c.nodes-nodes.ensures.trimmed) (begins g c.edges.result.now c.unwrap-root.result n.0 n.1 same got r.0 r.1 r.2)) c.gather.ensures.machine c.gather.ensures.tree
