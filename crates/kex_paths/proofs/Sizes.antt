-- A path tree that goes on is determined, has places in range, and fewer than twice as many nodes as the machine.
use Rattle.std.proofs.Common.{◌≡◌, ℕ, ◌*◌, ◌<◌, false, Option, Some, length, arith}
use Rattle.std.proofs.lemmas.List.{length-replicate}
use Rattle.kex_model.specs.Labelled.{Shape, shape_of, size_of, Grown}
use Rattle.kex_machine.specs.Nodes.{Graph}
use Rattle.kex_machine.specs.Advancing.{EachPlace}
use Rattle.kex_machine.proofs.Sizes.{visit_fits, advance_fits, first_unseen}
use Rattle.kex_machine.proofs.Unique.{one_visit, one_advance}
use Rattle.kex_sst.specs.declared.parts.Part.{Part}
use Rattle.kex_paths.specs.Nexts.{IsFirstTree, IsNext}

-- shape and byte determine the update and the shape of the longer text
pub one_next : (g : Graph) (b : ℕ) (s : Shape ℕ) (a a' : Option (Grown Part ℕ)) → IsNext g b s a → IsNext g b s a' → a ≡ a'
one_next g b s a a' (f, v) (f', v') = (one_advance v v').0

pub one_first : (g : Graph) (a a' : Option (Grown Part ℕ)) → IsFirstTree g a → IsFirstTree g a' → a ≡ a'
one_first g a a' (f, v) (f', v') = (one_visit v v').0

pub next_fits : (g : Graph) (b : ℕ) (s : Shape ℕ) (a : Grown Part ℕ) → IsNext g b s (Some a) → EachPlace (length g.nodes) (shape_of a.tree) × (size_of (shape_of a.tree) < 2 * length g.nodes)
next_fits g b s a (f, v) =
    let p = advance_fits (length g.nodes) v (length-replicate (length g.nodes) false) in
    let small = p.small in
    let all = first_unseen (length g.nodes) in
    (p.places, omega arith)

pub first_fits : (g : Graph) (a : Grown Part ℕ) → IsFirstTree g (Some a) → EachPlace (length g.nodes) (shape_of a.tree) × (size_of (shape_of a.tree) < 2 * length g.nodes)
first_fits g a (f, v) =
    let p = visit_fits (length g.nodes) v (length-replicate (length g.nodes) false) in
    let small = p.small in
    let all = first_unseen (length g.nodes) in
    (p.places, omega arith)
