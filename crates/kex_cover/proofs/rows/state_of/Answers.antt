use Rattle.std.proofs.Common.{◌≡◌, ◌≤◌, length, refl, sym, ap, subst, ◌∙◌, arith}
use Rattle.kex_model.specs.Labelled.{size_of}
use Rattle.kex_machine.specs.Nodes.{node_moves}
use Rattle.kex_machine.specs.Advancing.{EachPlace, first_accepting}
use Rattle.kex_sst.specs.Parts.{numbered_tree}
use Rattle.kex_paths.proofs.LeftTrees.{some_node}
use Rattle.kex_paths.proofs.Preorders.{inner-length}
use Rattle.kex_determine.specs.Rows.{way_to}
use Rattle.kex_cover.specs.Keeping.{IsRowWith}
use Rattle.kex_cover.proofs.LeftLeaves.{shape_same}
use Rattle.kex_cover.proofs.rows.state_of.Goals as goal
use Rattle.kex_cover.proofs.rows.state_of.Goals.{After-shape-shape}

long : (c : After-shape-shape) → length c.shape-shape.result.now ≡ size_of c.shape-shape.ensures.sound.shape
long c = ap length (c.shape-shape.ensures.same ∙ c.shape-shape.ensures.sound.inner_is) ∙ inner-length c.shape-shape.ensures.sound.shape

some : (c : After-shape-shape) → 1 ≤ length c.shape-shape.result.now
some c = some_node c.args.left.now c.shape-shape.result.now c.shape-shape.ensures.same c.shape-shape.ensures.tree

pub way_to_end-requires-clause-short : goal.way_to_end-requires-clause-short
way_to_end-requires-clause-short c =
    let top = (goal.at.way_to_end-requires-clause-short c).After-shape-shape in
    let small = c.shape-shape.ensures.sound.small in
    let few = c.shape-shape.ensures.sound.few in
    omega (arith, long top, small, few)

pub overflow_sub-registers : goal.overflow_sub-registers
overflow_sub-registers c = some (goal.at.overflow_sub-registers c).After-shape-shape

pub overflow_cast-registers : goal.overflow_cast-registers
overflow_cast-registers c =
    let top = (goal.at.overflow_cast-registers c).After-shape-shape in
    let small = c.shape-shape.ensures.sound.small in
    let few = c.shape-shape.ensures.sound.few in
    omega (arith, long top, some top, small, few)

pub returns : goal.returns
returns c = λ s is.
    let top = (goal.at.returns c).After-shape-shape in
    let sound = c.shape-shape.ensures.sound in
    let here : length c.shape-shape.result.now ≡ size_of s = ap length (c.shape-shape.ensures.same ∙ is.0) ∙ inner-length s in
    let one : sound.shape ≡ s = shape_same c.args.left.now sound.shape s (sound.inner_is, sound.places_are) is in
    let count : length c.args.left.now.machine.nodes ≡ length c.nodes.result.now = ap (λ z. length z.nodes) c.requires ∙ ap length (sym c.nodes.ensures.same) in
    let below : EachPlace (length c.nodes.result.now) s = subst (EachPlace (length c.nodes.result.now)) one (subst (λ z. EachPlace z sound.shape) count sound.in_range) in
    subst (λ z. IsRowWith c.args.machine.now s c.args.go z) (sym c.new.ensures) (record {
      registers = omega (arith, here, some top);
      ends = subst (λ z. c.in_ok-accepting.accepting ≡ way_to (first_accepting (node_moves z) (numbered_tree 0 s))) c.nodes.ensures.same (c.in_ok-accepting.ensures s (c.shape-shape.ensures.same ∙ is.0) (c.leaves.ensures ∙ is.1) below);
      goes = refl;
    })
