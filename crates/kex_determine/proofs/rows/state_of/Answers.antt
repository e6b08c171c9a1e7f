use Rattle.std.proofs.Common.{◌≡◌, ℕ, ◌^◌, ◌≤◌, List, Some, length, ap, sym, subst, ◌∙◌, arith}
use Rattle.std.specs.Prelude.{slice_get}
use Rattle.kex_model.specs.Labelled.{Shape, size_of}
use Rattle.kex_machine.specs.Nodes.{node_moves}
use Rattle.kex_machine.specs.Advancing.{first_accepting, EachPlace}
use Rattle.kex_sst.specs.Parts.{numbered_tree}
use Rattle.kex_paths.specs.Nexts.{inner_of, places_of}
use Rattle.kex_determine.specs.Rows.{way_to}
use Rattle.kex_determine.specs.Numbering.{IsMet, AreNumbered, AreTransitions, IsStateWith}
use Rattle.kex_determine.proofs.DifferentShapes.{inner_long, size_above, sound_as}
use Rattle.kex_determine.proofs.Transitions.{class_below, get_later, tree_at}
use Rattle.kex_determine.proofs.rows.state_of.Goals as goal
use Rattle.kex_determine.proofs.rows.state_of.Goals.{After-leaves}

module _ (c : After-leaves) (xs : List (Shape ℕ)) (s : Shape ℕ) (n : AreNumbered c.args.machine.now c.args.states.now.keys.keys c.args.states.now.trees.items xs) (at : slice_get xs c.args.at ≡ Some s) where
  trans : (ys : List (Shape ℕ)) × AreTransitions c.args.machine.now c.args.partition.now c.transitions_of.new.states.keys.keys c.transitions_of.new.states.trees.items xs ys s c.in_ok-go.go
  trans =
      let q = c.in_ok-go.ensures.ok xs s (subst (λ z. AreNumbered z c.args.states.now.keys.keys c.args.states.now.trees.items xs) (sym c.requires.machine) n) at in
      (q.0, subst (λ z. AreTransitions z c.args.partition.now c.transitions_of.new.states.keys.keys c.transitions_of.new.states.trees.items xs q.0 s c.in_ok-go.go) c.requires.machine q.1)

  met : IsMet c.args.machine.now c.index-tree.result.now s
  met = tree_at c.args.machine.now c.transitions_of.new.states.keys.keys c.transitions_of.new.states.trees.items trans.0 c.args.at s c.index-tree.result.now trans.1.numbered (get_later c.args.machine.now xs trans.0 c.args.at s trans.1.begins at) c.index-tree.ensures

  inner : c.shape-shape.result.now ≡ inner_of s
  inner = c.shape-shape.ensures.same ∙ met.shape.0

  places : c.leaves.result.now ≡ places_of s
  places = c.leaves.ensures ∙ met.shape.1

  sound : EachPlace (length c.args.machine.now.nodes) s × (size_of s ≤ 2 ^ 32)
  sound = sound_as c.args.machine.now c.index-tree.result.now s met.machine met.shape c.shape-shape.ensures.sound

  below : EachPlace (length c.nodes.result.now) s
  below = subst (λ z. EachPlace (length z) s) (sym c.nodes.ensures.same) sound.0

  long : length c.shape-shape.result.now ≡ size_of s
  long = ap length inner ∙ inner_long s

pub way_to_end-requires-clause-short : goal.way_to_end-requires-clause-short
way_to_end-requires-clause-short c =
    let k = c.requires.known in
    let top = (goal.at.way_to_end-requires-clause-short c).After-leaves in
    omega (arith, long top k.0 k.1 k.2 k.3, (sound top k.0 k.1 k.2 k.3).1)

pub way_to_end-requires-clause-tree : goal.way_to_end-requires-clause-tree
way_to_end-requires-clause-tree c =
    let k = c.requires.known in
    let top = (goal.at.way_to_end-requires-clause-tree c).After-leaves in
    (k.1, inner top k.0 k.1 k.2 k.3, places top k.0 k.1 k.2 k.3, below top k.0 k.1 k.2 k.3)

pub overflow_sub-registers : goal.overflow_sub-registers
overflow_sub-registers c =
    let k = c.requires.known in
    let top = (goal.at.overflow_sub-registers c).After-leaves in
    omega (arith, long top k.0 k.1 k.2 k.3, size_above k.1)

pub overflow_cast-registers : goal.overflow_cast-registers
overflow_cast-registers c =
    let k = c.requires.known in
    let top = (goal.at.overflow_cast-registers c).After-leaves in
    omega (arith, long top k.0 k.1 k.2 k.3, size_above k.1, (sound top k.0 k.1 k.2 k.3).1)

pub returns-clause-ok : goal.returns-clause-ok
returns-clause-ok c = λ xs s n at.
    let top = (goal.at.returns-clause-ok c).After-leaves in
    let q = trans top xs s n at in (
      q.0,
      subst (λ z. IsStateWith c.args.machine.now c.args.partition.now c.transitions_of.new.states.keys.keys c.transitions_of.new.states.trees.items xs q.0 s z) (sym c.new.ensures) (record {
        numbered = q.1.numbered;
        begins = q.1.begins;
        row_of = record {
          registers = omega (arith, long top xs s n at, size_above s);
          long = q.1.long;
          ends = subst (λ z. c.in_ok-accepting.accepting ≡ way_to (first_accepting (node_moves z) (numbered_tree 0 s))) c.nodes.ensures.same (c.in_ok-accepting.ensures s (inner top xs s n at) (places top xs s n at) (below top xs s n at));
          does = λ b lt. q.1.do_on b lt (class_below c.args.partition.now c.requires.classes.refined.numbered b lt);
        };
        order = q.1.order;
      }),
    )
