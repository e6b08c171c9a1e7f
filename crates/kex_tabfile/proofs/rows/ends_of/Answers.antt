use Rattle.std.proofs.Common.{◌≡◌, length, ap, sym, subst, ◌∙◌, arith}
use Rattle.kex_machine.specs.Nodes.{node_moves}
use Rattle.kex_machine.specs.Advancing.{first_accepting, EachPlace}
use Rattle.kex_sst.specs.Parts.{numbered_tree}
use Rattle.kex_determine.specs.Rows.{way_to}
use Rattle.kex_tabfile.proofs.ShapeSizes.{inner_long, size_above, sound_as}
use Rattle.kex_tabfile.proofs.rows.ends_of.Goals as goal

pub way_to_end-requires-clause-short : goal.way_to_end-requires-clause-short
way_to_end-requires-clause-short c =
    let t = c.shape-shape.ensures.tree in
    let long = ap length (c.shape-shape.ensures.same ∙ t.1.0) ∙ inner_long t.0 in
    let sound = sound_as c.args.machine.now c.args.tree.now t.0 c.requires t.1 c.shape-shape.ensures.sound in
    omega (arith, long, sound.1)

pub overflow_sub-registers : goal.overflow_sub-registers
overflow_sub-registers c =
    let t = c.shape-shape.ensures.tree in
    let long = ap length (c.shape-shape.ensures.same ∙ t.1.0) ∙ inner_long t.0 in
    omega (arith, long, size_above t.0)

pub overflow_cast-result : goal.overflow_cast-result
overflow_cast-result c =
    let t = c.shape-shape.ensures.tree in
    let long = ap length (c.shape-shape.ensures.same ∙ t.1.0) ∙ inner_long t.0 in
    let sound = sound_as c.args.machine.now c.args.tree.now t.0 c.requires t.1 c.shape-shape.ensures.sound in
    omega (arith, long, size_above t.0, sound.1)

pub returns : goal.returns
returns c = λ s is.
    let long = ap length (c.shape-shape.ensures.same ∙ is.0) ∙ inner_long s in
    let sound = sound_as c.args.machine.now c.args.tree.now s c.requires is c.shape-shape.ensures.sound in
    let below = subst (λ z. EachPlace (length z) s) (sym c.nodes.ensures.same) sound.0 in
    record {
      count = omega (arith, long, size_above s);
      way = subst (λ z. c.in_ok-accepting.accepting ≡ way_to (first_accepting (node_moves z) (numbered_tree 0 s))) c.nodes.ensures.same (c.in_ok-accepting.ensures s (c.shape-shape.ensures.same ∙ is.0) (c.leaves.ensures ∙ is.1) below);
    }
