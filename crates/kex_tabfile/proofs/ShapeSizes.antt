-- How many nodes a path tree has, and that its places are nodes.
use Rattle.std.proofs.Common.{◌≡◌, ℕ, ◌^◌, ◌<◌, ◌≤◌, length, refl, sym, ap, subst, ◌∙◌, length-append, arith}
use Rattle.kex_model.specs.Labelled.{Shape, place, parts, size_of}
use Rattle.kex_machine.specs.Nodes.{Graph}
use Rattle.kex_machine.specs.Advancing.{EachPlace}
use Rattle.kex_paths.specs.Nexts.{Outline, IsOfShape, inner_of}
use Rattle.kex_paths.specs.Spellings.{IsTreeSound}
use Rattle.kex_paths.proofs.LeftTrees.{lists_same}

pub inner_long : (s : Shape ℕ) → length (inner_of s) ≡ size_of s
inner_long (place p) = refl
inner_long (parts l r) = omega (arith, length-append (inner_of l) (inner_of r), inner_long l, inner_long r)

pub size_above : (s : Shape ℕ) → 0 < size_of s
size_above (place p) = omega arith
size_above (parts l r) = omega arith

-- the places of a tree are nodes, and its nodes fit 32 bits
pub sound_as : (g : Graph) (tree : Outline) (s : Shape ℕ) → tree.machine ≡ g → IsOfShape tree s → IsTreeSound tree.machine tree.shape tree.leaves → EachPlace (length g.nodes) s × (size_of s ≤ 2 ^ 32)
sound_as g tree s same shape sound =
    let one = lists_same sound.shape s (sym sound.inner_is ∙ shape.0) (sym sound.places_are ∙ shape.1) in
    (subst (λ z. EachPlace (length z.nodes) s) same (subst (λ z. EachPlace (length tree.machine.nodes) z) one sound.in_range), omega (arith, ap size_of one, sound.small, sound.few))
