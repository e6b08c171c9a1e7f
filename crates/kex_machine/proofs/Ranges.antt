-- The nodes of a machine lead to nodes, and those of a trimmed one to the end.
use Rattle.std.proofs.Common.{◌≡◌, ℕ, [], Option, Some, None, length, get_or, ◌<◌, refl, sym, ap, subst, ◌∙◌}
use Rattle.std.specs.Prelude.{slice_get}
use Rattle.std.proofs.lemmas.List.Elements.{All-get_or}
use Rattle.std.proofs.lemmas.Option.{slice_get-get_or, slice_get_within}
use Rattle.kex_model.specs.Survivors.{LeadsToEnd}
use Rattle.kex_machine.specs.declared.MNode.{MNode}
use Rattle.kex_machine.specs.declared.MNode.TheVariants.{Accept, Read, Choice, Forced, Do, Skip}
use Rattle.kex_machine.specs.Nodes.{Graph, move_of, node_moves, IsBelow, IsMachineInRange, IsTrimmed, MoveBelow, StaysWithin}
use Rattle.kex_machine.proofs.Nexts.{IsTrim}
use Rattle.kex_machine.proofs.MuteLoops.{no_mute_loop}

-- each node of a machine leads to nodes
pub stays_within : (g : Graph) → IsMachineInRange g.start g.nodes g.registers → StaysWithin g.nodes
stays_within g range n lt = cases (get_or g.nodes n Accept) refl
  where
    here : (m : MNode) → get_or g.nodes n Accept ≡ m → node_moves g.nodes n ≡ move_of (Some m)
    here m e = ap move_of (slice_get-get_or g.nodes n Accept lt ∙ ap (λ z. Some z) e)

    fits : (m : MNode) → get_or g.nodes n Accept ≡ m → IsBelow (length g.nodes) g.registers m
    fits m e = subst (λ z. IsBelow (length g.nodes) g.registers z) e (All-get_or (IsBelow (length g.nodes) g.registers) g.nodes n Accept lt range.below)

    cases : (m : MNode) → get_or g.nodes n Accept ≡ m → MoveBelow (length g.nodes) (node_moves g.nodes n)
    cases Accept e = subst (λ z. MoveBelow (length g.nodes) z) (sym (here Accept e)) tt
    cases (Read s t) e = subst (λ z. MoveBelow (length g.nodes) z) (sym (here (Read s t) e)) (fits (Read s t) e)
    cases (Choice l r) e = subst (λ z. MoveBelow (length g.nodes) z) (sym (here (Choice l r) e)) (fits (Choice l r) e)
    cases (Forced x t) e = subst (λ z. MoveBelow (length g.nodes) z) (sym (here (Forced x t) e)) (fits (Forced x t) e)
    cases (Do x t) e = subst (λ z. MoveBelow (length g.nodes) z) (sym (here (Do x t) e)) (fits (Do x t) e).0
    cases (Skip t) e = subst (λ z. MoveBelow (length g.nodes) z) (sym (here (Skip t) e)) (fits (Skip t) e)

-- the numbers after the last node lead to the end too
all_end : (g : Graph) → ((n : ℕ) → n < length g.nodes → LeadsToEnd (node_moves g.nodes) n) → (p : ℕ) → LeadsToEnd (node_moves g.nodes) p
all_end g ends p = by p (slice_get g.nodes p) refl
  where
    by : (p : ℕ) (o : Option MNode) → slice_get g.nodes p ≡ o → LeadsToEnd (node_moves g.nodes) p
    by p None e = ([], p, refl, ap move_of e)
    by p (Some x) e = ends p (slice_get_within g.nodes p x e)

pub is_trim : (g : Graph) → IsTrimmed g → IsTrim (node_moves g.nodes) g.start
is_trim g trimmed = record { ends = all_end g trimmed.ends }

-- what leads to the end from each node is trimmed
pub trimmed_by_ends : (g : Graph) → ((n : ℕ) → n < length g.nodes → LeadsToEnd (node_moves g.nodes) n) → IsTrimmed g
trimmed_by_ends g ends = record { ends = ends; no_mute_loop = λ (n, k, ks, w, q). no_mute_loop (node_moves g.nodes) (all_end g ends) n k ks w q }
