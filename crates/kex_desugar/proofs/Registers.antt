-- The registers of what a place does are below the program's count.
use Rattle.std.proofs.Common.{◌≡◌, ℕ, zero, suc, true, false, [], ◌∷◌, ⊎_elim, Option, Some, None, length, refl, sym, subst}
use Rattle.std.specs.Prelude.{slice_get}
use Rattle.std.proofs.lemmas.Option.{slice_get_cases}
use Rattle.kex_model.specs.declared.program.Kind.{Kind}
use Rattle.kex_model.specs.declared.program.Kind.TheVariants.{One, Lit, Class, Call, Seq, Alt, Rep, Mute, At, Write, Set, Add}
use Rattle.kex_model.specs.declared.program.Node.{Node}
use Rattle.kex_model.specs.declared.frame.Frame.TheVariants.{Pending, EndOf}
use Rattle.kex_model.specs.Programs.{Grammar, IsGrammar, HasNames}
use Rattle.kex_model.specs.Moves.{Move, accept, read, choose, forced, go}
use Rattle.kex_model.specs.Trees.{kind_at}
use Rattle.kex_model.specs.Places.{Place, moves, moves_of, with_counts, end_effect}
use Rattle.kex_model.proofs.DistinctItems.{among_get}
use Rattle.kex_machine.specs.Nodes.{UsesRegisters}

-- what a move does uses only registers below the count
abbrev pub IsWithin : {S : Type 0} → ℕ → Move S → Type 0
IsWithin n accept = Unit {0}
IsWithin n (read set s) = Unit {0}
IsWithin n (choose s t) = Unit {0}
IsWithin n (forced x s) = Unit {0}
IsWithin n (go e s) = UsesRegisters n e

kind_is : (P : Grammar) (n : ℕ) (m : Node) → slice_get P.nodes n ≡ Some m → kind_at P n ≡ m.kind
kind_is P n m e = rw e refl

no_kind : (P : Grammar) (n : ℕ) → slice_get P.nodes n ≡ None → kind_at P n ≡ One
no_kind P n e = rw e refl

module _ (P : Grammar) (ok : IsGrammar P) where
  named : (n : ℕ) → HasNames (length P.names) P.registers (kind_at P n)
  named n =
      ⊎_elim
      (λ h. subst (λ k. HasNames (length P.names) P.registers k) (sym (kind_is P n h.0 h.2)) (ok.in_range.named h.0 (among_get P.nodes n h.0 h.2)))
      (λ h. subst (λ k. HasNames (length P.names) P.registers k) (sym (no_kind P n h.1)) tt)
      (slice_get_cases P.nodes n).1

  of_kind : (n : ℕ) (k : Kind) (need : ℕ) (left : Option ℕ) (rest : Place) → HasNames (length P.names) P.registers k → IsWithin P.registers (moves_of P n (with_counts k need left) rest)
  of_kind n One need left rest h = tt
  of_kind n (Lit s) need left rest h = tt
  of_kind n (Class s) need left rest h = tt
  of_kind n (Call name) need left rest h = tt
  of_kind n (Seq l r) need left rest h = tt
  of_kind n (Alt l r) need left rest h = tt
  of_kind n (Rep body min max lazy) (suc need) left rest h = tt
  of_kind n (Rep body min max false) zero None rest h = tt
  of_kind n (Rep body min max true) zero None rest h = tt
  of_kind n (Rep body min max lazy) zero (Some zero) rest h = tt
  of_kind n (Rep body min max false) zero (Some (suc m)) rest h = tt
  of_kind n (Rep body min max true) zero (Some (suc m)) rest h = tt
  of_kind n (Mute t) need left rest h = tt
  of_kind n (At r t) need left rest h = tt
  of_kind n (Write r) need left rest h = h
  of_kind n (Set r parts) need left rest h = h
  of_kind n (Add r parts) need left rest h = h

  of_end : (k : Kind) → HasNames (length P.names) P.registers k → UsesRegisters P.registers (end_effect k)
  of_end One h = tt
  of_end (Lit s) h = tt
  of_end (Class s) h = tt
  of_end (Call name) h = tt
  of_end (Seq l r) h = tt
  of_end (Alt l r) h = tt
  of_end (Rep body min max lazy) h = tt
  of_end (Mute t) h = tt
  of_end (At r t) h = h
  of_end (Write r) h = tt
  of_end (Set r parts) h = tt
  of_end (Add r parts) h = tt

  pub moves_within : (p : Place) → IsWithin P.registers (moves P p)
  moves_within [] = tt
  moves_within (Pending n need left ∷ rest) = of_kind n (kind_at P n) need left rest (named n)
  moves_within (EndOf n ∷ rest) = of_end (kind_at P n) (named n)
