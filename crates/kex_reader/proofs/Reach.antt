-- Where nothing is spare a definition reaches each node.
use Rattle.std.proofs.Common.{◌≡◌, ℕ, zero, suc, ◌+◌, ◌<◌, ◌≤◌, [], ◌∷◌, inl, inr, length, sym, subst, arith}
use Rattle.std.proofs.lemmas.Option.{slice_get_within}
use Rattle.kex_model.specs.Programs.{Grammar, HasBelow, IsInOrder}
use Rattle.kex_model.specs.declared.program.Kind.{Kind}
use Rattle.kex_model.specs.declared.program.Kind.TheVariants as kinds
use Rattle.kex_regexp.specs.Parents.{HasChild}
use Rattle.kex_reader.specs.Uses.{NodeNumber, NameNumber, NoneSpare}
use Rattle.kex_reader.specs.Reach.{LeadsUp, IsReached}

below : (kind : Kind) (n m : ℕ) → HasBelow m kind → HasChild kind n → n < m
below (kinds.Seq l r) n m h (inl e) = subst (λ (k : ℕ). k < m) (sym e) h.0
below (kinds.Seq l r) n m h (inr e) = subst (λ (k : ℕ). k < m) (sym e) h.1
below (kinds.Alt l r) n m h (inl e) = subst (λ (k : ℕ). k < m) (sym e) h.0
below (kinds.Alt l r) n m h (inr e) = subst (λ (k : ℕ). k < m) (sym e) h.1
below (kinds.Rep body low high lazy) n m h e = subst (λ (k : ℕ). k < m) (sym e) h.0
below (kinds.Mute t) n m h e = subst (λ (k : ℕ). k < m) (sym e) h
below (kinds.At r t) n m h e = subst (λ (k : ℕ). k < m) (sym e) h
below kinds.One n m h e = absurd e
below (kinds.Lit x) n m h e = absurd e
below (kinds.Class x) n m h e = absurd e
below (kinds.Call x) n m h e = absurd e
below (kinds.Write x) n m h e = absurd e
below (kinds.Set x y) n m h e = absurd e
below (kinds.Add x y) n m h e = absurd e

no_name : (n m : ℕ) → NodeNumber n ≡ NameNumber m → ⊥
no_name n m e = absurd cc

climb : (P : Grammar) → IsInOrder P.nodes → NoneSpare P → (left n : ℕ) → n < length P.nodes → length P.nodes ≤ n + left → IsReached P n
unfolding LeadsUp
climb P order none zero n lt le = absurd (omega (arith, lt, le))
climb P order none (suc left) n lt le = elim (none (NodeNumber n) lt) [
  | inl u ↦ let above = below u.1.kind n u.0 (order u.0 u.1 u.2) u.3 in
      let r = climb P order none left u.0 (slice_get_within P.nodes u.0 u.1 u.2) (omega (arith, above, le)) in
      (u.0 ∷ r.0, (u.1, u.2, u.3, r.1))
  | inr q ↦ elim q [ inl d ↦ ([], d) | inr s ↦ absurd (no_name n s.0.name s.2) ]
]

pub each_reached : (P : Grammar) → IsInOrder P.nodes → NoneSpare P → (n : ℕ) → n < length P.nodes → IsReached P n
each_reached P order none n lt = climb P order none (length P.nodes) n lt (omega arith)
