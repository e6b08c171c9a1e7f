-- The flags of nodes that are apart, and the lowest call among them.
use Rattle.std.proofs.Common.{◌≡◌, ℕ, zero, suc, ◌<◌, ◌≤◌, ◌+◌, Bool, true, false, List, [], ◌⊎◌, inl, inr, ⊎_elim, Option, Some, length, get_or, replicate, refl, sym, ap, subst, ◌∙◌, arith}
use Rattle.std.proofs.lemmas.List.{length-replicate}
use Rattle.std.proofs.lemmas.Option.{slice_get_within, slice_get_past}
use Rattle.kex_code.specs.Codes.{IsAmong, HasNumber}
use Rattle.kex_model.specs.declared.program.Kind.{Kind}
use Rattle.kex_model.specs.declared.program.Kind.TheVariants.{Call, One}
use Rattle.kex_model.specs.declared.program.Node.{Node}
use Rattle.kex_model.specs.Programs.{Grammar, IsGrammar}
use Rattle.kex_model.specs.Trees.{kind_at}
use Rattle.kex_rules.specs.declared.components.Mark.{Mark}
use Rattle.kex_rules.specs.Rules.{IsCall, IsNotTail, last_parts, other_parts}
use Rattle.kex_rules.specs.Tables.{IsLeastOffset, lower}
use Rattle.kex_rules.specs.Graphs.{AreComponents, vertices, vertex_successors}
use Rattle.kex_rules.specs.Tails.{AreSame, by_other, by_last, MarksParts, HasApart}
use Rattle.kex_rules.proofs.Marks.{one_number}
use Rattle.kex_rules.proofs.DefinedNames.{least_more, least_same}
use Rattle.kex_rules.proofs.Tails.{is_apart, is_not_tail, flagged, no_kind}

-- no node was looked at
pub apart_none : (P : Grammar) (marks : List Mark) (apart : List Bool) (n : ℕ) → apart ≡ replicate n false → n ≡ length P.nodes → HasApart P marks n apart
apart_none P marks apart n e len = record {
  long = ap length e ∙ length-replicate n false ∙ len;
  real = λ m h. absurd (none n m (sym (ap (λ z. get_or z m false) e) ∙ h));
  by_other = λ k m le i s. absurd (past other_parts refl k m (omega arith) i);
  by_last = λ k m le h i s. absurd (past last_parts refl k m (omega arith) i);
}
  where
    none : (k m : ℕ) → get_or (replicate k false) m false ≡ true → ⊥
    none zero m h = cc
    none (suc k) zero h = cc
    none (suc k) (suc m) h = none k m h

    past : (parts : Kind → List ℕ) → parts One ≡ [] → (k m : ℕ) → length P.nodes ≤ k → IsAmong (parts (kind_at P k)) m → ⊥
    past parts q k m le i = subst (λ z. IsAmong z m) q (subst (λ z. IsAmong (parts z) m) (no_kind P k (slice_get_past P.nodes k le)) i)

-- one node more
pub apart_more : (P : Grammar) (marks : List Mark) (n : ℕ) (old new : List Bool) → HasApart P marks (n + 1) old → MarksParts marks n (last_parts (kind_at P n)) (other_parts (kind_at P n)) old new → HasApart P marks n new
apart_more P marks n old new h k = record {
  long = k.long ∙ h.long;
  real = λ m e. ⊎_elim (λ f. h.real m f) (λ f. ⊎_elim (λ i. by_other n i.0 i.1) (λ i. by_last n (h.real n i.0) i.1 i.2) f) (k.only m e);
  by_other = λ j m le i s. ⊎_elim (λ e. k.by_other m (subst (λ z. IsAmong (other_parts (kind_at P z)) m) (sym e) i) (subst (λ z. AreSame marks z m) (sym e) s)) (λ l. k.kept m (h.by_other j m l i s)) (this_or_above n j le);
  by_last = λ j m le f i s. ⊎_elim
      (λ e. k.by_last m (sym (k.above n (omega arith)) ∙ ap (λ z. get_or new z false) e ∙ f) (subst (λ z. IsAmong (last_parts (kind_at P z)) m) (sym e) i) (subst (λ z. AreSame marks z m) (sym e) s))
      (λ l. k.kept m (h.by_last j m l (sym (k.above j le) ∙ f) i s))
      (this_or_above n j le);
}
  where
    this_or_above : (a b : ℕ) → a ≤ b → (a ≡ b) ⊎ (a + 1 ≤ b)
    this_or_above a b le = grind arith

-- one of the first nodes is a call at this offset that is apart
abbrev pub ApartBefore : Grammar → List Bool → ℕ → ℕ → Type 0
ApartBefore P apart i at = (n name : ℕ) × (n < i) × IsCall P n name at × (get_or apart n false ≡ true)

this_or_below : (a b : ℕ) → a < b + 1 → (a < b) ⊎ (b ≡ a)
this_or_below a b lt = grind arith

pub before_more : (P : Grammar) (apart : List Bool) (i name : ℕ) (m : Node) (found : Option ℕ) → HasNumber P.nodes m i → m.kind ≡ Call name → get_or apart i false ≡ true → IsLeastOffset (ApartBefore P apart i) found → IsLeastOffset (ApartBefore P apart (i + 1)) (Some (lower found m.at))
before_more P apart i name m found e k f h = least_more (ApartBefore P apart i) (ApartBefore P apart (i + 1)) found m.at h (i, name, omega arith, (m, e, k, refl), f)
    (λ at c. ⊎_elim (λ l. inl (c.0, c.1, l, c.3, c.4)) (λ q. inr (sym c.3.3 ∙ ap (λ z. z.at) (one_number P.nodes c.3.0 m i (subst (λ z. HasNumber P.nodes c.3.0 z) (sym q) c.3.1) e))) (this_or_below c.0 i c.2))
    (λ at c. (c.0, c.1, (let l : c.0 < i = c.2 in omega arith), c.3, c.4))

pub before_same : (P : Grammar) (apart : List Bool) (i : ℕ) (found : Option ℕ) → ((name at : ℕ) → IsCall P i name at → get_or apart i false ≡ true → ⊥) → IsLeastOffset (ApartBefore P apart i) found → IsLeastOffset (ApartBefore P apart (i + 1)) found
before_same P apart i found n h = least_same (ApartBefore P apart i) (ApartBefore P apart (i + 1)) found h
    (λ at c. ⊎_elim (λ l. (c.0, c.1, l, c.3, c.4)) (λ q. absurd (n c.1 at (subst (λ z. IsCall P z c.1 at) (sym q) c.3) (ap (λ z. get_or apart z false) q ∙ c.4))) (this_or_below c.0 i c.2))
    (λ at c. (c.0, c.1, (let l : c.0 < i = c.2 in omega arith), c.3, c.4))

pub before_all : (P : Grammar) → IsGrammar P → (marks : List Mark) → AreComponents (vertex_successors P) (vertices P) marks → (apart : List Bool) → HasApart P marks 0 apart → (found : Option ℕ) → IsLeastOffset (ApartBefore P apart (length P.nodes)) found → IsLeastOffset (IsNotTail P) found
before_all P g marks parted apart flags found h = least_same (ApartBefore P apart (length P.nodes)) (IsNotTail P) found h
    (λ at c. let r = is_apart P g marks parted at c in (r.0, r.1, slice_get_within P.nodes r.0 r.2.0 r.2.1, r.2, flagged P g marks parted apart flags r.3))
    (λ at c. is_not_tail P g marks parted at c.0 c.1 c.3 (flags.real c.0 c.4))
