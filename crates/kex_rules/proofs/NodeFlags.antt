-- The flags of the nodes that are in a definition, and the lowest call of an unknown name among them.
use Rattle.std.proofs.Common.{◌≡◌, ℕ, zero, suc, ◌<◌, ◌≤◌, ◌+◌, Bool, true, false, List, [], ◌∷◌, ◌++◌, ◌⊎◌, inl, inr, ⊎_elim, Option, Some, length, get_or, set, replicate, refl, sym, ap, subst, ◌∙◌, length-set, get_or-set_same, get_or-set_other, arith}
use Rattle.std.proofs.lemmas.List.{length-replicate}
use Rattle.std.proofs.lemmas.Option.{slice_get_within, slice_get_past}
use Rattle.kex_code.specs.Codes.{IsAmong, HasNumber}
use Rattle.kex_model.specs.declared.program.Kind.{Kind}
use Rattle.kex_model.specs.declared.program.Kind.TheVariants.{Call, One}
use Rattle.kex_model.specs.declared.program.Node.{Node}
use Rattle.kex_model.specs.declared.program.Definition.{Definition}
use Rattle.kex_model.specs.Programs.{Grammar}
use Rattle.kex_model.specs.Trees.{kind_at}
use Rattle.kex_rules.specs.Rules.{IsCall, IsDefined, IsWithin, TermPosition, in_tail, elsewhere, StandsIn, at_root, as_last, as_other, last_parts, other_parts}
use Rattle.kex_rules.specs.Tables.{CallsUnknown, IsLeastOffset, lower}
use Rattle.kex_rules.specs.Within.{FlagsParts, HasWithin}
use Rattle.kex_rules.proofs.Marks.{one_number, same_or_not}
use Rattle.kex_rules.proofs.DefinedNames.{among-cases, least_more, least_same}
use Rattle.kex_rules.proofs.Tails.{no_kind}

-- the roots of these definitions are flagged, and nothing else
pub record FlagsRoots (P : Grammar) (definitions : List Definition) (within : List Bool) : Type 0 where
  pub long : length within ≡ length P.nodes
  pub real : (m : ℕ) → get_or within m false ≡ true → IsWithin P m
  pub roots : (d : Definition) → IsAmong definitions d → get_or within d.root false ≡ true

pub roots_none : (P : Grammar) (within : List Bool) (n : ℕ) → within ≡ replicate n false → n ≡ length P.nodes → FlagsRoots P [] within
roots_none P within n e len = record {
  long = ap length e ∙ length-replicate n false ∙ len;
  real = λ m h. absurd (none n m (sym (ap (λ z. get_or z m false) e) ∙ h));
  roots = λ d i. absurd i;
}
  where
    none : (k m : ℕ) → get_or (replicate k false) m false ≡ true → ⊥
    none zero m h = cc
    none (suc k) zero h = cc
    none (suc k) (suc m) h = none k m h

-- what was flagged stays so, and what is flagged now was so or is this one
set_kept : (within : List Bool) (i m : ℕ) → i < length within → get_or within m false ≡ true → get_or (set within i true) m false ≡ true
set_kept within i m lt h = ⊎_elim (λ e. subst (λ z. get_or (set within i true) z false ≡ true) e (get_or-set_same within i true false lt)) (λ n. get_or-set_other within i m true false n ∙ h) (same_or_not i m)

set_only : (within : List Bool) (i m : ℕ) → get_or (set within i true) m false ≡ true → (get_or within m false ≡ true) ⊎ (i ≡ m)
set_only within i m h = ⊎_elim (λ e. inr e) (λ n. inl (sym (get_or-set_other within i m true false n) ∙ h)) (same_or_not i m)

pub roots_more : (P : Grammar) (definitions : List Definition) (d : Definition) (within : List Bool) → IsAmong P.definitions d → d.root < length within → FlagsRoots P definitions within → FlagsRoots P (definitions ++ d ∷ []) (set within d.root true)
roots_more P definitions d within i lt h = record {
  long = length-set within d.root true ∙ h.long;
  real = λ m f. ⊎_elim (λ old. h.real m old) (λ e. subst (λ z. IsWithin P z) e (d, in_tail, i, at_root)) (set_only within d.root m f);
  roots = λ x j. ⊎_elim (λ old. set_kept within d.root x.root lt (h.roots x old)) (λ e. subst (λ z. get_or (set within d.root true) z.root false ≡ true) e (get_or-set_same within d.root true false lt)) (among-cases definitions d x j);
}

pub roots_all : (P : Grammar) (within : List Bool) → FlagsRoots P P.definitions within → HasWithin P (length P.nodes) within
roots_all P within h = record {
  long = h.long;
  real = h.real;
  roots = h.roots;
  lasts = λ k m le f i. absurd (past last_parts refl k m le i);
  others = λ k m le f i. absurd (past other_parts refl k m le i);
}
  where
    past : (parts : Kind → List ℕ) → parts One ≡ [] → (k m : ℕ) → length P.nodes ≤ k → IsAmong (parts (kind_at P k)) m → ⊥
    past parts q k m le i = subst (λ z. IsAmong z m) q (subst (λ z. IsAmong (parts z) m) (no_kind P k (slice_get_past P.nodes k le)) i)

this_or_above : (a b : ℕ) → a ≤ b → (a ≡ b) ⊎ (a + 1 ≤ b)
this_or_above a b le = grind arith

-- one node more, which is in a definition
pub within_more : (P : Grammar) (n : ℕ) (old new : List Bool) → HasWithin P (n + 1) old → get_or old n false ≡ true → FlagsParts n (last_parts (kind_at P n)) (other_parts (kind_at P n)) old new → HasWithin P n new
within_more P n old new h f k = record {
  long = k.long ∙ h.long;
  real = λ m e. ⊎_elim (λ o. h.real m o) (λ c. ⊎_elim (λ i. (let r = h.real n f in (r.0, r.1, r.2, as_last r.3 i))) (λ i. (let r = h.real n f in (r.0, elsewhere, r.2, as_other r.3 i))) c) (k.only m e);
  roots = λ d i. k.kept d.root (h.roots d i);
  lasts = λ j m le g i. ⊎_elim (λ e. k.lasts m (subst (λ z. IsAmong (last_parts (kind_at P z)) m) (sym e) i)) (λ l. k.kept m (h.lasts j m l (sym (k.above j le) ∙ g) i)) (this_or_above n j le);
  others = λ j m le g i. ⊎_elim (λ e. k.others m (subst (λ z. IsAmong (other_parts (kind_at P z)) m) (sym e) i)) (λ l. k.kept m (h.others j m l (sym (k.above j le) ∙ g) i)) (this_or_above n j le);
}

-- one node more, which doesn't
pub within_same : (P : Grammar) (n : ℕ) (within : List Bool) → HasWithin P (n + 1) within → get_or within n false ≡ false → HasWithin P n within
within_same P n within h f = record {
  long = h.long;
  real = h.real;
  roots = h.roots;
  lasts = λ j m le g i. ⊎_elim (λ e. absurd (never j e g)) (λ l. h.lasts j m l g i) (this_or_above n j le);
  others = λ j m le g i. ⊎_elim (λ e. absurd (never j e g)) (λ l. h.others j m l g i) (this_or_above n j le);
}
  where
    never : (j : ℕ) → n ≡ j → get_or within j false ≡ true → ⊥
    never j e g = let clash : false ≡ true = sym f ∙ ap (λ z. get_or within z false) e ∙ g in cc

-- the flags have all that is in a definition
pub stands_flagged : (P : Grammar) (within : List Bool) → HasWithin P 0 within → (d : Definition) → IsAmong P.definitions d → {p : TermPosition} {n : ℕ} → StandsIn P d.root p n → get_or within n false ≡ true
stands_flagged P within h d i at_root = h.roots d i
stands_flagged P within h d i (as_last {n = n} {m = m} s j) = h.lasts n m (omega arith) (stands_flagged P within h d i s) j
stands_flagged P within h d i (as_other {n = n} {m = m} s j) = h.others n m (omega arith) (stands_flagged P within h d i s) j

-- one of the first nodes is in a definition and calls a name that has none, at this offset
abbrev pub UnknownBefore : Grammar → List Bool → ℕ → ℕ → Type 0
UnknownBefore P within i at = (n name : ℕ) × (n < i) × IsCall P n name at × (get_or within n false ≡ true) × (IsDefined P.definitions name → ⊥)

this_or_below : (a b : ℕ) → a < b + 1 → (a < b) ⊎ (b ≡ a)
this_or_below a b lt = grind arith

pub unknown_more : (P : Grammar) (within : List Bool) (i name : ℕ) (m : Node) (found : Option ℕ) → HasNumber P.nodes m i → m.kind ≡ Call name → get_or within i false ≡ true → (IsDefined P.definitions name → ⊥) → IsLeastOffset (UnknownBefore P within i) found → IsLeastOffset (UnknownBefore P within (i + 1)) (Some (lower found m.at))
unknown_more P within i name m found e k f u h = least_more (UnknownBefore P within i) (UnknownBefore P within (i + 1)) found m.at h (i, name, omega arith, (m, e, k, refl), f, u)
    (λ at c. ⊎_elim (λ l. inl (c.0, c.1, l, c.3, c.4, c.5)) (λ q. inr (sym c.3.3 ∙ ap (λ z. z.at) (one_number P.nodes c.3.0 m i (subst (λ z. HasNumber P.nodes c.3.0 z) (sym q) c.3.1) e))) (this_or_below c.0 i c.2))
    (λ at c. (c.0, c.1, (let l : c.0 < i = c.2 in omega arith), c.3, c.4, c.5))

pub unknown_same : (P : Grammar) (within : List Bool) (i : ℕ) (found : Option ℕ) → ((name at : ℕ) → IsCall P i name at → get_or within i false ≡ true → (IsDefined P.definitions name → ⊥) → ⊥) → IsLeastOffset (UnknownBefore P within i) found → IsLeastOffset (UnknownBefore P within (i + 1)) found
unknown_same P within i found n h = least_same (UnknownBefore P within i) (UnknownBefore P within (i + 1)) found h
    (λ at c. ⊎_elim (λ l. (c.0, c.1, l, c.3, c.4, c.5)) (λ q. absurd (n c.1 at (subst (λ z. IsCall P z c.1 at) (sym q) c.3) (ap (λ z. get_or within z false) q ∙ c.4) c.5)) (this_or_below c.0 i c.2))
    (λ at c. (c.0, c.1, (let l : c.0 < i = c.2 in omega arith), c.3, c.4, c.5))

pub unknown_all : (P : Grammar) (within : List Bool) → HasWithin P 0 within → (found : Option ℕ) → IsLeastOffset (UnknownBefore P within (length P.nodes)) found → IsLeastOffset (CallsUnknown P) found
unknown_all P within flags found h = least_same (UnknownBefore P within (length P.nodes)) (CallsUnknown P) found h
    (λ at c. let n = c.1.0 in let s = c.1.1 in let call = c.1.2 in (n, c.0, slice_get_within P.nodes n call.0 call.1, call, stands_flagged P within flags s.0 s.2 s.3, c.2))
    (λ at c. (c.1, (c.0, flags.real c.0 c.4, c.3), c.5))
