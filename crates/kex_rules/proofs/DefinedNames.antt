-- Names that are defined, and the lowest of the offsets that break a rule.
use Rattle.std.proofs.Common.{◌≡◌, ℕ, zero, suc, ◌<◌, ◌≤◌, Bool, true, false, cond, List, [], ◌∷◌, ◌++◌, ◌⊎◌, inl, inr, ⊎_elim, Option, Some, None, find, length, get_or, set, take, refl, sym, ap, subst, ◌∙◌, length-set, get_or-set_same, get_or-set_other, arith}
use Rattle.std.specs.Prelude.{◌==◌, if◌then◌else◌, nat_lt, IsTrue, ◌↔◌}
use Rattle.std.specs.Option.{option_map, option_or}
use Rattle.std.proofs.lemmas.Bool.{eqb-true, eq-eqb}
use Rattle.std.proofs.lemmas.Bool.Decides.{nat_tests}
use Rattle.std.proofs.lemmas.List.Folds.{find-append}
use Rattle.std.proofs.lemmas.Option.{slice_get_within, slice_get-get_or}
use Rattle.kex_code.specs.Codes.{IsAmong, HasNumber}
use Rattle.kex_model.specs.declared.program.Definition.{Definition}
use Rattle.kex_model.specs.declared.program.Start.{Start}
use Rattle.kex_model.specs.Programs.{Grammar, IsGrammar}
use Rattle.kex_model.proofs.DistinctItems.{among_get, among-append}
use Rattle.kex_model.proofs.Tables.{some_same, get_more, get_last, get_pushed}
use Rattle.kex_rules.specs.Rules.{IsDefined, IsTwice, CallsAt, StartsAt, IsUse, IsUnknown, IsNotTail, IsRuled, IsLowest, Nowhere}
use Rattle.kex_rules.specs.Tables.{first_root, HasRoots, IsLeastOffset, lower, CallsUnknown, StartsUnknown}
use Rattle.kex_rules.proofs.Ways.{find_among}
use Rattle.kex_rules.proofs.Marks.{number_front, number_of, same_or_not}

pub among-cases : {A : Type 0} (xs : List A) (x z : A) → IsAmong (xs ++ x ∷ []) z → IsAmong xs z ⊎ (x ≡ z)
among-cases [] x z (inl e) = inr e
among-cases [] x z (inr i) = absurd i
among-cases (y ∷ xs) x z (inl e) = inl (inl e)
among-cases (y ∷ xs) x z (inr i) = ⊎_elim (λ j. inl (inr j)) (λ e. inr e) (among-cases xs x z i)

-- all of a list is taken
pub whole : {A : Type 0} (xs : List A) (n : ℕ) → length xs ≤ n → take n xs ≡ xs
whole [] zero le = refl
whole [] (suc n) le = refl
whole (x ∷ xs) zero le = absurd (omega arith)
whole (x ∷ xs) (suc n) le = ap (λ z. x ∷ z) (whole xs n (omega arith))

pub find_none : (ds : List Definition) (name : ℕ) → find (λ d. d.name == name) ds ≡ None → IsDefined ds name → ⊥
find_none [] name e (d, i, n) = i
find_none (x ∷ ds) name e (d, i, n) = by (x.name == name) refl e i (λ f j. find_none ds name f (d, j, n))
  where
    by : (b : Bool) → (x.name == name) ≡ b → cond b (Some x) (find (λ d. d.name == name) ds) ≡ None → (x ≡ d) ⊎ IsAmong ds d → (find (λ d. d.name == name) ds ≡ None → IsAmong ds d → ⊥) → ⊥
    by true t f j rest = cc
    by false t f (inl q) rest = let hit : (x.name == name) ≡ true = eq-eqb x.name name (ap (λ z. z.name) q ∙ n) in let clash : false ≡ true = sym t ∙ hit in cc
    by false t f (inr j) rest = rest f j

pub find_named : (ds : List Definition) (name : ℕ) (d : Definition) → find (λ d. d.name == name) ds ≡ Some d → d.name ≡ name
find_named [] name d e = cc
find_named (x ∷ ds) name d e = by (x.name == name) refl e (λ f. find_named ds name d f)
  where
    by : (b : Bool) → (x.name == name) ≡ b → cond b (Some x) (find (λ d. d.name == name) ds) ≡ Some d → (find (λ d. d.name == name) ds ≡ Some d → d.name ≡ name) → d.name ≡ name
    by true t f rest = ap (λ z. z.name) (sym (some_same x d f)) ∙ eqb-true x.name name t
    by false t f rest = rest f

find_defined : (ds : List Definition) (name : ℕ) (d : Definition) → find (λ d. d.name == name) ds ≡ Some d → IsDefined ds name
find_defined ds name d e = (d, find_among (λ d. d.name == name) ds d e, find_named ds name d e)

-- no root, no definition
pub first_none : (ds : List Definition) (name : ℕ) → first_root ds name ≡ None → IsDefined ds name → ⊥
first_none ds name e h = by (find (λ d. d.name == name) ds) refl
  where
    by : (o : Option Definition) → find (λ d. d.name == name) ds ≡ o → ⊥
    by None f = find_none ds name f h
    by (Some d) f = let q : Some d.root ≡ None = sym (ap (option_map (λ d. d.root)) f) ∙ e in cc

pub first_some : (ds : List Definition) (name r : ℕ) → first_root ds name ≡ Some r → IsDefined ds name
first_some ds name r e = by (find (λ d. d.name == name) ds) refl
  where
    by : (o : Option Definition) → find (λ d. d.name == name) ds ≡ o → IsDefined ds name
    by None f = let q : None ≡ Some r = sym (ap (option_map (λ d. d.root)) f) ∙ e in cc
    by (Some d) f = find_defined ds name d f

-- a name that isn't known to lack a root has a definition
pub is_known : (ds : List Definition) (name : ℕ) (b : Bool) → (IsTrue b ↔ (first_root ds name ≡ None)) → b ≡ false → IsDefined ds name
is_known ds name b h e = by (first_root ds name) refl
  where
    by : (o : Option ℕ) → first_root ds name ≡ o → IsDefined ds name
    by None f = let t : b ≡ true = h.1 f in let q : true ≡ false = sym t ∙ e in cc
    by (Some r) f = first_some ds name r f

-- the roots with one more definition
first_kept : (ds : List Definition) (d : Definition) (name r : ℕ) → first_root ds name ≡ Some r → first_root (ds ++ d ∷ []) name ≡ Some r
first_kept ds d name r e = ap (option_map (λ d. d.root)) (find-append (λ d. d.name == name) ds (d ∷ [])) ∙ by (find (λ d. d.name == name) ds) (find (λ d. d.name == name) (d ∷ [])) e
  where
    by : (o p : Option Definition) → option_map (λ d. d.root) o ≡ Some r → option_map (λ d. d.root) (option_or o p) ≡ Some r
    by None p f = cc
    by (Some x) p f = f

first_new : (ds : List Definition) (d : Definition) (name : ℕ) → first_root ds name ≡ None → first_root (ds ++ d ∷ []) name ≡ option_map (λ d. d.root) (find (λ d. d.name == name) (d ∷ []))
first_new ds d name e = ap (option_map (λ d. d.root)) (find-append (λ d. d.name == name) ds (d ∷ [])) ∙ by (find (λ d. d.name == name) ds) (find (λ d. d.name == name) (d ∷ [])) e
  where
    by : (o p : Option Definition) → option_map (λ d. d.root) o ≡ None → option_map (λ d. d.root) (option_or o p) ≡ option_map (λ d. d.root) p
    by None p f = refl
    by (Some x) p f = cc

find_here : (d : Definition) (name : ℕ) → d.name ≡ name → option_map (λ d. d.root) (find (λ d. d.name == name) (d ∷ [])) ≡ Some d.root
find_here d name e = ap (λ b. option_map (λ d. d.root) (cond b (Some d) None)) (eq-eqb d.name name e)

find_not_here : (d : Definition) (name : ℕ) → (d.name ≡ name → ⊥) → option_map (λ d. d.root) (find (λ d. d.name == name) (d ∷ [])) ≡ None
find_not_here d name n = by (d.name == name) refl
  where
    by : (b : Bool) → (d.name == name) ≡ b → option_map (λ d. d.root) (cond b (Some d) None) ≡ None
    by true t = absurd (n (eqb-true d.name name t))
    by false t = refl

first_other : (ds : List Definition) (d : Definition) (name : ℕ) → (d.name ≡ name → ⊥) → first_root (ds ++ d ∷ []) name ≡ first_root ds name
first_other ds d name n = by (first_root ds name) refl
  where
    by : (o : Option ℕ) → first_root ds name ≡ o → first_root (ds ++ d ∷ []) name ≡ first_root ds name
    by None e = first_new ds d name e ∙ find_not_here d name n ∙ sym e
    by (Some r) e = first_kept ds d name r e ∙ sym e

pub roots_more : (ds : List Definition) (d : Definition) (names : ℕ) (roots : List (Option ℕ)) → d.name < names → HasRoots ds names roots → get_or roots d.name None ≡ None → HasRoots (ds ++ d ∷ []) names (set roots d.name (Some d.root))
roots_more ds d names roots lt h e = record {
  long = length-set roots d.name (Some d.root) ∙ h.long;
  each = λ name. ⊎_elim
      (λ q. ap (λ z. get_or (set roots d.name (Some d.root)) z None) (sym q) ∙ get_or-set_same roots d.name (Some d.root) None (omega (arith, h.long)) ∙ sym (find_here d name q) ∙ sym (first_new ds d name (ap (λ z. first_root ds z) (sym q) ∙ sym (h.each d.name) ∙ e)))
      (λ ne. get_or-set_other roots d.name name (Some d.root) None ne ∙ h.each name ∙ sym (first_other ds d name (λ q. ne (sym q))))
      (same_or_not d.name name);
}

pub roots_kept : (ds : List Definition) (d : Definition) (names : ℕ) (roots : List (Option ℕ)) (r : ℕ) → HasRoots ds names roots → get_or roots d.name None ≡ Some r → HasRoots (ds ++ d ∷ []) names roots
roots_kept ds d names roots r h e = record {
  long = h.long;
  each = λ name. ⊎_elim
      (λ q. ap (λ z. get_or roots z None) (sym q) ∙ e ∙ sym (ap (λ z. first_root (ds ++ d ∷ []) z) (sym q) ∙ first_kept ds d d.name r (sym (h.each d.name) ∙ e)))
      (λ ne. h.each name ∙ sym (first_other ds d name (λ q. ne (sym q))))
      (same_or_not d.name name);
}

-- one more offset breaks a rule
pub least_more : (B C : ℕ → Type 0) (found : Option ℕ) (at : ℕ) → IsLeastOffset B found → C at → ((k : ℕ) → C k → B k ⊎ (k ≡ at)) → ((k : ℕ) → B k → C k) → IsLeastOffset C (Some (lower found at))
least_more B C None at h new old keep = record { breaks = new; lowest = λ k lt c. ⊎_elim (λ b. h k b) (λ e. omega arith) (old k c) }
least_more B C (Some f) at h new old keep = by (nat_lt f at) refl
  where
    by : (b : Bool) → nat_lt f at ≡ b → IsLowest C (if b then f else at)
    by true t = let lt : f < at = grind (arith, nat_tests) in record { breaks = keep f h.breaks; lowest = λ k l c. ⊎_elim (λ b. h.lowest k l b) (λ e. omega arith) (old k c) }
    by false t = let le : at ≤ f = grind (arith, nat_tests) in record { breaks = new; lowest = λ k l c. ⊎_elim (λ b. h.lowest k (omega arith) b) (λ e. omega arith) (old k c) }

pub least_same : (B C : ℕ → Type 0) (found : Option ℕ) → IsLeastOffset B found → ((k : ℕ) → C k → B k) → ((k : ℕ) → B k → C k) → IsLeastOffset C found
least_same B C None h back keep = λ k c. h k (back k c)
least_same B C (Some f) h back keep = record { breaks = keep f h.breaks; lowest = λ k l c. h.lowest k l (back k c) }

-- one more definition
twice_cases : (ds : List Definition) (d : Definition) (at : ℕ) → IsTwice (ds ++ d ∷ []) at → IsTwice ds at ⊎ (IsDefined ds d.name × (at ≡ d.at))
twice_cases ds d at (i, j, x, e, lt, hi, hj, same, is) = ⊎_elim
    (λ old. let l : j < length ds = slice_get_within ds j e old in inl (i, j, x, e, lt, number_front ds (d ∷ []) i x hi (omega arith), old, same, is))
    (λ k. let q : j ≡ length ds = k.0 in inr ((x, among_get ds i x (number_front ds (d ∷ []) i x hi (omega arith)), same ∙ ap (λ z. z.name) (sym k.1)), sym is ∙ ap (λ z. z.at) (sym k.1)))
    (get_pushed ds d j e hj)

twice_kept : (ds : List Definition) (d : Definition) (at : ℕ) → IsTwice ds at → IsTwice (ds ++ d ∷ []) at
twice_kept ds d at (i, j, x, e, lt, hi, hj, same, is) = (i, j, x, e, lt, get_more ds (d ∷ []) i x hi, get_more ds (d ∷ []) j e hj, same, is)

pub twice_more : (ds : List Definition) (d : Definition) (found : Option ℕ) → IsDefined ds d.name → IsLeastOffset (IsTwice ds) found → IsLeastOffset (IsTwice (ds ++ d ∷ [])) (Some (lower found d.at))
twice_more ds d found (x, i, same) h = least_more (IsTwice ds) (IsTwice (ds ++ d ∷ [])) found d.at h here (λ k c. ⊎_elim (λ b. inl b) (λ b. inr b.1) (twice_cases ds d k c)) (λ k b. twice_kept ds d k b)
  where
    here : IsTwice (ds ++ d ∷ []) d.at
    here = let p = number_of [] ds x i in (p.0, length ds, x, d, slice_get_within ds p.0 x p.1, get_more ds (d ∷ []) p.0 x p.1, get_last ds d, same, refl)

pub twice_same : (ds : List Definition) (d : Definition) (found : Option ℕ) → (IsDefined ds d.name → ⊥) → IsLeastOffset (IsTwice ds) found → IsLeastOffset (IsTwice (ds ++ d ∷ [])) found
twice_same ds d found n h = least_same (IsTwice ds) (IsTwice (ds ++ d ∷ [])) found h (λ k c. ⊎_elim (λ b. b) (λ b. absurd (n b.0)) (twice_cases ds d k c)) (λ k b. twice_kept ds d k b)

-- calls and the first stages
abbrev pub UsesUnknown : Grammar → List Start → ℕ → Type 0
UsesUnknown P stages at = CallsUnknown P at ⊎ StartsUnknown P.definitions stages at

uses_cases : (P : Grammar) (ss : List Start) (s : Start) (at : ℕ) → UsesUnknown P (ss ++ s ∷ []) at → UsesUnknown P ss at ⊎ ((IsDefined P.definitions s.name → ⊥) × (at ≡ s.at))
uses_cases P ss s at (inl c) = inl (inl c)
uses_cases P ss s at (inr (name, (x, i, k, is), n)) = ⊎_elim (λ j. inl (inr (name, (x, j, k, is), n))) (λ e. inr ((λ d. n (subst (λ z. IsDefined P.definitions z) (ap (λ z. z.name) e ∙ k) d)), sym is ∙ ap (λ z. z.at) (sym e))) (among-cases ss s x i)

uses_kept : (P : Grammar) (ss : List Start) (s : Start) (at : ℕ) → UsesUnknown P ss at → UsesUnknown P (ss ++ s ∷ []) at
uses_kept P ss s at (inl c) = inl c
uses_kept P ss s at (inr (name, (x, i, k, is), n)) = inr (name, (x, among-append ss (s ∷ []) x (inl i), k, is), n)

pub uses_start : (P : Grammar) (found : Option ℕ) → IsLeastOffset (CallsUnknown P) found → IsLeastOffset (UsesUnknown P []) found
uses_start P found h = least_same (CallsUnknown P) (UsesUnknown P []) found h (λ k c. ⊎_elim (λ b. b) (λ b. absurd (nothing k b)) c) (λ k b. inl b)
  where
    nothing : (k : ℕ) → StartsUnknown P.definitions [] k → ⊥
    nothing k (name, (x, i, e, is), n) = i

pub uses_more : (P : Grammar) (ss : List Start) (s : Start) (found : Option ℕ) → (IsDefined P.definitions s.name → ⊥) → IsLeastOffset (UsesUnknown P ss) found → IsLeastOffset (UsesUnknown P (ss ++ s ∷ [])) (Some (lower found s.at))
uses_more P ss s found n h = least_more (UsesUnknown P ss) (UsesUnknown P (ss ++ s ∷ [])) found s.at h (inr (s.name, (s, among-append ss (s ∷ []) s (inr (inl refl)), refl, refl), n)) (λ k c. ⊎_elim (λ b. inl b) (λ b. inr b.1) (uses_cases P ss s k c)) (λ k b. uses_kept P ss s k b)

pub uses_same : (P : Grammar) (ss : List Start) (s : Start) (found : Option ℕ) → IsDefined P.definitions s.name → IsLeastOffset (UsesUnknown P ss) found → IsLeastOffset (UsesUnknown P (ss ++ s ∷ [])) found
uses_same P ss s found d h = least_same (UsesUnknown P ss) (UsesUnknown P (ss ++ s ∷ [])) found h (λ k c. ⊎_elim (λ b. b) (λ b. absurd (b.0 d)) (uses_cases P ss s k c)) (λ k b. uses_kept P ss s k b)

pub uses_all : (P : Grammar) (found : Option ℕ) → IsLeastOffset (UsesUnknown P P.stages) found → IsLeastOffset (IsUnknown P) found
uses_all P found h = least_same (UsesUnknown P P.stages) (IsUnknown P) found h (λ k c. back k c.0 c.1 c.2) (λ k b. on k b)
  where
    back : (k name : ℕ) → CallsAt P name k ⊎ StartsAt P.stages name k → (IsDefined P.definitions name → ⊥) → UsesUnknown P P.stages k
    back k name (inl c) n = inl (name, c, n)
    back k name (inr s) n = inr (name, s, n)

    on : (k : ℕ) → UsesUnknown P P.stages k → IsUnknown P k
    on k (inl (name, c, n)) = (name, inl c, n)
    on k (inr (name, s, n)) = (name, inr s, n)

-- the names and the roots of definitions are in range
pub definition_among : (P : Grammar) → (ds : List Definition) → ds ≡ P.definitions → (i : ℕ) (none : Definition) → i < length ds → IsAmong P.definitions (get_or ds i none)
definition_among P ds e i none lt = subst (λ z. IsAmong z (get_or ds i none)) e (among_get ds i (get_or ds i none) (slice_get-get_or ds i none lt))

pub name_fits : (P : Grammar) → IsGrammar P → (ds : List Definition) → ds ≡ P.definitions → (i : ℕ) (none : Definition) → i < length ds → (get_or ds i none).name < length P.names
name_fits P g ds e i none lt = (g.in_range.defined (get_or ds i none) (definition_among P ds e i none lt)).0

pub root_fits : (P : Grammar) → IsGrammar P → (ds : List Definition) → ds ≡ P.definitions → (i : ℕ) (none : Definition) → i < length ds → (get_or ds i none).root < length P.nodes
root_fits P g ds e i none lt = (g.in_range.defined (get_or ds i none) (definition_among P ds e i none lt)).1

-- what breaks no rule keeps them
pub ruled : (P : Grammar) → Nowhere (IsTwice P.definitions) → Nowhere (IsUnknown P) → (P.stages ≡ [] → ⊥) → Nowhere (IsNotTail P) → IsRuled P
ruled P once known begins tail = record {
  once = λ i j d e hi hj same. by_order i j d e hi hj same (compare i j);
  known = λ name at used. by_root name at used (first_root P.definitions name) refl;
  begins = some_stage P.stages begins;
  tail = tail;
}
  where
    compare : (i j : ℕ) → (i ≡ j) ⊎ ((i < j) ⊎ (j < i))
    compare i j = grind arith

    by_order : (i j : ℕ) (d e : Definition) → HasNumber P.definitions d i → HasNumber P.definitions e j → d.name ≡ e.name → (i ≡ j) ⊎ ((i < j) ⊎ (j < i)) → i ≡ j
    by_order i j d e hi hj same (inl q) = q
    by_order i j d e hi hj same (inr (inl lt)) = absurd (once e.at (i, j, d, e, lt, hi, hj, same, refl))
    by_order i j d e hi hj same (inr (inr lt)) = absurd (once d.at (j, i, e, d, lt, hj, hi, sym same, refl))

    by_root : (name at : ℕ) → IsUse P name at → (o : Option ℕ) → first_root P.definitions name ≡ o → IsDefined P.definitions name
    by_root name at used None e = absurd (known at (name, used, first_none P.definitions name e))
    by_root name at used (Some r) e = first_some P.definitions name r e

    some_stage : (stages : List Start) → (stages ≡ [] → ⊥) → (s : Start) × IsAmong stages s
    some_stage [] n = absurd (n refl)
    some_stage (s ∷ stages) n = (s, inl refl)

-- the same, from what the passes found
pub ruled_by : (P : Grammar) (stages : List Start) (unknown apart : Option ℕ) (empty : Bool) → Nowhere (IsTwice P.definitions) → IsLeastOffset (IsUnknown P) unknown → unknown ≡ None → stages ≡ P.stages → empty ≡ (length stages == 0) → empty ≡ false → IsLeastOffset (IsNotTail P) apart → apart ≡ None → IsRuled P
ruled_by P stages unknown apart empty once known u all is some tail a = ruled P once
    (subst (λ z. IsLeastOffset (IsUnknown P) z) u known)
    (λ e. let none : (length stages == 0) ≡ true = eq-eqb (length stages) 0 (ap length (all ∙ e)) in let clash : false ≡ true = sym some ∙ is ∙ none in cc)
    (subst (λ z. IsLeastOffset (IsNotTail P) z) a tail)
