-- What one of two alike programs does by its names and calls the other one does: the same rules are broken, at the same offsets.
use Rattle.std.proofs.Common.{◌≡◌, ℕ, zero, suc, ◌<◌, Bool, true, false, cond, List, [], ◌∷◌, inl, inr, ⊎_elim, Some, find, refl, sym, ap, ◌∙◌, subst, arith}
use Rattle.std.specs.Prelude.{◌==◌}
use Rattle.std.proofs.lemmas.Bool.{eqb-true, eq-eqb}
use Rattle.std.proofs.lemmas.Option.{slice_get_within}
use Rattle.kex_code.specs.Codes.{IsAmong, HasNumber}
use Rattle.kex_model.specs.Programs.{Grammar}
use Rattle.kex_model.specs.declared.program.Kind.{Kind}
use Rattle.kex_model.specs.declared.program.Kind.TheVariants.{Call}
use Rattle.kex_model.specs.declared.program.Node.{Node}
use Rattle.kex_model.specs.declared.program.Definition.{Definition}
use Rattle.kex_model.specs.declared.program.Start.{Start}
use Rattle.kex_model.specs.Trees.{kind_at, root_of}
use Rattle.kex_model.proofs.Tables.{some_same}
use Rattle.kex_rules.specs.Rules.{IsDefined, IsTwice, IsCall, TermPosition, in_tail, last_parts, other_parts, StandsIn, at_root, as_last, as_other, IsWithin, IsUse, IsUnknown, ReachesByCalls, itself, by_call, IsNotTail}
use Rattle.kex_rules.proofs.Tails.{kind_is}
use Rattle.kex_rules.proofs.Ways.{find_among}
use Rattle.kex_compile.proofs.NodePairs.{Joins, SameKind, one, lit, class, call, seq, alt, rep, mute, at_register, write_register, set_register, add_register}
use Rattle.kex_compile.proofs.Terms.{SameName}
use Rattle.kex_compile.proofs.Alike.{Alike, SameDefinitions, SameStages, one_name, name_back}

-- ---- kinds

module _ (R N G : ℕ → ℕ → Type 0) where
  call_on : {k l : Kind} (name : ℕ) → SameKind R N G k l → k ≡ Call name → (name' : ℕ) × N name name' × (l ≡ Call name')
  call_on name one e = absurd cc
  call_on name lit e = absurd cc
  call_on name (class h) e = absurd cc
  call_on name (call {k = k} {l = l} h) e = (l, subst (λ z. N z l) (let q : k ≡ name = cc in q) h, refl)
  call_on name (seq g h) e = absurd cc
  call_on name (alt g h) e = absurd cc
  call_on name (rep h) e = absurd cc
  call_on name (mute h) e = absurd cc
  call_on name (at_register g h) e = absurd cc
  call_on name (write_register g) e = absurd cc
  call_on name (set_register g p) e = absurd cc
  call_on name (add_register g p) e = absurd cc

  last_on : {k l : Kind} (m : ℕ) → SameKind R N G k l → IsAmong (last_parts k) m → (m' : ℕ) × IsAmong (last_parts l) m' × R m m'
  last_on m one i = absurd i
  last_on m lit i = absurd i
  last_on m (class h) i = absurd i
  last_on m (call h) i = absurd i
  last_on m (seq {r' = r'} g h) (inl e) = (r', inl refl, subst (λ z. R z r') e h)
  last_on m (seq g h) (inr i) = absurd i
  last_on m (alt {l' = l'} g h) (inl e) = (l', inl refl, subst (λ z. R z l') e g)
  last_on m (alt {r' = r'} g h) (inr (inl e)) = (r', inr (inl refl), subst (λ z. R z r') e h)
  last_on m (alt g h) (inr (inr i)) = absurd i
  last_on m (rep h) i = absurd i
  last_on m (mute h) i = absurd i
  last_on m (at_register g h) i = absurd i
  last_on m (write_register g) i = absurd i
  last_on m (set_register g p) i = absurd i
  last_on m (add_register g p) i = absurd i

  other_on : {k l : Kind} (m : ℕ) → SameKind R N G k l → IsAmong (other_parts k) m → (m' : ℕ) × IsAmong (other_parts l) m' × R m m'
  other_on m one i = absurd i
  other_on m lit i = absurd i
  other_on m (class h) i = absurd i
  other_on m (call h) i = absurd i
  other_on m (seq {l' = l'} g h) (inl e) = (l', inl refl, subst (λ z. R z l') e g)
  other_on m (seq g h) (inr i) = absurd i
  other_on m (alt g h) i = absurd i
  other_on m (rep {n' = n'} h) (inl e) = (n', inl refl, subst (λ z. R z n') e h)
  other_on m (rep h) (inr i) = absurd i
  other_on m (mute {n' = n'} h) (inl e) = (n', inl refl, subst (λ z. R z n') e h)
  other_on m (mute h) (inr i) = absurd i
  other_on m (at_register {n' = n'} g h) (inl e) = (n', inl refl, subst (λ z. R z n') e h)
  other_on m (at_register g h) (inr i) = absurd i
  other_on m (write_register g) i = absurd i
  other_on m (set_register g p) i = absurd i
  other_on m (add_register g p) i = absurd i

  -- ---- definitions and stages

  -- definitions of one name, at one offset, whose roots are paired
  abbrev SameDefinition : Definition → Definition → Type 0
  SameDefinition d e = N d.name e.name × (d.at ≡ e.at) × R d.root e.root

  definition_on : (ds es : List Definition) → SameDefinitions R N ds es → (d : Definition) → IsAmong ds d → (e : Definition) × IsAmong es e × SameDefinition d e
  unfolding SameDefinitions
  definition_on [] [] s d i = absurd i
  definition_on [] (y ∷ es) s d i = absurd s
  definition_on (x ∷ ds) [] s d i = absurd s
  definition_on (x ∷ ds) (y ∷ es) s d (inl q) = (y, inl refl, subst (λ (z : Definition). SameDefinition z y) q (s.0, s.1, s.2))
  definition_on (x ∷ ds) (y ∷ es) s d (inr i) = let r = definition_on ds es s.3 d i in (r.0, inr r.1, r.2)

  definition_back : (ds es : List Definition) → SameDefinitions R N ds es → (e : Definition) → IsAmong es e → (d : Definition) × IsAmong ds d × SameDefinition d e
  unfolding SameDefinitions
  definition_back [] [] s e i = absurd i
  definition_back [] (y ∷ es) s e i = absurd s
  definition_back (x ∷ ds) [] s e i = absurd s
  definition_back (x ∷ ds) (y ∷ es) s e (inl q) = (x, inl refl, subst (λ (z : Definition). SameDefinition x z) q (s.0, s.1, s.2))
  definition_back (x ∷ ds) (y ∷ es) s e (inr i) = let r = definition_back ds es s.3 e i in (r.0, inr r.1, r.2)

  definition_at : (ds es : List Definition) → SameDefinitions R N ds es → (d : Definition) (i : ℕ) → HasNumber ds d i → (e : Definition) × HasNumber es e i × SameDefinition d e
  unfolding SameDefinitions
  definition_at [] es s d i h = let lt : i < 0 = slice_get_within [] i d h in absurd (omega (arith, lt))
  definition_at (x ∷ ds) [] s d i h = absurd s
  definition_at (x ∷ ds) (y ∷ es) s d zero h = (y, refl, subst (λ (z : Definition). SameDefinition z y) (some_same x d h) (s.0, s.1, s.2))
  definition_at (x ∷ ds) (y ∷ es) s d (suc i) h = definition_at ds es s.3 d i h

  -- the first definitions of a name and of its partner
  first_on : (forth : (k l l' : ℕ) → N k l → N k l' → l ≡ l') (back : (k k' l : ℕ) → N k l → N k' l → k ≡ k') (name name' : ℕ) → N name name' → (ds es : List Definition) → SameDefinitions R N ds es → IsDefined ds name → (d e : Definition) × (find (λ x. x.name == name) ds ≡ Some d) × (find (λ x. x.name == name') es ≡ Some e) × R d.root e.root
  unfolding SameDefinitions
  first_on forth back name name' n [] es s (d, i, q) = absurd i
  first_on forth back name name' n (x ∷ ds) [] s h = absurd s
  first_on forth back name name' n (x ∷ ds) (y ∷ es) s (d, i, q) = by (x.name == name) (y.name == name') refl refl (λ j. first_on forth back name name' n ds es s.3 (d, j, q))
    where
      by : (a b : Bool) → (x.name == name) ≡ a → (y.name == name') ≡ b → (IsAmong ds d → (d e : Definition) × (find (λ x. x.name == name) ds ≡ Some d) × (find (λ x. x.name == name') es ≡ Some e) × R d.root e.root) → (d e : Definition) × (cond a (Some x) (find (λ x. x.name == name) ds) ≡ Some d) × (cond b (Some y) (find (λ x. x.name == name') es) ≡ Some e) × R d.root e.root
      by true true f g rest = (x, y, refl, refl, s.2)
      by true false f g rest =
          let same : y.name ≡ name' = forth name y.name name' (subst (λ z. N z y.name) (eqb-true x.name name f) s.0) n in
          let clash : false ≡ true = sym g ∙ eq-eqb y.name name' same in
          absurd cc
      by false true f g rest =
          let same : x.name ≡ name = back x.name name name' (subst (λ z. N x.name z) (eqb-true y.name name' g) s.0) n in
          let clash : false ≡ true = sym f ∙ eq-eqb x.name name same in
          absurd cc
      by false false f g rest = rest (⊎_elim (λ e. (let clash : false ≡ true = sym f ∙ eq-eqb x.name name (ap (λ (z : Definition). z.name) e ∙ q) in absurd cc)) (λ j. j) i)

pub stage_on : (N : ℕ → ℕ → Type 0) (ss ts : List Start) → SameStages N ss ts → (s : Start) → IsAmong ss s → (t : Start) × IsAmong ts t × N s.name t.name × (s.at ≡ t.at)
unfolding SameStages
stage_on N [] [] h s i = absurd i
stage_on N [] (y ∷ ts) h s i = absurd h
stage_on N (x ∷ ss) [] h s i = absurd h
stage_on N (x ∷ ss) (y ∷ ts) h s (inl q) = (y, inl refl, subst (λ (z : Start). N z.name y.name) q h.0, ap (λ (z : Start). z.at) (sym q) ∙ h.1)
stage_on N (x ∷ ss) (y ∷ ts) h s (inr i) = let r = stage_on N ss ts h.2 s i in (r.0, inr r.1, r.2, r.3)

no_stages : (N : ℕ → ℕ → Type 0) (ss ts : List Start) → SameStages N ss ts → ss ≡ [] → ts ≡ []
unfolding SameStages
no_stages N [] [] h e = refl
no_stages N [] (t ∷ ts) h e = absurd h
no_stages N (s ∷ ss) ts h e = cc

root_is : (P : Grammar) (name : ℕ) (d : Definition) → find (λ d. d.name == name) P.definitions ≡ Some d → root_of P name ≡ d.root
root_is P name d e = rw e refl

module _ (P Q : Grammar) (a : Alike P Q) where
  abbrev R : ℕ → ℕ → Type 0
  R = Joins a.pairs

  abbrev N : ℕ → ℕ → Type 0
  N = SameName P.names Q.names

  abbrev pub G : ℕ → ℕ → Type 0
  G = SameName a.registers a.registers'

  pub kinds_on : (n m : ℕ) → R n m → SameKind R N G (kind_at P n) (kind_at Q m)
  kinds_on n m j =
      let x = a.match _ j.1 in
      subst (λ z. SameKind R N G z (kind_at Q m)) (sym (kind_is P n x.node x.is)) (subst (λ z. SameKind R N G x.node.kind z) (sym (kind_is Q m x.node' x.is')) x.same)

  pub forth : (k l l' : ℕ) → N k l → N k l' → l ≡ l'
  forth k l l' h i = one_name P.names Q.names a.one_name' k l l' h i

  pub back : (k k' l : ℕ) → N k l → N k' l → k ≡ k'
  back k k' l h i = one_name Q.names P.names a.one_name l k k' (name_back P.names Q.names k l h) (name_back P.names Q.names k' l i)

  pub defined_on : (name name' : ℕ) → N name name' → IsDefined P.definitions name → IsDefined Q.definitions name'
  defined_on name name' n (d, i, q) =
      let e = definition_on R N G P.definitions Q.definitions a.definitions d i in
      (e.0, e.1, forth name e.0.name name' (subst (λ z. N z e.0.name) q e.2.0) n)

  pub defined_back : (name name' : ℕ) → N name name' → IsDefined Q.definitions name' → IsDefined P.definitions name
  defined_back name name' n (e, i, q) =
      let d = definition_back R N G P.definitions Q.definitions a.definitions e i in
      (d.0, d.1, back d.0.name name name' (subst (λ z. N d.0.name z) q d.2.0) n)

  -- the roots of a name's definitions
  pub roots_on : (name name' : ℕ) → N name name' → IsDefined P.definitions name → R (root_of P name) (root_of Q name')
  roots_on name name' n h =
      let f = first_on R N G forth back name name' n P.definitions Q.definitions a.definitions h in
      subst (λ z. R z (root_of Q name')) (sym (root_is P name f.0 f.2)) (subst (λ z. R f.0.root z) (sym (root_is Q name' f.1 f.3)) f.4)

  -- the root of a name's first definition is in it
  pub root_within : (name name' : ℕ) → N name name' → IsDefined P.definitions name → IsWithin P (root_of P name)
  root_within name name' n h =
      let f = first_on R N G forth back name name' n P.definitions Q.definitions a.definitions h in
      (f.0, in_tail, find_among (λ x. x.name == name) P.definitions f.0 f.2, subst (λ z. StandsIn P f.0.root in_tail z) (sym (root_is P name f.0 f.2)) at_root)

  pub twice_on : (at : ℕ) → IsTwice P.definitions at → IsTwice Q.definitions at
  twice_on at (i, j, d, e, lt, hd, he, same, is) =
      let x = definition_at R N G P.definitions Q.definitions a.definitions d i hd in
      let y = definition_at R N G P.definitions Q.definitions a.definitions e j he in
      (i, j, x.0, y.0, lt, x.1, y.1, forth d.name x.0.name y.0.name x.2.0 (subst (λ z. N z y.0.name) (sym same) y.2.0), sym y.2.1 ∙ is)

  -- where a name has one definition in the second program, so it has in the first
  pub once_back : ((i j : ℕ) (d e : Definition) → HasNumber Q.definitions d i → HasNumber Q.definitions e j → d.name ≡ e.name → i ≡ j) → (i j : ℕ) (d e : Definition) → HasNumber P.definitions d i → HasNumber P.definitions e j → d.name ≡ e.name → i ≡ j
  once_back f i j d e hd he same =
      let x = definition_at R N G P.definitions Q.definitions a.definitions d i hd in
      let y = definition_at R N G P.definitions Q.definitions a.definitions e j he in
      f i j x.0 y.0 x.1 y.1 (forth d.name x.0.name y.0.name x.2.0 (subst (λ z. N z y.0.name) (sym same) y.2.0))

  -- ---- calls

  pub stands_on : (root root' : ℕ) → R root root' → {p : TermPosition} {n : ℕ} → StandsIn P root p n → (n' : ℕ) × R n n' × StandsIn Q root' p n'
  stands_on root root' r at_root = (root', r, at_root)
  stands_on root root' r (as_last {n = n} {m = m} s i) =
      let x = stands_on root root' r s in
      let y = last_on R N G m (kinds_on n x.0 x.1) i in
      (y.0, y.2, as_last x.2 y.1)
  stands_on root root' r (as_other {n = n} {m = m} s i) =
      let x = stands_on root root' r s in
      let y = other_on R N G m (kinds_on n x.0 x.1) i in
      (y.0, y.2, as_other x.2 y.1)

  is_call_on : (n n' name at : ℕ) → R n n' → IsCall P n name at → (name' : ℕ) × N name name' × IsCall Q n' name' at
  is_call_on n n' name at j (m, h, kind, place) =
      let x = a.match _ j.1 in
      let q : x.node ≡ m = some_same x.node m (sym x.is ∙ h) in
      let c = call_on R N G name x.same (ap (λ (z : Node). z.kind) q ∙ kind) in
      (c.0, c.1, (x.node', x.is', c.2, sym x.at ∙ ap (λ (z : Node). z.at) q ∙ place))

  pub use_on : (name at : ℕ) → IsUse P name at → (name' : ℕ) × N name name' × IsUse Q name' at
  use_on name at (inl (n, (d, p, i, s), c)) =
      let e = definition_on R N G P.definitions Q.definitions a.definitions d i in
      let x = stands_on d.root e.0.root e.2.2 s in
      let y = is_call_on n x.0 name at x.1 c in
      (y.0, y.1, inl (x.0, (e.0, p, e.1, x.2), y.2))
  use_on name at (inr (s, i, q, place)) =
      let t = stage_on N P.stages Q.stages a.stages s i in
      (t.0.name, subst (λ z. N z t.0.name) q t.2, inr (t.0, t.1, refl, sym t.3 ∙ place))

  pub unknown_on : (at : ℕ) → IsUnknown P at → IsUnknown Q at
  unknown_on at (name, used, none) = let u = use_on name at used in (u.0, u.2, (λ d. none (defined_back name u.0 u.1 d)))

  reaches_on : {name target : ℕ} (name' : ℕ) → N name name' → ReachesByCalls P name target → (target' : ℕ) × N target target' × ReachesByCalls Q name' target'
  reaches_on name' n itself = (name', n, itself)
  reaches_on name' n (by_call {caller = caller} {callee = callee} (d, p, m, s, kind) r) =
      let x = stands_on (root_of P caller) (root_of Q name') (roots_on caller name' n d) s in
      let y = call_on R N G callee (kinds_on m x.0 x.1) kind in
      let z = reaches_on y.0 y.1 r in
      (z.0, z.1, by_call (defined_on caller name' n d, p, x.0, x.2, y.2) z.2)

  pub not_tail_on : (at : ℕ) → IsNotTail P at → IsNotTail Q at
  not_tail_on at (caller, callee, n, d, s, c, r) =
      let e = definition_on R N G P.definitions Q.definitions a.definitions d.0 d.1 in
      let name' : ℕ = e.0.name in
      let same : N caller name' = subst (λ z. N z name') d.2 e.2.0 in
      let x = stands_on (root_of P caller) (root_of Q name') (roots_on caller name' same d) s in
      let y = is_call_on n x.0 callee at x.1 c in
      let z = reaches_on y.0 y.1 r in
      (name', y.0, x.0, defined_on caller name' same d, x.2, y.2, subst (λ t. ReachesByCalls Q y.0 t) {x = z.0} (forth caller z.0 name' z.1 same) z.2)

  pub none_on : P.stages ≡ [] → Q.stages ≡ []
  none_on e = no_stages N P.stages Q.stages a.stages e

  pub begins_on : (s : Start) → IsAmong P.stages s → Q.stages ≡ [] → ⊥
  begins_on s i e = let t = stage_on N P.stages Q.stages a.stages s i in subst (λ z. IsAmong z t.0) e t.1
