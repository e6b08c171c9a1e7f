-- The trees of states and the texts of their lines, step by step.
use Rattle.std.proofs.Common.{◌≡◌, ℕ, zero, suc, ◌+◌, ◌<◌, List, [], ◌∷◌, ◌++◌, inl, inr, ⊎_elim, Option, Some, None, length, drop, take, sym, ap, subst, ◌∙◌, append_assoc, length-append, arith}
use Rattle.std.specs.Prelude.{slice_get}
use Rattle.std.proofs.lemmas.Option.{slice_get_within}
use Rattle.kex_model.specs.Labelled.{Shape, shape_of, Grown}
use Rattle.kex_model.proofs.Tables.{get_pushed, some_same}
use Rattle.kex_machine.specs.Nodes.{Graph}
use Rattle.kex_sst.specs.declared.parts.Part.{Part}
use Rattle.kex_sst.specs.declared.table.Transition.{Transition}
use Rattle.kex_sst.specs.Parts.{Change}
use Rattle.kex_sst.specs.Tables.{Row, Transducer}
use Rattle.kex_paths.specs.Nexts.{Outline, IsOfShape, HasClass, IsFirstTree, IsNext, BeginsTree, FollowsTree}
use Rattle.kex_paths.proofs.Sizes.{one_first, one_next}
use Rattle.kex_determine.specs.Determined.{IsDetermined, targets_of, MeetsInOrder}
use Rattle.kex_tabfile.specs.Lines.{go_front, go_rest, go_line, state_line}
use Rattle.kex_tabfile.specs.Writing.{goes_text, init_behind, state_text, states_text, AreFirstTrees, AreTreesOf, GoesOnTo}
use Rattle.kex_tabfile.proofs.MetStates.{IsAtRow}
use Rattle.kex_tabfile.proofs.WrittenStates.{drop_at}

next_is : (i : ℕ) → suc i ≡ i + 1
next_is i = omega arith

-- ---- trees

-- a target that is not the next was met
pub target_known : (shapes : List (Shape ℕ)) (trees : List Outline) (target n : ℕ) (more : List ℕ) → (target ≡ length trees → ⊥) → AreFirstTrees shapes trees → MeetsInOrder (length trees) (target ∷ more) n → AreFirstTrees shapes trees × MeetsInOrder (length trees) more n
target_known shapes trees target n more other first (inl h) = (first, h.1)
target_known shapes trees target n more other first (inr h) = absurd (other h.0)

module _ (g : Graph) (shapes : List (Shape ℕ)) (tree : Outline) (of : tree.machine ≡ g) (s : Shape ℕ) (shape : IsOfShape tree s) (class target : ℕ) (goes : GoesOnTo g shapes s class target) where
  class_as : HasClass tree.machine class goes.0
  class_as = subst (λ z. HasClass z class goes.0) (sym of) goes.2

  -- the state goes on
  pub never_none : ((s : Shape ℕ) (b : ℕ) → IsOfShape tree s → HasClass tree.machine class b → IsNext tree.machine b s None) → ⊥
  never_none h = clash (one_next g goes.0 s None (Some goes.1) (subst (λ z. IsNext z goes.0 s None) of (h s goes.0 shape class_as)) goes.3)
    where
      clash : None ≡ Some goes.1 → ⊥
      clash e = cc

  -- a target that is the next has this tree
  pub target_new : (trees : List Outline) (new : Outline) (u : Change) (n : ℕ) (more : List ℕ) → new.machine ≡ tree.machine → ((s : Shape ℕ) (b : ℕ) → IsOfShape tree s → HasClass tree.machine class b → FollowsTree new b s u) → target ≡ length trees → AreFirstTrees shapes trees → MeetsInOrder (length trees) (target ∷ more) n → AreFirstTrees shapes (trees ++ new ∷ []) × MeetsInOrder (length (trees ++ new ∷ [])) more n
  target_new trees new u n more same h is first (inl k) = absurd (omega (arith, is, k.0))
  target_new trees new u n more same h is first (inr k) =
      let f = h s goes.0 shape class_as in
      let one : f.0 ≡ goes.1 = some_same f.0 goes.1 (one_next g goes.0 s (Some f.0) (Some goes.1) (subst (λ z. IsNext z goes.0 s (Some f.0)) (same ∙ of) f.1) goes.3) in
      let long : suc (length trees) ≡ length (trees ++ new ∷ []) = omega (arith, length-append trees (new ∷ [])) in (
        (λ i t e. ⊎_elim
            (λ l. first i t l)
            (λ l. (
              shape_of goes.1.tree,
              ap (λ z. slice_get shapes z) (l.0 ∙ sym is) ∙ goes.4,
              subst (λ z. IsOfShape z (shape_of goes.1.tree)) l.1 (subst (λ z. IsOfShape new (shape_of z.tree)) one f.2),
            ))
            (get_pushed trees new i t e)),
        subst (λ z. MeetsInOrder z more n) long k.1,
      )

pub trees_more : (g : Graph) (trees : List Outline) (new : Outline) → new.machine ≡ g → AreTreesOf g trees → AreTreesOf g (trees ++ new ∷ [])
trees_more g trees new m h i t e = ⊎_elim (λ l. h i t l) (λ l. ap (λ z. z.machine) (sym l.1) ∙ m) (get_pushed trees new i t e)

-- the first tree is that of the first state
pub first_trees : (g : Graph) (shapes : List (Shape ℕ)) (a : Grown Part ℕ) (tree : Outline) (u : Change) (trees : List Outline) → tree.machine ≡ g → BeginsTree tree u → trees ≡ tree ∷ [] → IsFirstTree g (Some a) → slice_get shapes 0 ≡ Some (shape_of a.tree) → AreFirstTrees shapes trees
first_trees g shapes a tree u trees of begins is first at i t e = by i (ap (λ z. slice_get z i) (sym is) ∙ e)
  where
    one : begins.0 ≡ a
    one = some_same begins.0 a (one_first g (Some begins.0) (Some a) (subst (λ z. IsFirstTree z (Some begins.0)) of begins.1) first)

    by : (i : ℕ) → slice_get (tree ∷ []) i ≡ Some t → (s : Shape ℕ) × (slice_get shapes i ≡ Some s) × IsOfShape t s
    by zero e = (shape_of a.tree, at, subst (λ z. IsOfShape z (shape_of a.tree)) (some_same tree t e) (subst (λ z. IsOfShape tree (shape_of z.tree)) one begins.2))
    by (suc i) e = let lt : i < 0 = slice_get_within [] i t e in absurd (omega (arith, lt))

-- ---- transitions

pub targets_some : (go : List (Option Transition)) (i : ℕ) (r : Transition) → slice_get go i ≡ Some (Some r) → targets_of (drop i go) ≡ r.target ∷ targets_of (drop (i + 1) go)
targets_some go i r e = ap targets_of (drop_at go i (Some r) e) ∙ ap (λ k. r.target ∷ targets_of (drop k go)) (next_is i)

pub targets_none : (go : List (Option Transition)) (i : ℕ) → slice_get go i ≡ Some None → targets_of (drop i go) ≡ targets_of (drop (i + 1) go)
targets_none go i e = ap targets_of (drop_at go i None e) ∙ ap (λ k. targets_of (drop k go)) (next_is i)

pub goes_some : (state : ℕ) (go : List (Option Transition)) (i : ℕ) (r : Transition) (line : List ℕ) → slice_get go i ≡ Some (Some r) → line ++ goes_text state i (drop i go) ≡ ((line ++ go_front state i) ++ go_rest r.target r.update) ++ goes_text state (i + 1) (drop (i + 1) go)
goes_some state go i r line e =
    let more = goes_text state (i + 1) (drop (i + 1) go) in
    ap (λ z. line ++ goes_text state i z) (drop_at go i (Some r) e)
    ∙ ap (λ k. line ++ (go_line state i r.target r.update ++ goes_text state k (drop k go))) (next_is i)
    ∙ sym (append_assoc line (go_line state i r.target r.update) more)
    ∙ ap (λ z. z ++ more) (sym (append_assoc line (go_front state i) (go_rest r.target r.update)))

pub goes_none : (state : ℕ) (go : List (Option Transition)) (i : ℕ) → slice_get go i ≡ Some None → goes_text state i (drop i go) ≡ goes_text state (i + 1) (drop (i + 1) go)
goes_none state go i e = ap (goes_text state i) (drop_at go i None e) ∙ ap (λ k. goes_text state k (drop k go)) (next_is i)

-- ---- states

pub states_more : (numbers : List ℕ) (u : Change) (shapes : List (Shape ℕ)) (rows : List Row) (i : ℕ) (s : Shape ℕ) (row : Row) (line : List ℕ) → slice_get shapes i ≡ Some s → slice_get rows i ≡ Some row → line ++ states_text numbers u i (drop i shapes) (drop i rows) ≡ (((line ++ state_line numbers i s) ++ init_behind u i) ++ goes_text i 0 row.go) ++ states_text numbers u (i + 1) (drop (i + 1) shapes) (drop (i + 1) rows)
states_more numbers u shapes rows i s row line e f =
    let more = states_text numbers u (i + 1) (drop (i + 1) shapes) (drop (i + 1) rows) in
    let rest = init_behind u i ++ goes_text i 0 row.go in
    ap (λ z. line ++ states_text numbers u i z (drop i rows)) (drop_at shapes i s e)
    ∙ ap (λ z. line ++ states_text numbers u i (s ∷ drop (suc i) shapes) z) (drop_at rows i row f)
    ∙ ap (λ k. line ++ (state_text numbers u i s row.go ++ states_text numbers u k (drop k shapes) (drop k rows))) (next_is i)
    ∙ sym (append_assoc line (state_line numbers i s ++ rest) more)
    ∙ ap (λ z. z ++ more) (sym (append_assoc line (state_line numbers i s) rest) ∙ sym (append_assoc (line ++ state_line numbers i s) (init_behind u i) (goes_text i 0 row.go)))

pub take_at : {A : Type 0} (xs : List A) (i : ℕ) (x : A) → slice_get xs i ≡ Some x → take (suc i) xs ≡ take i xs ++ x ∷ []
take_at [] i x e = let lt : i < 0 = slice_get_within [] i x e in absurd (omega (arith, lt))
take_at (y ∷ xs) zero x e = ap (λ z. z ∷ []) (some_same y x e)
take_at (y ∷ xs) (suc i) x e = ap (λ z. y ∷ z) (take_at xs i x e)

pub row_at : (g : Graph) (t : Transducer) (d : IsDetermined g t) (i n : ℕ) (row : Row) → slice_get t.states i ≡ Some row → IsAtRow g t d (take i t.states) (drop i t.states) n → IsAtRow g t d (take i t.states) (row ∷ drop (suc i) t.states) n
row_at g t d i n row e at = subst (λ z. IsAtRow g t d (take i t.states) z n) (drop_at t.states i row e) at

pub row_passed : (g : Graph) (t : Transducer) (d : IsDetermined g t) (i n : ℕ) (row : Row) → slice_get t.states i ≡ Some row → IsAtRow g t d (take i t.states ++ row ∷ []) (drop (suc i) t.states) n → IsAtRow g t d (take (i + 1) t.states) (drop (i + 1) t.states) n
row_passed g t d i n row e at = subst (λ k. IsAtRow g t d (take k t.states) (drop k t.states) n) (next_is i) (subst (λ z. IsAtRow g t d z (drop (suc i) t.states) n) (sym (take_at t.states i row e)) at)
