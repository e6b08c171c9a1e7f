-- Parses and paths correspond.
use Rattle.std.proofs.Common.{◌≡◌, ℕ, List, [], ◌∷◌, ◌++◌, ◌⊎◌, inl, inr, ⊎_elim, Option, Some, None, length, refl, sym, ap, subst, ◌∙◌, append-nil, le_refl}
use Rattle.std.proofs.lemmas.Bool.{cases_eq}
use Rattle.kex_model.specs.Programs.{Grammar}
use Rattle.kex_code.specs.Codes.{bytes_of}
use Rattle.kex_model.specs.Moves.{Step, code_of, Walk}
use Rattle.kex_model.specs.declared.frame.Frame.{Frame}
use Rattle.kex_model.specs.declared.frame.Frame.TheVariants.{Pending, EndOf}
use Rattle.kex_model.specs.Places.{Place, moves, start_of, steps_of}
use Rattle.kex_model.specs.Trees.{Tree, Parses, IsTree, kind_at, code}
use Rattle.kex_model.specs.Survivors.{IsPath, NoReturn}
use Rattle.kex_model.specs.Answers.{IsParse, HasParse}
use Rattle.kex_model.specs.Laws.{OneToOne}
use Rattle.kex_model.proofs.Walks.{one_walk}
use Rattle.kex_model.proofs.LeftBehind.{shorten}
use Rattle.kex_model.proofs.Derivations.{tree_walk, steps-code, code-bytes, same_tree, walk_tree, itself, from_accept}

-- places are equal or not

same_left : (x y : Option ℕ) → (x ≡ y) ⊎ (x ≡ y → ⊥)
same_left None None = inl refl
same_left None (Some n) = inr (λ e. cc)
same_left (Some m) None = inr (λ e. cc)
same_left (Some m) (Some n) = ⊎_elim (λ e. inl (ap (λ z. Some z) e)) (λ ne. inr (λ e. ne (cc))) (cases_eq m n)

same_frame : (f g : Frame) → (f ≡ g) ⊎ (f ≡ g → ⊥)
same_frame (Pending m need left) (Pending n need' left') =
    ⊎_elim
    (λ a. ⊎_elim
    (λ b. ⊎_elim (λ c. inl (cc)) (λ ne. inr (λ e. ne (cc))) (same_left left left'))
    (λ ne. inr (λ e. ne (cc)))
    (cases_eq need need'))
    (λ ne. inr (λ e. ne (cc)))
    (cases_eq m n)
same_frame (Pending m need left) (EndOf n) = inr (λ e. cc)
same_frame (EndOf m) (Pending n need left) = inr (λ e. cc)
same_frame (EndOf m) (EndOf n) = ⊎_elim (λ e. inl (ap (λ z. EndOf z) e)) (λ ne. inr (λ e. ne (cc))) (cases_eq m n)

pub same_place : (p q : Place) → (p ≡ q) ⊎ (p ≡ q → ⊥)
same_place [] [] = inl refl
same_place [] (g ∷ q) = inr (λ e. cc)
same_place (f ∷ p) [] = inr (λ e. cc)
same_place (f ∷ p) (g ∷ q) =
    ⊎_elim
    (λ a. ⊎_elim (λ b. inl (cc)) (λ ne. inr (λ e. ne (cc))) (same_place p q))
    (λ ne. inr (λ e. ne (cc)))
    (same_frame f g)

module _ (P : Grammar) (root : ℕ) (w : List ℕ) where
  -- a tree whose steps come back nowhere without a byte is a parse
  pub parse_once : (t : Tree) → Parses P root t w → NoReturn (start_of P root ∷ []) (steps_of P root (kind_at P root) t []) → IsParse P root t w
  parse_once t h once = record {
    derives = h;
    path = record { walk = tree_walk P root [] (itself P root) h.tree; waits = tt; once = once; reads = ap bytes_of (steps-code P root [] h.tree) ∙ code-bytes P h.tree ∙ h.text };
  }

  pub to_path : (t : Tree) → IsParse P root t w → (ks : List (Step Place)) × IsPath (moves P) (start_of P root) w [] ks × (code_of ks ≡ code P (kind_at P root) t)
  to_path t h = (steps_of P root (kind_at P root) t [], h.path, steps-code P root [] h.derives.tree)

  pub to_parse : (ks : List (Step Place)) → IsPath (moves P) (start_of P root) w [] ks → (t : Tree) × IsParse P root t w × (code P (kind_at P root) t ≡ code_of ks)
  to_parse ks h =
      let s = walk_tree P (length ks) root (kind_at P root) [] ks (le_refl (length ks)) (itself P root) h.walk in
      whole s.tree s.tail s.is_tree s.same s.goes_on
    where
      whole : (t : Tree) (tail : List (Step Place)) → IsTree P (kind_at P root) t → ks ≡ steps_of P root (kind_at P root) t [] ++ tail → Walk (moves P) [] tail [] → (t : Tree) × IsParse P root t w × (code P (kind_at P root) t ≡ code_of ks)
      whole t [] it same goes =
          let steps : ks ≡ steps_of P root (kind_at P root) t [] = same ∙ append-nil (steps_of P root (kind_at P root) t []) in
          let codes : code_of ks ≡ code P (kind_at P root) t = ap code_of steps ∙ steps-code P root [] it in
          (t, record { derives = record { tree = it; text = sym (code-bytes P it) ∙ ap bytes_of (sym codes) ∙ h.reads }; path = subst (λ z. IsPath (moves P) (start_of P root) w [] z) steps h }, sym codes)
      whole t (k ∷ tail) it same goes = absurd (from_accept goes.0)

  -- the steps of a tree, made shorter
  pub from_tree : (t : Tree) → Parses P root t w → HasParse P root w
  from_tree t h =
      let ks = steps_of P root (kind_at P root) t [] in
      let s = shorten same_place (moves P) ks (start_of P root) [] (tree_walk P root [] (itself P root) h.tree) in
      let reads : bytes_of (code_of s.steps) ≡ w = s.reads ∙ ap bytes_of (steps-code P root [] h.tree) ∙ code-bytes P h.tree ∙ h.text in
      let r = to_parse s.steps (record { walk = s.walk; waits = tt; once = s.once; reads = reads }) in
      (r.0, r.1)

pub one_to_one : (P : Grammar) (root : ℕ) (w : List ℕ) → OneToOne P root w
one_to_one P root w = record {
  path_of_parse = to_path P root w;
  parse_of_path = to_parse P root w;
  parse_of_tree = from_tree P root w;
  one_tree = λ s t hs ht e. (same_tree P [] [] hs.tree ht.tree (append-nil (code P (kind_at P root) s) ∙ e ∙ sym (append-nil (code P (kind_at P root) t)))).0;
  one_path = λ js ks hj hk e. one_walk (moves P) js ks (start_of P root) [] [] [] hj.walk hk.walk tt tt (sym e ∙ sym (append-nil (code_of js))) refl;
}
