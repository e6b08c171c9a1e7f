-- With registers that hold the labels of a text's tree, what comes next is the tree of the text with a byte more.
use Rattle.std.proofs.Common.{ℕ, false, List, [], ◌∷◌, ◌++◌, Option, Some, None, length, replicate, refl, subst}
use Rattle.kex_code.specs.declared.symbol.Symbol.{Symbol}
use Rattle.kex_code.specs.declared.symbol.Symbol.TheVariants.{Byte}
use Rattle.kex_model.specs.Labelled.{Labelled, labels_of, shape_of, map_labels, Grown}
use Rattle.kex_model.specs.Survivors.{HasTree}
use Rattle.kex_machine.specs.Nodes.{Graph, node_moves}
use Rattle.kex_machine.specs.Answers.{IsViableFor}
use Rattle.kex_machine.specs.Advancing.{itself, Advances, map_labels_if}
use Rattle.kex_machine.proofs.Labels.{relabelled_visit, relabelled_advance}
use Rattle.kex_machine.proofs.Nexts as machine
use Rattle.kex_sst.specs.declared.parts.Part.{Part}
use Rattle.kex_sst.specs.declared.parts.Part.TheVariants.{Put, Input}
use Rattle.kex_sst.specs.Parts.{parts_code, numbered_tree}
use Rattle.kex_paths.specs.Nexts.{IsFirstTree, IsNext}
use Rattle.kex_paths.proofs.Meanings.{parts_code-append, registers_hold}

module _ (g : Graph) (trim : machine.IsTrim (node_moves g.nodes) g.start) where
  pub first_shows : (a : Grown Part ℕ) → IsFirstTree g (Some a) → HasTree (node_moves g.nodes) g.start [] (parts_code [] 0 a.label) (map_labels (parts_code [] 0) a.tree)
  first_shows a (marks, v) =
      machine.first_shows (node_moves g.nodes) g.start trim (length g.nodes) (map_labels_if (parts_code [] 0) (Some a)) marks
      (relabelled_visit (parts_code [] 0) refl (parts_code-append [] 0) (λ s. Put s) itself (λ s. refl) (node_moves g.nodes) v)

  -- the tree that comes next, or none where the text isn't viable
  abbrev pub ShowsMore : List ℕ → List Symbol → Labelled Symbol ℕ → ℕ → Option (Grown Part ℕ) → Type 0
  ShowsMore w c t b None = ¬ IsViableFor g (w ++ b ∷ [])
  ShowsMore w c t b (Some a) = HasTree (node_moves g.nodes) g.start (w ++ b ∷ []) (c ++ parts_code (labels_of t) b a.label) (map_labels (parts_code (labels_of t) b) a.tree)

  pub next_shows : (w : List ℕ) (c : List Symbol) (t : Labelled Symbol ℕ) → HasTree (node_moves g.nodes) g.start w c t → (b : ℕ) (a : Option (Grown Part ℕ)) → IsNext g b (shape_of t) a → ShowsMore w c t b a
  next_shows w c t has b a (marks, v) = by a (machine.next_shows (node_moves g.nodes) g.start trim w c t has b (length g.nodes) (map_labels_if (parts_code (labels_of t) b) a) marks (relabel a v))
    where
      relabel : (a : Option (Grown Part ℕ)) → Advances (λ s. Put s) Input (node_moves g.nodes) b (replicate (length g.nodes) false) (numbered_tree 0 (shape_of t)) a marks → Advances itself (Byte b) (node_moves g.nodes) b (replicate (length g.nodes) false) t (map_labels_if (parts_code (labels_of t) b) a) marks
      relabel a v = subst (λ z. Advances itself (Byte b) (node_moves g.nodes) b (replicate (length g.nodes) false) z (map_labels_if (parts_code (labels_of t) b) a) marks) (registers_hold b t)
          (relabelled_advance (parts_code (labels_of t) b) refl (parts_code-append (labels_of t) b) (λ s. Put s) itself (λ s. refl) (node_moves g.nodes) Input (Byte b) refl v)

      by : (a : Option (Grown Part ℕ)) → machine.ShowsTree (node_moves g.nodes) g.start trim (w ++ b ∷ []) c (map_labels_if (parts_code (labels_of t) b) a) → ShowsMore w c t b a
      by None h = h
      by (Some a) h = h
