-- What the task that is done means for the tree that goes on.
use Rattle.std.proofs.Common.{◌≡◌, ℕ, ◌*◌, ◌<◌, Bool, false, List, [], ◌∷◌, ◌++◌, Option, Some, None, Result, Ok, Err, map, length, replicate, refl, sym, ap, ap₂, subst, ◌∙◌, append-nil}
use Rattle.std.specs.Prelude.{IfOk, IfSome, IsSome, MatchOption}
use Rattle.std.proofs.lemmas.List.{map-append}
use Rattle.kex_code.specs.declared.symbol.Symbol.{Symbol}
use Rattle.kex_model.specs.Labelled.{Labelled, tip, fork, labels_of, Shape, shape_of, size_of, parts, map_labels, Grown}
use Rattle.kex_model.specs.Moves.{Move}
use Rattle.kex_model.specs.Survivors.{HasTree}
use Rattle.kex_machine.specs.Nodes.{Graph, node_moves, IsTrimmed}
use Rattle.kex_machine.specs.Answers.{IsViableFor}
use Rattle.kex_machine.specs.Advancing.{itself, EachPlace, LeadAlike}
use Rattle.kex_machine.proofs.Nexts as machine
use Rattle.kex_machine.proofs.Ranges.{is_trim}
use Rattle.kex_machine.proofs.Labels.{relabelled_visit, alike_advance}
use Rattle.kex_sst.specs.declared.parts.Part.{Part}
use Rattle.kex_sst.specs.declared.parts.Part.TheVariants.{Put}
use Rattle.kex_sst.specs.Parts.{Change, parts_code}
use Rattle.kex_paths.specs.declared.forest.PathEdge.{PathEdge}
use Rattle.kex_paths.specs.declared.walk.TreeToken.{TreeToken}
use Rattle.kex_paths.specs.declared.walk.Task.{Task}
use Rattle.kex_paths.specs.declared.walk.Task.TheVariants.{OldTree, Visit}
use Rattle.kex_paths.specs.Forests.{EdgeStock, Trees, HasTrees, LeadsToTree}
use Rattle.kex_paths.specs.Nexts.{Outline, IsOfShape, IsChange, HasClass, IsFirstTree, IsNext, BeginsTree, FollowsTree, Shows, ShowsFirst, ShowsNext}
use Rattle.kex_paths.specs.Tasks.{ShapedTask, tree, go_to, task_of, tokens_left, tokens, RunsTasks}
use Rattle.kex_paths.proofs.Meanings.{parts_code-append}
use Rattle.kex_paths.proofs.NextTrees.{first_shows, next_shows}
use Rattle.kex_paths.proofs.Sizes.{first_fits, next_fits}

-- the first task is done
abbrev pub IsDone : (ℕ → Move ℕ) → ℕ → ℕ → List TreeToken → Task → Trees → Type 0
IsDone moves b m text first w = (j : ShapedTask) → task_of j ≡ first → text ≡ tokens_left (j ∷ []) → (rs : List (Option (Grown Part ℕ))) × HasTrees w rs × ((h : List Bool) × RunsTasks moves b (j ∷ []) 0 (replicate m false) [] h rs)

-- the edge that is taken off leads to the tree that comes next
pub done_next : (g : Graph) (b : ℕ) (text : List TreeToken) (w : Trees) (edges : EdgeStock) (root : Option PathEdge) → IsDone (node_moves g.nodes) b (length g.nodes) text OldTree w → ((rs : List (Option (Grown Part ℕ))) (a : Option (Grown Part ℕ)) → HasTrees w (a ∷ []) → LeadsToTree edges root a) → (s : Shape ℕ) → text ≡ tokens s → (a : Option (Grown Part ℕ)) × IsNext g b s a × LeadsToTree edges root a
done_next g b text w edges root done off s e =
    let q = done (tree s) refl (e ∙ sym (append-nil (tokens s))) in
    let r = q.2.1 in
    (r.0, (r.1, r.2), off [] r.0 (subst (λ z. HasTrees w z) (sym r.3.1) q.1))

pub done_first : (g : Graph) (w : Trees) (edges : EdgeStock) (root : Option PathEdge) → IsDone (node_moves g.nodes) 0 (length g.nodes) [] (Visit g.start) w → ((rs : List (Option (Grown Part ℕ))) (a : Option (Grown Part ℕ)) → HasTrees w (a ∷ []) → LeadsToTree edges root a) → (a : Option (Grown Part ℕ)) × IsFirstTree g a × LeadsToTree edges root a
done_first g w edges root done off =
    let q = done (go_to g.start) refl refl in
    let r = q.2.1 in
    (r.0, (r.1, r.2), off [] r.0 (subst (λ z. HasTrees w z) (sym r.3.1) q.1))

-- there is a tree of the empty text
pub some_first : (g : Graph) → IsTrimmed g → (edges : EdgeStock) (root : Option PathEdge) → (a : Option (Grown Part ℕ)) → IsFirstTree g a → LeadsToTree edges root a → IsSome root
some_first g trimmed edges root None (marks, v) h = absurd (machine.first_shows (node_moves g.nodes) g.start (is_trim g trimmed) (length g.nodes) None marks (relabelled_visit (parts_code [] 0) refl (parts_code-append [] 0) (λ s. Put s) itself (λ s. refl) (node_moves g.nodes) v))
some_first g trimmed edges None (Some a) first h = absurd h
some_first g trimmed edges (Some x) (Some a) first h = there x
  where
    there : (x : PathEdge) → IsSome (Some x)
    there x = refl

abbrev pub FitsIn : Graph → EdgeStock → PathEdge → Type 0
FitsIn g edges root = (a : Grown Part ℕ) × LeadsToTree edges (Some root) (Some a) × EachPlace (length g.nodes) (shape_of a.tree) × (size_of (shape_of a.tree) < 2 * length g.nodes)

pub first_in : (g : Graph) (edges : EdgeStock) (root : PathEdge) (a : Option (Grown Part ℕ)) → IsFirstTree g a → LeadsToTree edges (Some root) a → FitsIn g edges root
first_in g edges root None first h = absurd h
first_in g edges root (Some a) first h = let f = first_fits g a first in (a, h, f.0, f.1)

pub next_in : (g : Graph) (b : ℕ) (s : Shape ℕ) (edges : EdgeStock) (root : PathEdge) (a : Option (Grown Part ℕ)) → IsNext g b s a → LeadsToTree edges (Some root) a → FitsIn g edges root
next_in g b s edges root None next h = absurd h
next_in g b s edges root (Some a) next h = let f = next_fits g b s a next in (a, h, f.0, f.1)

abbrev pub IsGathered : EdgeStock → PathEdge → Outline → Change → Type 0
IsGathered edges root t u = (a : Grown Part ℕ) → LeadsToTree edges (Some root) (Some a) → IsOfShape t (shape_of a.tree) × IsChange u a

pub begins : (g : Graph) (edges : EdgeStock) (root : PathEdge) (t : Outline) (u : Change) → t.machine ≡ g → IsGathered edges root t u → (a : Option (Grown Part ℕ)) → IsFirstTree g a → LeadsToTree edges (Some root) a → BeginsTree t u
begins g edges root t u same got None first h = absurd h
begins g edges root t u same got (Some a) first h = let q = got a h in (a, subst (λ z. IsFirstTree z (Some a)) (sym same) first, q.0, q.1)

pub follows : (g : Graph) (b : ℕ) (s : Shape ℕ) (edges : EdgeStock) (root : PathEdge) (t : Outline) (u : Change) → t.machine ≡ g → IsGathered edges root t u → (a : Option (Grown Part ℕ)) → IsNext g b s a → LeadsToTree edges (Some root) a → FollowsTree t b s u
follows g b s edges root t u same got None next h = absurd h
follows g b s edges root t u same got (Some a) next h = let q = got a h in (a, subst (λ z. IsNext z b s (Some a)) (sym same) next, q.0, q.1)

pub none_follows : (g : Graph) (b : ℕ) (s : Shape ℕ) (edges : EdgeStock) (a : Option (Grown Part ℕ)) → IsNext g b s a → LeadsToTree edges None a → IsNext g b s None
none_follows g b s edges None next h = next
none_follows g b s edges (Some a) next h = absurd h

-- what is said of a byte is said of each that leads to the same places
alike_next : (g : Graph) (b b' : ℕ) (s : Shape ℕ) (a : Option (Grown Part ℕ)) → LeadAlike (node_moves g.nodes) b b' → IsNext g b s a → IsNext g b' s a
alike_next g b b' s a same (marks, v) = (marks, alike_advance same v)

abbrev pub GoesOnTo : Graph → ℕ → Shape ℕ → Option (Outline × Change) → Type 0
GoesOnTo g b s r = MatchOption r (IsNext g b s None) (λ n. FollowsTree n.0 b s n.1)

-- from a tree of these lists
abbrev pub GoesOnBy : Graph → List Bool → List ℕ → ℕ → Option (Outline × Change) → Type 0
GoesOnBy g inner leaves b r = (s : Shape ℕ) → IsOfShape (record { machine = g; shape = inner; leaves = leaves }) s → GoesOnTo g b s r

pub all_bytes : (g : Graph) (b b' : ℕ) (s : Shape ℕ) (r : Option (Outline × Change)) → LeadAlike (node_moves g.nodes) b b' → IfSome r (λ n. n.0.machine ≡ g) → GoesOnTo g b s r → GoesOnTo g b' s r
all_bytes g b b' s None same is h = alike_next g b b' s None same h
all_bytes g b b' s (Some (t, u)) same is (a, next, shape, change) = (a, alike_next t.machine b b' s (Some a) (subst (λ z. LeadAlike (node_moves z.nodes) b b') (sym is) same) next, shape, change)

shape_of-relabelled : (f : List Part → List Symbol) (t : Labelled Part ℕ) → shape_of (map_labels f t) ≡ shape_of t
shape_of-relabelled f (tip p) = refl
shape_of-relabelled f (fork x l y r) = ap₂ (λ u v. parts u v) (shape_of-relabelled f l) (shape_of-relabelled f r)

labels_of-relabelled : (f : List Part → List Symbol) (t : Labelled Part ℕ) → labels_of (map_labels f t) ≡ map f (labels_of t)
labels_of-relabelled f (tip p) = refl
labels_of-relabelled f (fork x l y r) = ap (λ z. f x ∷ z) (ap₂ (λ u v. u ++ f y ∷ v) (labels_of-relabelled f l) (labels_of-relabelled f r) ∙ sym (map-append f (labels_of l) (y ∷ labels_of r)))

shown : (t : Outline) (u : Change) (b : ℕ) (labels : List (List Symbol)) (a : Grown Part ℕ) → IsOfShape t (shape_of a.tree) → IsChange u a → Shows t u b labels (parts_code labels b a.label) (map_labels (parts_code labels b) a.tree)
shown t u b labels a shape change = record {
  shape = subst (λ z. IsOfShape t z) (sym (shape_of-relabelled (parts_code labels b) a.tree)) shape;
  passed = ap (λ z. parts_code labels b z) (sym change.0);
  registers = labels_of-relabelled (parts_code labels b) a.tree ∙ ap (λ z. map (parts_code labels b) z) (sym change.1);
}

pub shows_first : (t : Outline) (u : Change) → IsTrimmed t.machine → BeginsTree t u → ShowsFirst t u
shows_first t u trimmed (a, first, shape, change) = (parts_code [] 0 a.label, map_labels (parts_code [] 0) a.tree, shown t u 0 [] a shape change, first_shows t.machine (is_trim t.machine trimmed) a first)

pub shows_next : (g : Graph) → IsTrimmed g → (w : List ℕ) (c : List Symbol) (old : Labelled Symbol ℕ) (b : ℕ) (r : Option (Outline × Change)) → HasTree (node_moves g.nodes) g.start w c old → IfSome r (λ n. n.0.machine ≡ g) → GoesOnTo g b (shape_of old) r → MatchOption r (¬ IsViableFor g (w ++ b ∷ [])) (λ n. ShowsNext n.0 n.1 b w c old)
shows_next g trimmed w c old b None has is h = next_shows g (is_trim g trimmed) w c old has b None h
shows_next g trimmed w c old b (Some (t, u)) has is (a, next, shape, change) =
    let same : IsNext g b (shape_of old) (Some a) = subst (λ z. IsNext z b (shape_of old) (Some a)) is next in
    let tree = next_shows g (is_trim g trimmed) w c old has b (Some a) same in
    (parts_code (labels_of old) b a.label, map_labels (parts_code (labels_of old) b) a.tree, shown t u b (labels_of old) a shape change, subst (λ z. HasTree (node_moves z.nodes) z.start (w ++ b ∷ []) (c ++ parts_code (labels_of old) b a.label) (map_labels (parts_code (labels_of old) b) a.tree)) (sym is) tree)

pub if_ok_both : {T E : Type 0} (P Q R : T → Type 0) (r : Result T E) → ((x : T) → P x → Q x → R x) → IfOk r P → IfOk r Q → IfOk r R
if_ok_both P Q R (Ok x) f p q = f x p q
if_ok_both P Q R (Err e) f p q = tt

-- for each byte of the class
abbrev pub GoesOnFor : Graph → Outline → ℕ → Option (Outline × Change) → Type 0
GoesOnFor g old class r = (s : Shape ℕ) (b : ℕ) → IsOfShape old s → HasClass g class b → GoesOnTo g b s r

abbrev pub ShowsOver : Graph → Outline → ℕ → Option (Outline × Change) → Type 0
ShowsOver g old class r = (w : List ℕ) (c : List Symbol) (t : Labelled Symbol ℕ) (b : ℕ) → HasTree (node_moves g.nodes) g.start w c t → IsOfShape old (shape_of t) → HasClass g class b → MatchOption r (¬ IsViableFor g (w ++ b ∷ [])) (λ n. ShowsNext n.0 n.1 b w c t)

pub goes_on_for : (g : Graph) (old : Outline) (class byte : ℕ) (inner : List Bool) (places : List ℕ) (r : Option (Outline × Change)) → ((b : ℕ) → HasClass g class b → LeadAlike (node_moves g.nodes) byte b) → inner ≡ old.shape → places ≡ old.leaves → IfSome r (λ n. n.0.machine ≡ g) → GoesOnBy g inner places byte r → GoesOnFor g old class r
goes_on_for g old class byte inner places r lead e f same goes = λ s b is has. all_bytes g byte b s r (lead b has) same (goes s (e ∙ is.0, f ∙ is.1))

pub shows_for : (g : Graph) → IsTrimmed g → (old : Outline) (class : ℕ) (r : Option (Outline × Change)) → IfSome r (λ n. n.0.machine ≡ g) → GoesOnFor g old class r → ShowsOver g old class r
shows_for g trimmed old class r same goes = λ w c t b has is in_class. shows_next g trimmed w c t b r has same (goes (shape_of t) b is in_class)
