-- What the loop over the tasks keeps, task by task, and that it ends.
use Rattle.std.proofs.Common.{◌≡◌, ℕ, zero, suc, ◌+◌, ◌*◌, ◌-◌, ◌<◌, ◌≤◌, Bool, true, false, List, [], ◌∷◌, ◌++◌, inl, inr, ⊎_elim, Option, length, get_or, set, replicate, reverse, drop, refl, sym, ap, subst, ◌∙◌, append-nil, length-append, length-drop, drop-cons, add-one, arith}
use Rattle.std.proofs.lemmas.List.{reverse-append}
use Rattle.kex_code.specs.declared.symbol.Symbol.TheVariants.{L, R}
use Rattle.kex_code.specs.Codes.{IsAmong}
use Rattle.kex_model.specs.Moves.{Move, accept, read, choose, forced, go, symbol_of}
use Rattle.kex_model.specs.Labelled.{Grown, with_prefix, fork_of}
use Rattle.kex_model.proofs.Shapes.{among-append}
use Rattle.kex_model.proofs.OpenAnswers.{empty_list}
use Rattle.kex_machine.specs.declared.MNode.{MNode}
use Rattle.kex_machine.specs.Nodes.{node_moves, MoveBelow, StaysWithin}
use Rattle.kex_machine.proofs.Sizes.{unseen, unseen-set}
use Rattle.kex_sst.specs.declared.parts.Part.{Part}
use Rattle.kex_sst.specs.declared.parts.Part.TheVariants.{Put, Old, Input}
use Rattle.kex_paths.specs.declared.walk.TreeToken.{TreeToken}
use Rattle.kex_paths.specs.declared.walk.TreeToken.TheVariants.{Fork, Tip}
use Rattle.kex_paths.specs.declared.walk.Task.{Task}
use Rattle.kex_paths.specs.declared.walk.Task.TheVariants.{OldTree, OldEdge, Merge, Front, Visit}
use Rattle.kex_paths.specs.Forests.{Trees, no_trees, HasTrees, last_tree, trees_before}
use Rattle.kex_paths.specs.Tasks.{tasks_from, read_tasks, byte_tasks, token_tasks, token_dead, place_tasks, place_trees, IsTipBelow, EachTip, IsTaskBelow, EachTask, ShapedTask, task_of, tokens_left, RunsTasks}
use Rattle.kex_paths.proofs.OldTrees.{Going, going_start, going_join, going_front, going_edge, going_meet, going_token, going_text, going_end}

module _ (moves : ℕ → Move ℕ) (b m : ℕ) (shape : List TreeToken) (first : List ShapedTask) where
  abbrev pub Keeps : ℕ → List Bool → List Task → Trees → Type 0
  Keeps k f tasks gs = (rs : List (Option (Grown Part ℕ))) × HasTrees gs rs × Going moves b m first k (drop k shape) f (reverse tasks) rs

  -- the stack with its top at the end
  topped : (k : ℕ) (left : List TreeToken) (f : List Bool) (tasks : List Task) (x : Task) (rs : List (Option (Grown Part ℕ))) → Going moves b m first k left f (reverse (tasks ++ x ∷ [])) rs → Going moves b m first k left f (x ∷ reverse tasks) rs
  topped k left f tasks x rs v = subst (λ z. Going moves b m first k left f z rs) (reverse-append tasks (x ∷ [])) v

  heaped : (k : ℕ) (left : List TreeToken) (f : List Bool) (tasks more : List Task) (rs : List (Option (Grown Part ℕ))) → Going moves b m first k left f (reverse more ++ reverse tasks) rs → Going moves b m first k left f (reverse (tasks ++ more)) rs
  heaped k left f tasks more rs v = subst (λ z. Going moves b m first k left f z rs) (sym (reverse-append tasks more)) v

  pub keeps_end : (k : ℕ) (f : List Bool) (tasks : List Task) (gs : Trees) → tasks ≡ [] → Keeps k f tasks gs → (rs : List (Option (Grown Part ℕ))) × HasTrees gs rs × ((h : List Bool) × RunsTasks moves b first 0 (replicate m false) [] h rs)
  keeps_end k f tasks gs e h = (h.0, h.1, (f, going_end moves b m first k (drop k shape) f h.0 (subst (λ z. Going moves b m first k (drop k shape) f (reverse z) h.0) e h.2)))

  pub keeps_join : (k : ℕ) (f : List Bool) (tasks : List Task) (gs gs' : Trees) → ((rs : List (Option (Grown Part ℕ))) → HasTrees gs rs → HasTrees gs' (fork_of (last_tree (trees_before rs)) (last_tree rs) ∷ trees_before (trees_before rs))) → Keeps k f (tasks ++ Merge ∷ []) gs → Keeps k f tasks gs'
  keeps_join k f tasks gs gs' done h = let q = h in (_, done q.0 q.1, going_join moves b m first k (drop k shape) f (reverse tasks) q.0 (topped k (drop k shape) f tasks Merge q.0 q.2))

  pub keeps_front : (k : ℕ) (f : List Bool) (tasks : List Task) (x : Part) (gs gs' : Trees) → ((rs : List (Option (Grown Part ℕ))) → HasTrees gs rs → HasTrees gs' (with_prefix (x ∷ []) (last_tree rs) ∷ trees_before rs)) → Keeps k f (tasks ++ Front x ∷ []) gs → Keeps k f tasks gs'
  keeps_front k f tasks x gs gs' done h = let q = h in (_, done q.0 q.1, going_front moves b m first k (drop k shape) f x (reverse tasks) q.0 (topped k (drop k shape) f tasks (Front x) q.0 q.2))

  pub keeps_edge : (k : ℕ) (f : List Bool) (tasks tasks' : List Task) (gs : Trees) → tasks' ≡ tasks ++ Front (Old (k - 1)) ∷ [] → Keeps k f (tasks ++ OldEdge ∷ []) gs → Keeps k f (tasks' ++ OldTree ∷ []) gs
  keeps_edge k f tasks tasks' gs w h = let q = h in
      (q.0, q.1, subst (λ z. Going moves b m first k (drop k shape) f (reverse (z ++ OldTree ∷ [])) q.0) (sym w) (heaped k (drop k shape) f (tasks ++ Front (Old (k - 1)) ∷ []) (OldTree ∷ []) q.0 (subst (λ z. Going moves b m first k (drop k shape) f (OldTree ∷ z) q.0) (sym (reverse-append tasks (Front (Old (k - 1)) ∷ []))) (going_edge moves b m first k (drop k shape) f (reverse tasks) q.0 (topped k (drop k shape) f tasks OldEdge q.0 q.2)))))

  pub keeps_meet : (k : ℕ) (f f' : List Bool) (n : ℕ) (tasks tasks' : List Task) (gs gs' : Trees) → n < length f → f' ≡ set f n true → tasks' ≡ tasks ++ place_tasks (get_or f n false) (moves n) → ((rs : List (Option (Grown Part ℕ))) → HasTrees gs rs → HasTrees gs' (place_trees (get_or f n false) (moves n) n ++ rs)) → Keeps k f (tasks ++ Visit n ∷ []) gs → Keeps k f' tasks' gs'
  keeps_meet k f f' n tasks tasks' gs gs' lt fe w done h = let q = h in
      let more = place_tasks (get_or f n false) (moves n) in
      let rs = place_trees (get_or f n false) (moves n) n ++ q.0 in
      (rs, done q.0 q.1, subst (λ z. Going moves b m first k (drop k shape) z (reverse tasks') rs) (sym fe) (subst (λ z. Going moves b m first k (drop k shape) (set f n true) (reverse z) rs) (sym w) (heaped k (drop k shape) (set f n true) tasks more rs (going_meet moves b m first k (drop k shape) f n (reverse tasks) q.0 lt (topped k (drop k shape) f tasks (Visit n) q.0 q.2)))))

  pub keeps_token : (k : ℕ) (f : List Bool) (tasks tasks' : List Task) (gs gs' : Trees) → k < length shape → tasks' ≡ tasks ++ token_tasks moves b (get_or shape k Fork) → ((rs : List (Option (Grown Part ℕ))) → HasTrees gs rs → HasTrees gs' (token_dead moves b (get_or shape k Fork) ++ rs)) → Keeps k f (tasks ++ OldTree ∷ []) gs → Keeps (k + 1) f tasks' gs'
  keeps_token k f tasks tasks' gs gs' lt w done h = let q = h in
      let x = get_or shape k Fork in
      let more = token_tasks moves b x in
      let rs = token_dead moves b x ++ q.0 in
      let text : drop k shape ≡ x ∷ drop (k + 1) shape = rw (add-one, drop-cons shape k Fork) in
      (rs, done q.0 q.1, subst (λ z. Going moves b m first (k + 1) (drop (k + 1) shape) f (reverse z) rs) (sym w) (heaped (k + 1) (drop (k + 1) shape) f tasks more rs (going_token moves b m first k x (drop (k + 1) shape) f (reverse tasks) q.0 (subst (λ z. Going moves b m first k z f (OldTree ∷ reverse tasks) q.0) text (topped k (drop k shape) f tasks OldTree q.0 q.2)))))

  pub keeps_no_text : (k : ℕ) (f : List Bool) (tasks tasks' : List Task) (gs gs' : Trees) → length shape ≤ k → Keeps k f (tasks ++ OldTree ∷ []) gs → Keeps k f tasks' gs'
  keeps_no_text k f tasks tasks' gs gs' le h = let q = h in
      let none : drop k shape ≡ [] = empty_list (drop k shape) (omega (arith, length-drop k shape)) in
      absurd (going_text moves b m first k f (reverse tasks) q.0 (subst (λ z. Going moves b m first k z f (OldTree ∷ reverse tasks) q.0) none (topped k (drop k shape) f tasks OldTree q.0 q.2)))

pub keeps_start : (moves : ℕ → Move ℕ) (b m : ℕ) (shape : List TreeToken) (j : ShapedTask) → shape ≡ tokens_left (j ∷ []) → (f : List Bool) (tasks : List Task) (gs : Trees) → f ≡ replicate m false → tasks ≡ task_of j ∷ [] → gs ≡ no_trees → Keeps moves b m shape (j ∷ []) 0 f tasks gs
keeps_start moves b m shape j t f tasks gs e w g = ([], subst (λ z. HasTrees z []) (sym g) tt, subst (λ z. Going moves b m (j ∷ []) 0 shape f (reverse z) []) (sym w) (subst (λ z. Going moves b m (j ∷ []) 0 z f (task_of j ∷ []) []) (sym t) (going_start moves b m j f e)))

pub one_task : (m : ℕ) (x y : Task) → IsTaskBelow m x → IsAmong (x ∷ []) y → IsTaskBelow m y
one_task m x y h i = ⊎_elim (λ e. subst (λ z. IsTaskBelow m z) e h) (λ k. absurd k) i

pub each_append : (m : ℕ) (xs ys : List Task) → EachTask m xs → EachTask m ys → EachTask m (xs ++ ys)
each_append m xs ys h h' x i = ⊎_elim (λ i. h x i) (λ i. h' x i) (among-append xs ys x i)

each_cons : (m : ℕ) (x : Task) (ys : List Task) → IsTaskBelow m x → EachTask m ys → EachTask m (x ∷ ys)
each_cons m x ys h h' y i = ⊎_elim (λ e. subst (λ z. IsTaskBelow m z) e h) (λ i. h' y i) i

pub no_tasks : (m : ℕ) → EachTask m []
no_tasks m x i = absurd i

spread_below : (m : ℕ) (mv : Move ℕ) → MoveBelow m mv → EachTask m (tasks_from mv)
spread_below m accept h = no_tasks m
spread_below m (read s t) h = no_tasks m
spread_below m (choose l r) h = each_cons m Merge (Front (Put R) ∷ Visit r ∷ Front (Put L) ∷ Visit l ∷ []) tt (each_cons m (Front (Put R)) (Visit r ∷ Front (Put L) ∷ Visit l ∷ []) tt (each_cons m (Visit r) (Front (Put L) ∷ Visit l ∷ []) h.1 (each_cons m (Front (Put L)) (Visit l ∷ []) tt (each_cons m (Visit l) [] h.0 (no_tasks m)))))
spread_below m (forced y t) h = each_cons m (Front (Put (symbol_of y))) (Visit t ∷ []) tt (each_cons m (Visit t) [] h (no_tasks m))
spread_below m (go e t) h = each_cons m (Visit t) [] h (no_tasks m)

pub meet_below : (nodes : List MNode) (flag : Bool) (n : ℕ) → StaysWithin nodes → n < length nodes → EachTask (length nodes) (place_tasks flag (node_moves nodes n))
meet_below nodes true n range lt = no_tasks (length nodes)
meet_below nodes false n range lt = spread_below (length nodes) (node_moves nodes n) (range n lt)

byte_below : (m : ℕ) (flag : Bool) (t : ℕ) → t < m → EachTask m (byte_tasks flag t)
byte_below m true t h = each_cons m (Front Input) (Visit t ∷ []) tt (each_cons m (Visit t) [] h (no_tasks m))
byte_below m false t h = no_tasks m

read_tasks_below : (m : ℕ) (mv : Move ℕ) (b : ℕ) → MoveBelow m mv → EachTask m (read_tasks mv b)
read_tasks_below m (read s t) b h = byte_below m (get_or s b false) t h
read_tasks_below m accept b h = no_tasks m
read_tasks_below m (choose l r) b h = no_tasks m
read_tasks_below m (forced y t) b h = no_tasks m
read_tasks_below m (go e t) b h = no_tasks m

pub token_below : (nodes : List MNode) (b : ℕ) (x : TreeToken) → StaysWithin nodes → IsTipBelow (length nodes) x → EachTask (length nodes) (token_tasks (node_moves nodes) b x)
token_below nodes b Fork range h = each_cons (length nodes) Merge (OldEdge ∷ OldEdge ∷ []) tt (each_cons (length nodes) OldEdge (OldEdge ∷ []) tt (each_cons (length nodes) OldEdge [] tt (no_tasks (length nodes))))
token_below nodes b (Tip p) range h = read_tasks_below (length nodes) (node_moves nodes p) b (range p h)

pub tip_at : (m : ℕ) (shape : List TreeToken) (k : ℕ) → EachTip m shape → k < length shape → IsTipBelow m (get_or shape k Fork)
tip_at m [] k h lt = absurd (omega arith)
tip_at m (x ∷ xs) zero h lt = h x (inl refl)
tip_at m (x ∷ xs) (suc k) h lt = tip_at m xs k (λ y i. h y (inr i)) (omega arith)

token_length : (moves : ℕ → Move ℕ) (b : ℕ) (x : TreeToken) → length (token_tasks moves b x) ≤ 3
token_length moves b Fork = omega arith
token_length moves b (Tip p) = by (moves p)
  where
    flag : (f : Bool) (t : ℕ) → length (byte_tasks f t) ≤ 3
    flag true t = omega arith
    flag false t = omega arith

    by : (mv : Move ℕ) → length (read_tasks mv b) ≤ 3
    by (read s t) = flag (get_or s b false) t
    by accept = omega arith
    by (choose l r) = omega arith
    by (forced y t) = omega arith
    by (go e t) = omega arith

spread_length : (mv : Move ℕ) → length (tasks_from mv) ≤ 5
spread_length accept = omega arith
spread_length (read s t) = omega arith
spread_length (choose l r) = omega arith
spread_length (forced y t) = omega arith
spread_length (go e t) = omega arith

set_again : (f : List Bool) (n : ℕ) → get_or f n false ≡ true → set f n true ≡ f
set_again [] n e = refl
set_again (x ∷ f) zero e = cc
set_again (x ∷ f) (suc n) e = ap (λ z. x ∷ z) (set_again f n e)

pub falls_meet : (f f' : List Bool) (n : ℕ) (mv : Move ℕ) (tasks tasks' : List Task) (rest : ℕ) → n < length f → f' ≡ set f n true → tasks' ≡ tasks ++ place_tasks (get_or f n false) mv → 6 * unseen f' + rest + length tasks' < 6 * unseen f + rest + suc (length tasks)
falls_meet f f' n mv tasks tasks' rest lt fe w = by (get_or f n false) refl
  where
    by : (flag : Bool) → get_or f n false ≡ flag → 6 * unseen f' + rest + length tasks' < 6 * unseen f + rest + suc (length tasks)
    by true e =
        let same : unseen f' ≡ unseen f = ap unseen (fe ∙ set_again f n e) in
        let long : length tasks' ≡ length tasks = ap length (w ∙ ap (λ z. tasks ++ place_tasks z mv) e ∙ append-nil tasks) in
        omega arith
    by false e =
        let less : unseen f ≡ suc (unseen f') = unseen-set f n lt e ∙ ap (λ z. suc (unseen z)) (sym fe) in
        let long : length tasks' ≡ length tasks + length (tasks_from mv) = ap length (w ∙ ap (λ z. tasks ++ place_tasks z mv) e) ∙ length-append tasks (tasks_from mv) in
        let few = spread_length mv in
        omega arith

pub falls_edge : (moves : ℕ → Move ℕ) (b : ℕ) (x : TreeToken) (y : Task) (n k u : ℕ) (tasks tasks' tasks'' : List Task) → k < n → tasks' ≡ tasks ++ y ∷ [] → tasks'' ≡ tasks' ++ token_tasks moves b x → u + 4 * (n - (k + 1)) + length tasks'' < u + 4 * (n - k) + suc (length tasks)
falls_edge moves b x y n k u tasks tasks' tasks'' lt w w' =
    let long : length tasks'' ≡ length tasks' + length (token_tasks moves b x) = ap length w' ∙ length-append tasks' (token_tasks moves b x) in
    let longer : length tasks' ≡ length tasks + 1 = ap length w ∙ length-append tasks (y ∷ []) in
    let few = token_length moves b x in
    omega arith
