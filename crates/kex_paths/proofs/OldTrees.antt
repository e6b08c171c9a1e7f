-- What the walk over an old tree keeps: from what is still to be done the whole follows.
use Rattle.std.proofs.Common.{◌≡◌, ℕ, zero, suc, ◌+◌, ◌-◌, ◌<◌, Bool, true, false, List, [], ◌∷◌, ◌++◌, Option, Some, None, length, get_or, set, replicate, map, reverse, refl, sym, ap, subst, ◌∙◌, append_assoc, arith}
use Rattle.kex_code.specs.declared.symbol.Symbol.TheVariants.{L, R}
use Rattle.kex_model.specs.Moves.{Move, accept, read, choose, forced, go, symbol_of, took, Allows, reads, IsWaiting}
use Rattle.kex_model.specs.Labelled.{tip, Shape, place, parts, size_of, Grown, with_prefix, fork_of}
use Rattle.kex_sst.specs.declared.parts.Part.{Part}
use Rattle.kex_sst.specs.declared.parts.Part.TheVariants.{Put, Old, Input}
use Rattle.kex_paths.specs.declared.walk.TreeToken.{TreeToken}
use Rattle.kex_paths.specs.declared.walk.TreeToken.TheVariants.{Fork, Tip}
use Rattle.kex_paths.specs.declared.walk.Task.{Task}
use Rattle.kex_paths.specs.declared.walk.Task.TheVariants.{OldTree, OldEdge, Merge, Front, Visit}
use Rattle.kex_machine.specs.Advancing.{known, stops, parts_off, is_forced, passes_on, dies, reads_on, both}
use Rattle.kex_paths.specs.Forests.{last_tree, trees_before}
use Rattle.kex_paths.specs.Nexts.{TreeGoesOn}
use Rattle.kex_paths.specs.Tasks.{tokens, tasks_from, leaf_at, read_tasks, byte_tasks, token_tasks, read_dead, byte_dead, token_dead, place_tasks, place_trees, ShapedTask, tree, edge, merge_two, put_front, go_to, task_of, tokens_left, RunsTasks}

module _ (moves : ℕ → Move ℕ) (b : ℕ) where
  -- the stack of work, its top first, and what has been done so far
  pub record Going (m : ℕ) (first : List ShapedTask) (k : ℕ) (left : List TreeToken) (f : List Bool) (stack : List Task) (rs : List (Option (Grown Part ℕ))) : Type 0 where
    pub shaped : List ShapedTask
    pub erased : map task_of shaped ≡ stack
    pub reads_left : left ≡ tokens_left shaped
    pub runs : (g : List Bool) (out : List (Option (Grown Part ℕ))) → RunsTasks moves b shaped k f rs g out → RunsTasks moves b first 0 (replicate m false) [] g out

  pub going_start : (m : ℕ) (j : ShapedTask) (f : List Bool) → f ≡ replicate m false → Going m (j ∷ []) 0 (tokens_left (j ∷ [])) f (task_of j ∷ []) []
  going_start m j f e = record { shaped = j ∷ []; erased = refl; reads_left = refl; runs = λ g out r. subst (λ z. RunsTasks moves b (j ∷ []) 0 z [] g out) e r }

  pub going_join : (m : ℕ) (first : List ShapedTask) (k : ℕ) (left : List TreeToken) (f : List Bool) (stack : List Task) (rs : List (Option (Grown Part ℕ))) → Going m first k left f (Merge ∷ stack) rs → Going m first k left f stack (fork_of (last_tree (trees_before rs)) (last_tree rs) ∷ trees_before (trees_before rs))
  going_join m first k left f stack rs v = by v.shaped v.erased v.reads_left v.runs
    where
      by : (shaped : List ShapedTask) → map task_of shaped ≡ Merge ∷ stack → left ≡ tokens_left shaped → ((g : List Bool) (out : List (Option (Grown Part ℕ))) → RunsTasks moves b shaped k f rs g out → RunsTasks moves b first 0 (replicate m false) [] g out) → Going m first k left f stack (fork_of (last_tree (trees_before rs)) (last_tree rs) ∷ trees_before (trees_before rs))
      by [] e t r = cc
      by (tree x ∷ js) e t r = cc
      by (edge x ∷ js) e t r = cc
      by (merge_two ∷ js) e t r = record { shaped = js; erased = (cc); reads_left = t; runs = r }
      by (put_front x ∷ js) e t r = cc
      by (go_to n ∷ js) e t r = cc

  pub going_front : (m : ℕ) (first : List ShapedTask) (k : ℕ) (left : List TreeToken) (f : List Bool) (x : Part) (stack : List Task) (rs : List (Option (Grown Part ℕ))) → Going m first k left f (Front x ∷ stack) rs → Going m first k left f stack (with_prefix (x ∷ []) (last_tree rs) ∷ trees_before rs)
  going_front m first k left f x stack rs v = by v.shaped v.erased v.reads_left v.runs
    where
      by : (shaped : List ShapedTask) → map task_of shaped ≡ Front x ∷ stack → left ≡ tokens_left shaped → ((g : List Bool) (out : List (Option (Grown Part ℕ))) → RunsTasks moves b shaped k f rs g out → RunsTasks moves b first 0 (replicate m false) [] g out) → Going m first k left f stack (with_prefix (x ∷ []) (last_tree rs) ∷ trees_before rs)
      by [] e t r = cc
      by (tree y ∷ js) e t r = cc
      by (edge y ∷ js) e t r = cc
      by (merge_two ∷ js) e t r = cc
      by (put_front y ∷ js) e t r = let same : y ≡ x = cc in record { shaped = js; erased = (cc); reads_left = t; runs = subst (λ z. (g : List Bool) (out : List (Option (Grown Part ℕ))) → RunsTasks moves b (put_front z ∷ js) k f rs g out → RunsTasks moves b first 0 (replicate m false) [] g out) same r }
      by (go_to n ∷ js) e t r = cc

  pub going_edge : (m : ℕ) (first : List ShapedTask) (k : ℕ) (left : List TreeToken) (f : List Bool) (stack : List Task) (rs : List (Option (Grown Part ℕ))) → Going m first k left f (OldEdge ∷ stack) rs → Going m first k left f (OldTree ∷ Front (Old (k - 1)) ∷ stack) rs
  going_edge m first k left f stack rs v = by v.shaped v.erased v.reads_left v.runs
    where
      by : (shaped : List ShapedTask) → map task_of shaped ≡ OldEdge ∷ stack → left ≡ tokens_left shaped → ((g : List Bool) (out : List (Option (Grown Part ℕ))) → RunsTasks moves b shaped k f rs g out → RunsTasks moves b first 0 (replicate m false) [] g out) → Going m first k left f (OldTree ∷ Front (Old (k - 1)) ∷ stack) rs
      by [] e t r = cc
      by (tree y ∷ js) e t r = cc
      by (edge y ∷ js) e t r = record { shaped = tree y ∷ put_front (Old (k - 1)) ∷ js; erased = (cc); reads_left = t; runs = r }
      by (merge_two ∷ js) e t r = cc
      by (put_front y ∷ js) e t r = cc
      by (go_to n ∷ js) e t r = cc

  -- a place that is met
  pub going_meet : (m : ℕ) (first : List ShapedTask) (k : ℕ) (left : List TreeToken) (f : List Bool) (n : ℕ) (stack : List Task) (rs : List (Option (Grown Part ℕ))) → n < length f → Going m first k left f (Visit n ∷ stack) rs → Going m first k left (set f n true) (reverse (place_tasks (get_or f n false) (moves n)) ++ stack) (place_trees (get_or f n false) (moves n) n ++ rs)
  going_meet m first k left f n stack rs lt v = by v.shaped v.erased v.reads_left v.runs
    where
      set_again : (f : List Bool) (n : ℕ) → get_or f n false ≡ true → set f n true ≡ f
      set_again [] n e = refl
      set_again (x ∷ f) zero e = cc
      set_again (x ∷ f) (suc n) e = ap (λ z. x ∷ z) (set_again f n e)

      unseen : (js : List ShapedTask) (mv : Move ℕ) → moves n ≡ mv → get_or f n false ≡ false → map task_of js ≡ stack → left ≡ tokens_left js → ((g : List Bool) (out : List (Option (Grown Part ℕ))) → RunsTasks moves b (go_to n ∷ js) k f rs g out → RunsTasks moves b first 0 (replicate m false) [] g out) → Going m first k left (set f n true) (reverse (tasks_from mv) ++ stack) (leaf_at mv n ++ rs)
      unseen js accept is e w t r = record { shaped = js; erased = w; reads_left = t; runs = λ g out q. r g out (Some (record { label = []; tree = tip n }), set f n true, stops lt e (subst (λ z. IsWaiting z) (sym is) tt), q) }
      unseen js (read set' u) is e w t r = record { shaped = js; erased = w; reads_left = t; runs = λ g out q. r g out (Some (record { label = []; tree = tip n }), set f n true, stops lt e (subst (λ z. IsWaiting z) (sym is) tt), q) }
      unseen js (choose x y) is e w t r = record { shaped = go_to x ∷ put_front (Put L) ∷ go_to y ∷ put_front (Put R) ∷ merge_two ∷ js; erased = ap (λ z. Visit x ∷ Front (Put L) ∷ Visit y ∷ Front (Put R) ∷ Merge ∷ z) w; reads_left = t; runs = λ g out (a, h, va, (a', h', vb, q)). r g out (fork_of (with_prefix (Put L ∷ []) a) (with_prefix (Put R ∷ []) a'), h', parts_off lt e is va vb, q) }
      unseen js (forced x u) is e w t r = record { shaped = go_to u ∷ put_front (Put (symbol_of x)) ∷ js; erased = ap (λ z. Visit u ∷ Front (Put (symbol_of x)) ∷ z) w; reads_left = t; runs = λ g out (a, h, va, q). r g out (with_prefix (Put (symbol_of x) ∷ []) a, h, is_forced lt e is va, q) }
      unseen js (go x u) is e w t r = record { shaped = go_to u ∷ js; erased = ap (λ z. Visit u ∷ z) w; reads_left = t; runs = λ g out (a, h, va, q). r g out (a, h, passes_on lt e is va, q) }

      either : (flag : Bool) → get_or f n false ≡ flag → (js : List ShapedTask) → map task_of js ≡ stack → left ≡ tokens_left js → ((g : List Bool) (out : List (Option (Grown Part ℕ))) → RunsTasks moves b (go_to n ∷ js) k f rs g out → RunsTasks moves b first 0 (replicate m false) [] g out) → Going m first k left (set f n true) (reverse (place_tasks flag (moves n)) ++ stack) (place_trees flag (moves n) n ++ rs)
      either true e js w t r = record { shaped = js; erased = w; reads_left = t; runs = λ g out q. r g out (None, f, known e, subst (λ z. RunsTasks moves b js k z (None ∷ rs) g out) (set_again f n e) q) }
      either false e js w t r = unseen js (moves n) refl e w t r

      by : (shaped : List ShapedTask) → map task_of shaped ≡ Visit n ∷ stack → left ≡ tokens_left shaped → ((g : List Bool) (out : List (Option (Grown Part ℕ))) → RunsTasks moves b shaped k f rs g out → RunsTasks moves b first 0 (replicate m false) [] g out) → Going m first k left (set f n true) (reverse (place_tasks (get_or f n false) (moves n)) ++ stack) (place_trees (get_or f n false) (moves n) n ++ rs)
      by [] e t r = cc
      by (tree y ∷ js) e t r = cc
      by (edge y ∷ js) e t r = cc
      by (merge_two ∷ js) e t r = cc
      by (put_front y ∷ js) e t r = cc
      by (go_to n' ∷ js) e t r = let same : n' ≡ n = cc in either (get_or f n false) refl js (cc) t (subst (λ z. (g : List Bool) (out : List (Option (Grown Part ℕ))) → RunsTasks moves b (go_to z ∷ js) k f rs g out → RunsTasks moves b first 0 (replicate m false) [] g out) same r)

  -- a token is read
  pub going_token : (m : ℕ) (first : List ShapedTask) (k : ℕ) (x : TreeToken) (left : List TreeToken) (f : List Bool) (stack : List Task) (rs : List (Option (Grown Part ℕ))) → Going m first k (x ∷ left) f (OldTree ∷ stack) rs → Going m first (k + 1) left f (reverse (token_tasks moves b x) ++ stack) (token_dead moves b x ++ rs)
  going_token m first k x left f stack rs v = by v.shaped v.erased v.reads_left v.runs
    where
      -- a tip, for each thing that there is to do there
      at_place : (p : ℕ) (mv : Move ℕ) → moves p ≡ mv → (js : List ShapedTask) → map task_of js ≡ stack → left ≡ tokens_left js → ((g : List Bool) (out : List (Option (Grown Part ℕ))) → RunsTasks moves b (tree (place p) ∷ js) k f rs g out → RunsTasks moves b first 0 (replicate m false) [] g out) → Going m first (k + 1) left f (reverse (read_tasks mv b) ++ stack) (read_dead mv b ++ rs)
      at_place p accept is js w t r = record { shaped = js; erased = w; reads_left = t; runs = λ g out q. r g out (None, f, dies (λ u a. nowhere (subst (λ z. Allows z (took b u)) is a)), q) }
        where
          nowhere : {u : ℕ} → Allows accept (took b u) → ⊥
          nowhere a = elim a [ ]
      at_place p (read sets u) is js w t r = either (get_or sets b false) refl
        where
          either : (flag : Bool) → get_or sets b false ≡ flag → Going m first (k + 1) left f (reverse (byte_tasks flag u) ++ stack) (byte_dead flag ++ rs)
          either true e = record { shaped = go_to u ∷ put_front Input ∷ js; erased = ap (λ z. Visit u ∷ Front Input ∷ z) w; reads_left = t; runs = λ g out (a, h, va, q). r g out (with_prefix (Input ∷ []) a, h, reads_on (subst (λ z. Allows z (took b u)) (sym is) (reads e)) va, q) }
          either false e = record { shaped = js; erased = w; reads_left = t; runs = λ g out q. r g out (None, f, dies (λ y a. not_in (subst (λ z. Allows z (took b y)) is a)), q) }
            where
              not_in : {y : ℕ} → Allows (read sets u) (took b y) → ⊥
              not_in (reads i) = let bad : true ≡ false = sym i ∙ e in cc
      at_place p (choose y z) is js w t r = record { shaped = js; erased = w; reads_left = t; runs = λ g out q. r g out (None, f, dies (λ u a. nowhere (subst (λ z. Allows z (took b u)) is a)), q) }
        where
          nowhere : {u : ℕ} → Allows (choose y z) (took b u) → ⊥
          nowhere a = elim a [ ]
      at_place p (forced y z) is js w t r = record { shaped = js; erased = w; reads_left = t; runs = λ g out q. r g out (None, f, dies (λ u a. nowhere (subst (λ z. Allows z (took b u)) is a)), q) }
        where
          nowhere : {u : ℕ} → Allows (forced y z) (took b u) → ⊥
          nowhere a = elim a [ ]
      at_place p (go y z) is js w t r = record { shaped = js; erased = w; reads_left = t; runs = λ g out q. r g out (None, f, dies (λ u a. nowhere (subst (λ z. Allows z (took b u)) is a)), q) }
        where
          nowhere : {u : ℕ} → Allows (go y z) (took b u) → ⊥
          nowhere a = elim a [ ]

      -- a fork's sides, one after the other
      at_fork : (l r : Shape ℕ) (js : List ShapedTask) → map task_of js ≡ stack → left ≡ (tokens l ++ tokens r) ++ tokens_left js → ((g : List Bool) (out : List (Option (Grown Part ℕ))) → RunsTasks moves b (tree (parts l r) ∷ js) k f rs g out → RunsTasks moves b first 0 (replicate m false) [] g out) → Going m first (k + 1) left f (OldEdge ∷ OldEdge ∷ Merge ∷ stack) rs
      at_fork l r js w t go_on = record {
        shaped = edge l ∷ edge r ∷ merge_two ∷ js;
        erased = ap (λ z. OldEdge ∷ OldEdge ∷ Merge ∷ z) w;
        reads_left = t ∙ append_assoc (tokens l) (tokens r) (tokens_left js);
        runs = λ g out (x, h, vx, (y, h', vy, q)).
            fit g out x y h h' (k + 1) (k + 1 - 1) (k + 1 + size_of l) (k + 1 + size_of l - 1) (k + 1 + size_of l + size_of r) (omega arith) (omega arith) (omega arith) (omega arith) (omega arith) vx vy q;
      }
        where
          fit : (g : List Bool) (out : List (Option (Grown Part ℕ))) (x y : Option (Grown Part ℕ)) (h h' : List Bool) (k1 n1 k2 n2 k3 : ℕ) → k1 ≡ suc k → n1 ≡ k → k2 ≡ suc (k + size_of l) → n2 ≡ k + size_of l → k3 ≡ k + suc (size_of l + size_of r) → TreeGoesOn moves b k1 f l x h → TreeGoesOn moves b k2 h r y h' → RunsTasks moves b js k3 h' (fork_of (with_prefix (Old n1 ∷ []) x) (with_prefix (Old n2 ∷ []) y) ∷ rs) g out → RunsTasks moves b first 0 (replicate m false) [] g out
          fit g out x y h h' k1 n1 k2 n2 k3 e1 e2 e3 e4 e5 vx vy q =
              go_on g out (
                fork_of (with_prefix (Old k ∷ []) x) (with_prefix (Old (k + size_of l) ∷ []) y),
                h',
                both (subst (λ z. TreeGoesOn moves b z f l x h) e1 vx) (subst (λ z. TreeGoesOn moves b z h r y h') e3 vy),
                subst (λ z. RunsTasks moves b js z h' (fork_of (with_prefix (Old k ∷ []) x) (with_prefix (Old (k + size_of l) ∷ []) y) ∷ rs) g out) e5 (subst (λ z. RunsTasks moves b js k3 h' (fork_of (with_prefix (Old k ∷ []) x) (with_prefix (Old z ∷ []) y) ∷ rs) g out) e4 (subst (λ z. RunsTasks moves b js k3 h' (fork_of (with_prefix (Old z ∷ []) x) (with_prefix (Old n2 ∷ []) y) ∷ rs) g out) e2 q)),
              )

      by : (shaped : List ShapedTask) → map task_of shaped ≡ OldTree ∷ stack → x ∷ left ≡ tokens_left shaped → ((g : List Bool) (out : List (Option (Grown Part ℕ))) → RunsTasks moves b shaped k f rs g out → RunsTasks moves b first 0 (replicate m false) [] g out) → Going m first (k + 1) left f (reverse (token_tasks moves b x) ++ stack) (token_dead moves b x ++ rs)
      by [] e t r = cc
      by (tree (place p) ∷ js) e t r =
          let is : Tip p ≡ x = cc in
          subst (λ z. Going m first (k + 1) left f (reverse (token_tasks moves b z) ++ stack) (token_dead moves b z ++ rs)) is (at_place p (moves p) refl js (cc) (cc) r)
      by (tree (parts y z) ∷ js) e t r =
          let is : Fork ≡ x = cc in
          subst (λ z. Going m first (k + 1) left f (reverse (token_tasks moves b z) ++ stack) (token_dead moves b z ++ rs)) is (at_fork y z js (cc) (cc) r)
      by (edge y ∷ js) e t r = cc
      by (merge_two ∷ js) e t r = cc
      by (put_front y ∷ js) e t r = cc
      by (go_to n ∷ js) e t r = cc

  -- a tree to be walked has a token
  pub going_text : (m : ℕ) (first : List ShapedTask) (k : ℕ) (f : List Bool) (stack : List Task) (rs : List (Option (Grown Part ℕ))) → Going m first k [] f (OldTree ∷ stack) rs → ⊥
  going_text m first k f stack rs v = by v.shaped v.erased v.reads_left
    where
      by : (shaped : List ShapedTask) → map task_of shaped ≡ OldTree ∷ stack → [] ≡ tokens_left shaped → ⊥
      by [] e t = cc
      by (tree (place p) ∷ js) e t = cc
      by (tree (parts y z) ∷ js) e t = cc
      by (edge y ∷ js) e t = cc
      by (merge_two ∷ js) e t = cc
      by (put_front y ∷ js) e t = cc
      by (go_to n ∷ js) e t = cc

  -- where nothing is to be done, the first tasks are done
  pub going_end : (m : ℕ) (first : List ShapedTask) (k : ℕ) (left : List TreeToken) (f : List Bool) (rs : List (Option (Grown Part ℕ))) → Going m first k left f [] rs → RunsTasks moves b first 0 (replicate m false) [] f rs
  going_end m first k left f rs v = by v.shaped v.erased v.runs
    where
      by : (shaped : List ShapedTask) → map task_of shaped ≡ [] → ((g : List Bool) (out : List (Option (Grown Part ℕ))) → RunsTasks moves b shaped k f rs g out → RunsTasks moves b first 0 (replicate m false) [] g out) → RunsTasks moves b first 0 (replicate m false) [] f rs
      by [] e r = r f rs (refl, refl)
      by (j ∷ js) e r = cc
