-- What the loop over the tasks of a walk keeps, task by task, and that it ends.
use Rattle.std.proofs.Common.{◌≡◌, ℕ, zero, suc, ◌+◌, ◌*◌, ◌<◌, ◌≤◌, Bool, true, false, List, [], ◌∷◌, ◌++◌, inl, inr, ⊎_elim, Option, Some, None, length, get_or, set, reverse, refl, sym, ap, subst, ◌∙◌, length-append, append-nil, arith}
use Rattle.std.proofs.lemmas.List.{reverse-append}
use Rattle.kex_code.specs.declared.symbol.Symbol.{Symbol}
use Rattle.kex_code.specs.declared.symbol.Symbol.TheVariants.{L, R}
use Rattle.kex_code.specs.Codes.{IsAmong}
use Rattle.kex_model.specs.Moves.{Move, accept, read, choose, forced, go, symbol_of, IsWaiting}
use Rattle.kex_model.specs.Labelled.{tip, Grown, with_prefix, fork_of}
use Rattle.kex_model.proofs.Shapes.{among-append}
use Rattle.kex_machine.specs.declared.MNode.{MNode}
use Rattle.kex_machine.proofs.Sizes.{unseen, unseen-set}
use Rattle.kex_machine.specs.Nodes.{node_moves, MoveBelow, StaysWithin}
use Rattle.kex_frontier.specs.declared.visit.VisitTask.{VisitTask}
use Rattle.kex_frontier.specs.declared.visit.VisitTask.TheVariants.{Visit, Front, Merge}
use Rattle.kex_frontier.specs.Edges.{CodeTrees, HasCodeTrees, with_front, with_fork}
use Rattle.kex_machine.specs.Advancing.{known, stops, parts_off, is_forced, passes_on}
use Rattle.kex_frontier.specs.Going.{VisitsCodes}
use Rattle.kex_frontier.specs.Tasks.{visits_from, code_leaf_at, tasks_at, trees_at, IsVisitBelow, RunsVisits}

set_again : (f : List Bool) (n : ℕ) → get_or f n false ≡ true → set f n true ≡ f
set_again [] n e = refl
set_again (x ∷ f) zero e = cc
set_again (x ∷ f) (suc n) e = ap (λ z. x ∷ z) (set_again f n e)

module _ (moves : ℕ → Move ℕ) where
  -- a place that wasn't met, for each thing that there is to do there
  met_new : (js : List VisitTask) (f : List Bool) (n : ℕ) (rs : List (Option (Grown Symbol ℕ))) (g : List Bool) (out : List (Option (Grown Symbol ℕ))) (mv : Move ℕ) → moves n ≡ mv → n < length f → get_or f n false ≡ false → RunsVisits moves (reverse (visits_from mv) ++ js) (set f n true) (code_leaf_at mv n ++ rs) g out → RunsVisits moves (Visit n ∷ js) f rs g out
  met_new js f n rs g out accept is lt e q = (Some (record { label = []; tree = tip n }), set f n true, stops lt e (subst (λ z. IsWaiting z) (sym is) tt), q)
  met_new js f n rs g out (read s t) is lt e q = (Some (record { label = []; tree = tip n }), set f n true, stops lt e (subst (λ z. IsWaiting z) (sym is) tt), q)
  met_new js f n rs g out (choose l r) is lt e (a, h, va, (a', h', vb, q)) = (fork_of (with_prefix (L ∷ []) a) (with_prefix (R ∷ []) a'), h', parts_off lt e is va vb, q)
  met_new js f n rs g out (forced x t) is lt e (a, h, va, q) = (with_prefix (symbol_of x ∷ []) a, h, is_forced lt e is va, q)
  met_new js f n rs g out (go x t) is lt e (a, h, va, q) = (a, h, passes_on lt e is va, q)

  met_runs : (js : List VisitTask) (f : List Bool) (n : ℕ) (rs : List (Option (Grown Symbol ℕ))) (g : List Bool) (out : List (Option (Grown Symbol ℕ))) → n < length f → RunsVisits moves (reverse (tasks_at (get_or f n false) (moves n)) ++ js) (set f n true) (trees_at (get_or f n false) (moves n) n ++ rs) g out → RunsVisits moves (Visit n ∷ js) f rs g out
  met_runs js f n rs g out lt q = by (get_or f n false) refl q
    where
      by : (b : Bool) → get_or f n false ≡ b → RunsVisits moves (reverse (tasks_at b (moves n)) ++ js) (set f n true) (trees_at b (moves n) n ++ rs) g out → RunsVisits moves (Visit n ∷ js) f rs g out
      by true e q = (None, f, known e, subst (λ z. RunsVisits moves js z (None ∷ rs) g out) (set_again f n e) q)
      by false e q = met_new js f n rs g out (moves n) refl lt e q

  module _ (first : ℕ) (f0 : List Bool) where
    -- what the tasks that are left lead to, the first visit leads to
    abbrev pub Keeps : List Bool → List VisitTask → CodeTrees → Type 0
    Keeps f tasks forest = (rs : List (Option (Grown Symbol ℕ))) × HasCodeTrees reverse forest rs × ((g : List Bool) (out : List (Option (Grown Symbol ℕ))) → RunsVisits moves (reverse tasks) f rs g out → RunsVisits moves (Visit first ∷ []) f0 [] g out)

    pub keeps_front : (f : List Bool) (all tasks : List VisitTask) (s : Symbol) (old new : CodeTrees) → all ≡ tasks ++ Front s ∷ [] → ((rs : List (Option (Grown Symbol ℕ))) → HasCodeTrees reverse old rs → HasCodeTrees reverse new (with_front (s ∷ []) rs)) → Keeps f all old → Keeps f tasks new
    keeps_front f all tasks s old new e done h = (with_front (s ∷ []) h.0, done h.0 h.1, (λ g out q. h.2 g out (subst (λ z. RunsVisits moves z f h.0 g out) (sym (ap reverse e ∙ reverse-append tasks (Front s ∷ []))) q)))

    pub keeps_merge : (f : List Bool) (all tasks : List VisitTask) (old new : CodeTrees) → all ≡ tasks ++ Merge ∷ [] → ((rs : List (Option (Grown Symbol ℕ))) → HasCodeTrees reverse old rs → HasCodeTrees reverse new (with_fork rs)) → Keeps f all old → Keeps f tasks new
    keeps_merge f all tasks old new e done h = (with_fork h.0, done h.0 h.1, (λ g out q. h.2 g out (subst (λ z. RunsVisits moves z f h.0 g out) (sym (ap reverse e ∙ reverse-append tasks (Merge ∷ []))) q)))

    pub keeps_meet : (f f' : List Bool) (n : ℕ) (all tasks tasks' : List VisitTask) (old new : CodeTrees) → all ≡ tasks ++ Visit n ∷ [] → n < length f → f' ≡ set f n true → tasks' ≡ tasks ++ tasks_at (get_or f n false) (moves n) → ((rs : List (Option (Grown Symbol ℕ))) → HasCodeTrees reverse old rs → HasCodeTrees reverse new (trees_at (get_or f n false) (moves n) n ++ rs)) → Keeps f all old → Keeps f' tasks' new
    keeps_meet f f' n all tasks tasks' old new e lt fe w done h = (
      trees_at (get_or f n false) (moves n) n ++ h.0,
      done h.0 h.1,
      (λ g out q. h.2 g out (subst (λ z. RunsVisits moves z f h.0 g out) (sym (ap reverse e ∙ reverse-append tasks (Visit n ∷ []))) (met_runs (reverse tasks) f n h.0 g out lt (subst (λ z. RunsVisits moves z (set f n true) (trees_at (get_or f n false) (moves n) n ++ h.0) g out) (ap reverse w ∙ reverse-append tasks (tasks_at (get_or f n false) (moves n))) (subst (λ z. RunsVisits moves (reverse tasks') z (trees_at (get_or f n false) (moves n) n ++ h.0) g out) fe q))))),
    )

    pub keeps_end : (f : List Bool) (tasks : List VisitTask) (forest : CodeTrees) → tasks ≡ [] → Keeps f tasks forest → (a : Option (Grown Symbol ℕ)) × HasCodeTrees reverse forest (a ∷ []) × VisitsCodes moves f0 first a f
    keeps_end f tasks forest e h = let r = h.2 f h.0 (subst (λ z. RunsVisits moves (reverse z) f h.0 f h.0) (sym e) (refl, refl)) in (r.0, subst (λ z. HasCodeTrees reverse forest z) (sym r.3.1) h.1, subst (λ z. VisitsCodes moves f0 first r.0 z) r.3.0 r.2)

abbrev pub EachTask : ℕ → List VisitTask → Type 0
EachTask m xs = (x : VisitTask) → IsAmong xs x → IsVisitBelow m x

no_tasks : (m : ℕ) → EachTask m []
no_tasks m x i = absurd i

each_cons : (m : ℕ) (x : VisitTask) (ys : List VisitTask) → IsVisitBelow m x → EachTask m ys → EachTask m (x ∷ ys)
each_cons m x ys h h' y i = ⊎_elim (λ e. subst (λ z. IsVisitBelow m z) e h) (λ i. h' y i) i

pub one_task : (m n : ℕ) → n < m → EachTask m (Visit n ∷ [])
one_task m n lt = each_cons m (Visit n) [] lt (no_tasks m)

each_append : (m : ℕ) (xs ys : List VisitTask) → EachTask m xs → EachTask m ys → EachTask m (xs ++ ys)
each_append m xs ys h h' x i = ⊎_elim (λ i. h x i) (λ i. h' x i) (among-append xs ys x i)

front_task : (m : ℕ) (xs ys : List VisitTask) → EachTask m (xs ++ ys) → EachTask m xs
front_task m [] ys h x i = absurd i
front_task m (z ∷ xs) ys h x i = ⊎_elim (λ e. h x (inl e)) (λ i. front_task m xs ys (λ y j. h y (inr j)) x i) i

last_task : (m : ℕ) (xs : List VisitTask) (x : VisitTask) → EachTask m (xs ++ x ∷ []) → IsVisitBelow m x
last_task m [] x h = h x (inl refl)
last_task m (z ∷ xs) x h = last_task m xs x (λ y j. h y (inr j))

pub tasks_left : (m : ℕ) (all tasks : List VisitTask) (x : VisitTask) → all ≡ tasks ++ x ∷ [] → EachTask m all → EachTask m tasks
tasks_left m all tasks x e h = front_task m tasks (x ∷ []) (subst (λ z. EachTask m z) e h)

pub task_last : (m : ℕ) (all tasks : List VisitTask) (x : VisitTask) → all ≡ tasks ++ x ∷ [] → EachTask m all → IsVisitBelow m x
task_last m all tasks x e h = last_task m tasks x (subst (λ z. EachTask m z) e h)

spread_below : (m : ℕ) (mv : Move ℕ) → MoveBelow m mv → EachTask m (visits_from mv)
spread_below m accept h = no_tasks m
spread_below m (read s t) h = no_tasks m
spread_below m (choose l r) h = each_cons m Merge (Front R ∷ Visit r ∷ Front L ∷ Visit l ∷ []) tt (each_cons m (Front R) (Visit r ∷ Front L ∷ Visit l ∷ []) tt (each_cons m (Visit r) (Front L ∷ Visit l ∷ []) h.1 (each_cons m (Front L) (Visit l ∷ []) tt (one_task m l h.0))))
spread_below m (forced y t) h = each_cons m (Front (symbol_of y)) (Visit t ∷ []) tt (one_task m t h)
spread_below m (go e t) h = one_task m t h

tasks_below : (nodes : List MNode) (b : Bool) (n : ℕ) → StaysWithin nodes → n < length nodes → EachTask (length nodes) (tasks_at b (node_moves nodes n))
tasks_below nodes true n range lt = no_tasks (length nodes)
tasks_below nodes false n range lt = spread_below (length nodes) (node_moves nodes n) (range n lt)

pub tasks_met : (nodes : List MNode) (b : Bool) (n : ℕ) (all tasks tasks' : List VisitTask) (x : VisitTask) → all ≡ tasks ++ x ∷ [] → tasks' ≡ tasks ++ tasks_at b (node_moves nodes n) → StaysWithin nodes → n < length nodes → EachTask (length nodes) all → EachTask (length nodes) tasks'
tasks_met nodes b n all tasks tasks' x e w range lt h = subst (λ z. EachTask (length nodes) z) (sym w) (each_append (length nodes) tasks (tasks_at b (node_moves nodes n)) (tasks_left (length nodes) all tasks x e h) (tasks_below nodes b n range lt))

spread_length : (mv : Move ℕ) → length (visits_from mv) ≤ 5
spread_length accept = omega arith
spread_length (read s t) = omega arith
spread_length (choose l r) = omega arith
spread_length (forced y t) = omega arith
spread_length (go e t) = omega arith

-- each place is met once, and then five tasks are put on the stack at most
pub falls_meet : (f f' : List Bool) (n : ℕ) (mv : Move ℕ) (all tasks tasks' : List VisitTask) (x : VisitTask) → all ≡ tasks ++ x ∷ [] → n < length f → f' ≡ set f n true → tasks' ≡ tasks ++ tasks_at (get_or f n false) mv → 6 * unseen f' + length tasks' < 6 * unseen f + length all
falls_meet f f' n mv all tasks tasks' x ae lt fe w = by (get_or f n false) refl
  where
    whole : length all ≡ suc (length tasks)
    whole = let e = ap length ae ∙ length-append tasks (x ∷ []) in omega arith

    by : (b : Bool) → get_or f n false ≡ b → 6 * unseen f' + length tasks' < 6 * unseen f + length all
    by true e =
        let same : unseen f' ≡ unseen f = ap unseen (fe ∙ set_again f n e) in
        let long : length tasks' ≡ length tasks = ap length (w ∙ ap (λ z. tasks ++ tasks_at z mv) e ∙ append-nil tasks) in
        omega (arith, whole)
    by false e =
        let less : unseen f ≡ suc (unseen f') = unseen-set f n lt e ∙ ap (λ z. suc (unseen z)) (sym fe) in
        let long : length tasks' ≡ length tasks + length (visits_from mv) = ap length (w ∙ ap (λ z. tasks ++ tasks_at z mv) e) ∙ length-append tasks (visits_from mv) in
        let few = spread_length mv in
        omega (arith, whole)
