use Rattle.std.proofs.Common.{◌≡◌, ℕ, suc, ◌<◌, ◌-◌, ◌*◌, [], ◌∷◌, ◌++◌, length, vec_len, get_or, true, false, replicate, refl, sym, ap, subst, ◌∙◌, inl, length-append, length-take, length-set, append-nil, arith}
use Rattle.std.proofs.lemmas.List.{length-replicate}
use Rattle.kex_code.specs.Codes.{IsAmong}
use Rattle.kex_model.proofs.Shapes.{among_left, among_right}
use Rattle.kex_model.proofs.OpenAnswers.{empty_list}
use Rattle.kex_machine.specs.Nodes.{node_moves}
use Rattle.kex_machine.proofs.Sizes.{unseen}
use Rattle.kex_sst.specs.declared.parts.Part.TheVariants.{Old}
use Rattle.kex_paths.specs.declared.walk.TreeToken.TheVariants.{Fork}
use Rattle.kex_paths.specs.declared.walk.Task.{Task}
use Rattle.kex_paths.specs.declared.walk.Task.TheVariants.{OldTree, OldEdge, Merge, Front, Visit}
use Rattle.kex_paths.specs.Tasks.{IsTaskBelow, EachTask, ShapedTask, task_of, tokens_left}
use Rattle.kex_paths.proofs.WalkLoop.{Keeps, keeps_start, keeps_join, keeps_front, keeps_edge, keeps_meet, keeps_token, keeps_no_text, keeps_end, each_append, one_task, meet_below, token_below, tip_at, falls_meet, falls_edge}
use Rattle.kex_paths.proofs.walk.walk.Goals as goal
use Rattle.kex_paths.proofs.walk.walk.Goals.{In-Some}

pub loop-task-init : goal.loop-task-init
loop-task-init c =
    let clean : c.clear.new.self ≡ replicate (length c.args.nodes.now) false = c.clear.ensures ∙ ap (λ z. replicate z false) c.requires.long in
    let one : c.push.new.self.items ≡ c.args.first ∷ [] = c.in_ok-push.ensures.items ∙ ap (λ z. z ++ c.args.first ∷ []) c.clear-3.ensures.items in
    record {
      long = ap length clean ∙ length-replicate (length c.args.nodes.now) false;
      within = omega arith;
      each_task = subst (λ z. EachTask (length c.args.nodes.now) z) (sym one) (λ x i. one_task (length c.args.nodes.now) c.args.first x c.requires.first i);
      keeps = λ j w t. keeps_start (node_moves c.args.nodes.now) c.args.byte (length c.args.nodes.now) c.args.tokens.now j t c.clear.new.self c.push.new.self.items c.clear-2.new.self clean (one ∙ ap (λ z. z ∷ []) (sym w)) c.clear-2.ensures;
    }

pub take_token-requires : goal.take_token-requires
take_token-requires c = tip_at (length c.args.nodes.now) c.args.tokens.now c.loop-task.cursor c.requires.tips c.if-cursor-tokens.true

tasks_left : (c : In-Some) → EachTask (length c.args.nodes.now) c.pop.new.self.items
tasks_left c = λ x i. c.loop-task.invariant.each_task x (subst (λ z. IsAmong z x) (sym c.in-Some.ensures.items) (among_left c.pop.new.self.items (c.in-Some.task ∷ []) x i))

-- what is kept, with what was on top
kept : (c : In-Some) (j : ShapedTask) → task_of j ≡ c.args.first → c.args.tokens.now ≡ tokens_left (j ∷ []) → (x : Task) → c.in-Some.task ≡ x → Keeps (node_moves c.args.nodes.now) c.args.byte (length c.args.nodes.now) c.args.tokens.now (j ∷ []) c.loop-task.cursor c.loop-task.marks (c.pop.new.self.items ++ x ∷ []) c.loop-task.forest
kept c j w t x e = subst (λ z. Keeps (node_moves c.args.nodes.now) c.args.byte (length c.args.nodes.now) c.args.tokens.now (j ∷ []) c.loop-task.cursor c.loop-task.marks z c.loop-task.forest) (c.in-Some.ensures.items ∙ ap (λ z. c.pop.new.self.items ++ z ∷ []) e) (c.loop-task.invariant.keeps j w t)

-- the place to be visited is in range
in_range : (c : In-Some) (n : ℕ) → c.in-Some.task ≡ Visit n → n < length c.args.nodes.now
in_range c n e = subst (λ z. IsTaskBelow (length c.args.nodes.now) z) e (c.loop-task.invariant.each_task c.in-Some.task (subst (λ z. IsAmong z c.in-Some.task) (sym c.in-Some.ensures.items) (among_right c.pop.new.self.items (c.in-Some.task ∷ []) c.in-Some.task (inl refl))))

pub loop-task-preserved-then-cursor-tokens : goal.loop-task-preserved-then-cursor-tokens
loop-task-preserved-then-cursor-tokens c =
    let top = (goal.at.loop-task-preserved-then-cursor-tokens c).In-Some in
    record {
      long = c.loop-task.invariant.long;
      within = omega arith;
      each_task = subst (λ z. EachTask (length c.args.nodes.now) z) (sym c.in_ok-take_token-in-OldTree.ensures.tasks) (each_append (length c.args.nodes.now) _ _ (tasks_left top) (token_below c.args.nodes.now c.args.byte _ c.requires.range (tip_at (length c.args.nodes.now) c.args.tokens.now c.loop-task.cursor c.requires.tips c.if-cursor-tokens.true)));
      keeps = λ j w t. keeps_token (node_moves c.args.nodes.now) c.args.byte (length c.args.nodes.now) c.args.tokens.now (j ∷ []) c.loop-task.cursor c.loop-task.marks c.pop.new.self.items c.take_token.new.tasks.items c.loop-task.forest c.take_token.new.forest c.if-cursor-tokens.true c.in_ok-take_token-in-OldTree.ensures.tasks c.in_ok-take_token-in-OldTree.ensures.trees (kept top j w t OldTree c.in-OldTree.is);
    }

pub loop-task-preserved-else-cursor-tokens : goal.loop-task-preserved-else-cursor-tokens
loop-task-preserved-else-cursor-tokens c =
    let top = (goal.at.loop-task-preserved-else-cursor-tokens c).In-Some in
    record {
      long = c.loop-task.invariant.long;
      within = c.loop-task.invariant.within;
      each_task = tasks_left top;
      keeps = λ j w t. keeps_no_text (node_moves c.args.nodes.now) c.args.byte (length c.args.nodes.now) c.args.tokens.now (j ∷ []) c.loop-task.cursor c.loop-task.marks c.pop.new.self.items c.pop.new.self.items c.loop-task.forest c.loop-task.forest c.if-cursor-tokens.false (kept top j w t OldTree c.in-OldTree.is);
    }

pub loop-task-preserved-in-Continue-branch-5 : goal.loop-task-preserved-in-Continue-branch-5
loop-task-preserved-in-Continue-branch-5 c =
    let top = (goal.at.loop-task-preserved-in-Continue-branch-5 c).In-Some in
    record {
      long = c.loop-task.invariant.long;
      within = c.loop-task.invariant.within;
      each_task = tasks_left top;
      keeps = λ j w t. keeps_join (node_moves c.args.nodes.now) c.args.byte (length c.args.nodes.now) c.args.tokens.now (j ∷ []) c.loop-task.cursor c.loop-task.marks c.pop.new.self.items c.loop-task.forest c.merge.new.self c.in_ok-merge-in-Merge.ensures (kept top j w t Merge c.in-Merge.is);
    }

pub loop-task-preserved-in-Continue-branch-6 : goal.loop-task-preserved-in-Continue-branch-6
loop-task-preserved-in-Continue-branch-6 c =
    let top = (goal.at.loop-task-preserved-in-Continue-branch-6 c).In-Some in
    record {
      long = c.loop-task.invariant.long;
      within = c.loop-task.invariant.within;
      each_task = tasks_left top;
      keeps = λ j w t. keeps_front (node_moves c.args.nodes.now) c.args.byte (length c.args.nodes.now) c.args.tokens.now (j ∷ []) c.loop-task.cursor c.loop-task.marks c.pop.new.self.items c.in-Front.part c.loop-task.forest c.put_front.new.self c.in_ok-put_front-in-Front.ensures (kept top j w t (Front c.in-Front.part) c.in-Front.is);
    }

pub meet-requires-clause-below : goal.meet-requires-clause-below
meet-requires-clause-below c = in_range (goal.at.meet-requires-clause-below c).In-Some c.in-Visit.n c.in-Visit.is

-- the stack was longer by the task that was on top
one_off : (c : In-Some) → vec_len c.loop-task.tasks ≡ suc (length c.pop.new.self.items)
one_off c = omega (arith, c.loop-task.tasks.ok.0, ap length c.in-Some.ensures.items, length-append c.pop.new.self.items (c.in-Some.task ∷ []))

pub loop-task-smaller : goal.loop-task-smaller
loop-task-smaller c =
    let top = (goal.at.loop-task-smaller c).In-Some in
    let fits : c.in-Visit.n < length c.loop-task.marks = omega (arith, in_range top c.in-Visit.n c.in-Visit.is, c.loop-task.invariant.long) in
    let less = falls_meet c.loop-task.marks c.meet.new.marks c.in-Visit.n (node_moves c.args.nodes.now c.in-Visit.n) c.pop.new.self.items c.meet.new.tasks.items (4 * (length c.args.tokens.now - c.loop-task.cursor)) fits c.in_ok-meet-in-Visit.ensures.marks c.in_ok-meet-in-Visit.ensures.tasks in
    omega (arith, less, one_off top, c.meet.new.tasks.ok.0)

pub loop-task-preserved : goal.loop-task-preserved
loop-task-preserved c =
    let top = (goal.at.loop-task-preserved c).In-Some in
    let fits : c.in-Visit.n < length c.args.nodes.now = in_range top c.in-Visit.n c.in-Visit.is in
    record {
      long = ap length c.in_ok-meet-in-Visit.ensures.marks ∙ length-set c.loop-task.marks c.in-Visit.n true ∙ c.loop-task.invariant.long;
      within = c.loop-task.invariant.within;
      each_task = subst (λ z. EachTask (length c.args.nodes.now) z) (sym c.in_ok-meet-in-Visit.ensures.tasks) (each_append (length c.args.nodes.now) _ _ (tasks_left top) (meet_below c.args.nodes.now (get_or c.loop-task.marks c.in-Visit.n false) c.in-Visit.n c.requires.range fits));
      keeps = λ j w t. keeps_meet (node_moves c.args.nodes.now) c.args.byte (length c.args.nodes.now) c.args.tokens.now (j ∷ []) c.loop-task.cursor c.loop-task.marks c.meet.new.marks c.in-Visit.n c.pop.new.self.items c.meet.new.tasks.items c.loop-task.forest c.meet.new.forest (omega (arith, fits, c.loop-task.invariant.long)) c.in_ok-meet-in-Visit.ensures.marks c.in_ok-meet-in-Visit.ensures.tasks c.in_ok-meet-in-Visit.ensures.trees (kept top j w t (Visit c.in-Visit.n) c.in-Visit.is);
    }

pub take_token-requires-then-cursor-tokens-2 : goal.take_token-requires-then-cursor-tokens-2
take_token-requires-then-cursor-tokens-2 c = tip_at (length c.args.nodes.now) c.args.tokens.now c.loop-task.cursor c.requires.tips c.if-cursor-tokens-2.true

pub loop-task-smaller-then-cursor-tokens-2 : goal.loop-task-smaller-then-cursor-tokens-2
loop-task-smaller-then-cursor-tokens-2 c =
    let top = (goal.at.loop-task-smaller-then-cursor-tokens-2 c).In-Some in
    let less = falls_edge (node_moves c.args.nodes.now) c.args.byte (get_or c.args.tokens.now c.loop-task.cursor Fork) (Front (Old c.saturating_sub.result)) (length c.args.tokens.now) c.loop-task.cursor (6 * unseen c.loop-task.marks) c.pop.new.self.items c.push-then-cursor-tokens-2.new.self.items c.take_token-then-cursor-tokens-2.new.tasks.items c.if-cursor-tokens-2.true c.in_ok-push-in-OldEdge.ensures.items c.in_ok-take_token-in-OldEdge.ensures.tasks in
    omega (arith, less, one_off top, c.take_token-then-cursor-tokens-2.new.tasks.ok.0)

pub loop-task-preserved-then-cursor-tokens-2 : goal.loop-task-preserved-then-cursor-tokens-2
loop-task-preserved-then-cursor-tokens-2 c =
    let top = (goal.at.loop-task-preserved-then-cursor-tokens-2 c).In-Some in
    let pushed : c.push-then-cursor-tokens-2.new.self.items ≡ c.pop.new.self.items ++ Front (Old (c.loop-task.cursor - 1)) ∷ [] = c.in_ok-push-in-OldEdge.ensures.items ∙ ap (λ z. c.pop.new.self.items ++ Front (Old z) ∷ []) c.saturating_sub.ensures in
    record {
      long = c.loop-task.invariant.long;
      within = omega arith;
      each_task = subst (λ z. EachTask (length c.args.nodes.now) z) (sym c.in_ok-take_token-in-OldEdge.ensures.tasks) (each_append (length c.args.nodes.now) _ _ (subst (λ z. EachTask (length c.args.nodes.now) z) (sym pushed) (each_append (length c.args.nodes.now) c.pop.new.self.items (Front (Old (c.loop-task.cursor - 1)) ∷ []) (tasks_left top) (λ x i. one_task (length c.args.nodes.now) (Front (Old (c.loop-task.cursor - 1))) x tt i))) (token_below c.args.nodes.now c.args.byte _ c.requires.range (tip_at (length c.args.nodes.now) c.args.tokens.now c.loop-task.cursor c.requires.tips c.if-cursor-tokens-2.true)));
      keeps = λ j w t. keeps_token (node_moves c.args.nodes.now) c.args.byte (length c.args.nodes.now) c.args.tokens.now (j ∷ []) c.loop-task.cursor c.loop-task.marks c.push-then-cursor-tokens-2.new.self.items c.take_token-then-cursor-tokens-2.new.tasks.items c.loop-task.forest c.take_token-then-cursor-tokens-2.new.forest c.if-cursor-tokens-2.true c.in_ok-take_token-in-OldEdge.ensures.tasks c.in_ok-take_token-in-OldEdge.ensures.trees (keeps_edge (node_moves c.args.nodes.now) c.args.byte (length c.args.nodes.now) c.args.tokens.now (j ∷ []) c.loop-task.cursor c.loop-task.marks c.pop.new.self.items c.push-then-cursor-tokens-2.new.self.items c.loop-task.forest pushed (kept top j w t OldEdge c.in-OldEdge.is));
    }

pub loop-task-preserved-else-cursor-tokens-2 : goal.loop-task-preserved-else-cursor-tokens-2
loop-task-preserved-else-cursor-tokens-2 c =
    let top = (goal.at.loop-task-preserved-else-cursor-tokens-2 c).In-Some in
    record {
      long = c.loop-task.invariant.long;
      within = c.loop-task.invariant.within;
      each_task = tasks_left top;
      keeps = λ j w t. keeps_no_text (node_moves c.args.nodes.now) c.args.byte (length c.args.nodes.now) c.args.tokens.now (j ∷ []) c.loop-task.cursor c.loop-task.marks (c.pop.new.self.items ++ Front (Old (c.loop-task.cursor - 1)) ∷ []) c.pop.new.self.items c.loop-task.forest c.loop-task.forest c.if-cursor-tokens-2.false (keeps_edge (node_moves c.args.nodes.now) c.args.byte (length c.args.nodes.now) c.args.tokens.now (j ∷ []) c.loop-task.cursor c.loop-task.marks c.pop.new.self.items (c.pop.new.self.items ++ Front (Old (c.loop-task.cursor - 1)) ∷ []) c.loop-task.forest refl (kept top j w t OldEdge c.in-OldEdge.is));
    }

pub returns-clause-done : goal.returns-clause-done
returns-clause-done c =
    let none : c.pop.new.self.items ≡ [] = empty_list c.pop.new.self.items (omega (arith, ap length c.in_default.ensures.items, length-append c.pop.new.self.items [], ap length c.in_default.ensures.rest, length-take (vec_len c.loop-task.tasks - 1) c.loop-task.tasks.items, c.loop-task.tasks.ok.0)) in
    λ j w t. keeps_end (node_moves c.args.nodes.now) c.args.byte (length c.args.nodes.now) c.args.tokens.now (j ∷ []) c.loop-task.cursor c.loop-task.marks c.loop-task.tasks.items c.loop-task.forest (c.in_default.ensures.items ∙ append-nil c.pop.new.self.items ∙ none) (c.loop-task.invariant.keeps j w t)
