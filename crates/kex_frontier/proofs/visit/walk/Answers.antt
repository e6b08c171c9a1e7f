use Rattle.std.proofs.Common.{◌≡◌, ◌∷◌, [], ◌++◌, ◌<◌, length, get_or, false, refl, ap, ◌∙◌, length-set, arith}
use Rattle.kex_machine.specs.Nodes.{node_moves}
use Rattle.kex_model.proofs.OpenAnswers.{empty_list}
use Rattle.kex_frontier.specs.declared.visit.VisitTask.TheVariants.{Visit, Front, Merge}
use Rattle.kex_frontier.proofs.VisitLoop.{keeps_front, keeps_merge, keeps_meet, keeps_end, tasks_left, task_last, tasks_met, falls_meet}
use Rattle.kex_frontier.proofs.visit.walk.Goals.{In-Visit}
use Rattle.kex_frontier.proofs.visit.walk.Goals as goal

-- the place that is to be visited was on top
on_top : (c : In-Visit) → c.loop-task.tasks.items ≡ c.pop.new.self.items ++ Visit c.in-Visit.n ∷ []
on_top c = c.in-Some.ensures.items ∙ ap (λ z. c.pop.new.self.items ++ z ∷ []) c.in-Visit.is

within : (c : In-Visit) → c.in-Visit.n < length c.args.nodes.now
within c = task_last (length c.args.nodes.now) c.loop-task.tasks.items c.pop.new.self.items (Visit c.in-Visit.n) (on_top c) c.loop-task.invariant.each_task

pub meet-requires-clause-below : goal.meet-requires-clause-below
meet-requires-clause-below c = within (goal.at.meet-requires-clause-below c).In-Visit

pub loop-task-smaller-in-Continue-branch-2 : goal.loop-task-smaller-in-Continue-branch-2
loop-task-smaller-in-Continue-branch-2 c =
    let top = (goal.at.loop-task-smaller-in-Continue-branch-2 c).In-Visit in
    let in_range = within top in
    let less = falls_meet c.loop-task.marks c.meet.new.marks c.in-Visit.n (node_moves c.args.nodes.now c.in-Visit.n) c.loop-task.tasks.items c.pop.new.self.items c.meet.new.tasks.items (Visit c.in-Visit.n) (on_top top) (omega (arith, in_range, c.loop-task.invariant.long)) c.in_ok-meet-in-Visit.ensures.marks c.in_ok-meet-in-Visit.ensures.tasks in
    omega (arith, less, c.loop-task.tasks.ok.0, c.meet.new.tasks.ok.0)

pub loop-task-preserved-in-Continue-branch-2 : goal.loop-task-preserved-in-Continue-branch-2
loop-task-preserved-in-Continue-branch-2 c =
    let top = (goal.at.loop-task-preserved-in-Continue-branch-2 c).In-Visit in
    let in_range = within top in
    record {
      long = ap length c.in_ok-meet-in-Visit.ensures.marks ∙ length-set _ _ _ ∙ c.loop-task.invariant.long;
      each_task = tasks_met c.args.nodes.now (get_or c.loop-task.marks c.in-Visit.n false) c.in-Visit.n c.loop-task.tasks.items c.pop.new.self.items c.meet.new.tasks.items (Visit c.in-Visit.n) (on_top top) c.in_ok-meet-in-Visit.ensures.tasks c.requires.range in_range c.loop-task.invariant.each_task;
      keeps = keeps_meet (node_moves c.args.nodes.now) c.args.first c.args.tools.now.marks c.loop-task.marks c.meet.new.marks c.in-Visit.n c.loop-task.tasks.items c.pop.new.self.items c.meet.new.tasks.items c.loop-task.fresh c.meet.new.fresh (on_top top) (omega (arith, in_range, c.loop-task.invariant.long)) c.in_ok-meet-in-Visit.ensures.marks c.in_ok-meet-in-Visit.ensures.tasks c.in_ok-meet-in-Visit.ensures.trees c.loop-task.invariant.keeps;
    }

pub loop-task-preserved-in-Continue-branch-3 : goal.loop-task-preserved-in-Continue-branch-3
loop-task-preserved-in-Continue-branch-3 c =
    let top : c.loop-task.tasks.items ≡ c.pop.new.self.items ++ Front c.in-Front.symbol ∷ [] = c.in-Some.ensures.items ∙ ap (λ z. c.pop.new.self.items ++ z ∷ []) c.in-Front.is in
    record {
      long = c.loop-task.invariant.long;
      each_task = tasks_left (length c.args.nodes.now) c.loop-task.tasks.items c.pop.new.self.items (Front c.in-Front.symbol) top c.loop-task.invariant.each_task;
      keeps = keeps_front (node_moves c.args.nodes.now) c.args.first c.args.tools.now.marks c.loop-task.marks c.loop-task.tasks.items c.pop.new.self.items c.in-Front.symbol c.loop-task.fresh c.put_symbol.new.self top c.in_ok-put_symbol-in-Front.ensures c.loop-task.invariant.keeps;
    }

pub loop-task-preserved : goal.loop-task-preserved
loop-task-preserved c =
    let top : c.loop-task.tasks.items ≡ c.pop.new.self.items ++ Merge ∷ [] = c.in-Some.ensures.items ∙ ap (λ z. c.pop.new.self.items ++ z ∷ []) c.in-Merge.is in
    record {
      long = c.loop-task.invariant.long;
      each_task = tasks_left (length c.args.nodes.now) c.loop-task.tasks.items c.pop.new.self.items Merge top c.loop-task.invariant.each_task;
      keeps = keeps_merge (node_moves c.args.nodes.now) c.args.first c.args.tools.now.marks c.loop-task.marks c.loop-task.tasks.items c.pop.new.self.items c.loop-task.fresh c.merge.new.self top (λ rs has. c.in_ok-merge-in-Merge.ensures _ rs refl has) c.loop-task.invariant.keeps;
    }

pub returns-clause-tree : goal.returns-clause-tree
returns-clause-tree c =
    let none : c.loop-task.tasks.items ≡ [] = empty_list c.loop-task.tasks.items (omega (arith, c.in_default.ensures.cases.0, c.loop-task.tasks.ok.0)) in
    keeps_end (node_moves c.args.nodes.now) c.args.first c.args.tools.now.marks c.loop-task.marks c.loop-task.tasks.items c.loop-task.fresh none c.loop-task.invariant.keeps
