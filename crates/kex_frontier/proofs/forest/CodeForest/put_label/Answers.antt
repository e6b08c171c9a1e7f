use Rattle.std.proofs.Common.{◌++◌, ap, ◌∙◌, sym, subst}
use Rattle.kex_frontier.specs.Edges.{as_is, HasCodeTrees, with_front}
use Rattle.kex_frontier.proofs.Forests.{put_root, has_root, not_fronted}
use Rattle.kex_frontier.proofs.forest.CodeForest.put_label.Goals.{then-is_last_there+in_default, else-is_last_there}
use Rattle.kex_frontier.proofs.forest.CodeForest.put_label.Goals as goal

pub returns-in-Some : goal.returns-in-Some
returns-in-Some c = put_root as_is c.args.label.items c.extend_from_slice.new.self.items c.in-Some.edge.at c.in-Some.edge.label.items c.args.self.now c.pop_edge.new.self c.push_edge.new.self (sym c.if-is_last_there.ensures) c.in-Some.ensures.edges c.in-Some.ensures.same (λ d e. ap (λ z. c.args.label.items ++ z) (e ∙ sym c.deref.ensures.value) ∙ sym c.in_ok-extend_from_slice.ensures.items) c.in_ok-push_edge.ensures.edges c.in_ok-push_edge.ensures.same

pub returns : goal.returns
returns c = λ rs has. elim c.if-is_last_there.branch [
  | then-is_last_there+in_default w ↦ absurd (has_root as_is c.args.self.now (sym w.if-is_last_there.ensures) w.in_default.ensures.none rs has)
  | else-is_last_there w ↦ subst (λ z. HasCodeTrees as_is z (with_front c.args.label.items rs)) (sym w.self-is) (not_fronted as_is c.args.label.items c.args.self.now (sym w.if-is_last_there.ensures) rs has)
]
