use Rattle.std.proofs.Common.{◌∷◌, ap, ◌∙◌}
use Rattle.std.proofs.lemmas.Result.{on_ok_weaker}
use Rattle.kex_frontier.proofs.Forests.{grafted}
use Rattle.kex_frontier.proofs.forest.CodeForest.graft.Goals as goal

pub returns : goal.returns
returns c = on_ok_weaker c.put_label.result (λ done a rs p q. done (a ∷ rs) (grafted c.args.fresh.now c.args.self.now c.move_turned.new.self c.push_there.new.self c.in_ok-move_turned.ensures.edges c.in_ok-move_turned.ensures.same c.in_ok-push_there.ensures.same (c.in_ok-push_there.ensures.there ∙ ap (λ z. z ∷ c.move_turned.new.self.there) c.is_last_there-there.ensures) a rs p q)) c.put_label.ensures
