use Rattle.std.proofs.Common.{[], ◌∷◌, ◌++◌, reverse, ap, ◌∙◌, sym}
use Rattle.std.proofs.lemmas.List.{reverse-append}
use Rattle.kex_frontier.proofs.Forests.{put_root, has_root}
use Rattle.kex_frontier.proofs.forest.CodeForest.put_symbol.Goals as goal

pub returns-in-Some : goal.returns-in-Some
returns-in-Some c = put_root reverse (c.args.symbol ∷ []) c.push.new.self.items c.in-Some.edge.at c.in-Some.edge.label.items c.args.self.now c.pop_edge.new.self c.push_edge.new.self (sym c.if-is_last_there.ensures) c.in-Some.ensures.edges c.in-Some.ensures.same (λ d e. reverse-append (c.args.symbol ∷ []) d ∙ ap (λ z. z ++ c.args.symbol ∷ []) e ∙ sym c.in_ok-push.ensures.items) c.in_ok-push_edge.ensures.edges c.in_ok-push_edge.ensures.same

pub returns-in_default : goal.returns-in_default
returns-in_default c = λ rs has. absurd (has_root reverse c.args.self.now (sym c.if-is_last_there.ensures) c.in_default.ensures.none rs has)
