use Rattle.std.proofs.Common.{[], ◌∷◌, None, ap, sym, subst, ◌∙◌}
use Rattle.kex_code.specs.declared.symbol.Symbol.TheVariants.{Byte}
use Rattle.kex_model.specs.Labelled.{with_prefix}
use Rattle.kex_frontier.specs.Edges.{HasCodeTrees, as_is}
use Rattle.kex_machine.specs.Advancing.{dies, reads_on}
use Rattle.kex_frontier.proofs.AdvanceLoop.{behind_two}
use Rattle.kex_frontier.proofs.grow.advance_tip.Goals as goal

pub returns-in-Some-clause-tree : goal.returns-in-Some-clause-tree
returns-in-Some-clause-tree c =
    let w = c.in_ok-walk.ensures.tree in (
      with_prefix (Byte c.args.byte ∷ []) w.0,
      reads_on c.in-Some.ensures w.2,
      (λ rs has. subst (λ z. HasCodeTrees as_is c.graft.new.self (z ∷ rs)) (ap (λ z. with_prefix z w.0) c.in_ok-push.ensures.items ∙ sym (behind_two c.args.label.items (Byte c.args.byte ∷ []) w.0)) (c.in_ok-graft.ensures w.0 rs w.1 has)),
    )

pub returns-clause-tree : goal.returns-clause-tree
returns-clause-tree c = (None, dies c.in_default.ensures, (λ rs has. c.in_ok-add_none.ensures as_is rs has))
