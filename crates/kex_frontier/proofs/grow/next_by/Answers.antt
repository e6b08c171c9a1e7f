use Rattle.std.proofs.Common.{Some, ap, sym, subst, ◌∙◌}
use Rattle.kex_model.specs.Moves.{Allows, reads, took}
use Rattle.kex_machine.specs.Nodes.{move_of}
use Rattle.kex_frontier.proofs.grow.next_by.Goals as goal

pub returns-then-has : goal.returns-then-has
returns-then-has c = subst (λ m. Allows m (took c.args.byte c.in-Read.next)) (sym (c.node_at.ensures ∙ ap (λ z. move_of (Some z)) c.in-Read.is)) (reads (sym c.has.ensures ∙ c.if-has.true))
