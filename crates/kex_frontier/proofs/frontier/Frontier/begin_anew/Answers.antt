use Rattle.std.proofs.Common.{[], sym, subst}
use Rattle.kex_frontier.specs.Frontiers.{IsFed}
use Rattle.kex_frontier.proofs.frontier.Frontier.begin_anew.Goals as goal

pub returns-clause-begins : goal.returns-clause-begins
returns-clause-begins c = subst (λ z. IsFed z [] []) (sym c.drop.view_is) c.in_ok-fresh.ensures.begins
