use Rattle.std.proofs.Common.{◌≡◌}
use Rattle.kex_pipe.specs.Reports.{report_as}
use Rattle.kex_each.specs.Chains.{chain_plans}
use Rattle.kex_each.proofs.ChainAnswers.{AnsweredSoFar}
use Rattle.kex_each.proofs.clerk.answer_in_turn.Given as goal

abbrev pub invariant-stages : goal.invariant-stages
invariant-stages l = record {
  same : chain_plans l.stages ≡ chain_plans l.fn.stages;
  so_far : AnsweredSoFar l.i (chain_plans l.fn.stages) l.fn.text.items l.text.items l.ended (report_as l.report);
}
