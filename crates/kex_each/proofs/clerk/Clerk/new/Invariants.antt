use Rattle.std.proofs.Common.{◌≡◌, take, vec_len}
use Rattle.kex_each.specs.Answers.{plans_within}
use Rattle.kex_each.specs.Chains.{chain_plans}
use Rattle.kex_each.proofs.clerk.Clerk.new.Given as goal

abbrev pub invariant-plans : goal.invariant-plans
invariant-plans l = record {
  plans : chain_plans l.stages.items ≡ plans_within l.max_input (take l.plan-index l.plans);
  long : vec_len l.stages ≡ l.plan-index;
}
