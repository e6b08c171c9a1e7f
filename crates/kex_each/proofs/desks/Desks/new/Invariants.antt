use Rattle.std.proofs.Common.{◌≡◌, [], vec_len}
use Rattle.kex_each.specs.Answers.{plans_within}
use Rattle.kex_each.specs.Desks.{HavePlans, answers_of}
use Rattle.kex_each.proofs.desks.Desks.new.Given as goal

abbrev pub invariant-desks : goal.invariant-desks
invariant-desks l = record {
  plans : HavePlans (plans_within l.max_input l.plans) l.desks.items;
  none : answers_of l.desks.items ≡ [];
  long : vec_len l.desks ≡ l._desk;
}
