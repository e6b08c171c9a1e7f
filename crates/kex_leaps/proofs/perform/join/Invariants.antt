use Rattle.std.proofs.Common.{◌≤◌, ◌<◌, ◌-◌, length, take}
use Rattle.kex_leaps.specs.declared.act.LeapAct.TheVariants.{Text}
use Rattle.kex_leaps.specs.Leaps.{DoesAll}
use Rattle.kex_leaps.proofs.perform.join.Given as goal

abbrev pub invariant-acts : goal.invariant-acts
invariant-acts l = record {
  does : DoesAll (take l.count l.acts) (Text l.from l.end);
  some : 0 < l.count;
  within : l.count ≤ length l.acts;
}

abbrev pub decreases-acts : goal.decreases-acts
decreases-acts l = length l.acts - l.count
