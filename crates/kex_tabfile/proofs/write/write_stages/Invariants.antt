use Rattle.std.proofs.Common.{◌≡◌, ℕ, ◌++◌, List, map, take}
use Rattle.kex_plan.specs.Plans.{machine_of}
use Rattle.kex_tabfile.specs.TableFiles.{AreStageTexts, goes_in}
use Rattle.kex_tabfile.proofs.write.write_stages.Given as goal

abbrev pub invariant-plans : goal.invariant-plans
invariant-plans l = (lines : List ℕ) × (l.out.items ≡ l.fn.out.items ++ lines) × AreStageTexts 1 (map machine_of (take l.i l.stages)) (map goes_in (take l.i l.stages)) lines
