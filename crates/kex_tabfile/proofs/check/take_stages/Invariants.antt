use Rattle.std.proofs.Common.{◌≡◌, ℕ, ◌++◌, List, length, map}
use Rattle.kex_plan.specs.Plans.{AllTell, machine_of}
use Rattle.kex_plan.specs.declared.plan.Telling.TheVariants as telling
use Rattle.kex_tabfile.specs.Readers.{ReadsBytes}
use Rattle.kex_tabfile.specs.TableFiles.{AreStageTexts, EachHasTable, goes_in}
use Rattle.kex_tabfile.proofs.check.take_stages.Given as goal

abbrev pub invariant-machines : goal.invariant-machines
invariant-machines l = record {
  stage : l.stage ≡ length l.yielded;
  split : l.fn.machines.items ≡ l.yielded ++ l.machine-iterator.rest.items;
  made : map machine_of l.plans.items ≡ l.yielded;
  tables : EachHasTable l.plans.items;
  agreed : AllTell telling.Agreed l.plans.items;
  so_far : (bytes : List ℕ) × AreStageTexts 1 l.yielded (map goes_in l.plans.items) bytes × ReadsBytes l.fn.reader bytes l.reader;
}
