use Rattle.std.proofs.Common.{◌≡◌, ◌<◌, Some, length, take}
use Rattle.std.specs.Prelude.{slice_get}
use Rattle.kex_sst.specs.declared.summary.Course.TheVariants.{Goes}
use Rattle.kex_sst.specs.Tables.{Row}
use Rattle.kex_sst.specs.Series.{identity}
use Rattle.kex_sst.specs.Summaries.{course_along}
use Rattle.kex_chunks.proofs.stretches.go_along.Given as goal

abbrev pub invariant-loop-i : goal.invariant-loop-i
invariant-loop-i l = record {
  now : l.now < length l.table.states;
  course : (row : Row) → slice_get l.table.states l.state ≡ Some row → course_along l.table 0 (Goes l.state (identity row.registers)) (take l.i l.text) ≡ Goes l.now l.draft;
}
