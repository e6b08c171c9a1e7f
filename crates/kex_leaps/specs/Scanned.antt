-- What is to be done for a leap.
use Rattle.std.specs.Prelude.{List}
use Rattle.kex_machine.specs.Nodes.{Graph}
use Rattle.kex_sst.specs.Tables.{Transducer}
use Rattle.kex_leaps.specs.declared.act.LeapAct.{LeapAct}

-- a table and a machine, and what was gone along last does
pub record Scanned : Type 0 where
  pub table : Transducer
  pub machine : Graph
  pub acts : List LeapAct
