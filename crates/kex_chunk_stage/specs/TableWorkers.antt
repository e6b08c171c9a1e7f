-- A worker that goes by a table.
use Rattle.kex_machine.specs.Nodes.{Graph}
use Rattle.kex_sst.specs.Tables.{Transducer}
use Rattle.kex_action.specs.Actors.{Position}
use Rattle.kex_pipe.specs.Working.{BoundedPlan}
use Rattle.kex_stage.specs.declared.follower.Follower.{Follower}
use Rattle.kex_plan.specs.declared.plan.Telling.{Telling}
use Rattle.kex_plan.specs.Plans.{Teller, teller}
use Rattle.kex_stage.specs.Stages.{StagePlan}

-- a machine, a table of it, and what that passes on
pub record TablePlan : Type 0 where
  pub machine : Graph
  pub table : Transducer
  pub telling : Telling

-- what goes along the table, where the actor is, and by what it tells
pub record TableState : Type 0 where
  pub follower : Follower
  pub actor : Position
  pub telling : Telling

abbrev pub table_plan_of : TableState → TablePlan
table_plan_of s = record {
  machine = s.actor.machine;
  table = s.follower.runner.table;
  telling = s.telling;
}

-- by what a stage works that works so
abbrev pub teller_by : TablePlan → Teller
teller_by p = teller p.telling p.machine

-- the plan of a stage that works by a table
abbrev pub stage_plan : BoundedPlan TablePlan → StagePlan
stage_plan p = record { machine = teller_by p.machine; limit = p.limit }
