use Rattle.std.proofs.Common.{◌≡◌, ◌+◌, ◌-◌, ◌≤◌, [], false, length, take}
use Rattle.std.specs.Prelude.{IsTrue}
use Rattle.kex_stage.specs.declared.oracle.Oracle.TheVariants.{Table}
use Rattle.kex_stage.specs.Works.{StageGoes}
use Rattle.kex_stage.proofs.follower.Follower.go_along.Given as goal

abbrev pub invariant-strides : goal.invariant-strides
invariant-strides l = record {
  at : l.at ≤ length l.piece;
  goes : StageGoes (Table l.fn.self) (Table l.self) l.fn.actor l.actor (take l.at l.piece) l.fn.out.items l.out.items;
  told : l.self.runner.pending ≡ [];
  moves : l.self.moves ≡ l.fn.self.moves;
  machine : l.actor.machine ≡ l.fn.actor.machine;
  usable : IsTrue l.self.runner.usable × IsTrue l.actor.usable;
  open_ : l.self.runner.ended ≡ false;
  read : l.self.runner.read ≡ l.fn.self.runner.read + l.at;
}

abbrev pub decreases-strides : goal.decreases-strides
decreases-strides l = length l.piece - l.at
