use Rattle.std.proofs.Common.{◌≡◌, ◌≤◌, ◌++◌, length, take, drop}
use Rattle.kex_sst.specs.Parts.{parts_code}
use Rattle.kex_runner.specs.Noting.{registers_after, settled_of, spelled_back, updates_of}
use Rattle.kex_runner.proofs.history.History.read_way.Given as goal

abbrev pub invariant-loop-left : goal.invariant-loop-left
invariant-loop-left l = record {
  within : l.left ≤ length l.way;
  read : spelled_back l.self.script.now.words l.reading.back.items ≡ parts_code (registers_after (settled_of l.self.script.now l.self.base.now) (take l.after (updates_of l.self.script.now l.self.notes.now))) 0 (drop l.left l.way) ++ spelled_back l.self.script.now.words l.initial.reading.back.items;
}

abbrev pub decreases-loop-left : goal.decreases-loop-left
decreases-loop-left l = l.left
