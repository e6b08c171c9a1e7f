use Rattle.std.proofs.Common.{◌-◌, take, arith}
use Rattle.kex_runner.specs.Noting.{registers_after, settled_of, spelled_back, updates_of}
use Rattle.kex_runner.proofs.WayLemmas.{way_next}
use Rattle.kex_runner.proofs.history.History.read_way.Goals as goal

pub loop-left-preserved : goal.loop-left-preserved
loop-left-preserved c =
    let s = c.args.self.now.script.now in
    let regs = registers_after (settled_of s c.args.self.now.base.now) (take c.args.after (updates_of s c.args.self.now.notes.now)) in
    record {
      within = omega (arith, c.loop-left.invariant.within);
      read = way_next regs c.args.way.now (c.loop-left.left - 1) c.loop-left.left _ (spelled_back s.words c.read_old.new.reading.back.items) (spelled_back s.words c.loop-left.reading.back.items) (spelled_back s.words c.args.reading.now.back.items) (omega (arith, c.loop-left-test.true)) c.loop-left.invariant.within c.requires.olds c.in_ok-read_old.ensures c.loop-left.invariant.read;
    }
