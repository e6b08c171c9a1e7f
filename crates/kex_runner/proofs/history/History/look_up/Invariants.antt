use Rattle.std.proofs.Common.{◌≡◌, ◌++◌, [], None, length}
use Rattle.kex_runner.specs.Noting.{settled_of, spelled_back, updates_of}
use Rattle.kex_runner.specs.Looking.{AreNoted, codes_of, if_some, weight_of}
use Rattle.kex_runner.proofs.history.History.look_up.Given as goal

-- what is unread, and what was read, spell the whole
abbrev pub invariant-loop-next : goal.invariant-loop-next
invariant-loop-next l = record {
  text : codes_of l.self.script.now (settled_of l.self.script.now l.self.base.now) (updates_of l.self.script.now l.self.notes.now) (l.reading.pending.items ++ if_some l.next) ++ spelled_back l.self.script.now.words l.reading.back.items ≡ codes_of l.self.script.now (settled_of l.self.script.now l.self.base.now) (updates_of l.self.script.now l.self.notes.now) (if_some l.fn.first) ++ spelled_back l.self.script.now.words l.initial.reading.back.items;
  noted : AreNoted (length (updates_of l.self.script.now l.self.notes.now)) (l.reading.pending.items ++ if_some l.next);
  none : l.next ≡ None → l.reading.pending.items ≡ [];
}

abbrev pub decreases-loop-next : goal.decreases-loop-next
decreases-loop-next l = weight_of l.self.script.now (updates_of l.self.script.now l.self.notes.now) (l.reading.pending.items ++ if_some l.next)
