-- What writes that came to nothing leave.
use Rattle.std.specs.Io.KnownBytes.{Keeps}
use Rattle.kex.proofs.ready.write_once.Given as goal

abbrev pub invariant-loop-try : goal.invariant-loop-try
invariant-loop-try g l = Keeps (g.W.Write.contents l.initial.writer) (g.W.Write.contents l.writer)
