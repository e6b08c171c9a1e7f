use Rattle.std.proofs.Common.{◌≡◌, ◌+◌, ◌≤◌, false, length, take, drop}
use Rattle.std.specs.Prelude.{IsTrue}
use Rattle.kex_chunks.specs.Parts.{AreSummaries}
use Rattle.kex_chunks.proofs.Feeds.{HasGone}
use Rattle.kex_chunks.proofs.feeding.apply_all.Given as goal

abbrev pub invariant-parts : goal.invariant-parts
invariant-parts l = record {
  within : l.at ≤ length l.piece;
  rest : AreSummaries l.runner.table (drop l.at l.piece) (drop l.slot-index l.summaries);
  gone : HasGone l.fn.runner l.runner (take l.at l.piece) l.fn.code l.code;
  read : (l.fn.runner.read ≤ l.runner.read) × (l.runner.read ≤ l.fn.runner.read + l.at);
  table : l.runner.table ≡ l.fn.runner.table;
  words : l.runner.words ≡ l.fn.runner.words;
  live : l.runner.dead ≡ false;
  ended : l.runner.ended ≡ false;
  usable : IsTrue l.runner.usable;
}
