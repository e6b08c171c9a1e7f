use Rattle.std.proofs.Common.{◌≡◌, ◌≤◌, ◌==◌, take, count_by}
use Rattle.kex_tokens.specs.Bytes.{line_feed}
use Rattle.kex_tabfile.proofs.reader.count_line_feeds.Given as goal

abbrev pub invariant-loop-byte : goal.invariant-loop-byte
invariant-loop-byte l = (l.count ≡ count_by (λ b. b == line_feed) (take l.byte-index l.bytes)) × (l.count ≤ l.byte-index)
