use Rattle.std.proofs.Common.{◌≡◌, ◌+◌, true, false, take}
use Rattle.kex_code.specs.Readers.{ReadOn}
use Rattle.kex_code.proofs.reader.CodeReader.feed.Given as goal

abbrev pub invariant-loop-byte : goal.invariant-loop-byte
invariant-loop-byte l = record {
  read : ReadOn l.fn.self l.self (take l.byte-index l.piece) l.fn.out l.out;
  good : l.self.bad ≡ false;
  count : l.self.good ≡ l.fn.self.good + l.byte-index;
  usable : l.self.usable ≡ true;
}
