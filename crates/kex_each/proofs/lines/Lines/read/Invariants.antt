use Rattle.std.proofs.Common.{◌≡◌, ◌++◌, List, ℕ, length}
use Rattle.kex_each.specs.Lines.{IsBegunBehind, ReadsLines}
use Rattle.kex_each.proofs.lines.Lines.read.Given as goal

abbrev pub invariant-lines : goal.invariant-lines
invariant-lines l = record {
  keep : l.self.keep ≡ l.fn.self.keep;
  front : List ℕ;
  cut : l.fn.piece ≡ front ++ l.rest;
  reads : (w : List ℕ) → IsBegunBehind w l.fn.self → ReadsLines w front l.self l.fn.out l.out;
}

abbrev pub decreases-lines : goal.decreases-lines
decreases-lines l = length l.rest
