use Rattle.std.proofs.Common.{◌≡◌, ◌++◌, ℕ, List, take, false}
use Rattle.std.specs.Prelude.{IsTrue}
use Rattle.kex_code.specs.declared.symbol.Symbol.{Symbol}
use Rattle.kex_frontier.specs.Frontiers.{IsFed}
use Rattle.kex_machine.specs.Answers.{IsViableFor}
use Rattle.kex_single.proofs.path_codes.read.Given as goal

abbrev pub invariant-loop-i : goal.invariant-loop-i
invariant-loop-i l = record {
  machine : l.oracle.machine ≡ l.fn.oracle.machine;
  usable : IsTrue l.oracle.usable;
  open_ : l.oracle.ended ≡ false;
  fed : (w : List ℕ) (c : List Symbol) → IsFed l.fn.oracle w c → IsViableFor l.fn.oracle.machine w
      → IsFed l.oracle (w ++ take l.i l.piece) c × IsViableFor l.fn.oracle.machine (w ++ take l.i l.piece);
}
