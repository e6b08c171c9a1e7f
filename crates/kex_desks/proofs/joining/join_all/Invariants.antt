use Rattle.std.proofs.Common.{◌≡◌, ◌≤◌, ◌+◌, length, take}
use Rattle.std.specs.Prelude.{IsTrue, All}
use Rattle.kex_desks.specs.Drafts.{GoesOver}
use Rattle.kex_desks.proofs.joining.join_all.Given as goal

abbrev pub invariant-loop-k : goal.invariant-loop-k
invariant-loop-k g l =
    let w = g.W.Worker in
    record {
      at : l.at ≤ length l.piece;
      went : GoesOver (w.follows l.fn.worker) (w.follows l.worker) (take l.at l.piece) l.fn.out.items l.out.items;
      ready : IsTrue (w.is_ready l.worker);
      counted : w.counted l.worker ≤ w.counted l.fn.worker + l.at;
      machine : w.machine l.worker ≡ w.machine l.fn.worker;
      desks : All (λ d. w.machine d ≡ w.machine l.fn.worker) l.desks;
      number : length l.desks ≡ length l.fn.desks;
    }
