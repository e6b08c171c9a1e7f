use Rattle.std.proofs.Common.{rules, ◌≡◌, sym, subst}
use Rattle.std.specs.Prelude.{All}
use Rattle.std.proofs.lemmas.List.Elements.{All-push}
use Rattle.kex_desks.proofs.chunk_worker.desks_of.Goals as goal

pub loop-preserved : goal.loop-preserved
loop-preserved g c =
    let w = g.W.Worker in
    let i = c.loop.invariant in
    record {
      same = subst (λ ds. All (λ d. w.machine d ≡ w.machine c.args.worker.now) ds) (sym c.in_ok-push.ensures.items) (All-push (λ d. w.machine d ≡ w.machine c.args.worker.now) c.loop.desks.items _ i.same c.in_ok-desk.ensures);
      number = search rules;
    }
