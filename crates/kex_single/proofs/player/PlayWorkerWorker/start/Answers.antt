use Rattle.std.proofs.Common.{[], refl, sym, ap, subst}
use Rattle.kex_code.specs.Readers.{CodeReading}
use Rattle.kex_action.specs.Actors.{BeginsRun}
use Rattle.kex_model.specs.Moves.{code_of}
use Rattle.kex_single.proofs.player.PlayWorkerWorker.start.Goals as goal

pub returns-clause-follows : goal.returns-clause-follows
returns-clause-follows c =
    let leads = c.nodes-nodes.ensures.trimmed.ends c.args.basis.now.start c.nodes-nodes.ensures.in_range.start_in in
    let begins : BeginsRun c.args.basis.now [] = (leads.0, (leads.1, leads.2, leads.3), (code_of leads.0, refl)) in
    record {
      code = [];
      spelt = c.new-2.ensures.begins;
      good = ap (λ (r : CodeReading). r.bad) c.new-2.ensures.usable;
      performed = c.in_ok-actor.ensures.begins;
      begins = subst (λ g. BeginsRun g []) (sym c.in_ok-actor.ensures.machine) begins;
      long = refl;
    }
