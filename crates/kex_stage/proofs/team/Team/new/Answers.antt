use Rattle.std.proofs.Common.{◌≡◌, [], refl, sym, subst, ◌∙◌}
use Rattle.kex_machine.specs.Answers.{IsViableFor}
use Rattle.kex_stage.specs.Oracles.{Hears}
use Rattle.kex_stage.proofs.team.Team.new.Goals as goal

pub returns-clause-follows : goal.returns-clause-follows
returns-clause-follows c =
    let same : c.args.plan.now.machine ≡ c.in_ok-actor.actor.machine = sym (c.in_ok-actor.ensures.machine ∙ c.machine.ensures.same) in
    record {
      followed = record {
        code = [];
        hears = subst (λ g. Hears c.telling.result g c.in_ok-oracle.oracle [] []) same (subst (λ k. Hears k c.args.plan.now.machine c.in_ok-oracle.oracle [] []) (sym c.telling.ensures) c.in_ok-oracle.ensures.hears);
        performed = c.in_ok-actor.ensures.begins;
        machine = refl;
      };
      count = c.in_ok-oracle.ensures.ready.1;
      good = subst (λ g. IsViableFor g []) same c.in_ok-oracle.ensures.good;
    }
