use Rattle.std.proofs.Common.{◌≡◌, [], refl, sym, subst, ◌∙◌}
use Rattle.kex_machine.specs.Answers.{IsViableFor}
use Rattle.kex_stage.specs.Oracles.{Hears, IsOracleFor, learnt_of}
use Rattle.kex_stage.proofs.team.Team.begin_anew.Goals as goal

pub invariant_of-self : goal.invariant_of-self
invariant_of-self c =
    let m = c.self.inside.actor.machine in
    (c.begin_anew.ensures.learnt m ∙ c.self.invariant.0, c.begin_anew.ensures.own c.self.inside.telling m c.self.invariant.1)

pub invariant_of-self-2 : goal.invariant_of-self-2
invariant_of-self-2 c =
    let m = c.self.inside.actor.machine in
    let same = sym c.begin_anew-2.ensures.machine in
    let o = c.begin_anew.new.self in
    (subst (λ z. learnt_of o z ≡ z) same (c.begin_anew.ensures.learnt m ∙ c.self.invariant.0), subst (λ z. IsOracleFor c.self.inside.telling z o) same (c.begin_anew.ensures.own c.self.inside.telling m c.self.invariant.1))

pub returns-clause-follows : goal.returns-clause-follows
returns-clause-follows c =
    let m = c.self.inside.actor.machine in
    let same = sym c.begin_anew-2.ensures.machine in
    let h = c.in_ok-begin_anew.ensures.hears c.self.inside.telling m c.self.invariant.1 in
    record {
      followed = record {
        code = [];
        hears = subst (λ z. Hears c.self.inside.telling z c.begin_anew.new.self [] []) same h.0;
        performed = c.begin_anew-2.ensures.begins;
        machine = refl;
      };
      count = c.in_ok-begin_anew.ensures.ready.1;
      good = subst (λ z. IsViableFor z []) same h.1;
    }
