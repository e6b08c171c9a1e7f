use Rattle.std.proofs.Common.{rules, refl, ◌∙◌}
use Rattle.kex_pipeline.proofs.RingRounds.{none-given, rest-settled, round-made, settled-off}
use Rattle.kex_pipeline.proofs.rings.work_off.Goals as goal

pub returns-then-settled-clause-works : goal.returns-then-settled-clause-works
returns-then-settled-clause-works g c = λ ps h taken s. settled-off g.T.Turn ps h taken c.args.pipe.now s ((c.settled.ensures.settled ps h taken s).0 (search rules))

pub rounds-init : goal.rounds-init
rounds-init g c = record { given = λ ps h taken s. none-given g.T.Turn ps h taken c.args.pipe.now s; ended = refl; going = c.requires }

pub rounds-preserved : goal.rounds-preserved
rounds-preserved g c = record {
  given = λ ps h taken s.
      round-made g.T.Turn ps h taken c.rounds.pipe c.ring_round.new.pipe (c.rounds.invariant.given ps h taken s) c.ring_round.new.counts.items (λ k st. c.in_ok-ring_round.ensures.stands ps k taken st);
  ended = c.ring_round.ensures.ended ∙ c.rounds.invariant.ended;
  going = search rules;
}

pub returns-clause-works : goal.returns-clause-works
returns-clause-works g c = λ ps h taken s. rest-settled g.T.Turn ps h taken c.rounds.pipe c.settle.new.self (c.rounds.invariant.given ps h taken s) (λ k st. c.in_ok-settle.ensures.works ps k taken st)
