use Rattle.kex_pipeline.specs.Piped.{plans_of}
use Rattle.kex_pipeline.proofs.PipeAnswers.{rejected-is}
use Rattle.kex_pipeline.proofs.feed.rejected.Goals as goal

pub returns : goal.returns
returns g c = λ f s. rejected-is g.T.Turn g.met.T.Turn.one c.args.pipe.now f c.report.result (λ k text st done. c.report.ensures.settled (plans_of g.T.Turn c.args.pipe.now) k text st done) s
