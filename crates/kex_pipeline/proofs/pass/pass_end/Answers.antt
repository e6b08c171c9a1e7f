use Rattle.std.proofs.Common.{[]}
use Rattle.std.proofs.lemmas.Result.{err_from_is_err_and}
use Rattle.kex_ports.proofs.Known.{append-nil, appends-nothing}
use Rattle.kex_pipeline.specs.History.{bytes_passed, history_text}
use Rattle.kex_pipeline.proofs.BlockFronts.{said-open}
use Rattle.kex_pipeline.proofs.pass.pass_end.Goals as goal

pub returns-in_err-fate-clause-trouble : goal.returns-in_err-fate-clause-trouble
returns-in_err-fate-clause-trouble g c =
    let r = err_from_is_err_and c.from_residual.result c.from_residual.ensures.1 in
    rw (r.1, r.2) (λ h s is_open. record {
      now = h;
      rest = [];
      cut = append-nil (bytes_passed h);
      is_said = said-open g.T.Turn c.args.pipe.now h s is_open;
      added = [];
      whole = append-nil (history_text h);
      appended = appends-nothing _;
    })
