use Rattle.std.proofs.Common.{◌++◌, sym, ap, subst, ◌∙◌}
use Rattle.kex_stage.specs.declared.oracle.Oracle.TheVariants.{Paths}
use Rattle.kex_stage.specs.Oracles.{TellsEnd}
use Rattle.kex_stage.proofs.ByPaths.{paths_end}
use Rattle.kex_stage.proofs.paths.Paths.end.Goals as goal

pub returns-clause-tells : goal.returns-clause-tells
returns-clause-tells c =
    subst (λ z. TellsEnd z (Paths c.args.self.now) c.args.code.now c.append.new.self) (sym c.is_parsed.ensures)
    (paths_end c.in_ok-ended.ended c.args.self.now.frontier c.end.new.self c.args.self.now.read c.take_code-told.result c.args.code.now c.append.new.self
    c.in_ok-ended.ensures.machine c.take_code-told.ensures.value (c.in_ok-append.ensures.added ∙ ap (λ z. c.args.code.now ++ z) c.as_slice.ensures) c.in_ok-ended.ensures.over)
