use Rattle.std.proofs.Common.{◌+◌, ◌++◌, ap, ◌∙◌}
use Rattle.kex_stage.proofs.ByPaths.{paths_tell}
use Rattle.kex_stage.proofs.paths.Paths.hear.Goals as goal

pub returns-clause-tells : goal.returns-clause-tells
returns-clause-tells c =
    paths_tell c.args.self.now.frontier c.follow.new.frontier c.take_code-told.new.self c.args.self.now.read (c.args.self.now.read + c.in_ok-count.count) c.args.piece.now c.in_ok-count.count c.take_code-told.result c.args.code.now c.append.new.self
    c.in_ok-count.ensures.machine (ap (λ z. z.machine) c.take_code-told.ensures.after) (c.in_ok-append.ensures.added ∙ ap (λ z. c.args.code.now ++ z) c.as_slice.ensures) c.in_ok-count.ensures.within c.in_ok-count.ensures.reads c.take_code-told.ensures.fed
