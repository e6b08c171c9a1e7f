use Rattle.std.proofs.Common.{sym, ap, subst}
use Rattle.kex_each.specs.Desks.{DeskState}
use Rattle.kex_each.specs.Pieces.{IsEnough}
use Rattle.kex_each.proofs.KeptLines.{enough_kept}
use Rattle.kex_each.proofs.line_answers.LineAnswers.new.Goals as goal

pub invariant_of-result : goal.invariant_of-result
invariant_of-result c =
    subst (λ z. IsEnough c.new.result.keep z) (sym (ap (λ (z : DeskState). z.plans) c.in_ok-new.ensures))
    (enough_kept c.new.result.keep c.args.max_input c.args.plans.now c.requires.some c.new.ensures.keep)
