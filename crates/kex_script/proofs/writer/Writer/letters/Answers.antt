use Rattle.std.proofs.Common.{sym, subst}
use Rattle.kex_script.specs.Scripts.{AreTails}
use Rattle.kex_script.specs.Pages.{Pages}
use Rattle.kex_script.proofs.Pages.{tails_over}
use Rattle.kex_script.proofs.writer.Writer.letters.Goals as goal

pub returns-clause-sound : goal.returns-clause-sound
returns-clause-sound c =
    tails_over c.self.inside.words c.number-3.new.self c.self.inside.lists c.self.inside.tails.items (λ k x e. c.in_ok-number-3.ensures.kept k x (c.in_ok-number-2.ensures.kept k x (c.in_ok-number.ensures.kept k x e)))
    (subst (λ (z : Pages). AreTails z.words z.lists z.tails) (sym c.self.view_is) c.requires.sound)
