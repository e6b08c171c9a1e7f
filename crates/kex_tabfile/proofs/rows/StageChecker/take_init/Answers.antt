use Rattle.std.proofs.Common.{◌≡◌, ◌++◌, [], refl, ap, sym, subst, ◌∙◌}
use Rattle.kex_code.specs.Codes.{Begins}
use Rattle.kex_tabfile.specs.Lines.{init_line}
use Rattle.kex_tabfile.specs.Readers.{ReadsBytes}
use Rattle.kex_tabfile.specs.Walks.{at_init, at_class, right_init}
use Rattle.kex_tabfile.specs.Checking.{BreaksReading}
use Rattle.kex_tabfile.proofs.ResultParts.{on_ok, err_as}
use Rattle.kex_tabfile.proofs.LineSteps.{checks_line}
use Rattle.kex_tabfile.proofs.StuckLines.{breaks_init}
use Rattle.kex_tabfile.proofs.rows.StageChecker.take_init.Goals as goal

pub returns-clause-right : goal.returns-clause-right
returns-clause-right c =
    let line : c.deref.result.now ≡ init_line c.args.initial.now = c.deref.ensures.value ∙ c.in_ok-push_init_line.ensures ∙ ap (λ z. z ++ init_line c.args.initial.now) c.clear.ensures.items in
    on_ok c.take.result _ _ (λ h told s. checks_line c.args.self.now.machine.now c.args.self.now.numbers.items c.args.self.now.partition.now c.args.reader.now c.take.new.self (at_init told s) (at_class told s []) (init_line c.args.initial.now) (subst (λ z. ReadsBytes c.args.reader.now z c.take.new.self) line h) (right_init c.args.initial.now c.requires.0 c.requires.1 c.requires.2)) c.take.ensures.read

pub returns-clause-bad : goal.returns-clause-bad
returns-clause-bad c =
    let line : c.deref.result.now ≡ init_line c.args.initial.now = c.deref.ensures.value ∙ c.in_ok-push_init_line.ensures ∙ ap (λ z. z ++ init_line c.args.initial.now) c.clear.ensures.items in
    err_as c.take.result _ _ (λ e h told s. subst (λ z. BreaksReading c.args.self.now.machine.now c.args.self.now.numbers.items c.args.self.now.partition.now c.args.reader.now (at_init told s) z) (sym h.0) (breaks_init c.args.self.now.machine.now c.args.self.now.numbers.items c.args.self.now.partition.now c.args.reader.now told s c.args.initial.now c.requires (λ b. h.1 (subst (λ z. Begins c.args.reader.now.rest z) (sym line) b)) _ refl)) c.take.ensures.bad
