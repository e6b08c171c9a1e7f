use Rattle.std.proofs.Common.{◌≡◌, ℕ, ◌∷◌, [], length, refl, sym, ap, subst, ◌∙◌, length-append, arith}
use Rattle.kex_code.specs.Codes.{IsAmong}
use Rattle.kex_model.specs.Labelled.{Shape}
use Rattle.kex_tabfile.specs.Walks.{Told, at_class}
use Rattle.kex_tabfile.specs.Checking.{Checks, ChecksAt}
use Rattle.kex_tabfile.proofs.ResultParts.{if_err}
use Rattle.kex_tabfile.proofs.LineSteps.{checks_none}
use Rattle.kex_tabfile.proofs.TableRows.{target}
use Rattle.kex_tabfile.proofs.StageSteps.{ClassBreaks, ClassChecks, GoesSoFar, goes_stand, goes_more, goes_break, goes_over}
use Rattle.kex_tabfile.proofs.rows.StageChecker.take_goes.Goals as goal

pub classes-init : goal.classes-init
classes-init c =
    let self = c.args.self.now in
    record {
      long = ap length c.in_ok-go.ensures;
      kept = refl;
      workspace = refl;
      so_far = λ told s st i. (told.targets, st, subst (λ z. Checks self.machine.now self.numbers.items self.partition.now c.args.reader.now (at_class told s []) (at_class told s z) c.args.reader.now) (sym c.in_ok-go.ensures) (checks_none self.machine.now self.numbers.items self.partition.now c.args.reader.now (at_class told s [])));
    }

pub take_class-requires-clause-stands : goal.take_class-requires-clause-stands
take_class-requires-clause-stands c =
    let self = c.args.self.now in
    let l = c.classes in
    let k = c.requires.stands in
    subst (λ z. (told : Told) × (s : Shape ℕ) × ChecksAt z.machine.now l.self.targets z.states c.args.state told × IsAmong told.targets (target c.args.state s)) (sym l.invariant.kept)
    (goes_stand self.machine.now self.numbers.items self.partition.now self.states c.args.state c.args.reader.now k.0 k.1 l.self.targets l.go l.reader (l.invariant.so_far k.0 k.1 k.2 k.3) k.3)

pub returns-in_err-transition-clause-bad : goal.returns-in_err-transition-clause-bad
returns-in_err-transition-clause-bad c =
    let self = c.args.self.now in
    let l = c.classes in
    let e = c.in_err-transition.field-0.0 in
    let bad = subst (λ z. ClassBreaks z.machine.now z.numbers.items z.partition.now z.states l.self.targets c.args.state l.class l.reader e) l.invariant.kept c.in_err-transition.ensures.bad in
    if_err c.from_residual-in_err-transition.result e _ c.from_residual-in_err-transition.ensures.1 (λ told s st i.
    goes_break self.machine.now self.numbers.items self.partition.now self.states c.args.state c.args.reader.now told s l.self.targets l.go l.reader (l.invariant.so_far told s st i) l.class e bad i l.invariant.long)

pub classes-preserved : goal.classes-preserved
classes-preserved c =
    let self = c.args.self.now in
    let l = c.classes in
    let o = c.in_ok-transition.transition in
    let later = c.take_class.new.self in
    let right = subst (λ z. ClassChecks z.machine.now z.numbers.items z.partition.now z.states l.self.targets later.targets c.args.state l.class o l.reader c.take_class.new.reader) l.invariant.kept c.in_ok-transition.ensures.right in
    record {
      long = omega (arith, ap length c.in_ok-push.ensures, length-append l.go (o ∷ []), l.invariant.long);
      kept = subst (λ z. later ≡ record z { targets = later.targets; updates = later.updates; line = later.line }) l.invariant.kept c.in_ok-transition.ensures.kept;
      workspace = c.in_ok-transition.ensures.workspace ∙ l.invariant.workspace;
      so_far = λ told s st i.
          subst (λ z. GoesSoFar self.machine.now self.numbers.items self.partition.now self.states c.args.state c.args.reader.now told s later.targets z c.take_class.new.reader) (sym c.in_ok-push.ensures)
          (goes_more self.machine.now self.numbers.items self.partition.now self.states c.args.state c.args.reader.now told s l.self.targets l.go l.reader (l.invariant.so_far told s st i) later.targets l.class o c.take_class.new.reader right i l.invariant.long);
    }

pub push-requires : goal.push-requires
push-requires c = omega (arith, c.classes.invariant.long, c.classes-test.true, c.classes.auto.class-end, c.classes-classes.ensures.within.1)

pub returns-clause-right : goal.returns-clause-right
returns-clause-right c = λ told s st i.
    let self = c.args.self.now in
    let l = c.classes in
    goes_over self.machine.now self.numbers.items self.partition.now self.states c.args.state c.args.reader.now told s l.self.targets l.go l.reader (l.invariant.so_far told s st i) (omega (arith, l.invariant.long, c.classes-test.false, l.auto.class-end, c.classes-classes.ensures.count))
