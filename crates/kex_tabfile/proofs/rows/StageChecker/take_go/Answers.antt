use Rattle.std.proofs.Common.{◌≡◌, ℕ, true, false, ◌-◌, ◌++◌, Option, Some, None, length, refl, sym, ap, subst, ◌∙◌, arith}
use Rattle.kex_tabfile.specs.Lines.{go_front, go_rest, go_line}
use Rattle.kex_code.specs.Codes.{Begins}
use Rattle.kex_model.proofs.Tables.{some_same}
use Rattle.kex_tabfile.specs.Walks.{MeetsTarget}
use Rattle.kex_tabfile.proofs.ResultParts.{if_err}
use Rattle.kex_tabfile.proofs.TableRows.{target}
use Rattle.kex_tabfile.proofs.StateLines.{target_found, go_breaks, go_checks}
use Rattle.kex_tabfile.proofs.rows.StageChecker.take_go.Goals as goal

clash : (n : ℕ) (o : Option ℕ) → o ≡ None → o ≡ Some n → ⊥
clash n o e f = cc

pub returns-in_default-clause-bad : goal.returns-in_default-clause-bad
returns-in_default-clause-bad c = λ told s go st e lt by.
    let self = c.args.self.now in
    let a = c.args.reader.now in
    let front : c.push_go_front.new.line.items ≡ go_front c.args.state c.args.class = c.in_ok-push_go_front.ensures ∙ ap (λ z. z ++ go_front c.args.state c.args.class) c.clear.ensures.items in
    let long : length (go_front c.args.state c.args.class) ≡ c.len.result = omega (arith, c.len.ensures, c.push_go_front.new.line.ok.0, ap length front) in
    go_breaks self.machine.now self.numbers.items self.partition.now c.requires.classes a told s go c.args.next c.args.state c.args.class self.states self.targets st e lt by
    (λ t x after below shape meets begins. clash t None refl (target_found a.rest c.args.state c.args.class t (self.states - 1) c.args.next.1 None (λ f n next more skip le ee none. c.in_default.ensures.number f n next more (skip ∙ long) le ee none) below begins)) c.bad_line.result c.bad_line.ensures

pub returns-then-not-branch-clause-bad : goal.returns-then-not-branch-clause-bad
returns-then-not-branch-clause-bad c = λ told s go st e lt by.
    let self = c.args.self.now in
    let a = c.args.reader.now in
    let front : c.push_go_front.new.line.items ≡ go_front c.args.state c.args.class = c.in_ok-push_go_front.ensures ∙ ap (λ z. z ++ go_front c.args.state c.args.class) c.clear.ensures.items in
    let long : length (go_front c.args.state c.args.class) ≡ c.len.result = omega (arith, c.len.ensures, c.push_go_front.new.line.ok.0, ap length front) in
    let other : c.in_ok-meet.field-0 ≡ false = c.if-not-branch.true in
    go_breaks self.machine.now self.numbers.items self.partition.now c.requires.classes a told s go c.args.next c.args.state c.args.class self.states self.targets st e lt by
    (λ t x after below shape meets begins.
    let same = some_same c.in-Some.target t (target_found a.rest c.args.state c.args.class t (self.states - 1) c.args.next.1 (Some c.in-Some.target) (λ f n next more skip le ee none. c.in-Some.ensures.number f n next more (skip ∙ long) le ee none) below begins) in
    c.in_ok-meet.ensures.no other self.machine.now told.targets after x st.known by.0 shape (subst (λ n. MeetsTarget told.targets (target n x) after) (sym same) meets)) c.bad_line-then-not-branch.result c.bad_line-then-not-branch.ensures

pub returns-in_err-take-clause-bad : goal.returns-in_err-take-clause-bad
returns-in_err-take-clause-bad c =
    let self = c.args.self.now in
    let a = c.args.reader.now in
    let bad = c.in_err-take.ensures.bad in
    if_err c.from_residual-in_err-take.result c.in_err-take.field-0.0 _ c.from_residual-in_err-take.ensures.1 (λ told s go st e lt by.
    let front : c.push_go_front.new.line.items ≡ go_front c.args.state c.args.class = c.in_ok-push_go_front.ensures ∙ ap (λ z. z ++ go_front c.args.state c.args.class) c.clear.ensures.items in
    let long : length (go_front c.args.state c.args.class) ≡ c.len.result = omega (arith, c.len.ensures, c.push_go_front.new.line.ok.0, ap length front) in
    let line : c.deref.result.now ≡ go_line c.args.state c.args.class c.in-Some.target c.args.next.1 = c.deref.ensures.value ∙ c.in_ok-push_go_rest.ensures ∙ ap (λ z. z ++ go_rest c.in-Some.target c.args.next.1) front in
    go_breaks self.machine.now self.numbers.items self.partition.now c.requires.classes a told s go c.args.next c.args.state c.args.class self.states self.targets st e lt by
    (λ t x after below shape meets begins.
    let same = some_same c.in-Some.target t (target_found a.rest c.args.state c.args.class t (self.states - 1) c.args.next.1 (Some c.in-Some.target) (λ f n next more skip le ee none. c.in-Some.ensures.number f n next more (skip ∙ long) le ee none) below begins) in
    bad.1 (subst (λ z. Begins a.rest z) (ap (λ n. go_line c.args.state c.args.class n c.args.next.1) (sym same) ∙ sym line) begins)) c.in_err-take.field-0.0 bad.0)

pub returns-clause-right : goal.returns-clause-right
returns-clause-right c = λ told s go st e lt by.
    let self = c.args.self.now in
    let a = c.args.reader.now in
    let front : c.push_go_front.new.line.items ≡ go_front c.args.state c.args.class = c.in_ok-push_go_front.ensures ∙ ap (λ z. z ++ go_front c.args.state c.args.class) c.clear.ensures.items in
    let line : c.deref.result.now ≡ go_line c.args.state c.args.class c.in-Some.target c.args.next.1 = c.deref.ensures.value ∙ c.in_ok-push_go_rest.ensures ∙ ap (λ z. z ++ go_rest c.in-Some.target c.args.next.1) front in
    let one : c.in_ok-meet.field-0 ≡ true = c.if-not-branch.false in
    go_checks self.machine.now self.numbers.items self.partition.now a c.take.new.self told s go c.args.next (record { target = c.in-Some.target; update = c.in_ok-update.update }) c.deref.result.now c.args.state c.args.class self.states self.targets c.meet.new.self st e lt by c.in_ok-update.ensures (omega (arith, c.in-Some.ensures.within, c.requires.some)) line c.in_ok-take.ensures.read
    (λ x shape. c.in_ok-meet.ensures.yes one self.machine.now told.targets x st.known by.0 shape)
