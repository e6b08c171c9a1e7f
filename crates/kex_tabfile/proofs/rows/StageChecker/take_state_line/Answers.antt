use Rattle.std.proofs.Common.{◌≡◌, ◌++◌, length, sym, ap, ap₂, subst, ◌∙◌}
use Rattle.kex_code.specs.Codes.{Begins}
use Rattle.kex_tabfile.specs.Lines.{state_line}
use Rattle.kex_tabfile.proofs.ResultParts.{if_err}
use Rattle.kex_tabfile.proofs.StateLines.{state_breaks, state_checks}
use Rattle.kex_tabfile.proofs.rows.StageChecker.take_state_line.Goals as goal

pub returns-in_default-clause-bad : goal.returns-in_default-clause-bad
returns-in_default-clause-bad c = λ told st.
    let self = c.args.self.now in
    state_breaks self.machine.now self.numbers.items self.partition.now c.args.reader.now told c.args.state self.states self.targets st c.requires.below
    (λ s i b. c.in_default.ensures.none self.machine.now told.targets s st.known i) c.bad_line.result c.bad_line.ensures

pub push_state_line-requires : goal.push_state_line-requires
push_state_line-requires c =
    let k = c.requires.stands in
    let t = c.in-Some.ensures.some c.args.self.now.machine.now k.0.targets k.1.known in
    ap length c.deref.ensures.value ∙ c.requires.places ∙ ap (λ z. length z.nodes) (sym t.1)

pub ends_of-requires : goal.ends_of-requires
ends_of-requires c = let k = c.requires.stands in (c.in-Some.ensures.some c.args.self.now.machine.now k.0.targets k.1.known).1

pub returns-in_err-take-clause-bad : goal.returns-in_err-take-clause-bad
returns-in_err-take-clause-bad c =
    let self = c.args.self.now in
    let bad = c.in_err-take.ensures.bad in
    if_err c.from_residual-in_err-take.result c.in_err-take.field-0.0 _ c.from_residual-in_err-take.ensures.1 (λ told st.
    let t = c.in-Some.ensures.some self.machine.now told.targets st.known in
    let line : c.deref-2.result.now ≡ state_line self.numbers.items c.args.state t.0 = c.deref-2.ensures.value ∙ c.in_ok-push_state_line.ensures t.0 t.2 ∙ ap₂ (λ u v. u ++ state_line v c.args.state t.0) c.clear.ensures.items c.deref.ensures.value in
    state_breaks self.machine.now self.numbers.items self.partition.now c.args.reader.now told c.args.state self.states self.targets st c.requires.below
    (λ s i b. bad.1 (subst (λ z. Begins c.args.reader.now.rest z) (ap (state_line self.numbers.items c.args.state) (st.known.one c.args.state s t.0 i t.3) ∙ sym line) b)) c.in_err-take.field-0.0 bad.0)

pub returns-clause-right : goal.returns-clause-right
returns-clause-right c = λ told st.
    let self = c.args.self.now in
    let t = c.in-Some.ensures.some self.machine.now told.targets st.known in
    let line : c.deref-2.result.now ≡ state_line self.numbers.items c.args.state t.0 = c.deref-2.ensures.value ∙ c.in_ok-push_state_line.ensures t.0 t.2 ∙ ap₂ (λ u v. u ++ state_line v c.args.state t.0) c.clear.ensures.items c.deref.ensures.value in (
      t.0,
      t.3,
      c.in_ok-ends.ensures t.0 t.2,
      state_checks self.machine.now self.numbers.items self.partition.now c.args.reader.now c.take.new.self told t.0 c.deref-2.result.now c.args.state self.states self.targets st c.requires.below t.3 line c.in_ok-take.ensures.read,
    )
