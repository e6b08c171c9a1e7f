use Rattle.std.proofs.Common.{◌≡◌, ℕ, suc, ◌++◌, ◌∷◌, [], List, sym, subst, ◌∙◌}
use Rattle.kex_model.specs.Labelled.{Shape}
use Rattle.kex_code.specs.Codes.{IsAmong}
use Rattle.kex_sst.specs.Tables.{Row}
use Rattle.kex_tabfile.specs.Walks.{Target, at_state, at_init, at_class}
use Rattle.kex_tabfile.specs.Checking.{BreaksReading, Checks, HasEnds, ChecksAt}
use Rattle.kex_tabfile.proofs.ResultParts.{if_err}
use Rattle.kex_tabfile.proofs.LineSteps.{checks_on, breaks_later}
use Rattle.kex_tabfile.proofs.TableRows.{target}
use Rattle.kex_tabfile.proofs.StageSteps.{GoesBreak, GoesCheck, behind_first, behind_later}
use Rattle.kex_tabfile.proofs.rows.StageChecker.take_state.Goals.{then-state-eq0+in_ok-take_init, else-state-eq0}
use Rattle.kex_tabfile.proofs.rows.StageChecker.take_state.Goals as goal

pub returns-in_err-take_init-clause-bad : goal.returns-in_err-take_init-clause-bad
returns-in_err-take_init-clause-bad c =
    let self = c.args.self.now in
    let e = c.in_err-take_init.field-0.0 in
    if_err c.from_residual-in_err-take_init.result e _ c.from_residual-in_err-take_init.ensures.1 (λ told st.
    let r = c.in_ok-registers.ensures.right told st in
    let bad = subst (λ z. BreaksReading z.machine.now z.numbers.items z.partition.now c.take_state_line.new.reader (at_init told r.0) e) c.in_ok-registers.ensures.kept (c.in_err-take_init.ensures.bad told r.0) in
    let is = behind_first told r.0 told.rows (st.of_state ∙ c.if-state-eq0.true) in
    breaks_later self.machine.now self.numbers.items self.partition.now c.args.reader.now c.take_state_line.new.reader (at_state told) (at_init told r.0) e
    (subst (λ z. Checks self.machine.now self.numbers.items self.partition.now c.args.reader.now (at_state told) z c.take_state_line.new.reader) is r.3) bad)

pub take_goes-requires-clause-stands : goal.take_goes-requires-clause-stands
take_goes-requires-clause-stands c =
    let self = c.args.self.now in
    let kept : c.if-state-eq0.self ≡ record self { line = c.if-state-eq0.self.line } = elim c.if-state-eq0.branch [
      | then-state-eq0+in_ok-take_init w ↦ subst (λ z. z ≡ record self { line = z.line }) (sym w.self-is) (subst (λ z. w.take_init.new.self ≡ record z { line = w.take_init.new.self.line }) c.in_ok-registers.ensures.kept w.take_init.ensures.kept)
      | else-state-eq0 w ↦ subst (λ z. z ≡ record self { line = z.line }) (sym w.self-is) c.in_ok-registers.ensures.kept
    ] in
    let k = c.requires.stands in
    let r = c.in_ok-registers.ensures.right k.0 k.1 in
    (k.0, r.0, subst (λ z. ChecksAt z.machine.now z.targets z.states c.args.state k.0) (sym kept) k.1, r.1)

pub returns-in_err-go-clause-bad : goal.returns-in_err-go-clause-bad
returns-in_err-go-clause-bad c =
    let self = c.args.self.now in
    let e = c.in_err-go.field-0.0 in
    let kept : c.if-state-eq0.self ≡ record self { line = c.if-state-eq0.self.line } = elim c.if-state-eq0.branch [
      | then-state-eq0+in_ok-take_init w ↦ subst (λ z. z ≡ record self { line = z.line }) (sym w.self-is) (subst (λ z. w.take_init.new.self ≡ record z { line = w.take_init.new.self.line }) c.in_ok-registers.ensures.kept w.take_init.ensures.kept)
      | else-state-eq0 w ↦ subst (λ z. z ≡ record self { line = z.line }) (sym w.self-is) c.in_ok-registers.ensures.kept
    ] in
    let bad = subst (λ z. GoesBreak z.machine.now z.numbers.items z.partition.now z.states z.targets c.args.state c.if-state-eq0.reader e) kept c.in_err-go.ensures.bad in
    if_err c.from_residual-in_err-go.result e _ c.from_residual-in_err-go.ensures.1 (λ told st.
    let r = c.in_ok-registers.ensures.right told st in
    let begun : Checks self.machine.now self.numbers.items self.partition.now c.args.reader.now (at_state told) (at_class told r.0 []) c.if-state-eq0.reader = elim c.if-state-eq0.branch [
      | then-state-eq0+in_ok-take_init w ↦
          let is = behind_first told r.0 told.rows (st.of_state ∙ w.if-state-eq0.true) in
          let line = subst (λ z. Checks self.machine.now self.numbers.items self.partition.now c.args.reader.now (at_state told) z c.take_state_line.new.reader) is r.3 in
          let init = subst (λ z. Checks z.machine.now z.numbers.items z.partition.now c.take_state_line.new.reader (at_init told r.0) (at_class told r.0 []) w.take_init.new.reader) c.in_ok-registers.ensures.kept (w.in_ok-take_init.ensures.right told r.0) in
          subst (λ z. Checks self.machine.now self.numbers.items self.partition.now c.args.reader.now (at_state told) (at_class told r.0 []) z) (sym w.reader-is)
          (checks_on self.machine.now self.numbers.items self.partition.now c.args.reader.now c.take_state_line.new.reader w.take_init.new.reader (at_state told) (at_init told r.0) (at_class told r.0 []) line init)
      | else-state-eq0 w ↦
          let is = behind_later told r.0 told.rows (λ e. w.if-state-eq0.false (sym st.of_state ∙ e)) in
          subst (λ z. Checks self.machine.now self.numbers.items self.partition.now c.args.reader.now (at_state told) (at_class told r.0 []) z) (sym w.reader-is)
          (subst (λ z. Checks self.machine.now self.numbers.items self.partition.now c.args.reader.now (at_state told) z c.take_state_line.new.reader) is r.3)
    ] in
    breaks_later self.machine.now self.numbers.items self.partition.now c.args.reader.now c.if-state-eq0.reader (at_state told) (at_class told r.0 []) e begun (bad told r.0 st r.1))

pub returns-clause-right : goal.returns-clause-right
returns-clause-right c = λ told st.
    let self = c.args.self.now in
    let kept : c.if-state-eq0.self ≡ record self { line = c.if-state-eq0.self.line } = elim c.if-state-eq0.branch [
      | then-state-eq0+in_ok-take_init w ↦ subst (λ z. z ≡ record self { line = z.line }) (sym w.self-is) (subst (λ z. w.take_init.new.self ≡ record z { line = w.take_init.new.self.line }) c.in_ok-registers.ensures.kept w.take_init.ensures.kept)
      | else-state-eq0 w ↦ subst (λ z. z ≡ record self { line = z.line }) (sym w.self-is) c.in_ok-registers.ensures.kept
    ] in
    let r = c.in_ok-registers.ensures.right told st in
    let begun : Checks self.machine.now self.numbers.items self.partition.now c.args.reader.now (at_state told) (at_class told r.0 []) c.if-state-eq0.reader = elim c.if-state-eq0.branch [
      | then-state-eq0+in_ok-take_init w ↦
          let is = behind_first told r.0 told.rows (st.of_state ∙ w.if-state-eq0.true) in
          let line = subst (λ z. Checks self.machine.now self.numbers.items self.partition.now c.args.reader.now (at_state told) z c.take_state_line.new.reader) is r.3 in
          let init = subst (λ z. Checks z.machine.now z.numbers.items z.partition.now c.take_state_line.new.reader (at_init told r.0) (at_class told r.0 []) w.take_init.new.reader) c.in_ok-registers.ensures.kept (w.in_ok-take_init.ensures.right told r.0) in
          subst (λ z. Checks self.machine.now self.numbers.items self.partition.now c.args.reader.now (at_state told) (at_class told r.0 []) z) (sym w.reader-is)
          (checks_on self.machine.now self.numbers.items self.partition.now c.args.reader.now c.take_state_line.new.reader w.take_init.new.reader (at_state told) (at_init told r.0) (at_class told r.0 []) line init)
      | else-state-eq0 w ↦
          let is = behind_later told r.0 told.rows (λ e. w.if-state-eq0.false (sym st.of_state ∙ e)) in
          subst (λ z. Checks self.machine.now self.numbers.items self.partition.now c.args.reader.now (at_state told) (at_class told r.0 []) z) (sym w.reader-is)
          (subst (λ z. Checks self.machine.now self.numbers.items self.partition.now c.args.reader.now (at_state told) z c.take_state_line.new.reader) is r.3)
    ] in
    let right = subst (λ z. GoesCheck z.machine.now z.numbers.items z.partition.now z.states z.targets c.take_goes.new.self.targets c.args.state c.in_ok-go.go c.if-state-eq0.reader c.take_goes.new.reader) kept c.in_ok-go.ensures.right in
    let k = right told r.0 st r.1 in
    let row : Row = record { registers = c.in_ok-registers.registers; accepting = c.in_ok-registers.accepting; go = c.in_ok-go.go } in
    subst (λ z. (s : Shape ℕ) × (after : List Target) × IsAmong told.targets (target c.args.state s) × HasEnds self.machine.now s z.registers z.accepting × ChecksAt self.machine.now c.take_goes.new.self.targets self.states (suc c.args.state) (record told { targets = after; rows = told.rows ++ z.go ∷ [] }) × Checks self.machine.now self.numbers.items self.partition.now c.args.reader.now (at_state told) (at_state (record told { targets = after; rows = told.rows ++ z.go ∷ [] })) c.take_goes.new.reader) (sym c.new.ensures)
    (r.0, k.0, r.1, r.2, k.1, checks_on self.machine.now self.numbers.items self.partition.now c.args.reader.now c.if-state-eq0.reader c.take_goes.new.reader (at_state told) (at_class told r.0 []) (at_state (record told { targets = k.0; rows = told.rows ++ row.go ∷ [] })) begun k.2)
