use Rattle.std.proofs.Common.{◌≡◌, ◌<◌, ◌++◌, ◌∷◌, [], length, refl, sym, ap, subst, ◌∙◌, length-append, arith}
use Rattle.std.specs.Prelude.{slice_get}
use Rattle.std.proofs.lemmas.List.{map-append}
use Rattle.std.proofs.lemmas.Option.{slice_get_within}
use Rattle.kex_code.specs.Codes.{IsAmong}
use Rattle.kex_sst.specs.Tables.{Row}
use Rattle.kex_tabfile.specs.TableFiles.{goes_of}
use Rattle.kex_tabfile.specs.Walks.{Told, at_state}
use Rattle.kex_tabfile.specs.Checking.{EachHasEnds, ChecksAt}
use Rattle.kex_tabfile.proofs.ResultParts.{if_err}
use Rattle.kex_tabfile.proofs.LineSteps.{checks_none, checks_on, breaks_later}
use Rattle.kex_tabfile.proofs.TableRows.{target}
use Rattle.kex_tabfile.proofs.StageSteps.{StateBreaks, StateChecks, targets_stay, ends_more}
use Rattle.kex_tabfile.proofs.stage.take_states.Goals as goal

pub loop-state-init : goal.loop-state-init
loop-state-init c =
    let self = c.args.checker.now in
    let none = c.new-rows.ensures.items in
    record {
      long = ap length none;
      workspace = refl;
      kept = refl;
      so_far = λ told nil st. (
        told,
        nil ∙ ap goes_of (sym none),
        st,
        (λ i r e. let lt : i < 0 = slice_get_within [] i r (ap (λ z. slice_get z i) (sym none) ∙ e) in absurd (omega (arith, lt))),
        checks_none self.machine.now self.numbers.items self.partition.now c.args.reader.now (at_state told),
      );
    }

pub take_state-requires-clause-stands : goal.take_state-requires-clause-stands
take_state-requires-clause-stands c =
    let l = c.loop-state in
    let b = c.requires.begun in
    let now = l.invariant.so_far b.0 b.1 b.2 in
    (now.0, subst (λ z. ChecksAt z.machine.now l.checker.targets z.states l.state now.0) (sym l.invariant.kept) now.2)

pub returns-in_err-row-clause-bad : goal.returns-in_err-row-clause-bad
returns-in_err-row-clause-bad c =
    let self = c.args.checker.now in
    let l = c.loop-state in
    let e = c.in_err-row.field-0.0 in
    let bad = subst (λ z. StateBreaks z.machine.now z.numbers.items z.partition.now z.states l.checker.targets l.state l.reader e) l.invariant.kept c.in_err-row.ensures.bad in
    if_err c.from_residual.result e _ c.from_residual.ensures.1 (λ told nil st.
    let now = l.invariant.so_far told nil st in
    breaks_later self.machine.now self.numbers.items self.partition.now c.args.reader.now l.reader (at_state told) (at_state now.0) e now.4 (bad now.0 now.2))

pub loop-state-preserved : goal.loop-state-preserved
loop-state-preserved c =
    let self = c.args.checker.now in
    let l = c.loop-state in
    let row = c.in_ok-row.row in
    let pushed : c.push.new.self.items ≡ l.rows.items ++ row ∷ [] = c.in_ok-push.ensures.items in
    let right = subst (λ z. StateChecks z.machine.now z.numbers.items z.partition.now z.states l.checker.targets c.take_state.new.self.targets l.state row l.reader c.take_state.new.reader) l.invariant.kept c.in_ok-row.ensures.right in
    record {
      long = omega (arith, ap length pushed, length-append l.rows.items (row ∷ []), l.invariant.long);
      workspace = c.in_ok-row.ensures.workspace ∙ l.invariant.workspace;
      kept = subst (λ z. c.take_state.new.self ≡ record z { targets = c.take_state.new.self.targets; updates = c.take_state.new.self.updates; line = c.take_state.new.self.line }) l.invariant.kept c.in_ok-row.ensures.kept;
      so_far = λ told nil st.
          let now = l.invariant.so_far told nil st in
          let r = right now.0 now.2 in
          let next : Told = record now.0 { targets = r.1; rows = now.0.rows ++ row.go ∷ [] } in
          let among = subst (λ k. IsAmong now.0.targets (target k r.0)) (sym l.invariant.long) r.2 in
          let stay = targets_stay self.machine.now self.numbers.items self.partition.now l.reader c.take_state.new.reader now.0 next r.5 in (
            next,
            ap (λ z. z ++ row.go ∷ []) now.1 ∙ sym (map-append (λ (z : Row). z.go) l.rows.items (row ∷ [])) ∙ ap goes_of (sym pushed),
            record { known = r.4.known; states_are = r.4.states_are; of_state = omega (arith, r.4.of_state) },
            subst (λ z. EachHasEnds self.machine.now r.1 z) (sym pushed) (ends_more self.machine.now now.0.targets r.1 l.rows.items row r.0 stay now.3 among r.3),
            checks_on self.machine.now self.numbers.items self.partition.now c.args.reader.now l.reader c.take_state.new.reader (at_state told) (at_state now.0) (at_state next) now.4 r.5,
          );
    }
