use Rattle.std.proofs.Common.{◌≡◌, ◌++◌, ◌-◌, ◌+◌, ◌<◌, ℕ, suc, List, [], Bool, true, false, refl, sym, ap, subst, ◌∙◌, arith}
use Rattle.std.specs.Prelude.{IfOk, Ok, Err, Result, Some, None}
use Rattle.std.proofs.lemmas.List.{append-nil, append_assoc}
use Rattle.kex_pipeline.specs.Sayings.{Said}
use Rattle.kex_pipeline.specs.History.{History}
use Rattle.kex_top.specs.Tallies.{HasWaiting, IsTally}
use Rattle.kex_top.specs.Trials.{drawn_line, lines_from, made_lines}
use Rattle.kex_pipeline.specs.Piped.{PipeSays, PipeStands, plans_of}
use Rattle.kex_top.proofs.TrialCounts.{lines-more, waits-more}
use Rattle.kex_top.proofs.call.trial.give_lines.Goals as goal

pub give_blocks-requires-clause-fed : goal.give_blocks-requires-clause-fed
give_blocks-requires-clause-fed g c = λ κs bounds.
    let (front, waits, made) = c.lines.invariant.fed in
    let says : List g.T.Turn.Plan → List ℕ → Bool → Said → Type 0 = λ p w e said. PipeSays g.T.Turn p w e said in
    let stands : History → Type 0 = λ k. PipeStands g.T.Turn c.lines.pipe k in
    let line : List ℕ = drawn_line c.next-state.result in
    let begun = subst (λ p. HasWaiting (says p) stands front c.lines.waiting.items c.lines.tally) (sym c.lines.invariant.same) waits in
    (front ++ line, waits-more (says (plans_of g.T.Turn c.lines.pipe)) stands front c.lines.waiting.items line c.push_line.new.out.items c.lines.tally c.in_ok-push_line.ensures begun)

pub lines-init : goal.lines-init
lines-init g c =
    let n = c.in_ok-tally.ensures.counts None c.requires refl in
    let none = c.new.ensures in
    record {
      same = c.in_ok-tally.ensures.same;
      short = omega arith;
      fed = (
        [],
        ([], record { said = n.said; is_said = n.is_said; stands_for = n.stands_for; tallied = n.tallied (record { made = none.made; written = none.written; roll = none.roll }) }, sym c.new-waiting.ensures.items),
        ap (λ (j : ℕ). lines_from 0 j) (let count : ℕ = c.args.lines.count in let e : count ≡ count - 0 = omega arith in e),
      );
    }

pub lines-preserved : goal.lines-preserved
lines-preserved g c =
    let (front, waits, made) = c.lines.invariant.fed in
    let same = c.lines.invariant.same in
    let says : List g.T.Turn.Plan → List ℕ → Bool → Said → Type 0 = λ p w e said. PipeSays g.T.Turn p w e said in
    let stands : History → Type 0 = λ k. PipeStands g.T.Turn c.lines.pipe k in
    let now : History → Type 0 = λ k. PipeStands g.T.Turn c.give_blocks.new.pipe k in
    let line : List ℕ = drawn_line c.next-state.result in
    let begun = subst (λ p. HasWaiting (says p) stands front c.lines.waiting.items c.lines.tally) (sym same) waits in
    let more = waits-more (says (plans_of g.T.Turn c.lines.pipe)) stands front c.lines.waiting.items line c.push_line.new.out.items c.lines.tally c.in_ok-push_line.ensures begun in
    let given = c.in_ok-tally-2.ensures.given (front ++ line) more in
    let left : ℕ = c.args.lines.count - (c.lines._line + 1) in
    let within : c.lines._line < c.args.lines.count = c.lines-test.true in
    let one : c.args.lines.count - c.lines._line ≡ suc left = omega (arith, within) in
    record {
      same = c.in_ok-tally-2.ensures.same ∙ same;
      short = c.next-state.ensures.fits;
      fed = (
        front ++ line,
        subst (λ p. HasWaiting (says p) now (front ++ line) c.give_blocks.new.waiting.items c.in_ok-tally-2.tally) same given,
        made ∙ ap (λ z. front ++ z) (lines-more c.lines.state c.next-state.result (c.args.lines.count - c.lines._line) left c.next-state.ensures.value one) ∙ sym (append_assoc front line (lines_from c.next-state.result left)),
      );
    }

pub give-requires-2-after_bounds : goal.give-requires-2-after_bounds
give-requires-2-after_bounds g c = λ κs bounds.
    let (front, waits, made) = c.lines.invariant.fed in
    let (bytes, fed, parts) = waits in
    (Some (record { bytes = bytes; ended = false; said = fed.said }), fed.stands_for, refl)

pub give_end-requires-after_bounds : goal.give_end-requires-after_bounds
give_end-requires-after_bounds g c = λ κs bounds.
    let (front, waits, made) = c.lines.invariant.fed in
    let (bytes, fed, parts) = waits in
    let n = c.in_ok-tally-3.ensures.counts (Some (record { bytes = bytes; ended = false; said = fed.said })) fed.stands_for refl in
    (Some (record { bytes = bytes ++ c.deref.result.now; ended = false; said = n.said }), n.stands_for, refl)

if-ok : {A E : Type 0} {P Q : A → Type 0} (r : Result A E) → ((a : A) → P a → Q a) → IfOk r P → IfOk r Q
if-ok (Ok a) f h = f a h
if-ok (Err e) f h = h

pub returns : goal.returns
returns g c =
    let (front, waits, made) = c.lines.invariant.fed in
    let (bytes, fed, parts) = waits in
    let says : List g.T.Turn.Plan → List ℕ → Bool → Said → Type 0 = λ p w e said. PipeSays g.T.Turn p w e said in
    let waiting : List ℕ = c.deref.result.now in
    let h : History = Some (record { bytes = bytes; ended = false; said = fed.said }) in
    let n = c.in_ok-tally-3.ensures.counts h fed.stands_for refl in
    let k : History = Some (record { bytes = bytes ++ waiting; ended = false; said = n.said }) in
    let same : plans_of g.T.Turn c.give-2.new.pipe ≡ plans_of g.T.Turn c.args.pipe.now = c.in_ok-tally-3.ensures.same ∙ c.lines.invariant.same in
    let past = c.lines-test.false in
    let none : c.args.lines.count - c.lines._line ≡ 0 = omega (arith, past) in
    let all : made_lines c.args.lines.count ≡ front = made ∙ ap (λ j. front ++ lines_from c.lines.state j) none ∙ append-nil front in
    let whole : bytes ++ waiting ≡ made_lines c.args.lines.count = ap (λ z. bytes ++ z) c.deref.ensures.value ∙ sym parts ∙ sym all in
    if-ok c.give_end.result
    (λ more e.
    let m = e k n.stands_for refl in (
      m.said,
      subst (λ p. says p (made_lines c.args.lines.count) true m.said) same (subst (λ z. says (plans_of g.T.Turn c.give-2.new.pipe) z true m.said) whole m.is_said),
      subst (λ z. IsTally more z m.said.text) whole (m.tallied (n.tallied fed.tallied)),
    ))
    c.give_end.ensures.counts
