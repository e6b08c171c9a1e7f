use Rattle.std.proofs.Common.{◌≡◌, ◌<◌, ◌+◌, ◌∷◌, ◌++◌, [], length, subst, sym, refl, ap, ◌∙◌, true, arith}
use Rattle.kex_machine.specs.Nodes.{StaysWithin, HasClasses, node_moves}
use Rattle.kex_machine.proofs.Nexts.{IsTrim}
use Rattle.kex_machine.proofs.Ranges.{stays_within, is_trim}
use Rattle.kex_frontier.specs.Rows.{IsByteStep, IsMarkRow}
use Rattle.kex_frontier.specs.Caches.{IsKeptNow, KnowsSteps}
use Rattle.kex_frontier.specs.Matchers.{Match, WasFed}
use Rattle.kex_frontier.proofs.Matches.{fed_dead, fed_on, fed_dies, some_of, none_of}
use Rattle.kex_frontier.proofs.RowSteps.{row_more}
use Rattle.kex_frontier.proofs.matcher.Matcher.take.Goals as goal

pub returns-then-self-clause-fed : goal.returns-then-self-clause-fed
returns-then-self-clause-fed c = λ w h.
    let m = c.args.self.now in
    let trim : IsTrim (node_moves m.machine.nodes) m.machine.start = subst (λ z. IsTrim (node_moves z.machine.nodes) z.machine.start) c.self.view_is (is_trim c.self.inside.machine.now c.nodes-nodes.ensures.trimmed) in
    fed_dead m m w c.args.byte refl trim h (ap (λ z. z.dead) (sym c.self.view_is) ∙ c.if-self.true) refl

pub step-requires-clause-within : goal.step-requires-clause-within
step-requires-clause-within c = subst StaysWithin (sym c.nodes-nodes.ensures.same) (stays_within c.self.inside.machine.now c.nodes-nodes.ensures.in_range)

pub returns-then-is_none-clause-fed : goal.returns-then-is_none-clause-fed
returns-then-is_none-clause-fed c = λ w h.
    let g = c.self.inside.machine.now in
    let b = c.args.byte in
    let old : Match = record { machine = g; row = c.self.inside.row; good = c.self.inside.good; dead = c.self.inside.dead } in
    let new : Match = record { machine = g; row = c.swap.new.x; good = c.self.inside.good; dead = true } in
    let fed : WasFed old w = subst (λ z. WasFed z w) (sym c.self.view_is) h in
    let start : g.start < length c.nodes-nodes.result.now = subst (λ z. g.start < length z) (sym c.nodes-nodes.ensures.same) c.nodes-nodes.ensures.in_range.start_in in
    let step : IsByteStep g.nodes b c.self.inside.row c.step.new.next = subst (λ z. IsByteStep z b c.self.inside.row c.step.new.next) c.nodes-nodes.ensures.same c.step.ensures.row in
    let row : IsMarkRow g (w ++ b ∷ []) c.swap.new.x = subst (λ z. IsMarkRow g (w ++ b ∷ []) z) (sym c.swap.ensures.x_after) (row_more g b w c.self.inside.row c.step.new.next fed.row step) in
    let none = none_of c.highest_below.result (c.if-is_none.ensures {u = tt}) c.highest_below.ensures.none in
    fed_dies old new w b refl (is_trim g c.nodes-nodes.ensures.trimmed) fed c.if-self.false row (stays_within g c.nodes-nodes.ensures.in_range) c.nodes-nodes.ensures.in_range.start_in refl refl (λ p lt. none p (subst (λ z. p < length z) (sym c.nodes-nodes.ensures.same) lt))

pub returns-else-is_none-clause-fed : goal.returns-else-is_none-clause-fed
returns-else-is_none-clause-fed c = λ w h.
    let g = c.self.inside.machine.now in
    let b = c.args.byte in
    let old : Match = record { machine = g; row = c.self.inside.row; good = c.self.inside.good; dead = c.self.inside.dead } in
    let new : Match = record { machine = g; row = c.swap.new.x; good = c.self.inside.good + 1; dead = c.self.inside.dead } in
    let fed : WasFed old w = subst (λ z. WasFed z w) (sym c.self.view_is) h in
    let step : IsByteStep g.nodes b c.self.inside.row c.step.new.next = subst (λ z. IsByteStep z b c.self.inside.row c.step.new.next) c.nodes-nodes.ensures.same c.step.ensures.row in
    let row : IsMarkRow g (w ++ b ∷ []) c.swap.new.x = subst (λ z. IsMarkRow g (w ++ b ∷ []) z) (sym c.swap.ensures.x_after) (row_more g b w c.self.inside.row c.step.new.next fed.row step) in
    let some = some_of c.highest_below.result (c.if-is_none.ensures {u = tt}) c.highest_below.ensures.some in
    fed_on old new w b refl (is_trim g c.nodes-nodes.ensures.trimmed) fed c.if-self.false row c.if-self.false refl some.0 some.1.marked

pub invariant_of-self : goal.invariant_of-self
invariant_of-self c =
    let nodes = c.self.inside.machine.now.nodes in
    let kept = c.self.invariant.2 in
    let same = c.leave.ensures in
    let x : length c.swap.new.x ≡ length c.self.inside.row = ap length c.swap.ensures.x_after ∙ c.step.ensures.next ∙ c.self.invariant.1 in
    let y : length c.swap.new.y ≡ length c.self.inside.row = ap length c.swap.ensures.y_after ∙ c.step.ensures.now in (
      omega (arith, c.self.invariant.0, x),
      y ∙ sym x,
      record {
        width = ap (λ z. z.width) same ∙ kept.width ∙ sym x;
        classes = subst (λ z. HasClasses nodes z) (sym (ap (λ z. z.classes) same)) kept.classes;
        knows = subst (λ z. KnowsSteps nodes z) (sym same) (record { steps = kept.knows.steps; marked = kept.knows.marked });
        now = subst (λ z. IsKeptNow z c.swap.new.x) (sym same) tt;
      },
      c.self.invariant.3,
    )

pub invariant_of-self-else-is_none : goal.invariant_of-self-else-is_none
invariant_of-self-else-is_none c =
    let nodes = c.self.inside.machine.now.nodes in
    let kept = c.self.invariant.2 in
    let b = c.args.byte in
    let x : length c.swap.new.x ≡ length c.self.inside.row = ap length c.swap.ensures.x_after ∙ c.step.ensures.next ∙ c.self.invariant.1 in
    let y : length c.swap.new.y ≡ length c.self.inside.row = ap length c.swap.ensures.y_after ∙ c.step.ensures.now in
    let step : IsByteStep nodes b c.self.inside.row c.step.new.next = subst (λ z. IsByteStep z b c.self.inside.row c.step.new.next) c.nodes-nodes.ensures.same c.step.ensures.row in
    let here : IsByteStep nodes b c.self.inside.row c.swap.new.x = subst (λ z. IsByteStep nodes b c.self.inside.row z) (sym c.swap.ensures.x_after) step in
    let some = some_of c.highest_below.result (c.if-is_none.ensures {u = tt}) c.highest_below.ensures.some in (
      omega (arith, c.self.invariant.0, x),
      y ∙ sym x,
      record {
        width = c.learn.ensures.width ∙ kept.width ∙ sym x;
        classes = subst (λ z. HasClasses nodes z) (sym c.learn.ensures.classes) kept.classes;
        knows = c.learn.ensures.knows nodes c.self.inside.row kept.classes kept.knows kept.now (some.0, some.1.marked) here;
        now = c.learn.ensures.now;
      },
      c.self.invariant.3,
    )
