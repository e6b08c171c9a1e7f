use Rattle.std.proofs.Common.{◌≡◌, ◌+◌, ◌++◌, length, take, ap, subst, sym, refl, ◌∙◌, append-nil, arith}
use Rattle.std.proofs.lemmas.List.{length-take-le}
use Rattle.kex_machine.proofs.Ranges.{is_trim}
use Rattle.kex_machine.specs.Nodes.{HasClasses}
use Rattle.kex_frontier.specs.Rows.{IsMarkRow}
use Rattle.kex_frontier.specs.Caches.{KnowsSteps}
use Rattle.kex_frontier.specs.Matchers.{Match, WasFed}
use Rattle.kex_frontier.proofs.RowSteps.{rows_more}
use Rattle.kex_frontier.proofs.Matches.{fed_along}
use Rattle.kex_frontier.proofs.matcher.Matcher.follow.Goals as goal

pub returns-then-self-clause-fed : goal.returns-then-self-clause-fed
returns-then-self-clause-fed c = λ w h. subst (λ z. WasFed c.args.self.now z) (sym (append-nil w)) h

pub returns-clause-fed : goal.returns-clause-fed
returns-clause-fed c = λ w h.
    let g = c.self.inside.machine.now in
    let kept = c.self.invariant.2 in
    let n = c.follow-taken.result in
    let bs = take n c.args.piece.now in
    let old : Match = record { machine = g; row = c.self.inside.row; good = c.self.inside.good; dead = c.self.inside.dead } in
    let new : Match = record { machine = g; row = c.follow-taken.new.row; good = c.self.inside.good + n; dead = c.self.inside.dead } in
    let fed : WasFed old w = subst (λ z. WasFed z w) (sym c.self.view_is) h in
    let row : IsMarkRow g (w ++ bs) c.follow-taken.new.row = rows_more g bs w c.self.inside.row c.follow-taken.new.row fed.row (c.follow-taken.ensures.steps g.nodes kept.knows) in
    let long : length bs ≡ n = length-take-le n c.args.piece.now c.follow-taken.ensures.taken in
    fed_along old new w bs refl (is_trim g c.self.invariant.3) c.if-self.false c.if-self.false fed row (omega (arith, long)) (λ some. c.follow-taken.ensures.marked g.nodes kept.knows (omega (arith, long, some)))

pub invariant_of-self : goal.invariant_of-self
invariant_of-self c =
    let nodes = c.self.inside.machine.now.nodes in
    let kept = c.self.invariant.2 in
    let same = c.follow-taken.ensures.same in
    let width = c.follow-taken.ensures.width in (
      omega (arith, c.self.invariant.0, width),
      c.self.invariant.1 ∙ sym width,
      record {
        width = ap (λ z. z.width) same ∙ kept.width ∙ sym width;
        classes = subst (λ z. HasClasses nodes z) (sym (ap (λ z. z.classes) same)) kept.classes;
        knows = subst (λ z. KnowsSteps nodes z) (sym same) (record { steps = kept.knows.steps; marked = kept.knows.marked });
        now = c.follow-taken.ensures.now;
      },
      c.self.invariant.3,
    )
