use Rattle.std.proofs.Common.{[], get_or, refl, subst, sym, ap, ◌∙◌}
use Rattle.kex_machine.specs.Nodes.{HasClasses}
use Rattle.kex_frontier.specs.Caches.{KeptSteps, IsKeptAt, IsKeptNow, IsRowStart, KnowsSteps}
use Rattle.kex_frontier.proofs.CachedWays.{some_value, kept_on, knows_on, classes_on}
use Rattle.kex_frontier.proofs.step_cache.StepCache.learn.Goals as goal
use Rattle.kex_frontier.proofs.step_cache.StepCache.learn.Goals.{After-keep, in-Some-from, in_default-from}

module _ (c : After-keep) where
  abbrev k : KeptSteps
  k = record { classes = c.self.inside.classes; width = c.self.inside.rows.width; rows = c.self.inside.rows.rows; ways = c.self.inside.ways.items; at = c.self.inside.at }

pub returns-then-self-gt0-clause-knows : goal.returns-then-self-gt0-clause-knows
returns-then-self-gt0-clause-knows c = λ nodes was classes knows now mark step.
    let k : KeptSteps = record { classes = c.self.inside.classes; width = c.self.inside.rows.width; rows = c.self.inside.rows.rows; ways = c.self.inside.ways.items; at = c.self.inside.at } in
    let known : KnowsSteps nodes k = subst (λ z. KnowsSteps nodes z) (sym c.self.view_is) knows in
    record { steps = known.steps; marked = known.marked }

pub note-requires-clause-from : goal.note-requires-clause-from
note-requires-clause-from c =
    let at = (goal.at.note-requires-clause-from c).After-keep in
    let start = some_value (λ z. IsRowStart (k at) z) (k at).at c.in-Some-from.from c.in-Some-from.is c.self.invariant.3.now in
    let row = get_or c.self.inside.rows.rows start.0 [] in
    (row, kept_on (k at) c.keep.new.self c.args.row.now c.keep.ensures.more c.in-Some-from.from row (start.0, start.1, start.2, refl))

pub returns-clause-knows : goal.returns-clause-knows
returns-clause-knows c = λ nodes was classes knows now mark step.
    let at = (goal.at.returns-clause-knows c).After-keep in
    let k : KeptSteps = record { classes = c.self.inside.classes; width = c.self.inside.rows.width; rows = c.self.inside.rows.rows; ways = c.self.inside.ways.items; at = c.self.inside.at } in
    let known : KnowsSteps nodes k = subst (λ z. KnowsSteps nodes z) (sym c.self.view_is) knows in
    let here : IsKeptNow k was = subst (λ z. IsKeptNow z was) (sym c.self.view_is) now in
    let more : KnowsSteps nodes c.keep.new.self = knows_on k c.keep.new.self c.args.row.now c.keep.ensures.more nodes c.self.invariant.3 known mark in
    let cl : HasClasses nodes c.keep.new.self.classes = subst (λ z. HasClasses nodes z) (sym (classes_on k c.keep.new.self c.args.row.now c.keep.ensures.more ∙ ap (λ z. z.classes) c.self.view_is)) classes in
    let noted : KnowsSteps nodes c.match-from.self = elim c.match-from.branch [
      | in-Some-from w ↦
          let f : IsKeptAt c.keep.new.self w.in-Some-from.from was = kept_on k c.keep.new.self c.args.row.now c.keep.ensures.more w.in-Some-from.from was (some_value (λ z. IsKeptAt k z was) k.at w.in-Some-from.from w.in-Some-from.is here) in
          subst (λ z. KnowsSteps nodes z) (sym w.self-is) (w.note.ensures.knows nodes was c.args.row.now cl more f c.in-Some.ensures.some step)
      | in_default-from w ↦ subst (λ z. KnowsSteps nodes z) (sym w.self-is) more
    ] in
    let last : KnowsSteps nodes (record { classes = c.self-2.inside.classes; width = c.self-2.inside.rows.width; rows = c.self-2.inside.rows.rows; ways = c.self-2.inside.ways.items; at = c.self-2.inside.at }) = subst (λ z. KnowsSteps nodes z) (sym c.self-2.view_is) noted in
    record { steps = last.steps; marked = last.marked }
