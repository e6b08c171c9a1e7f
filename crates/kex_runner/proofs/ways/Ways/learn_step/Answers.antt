use Rattle.std.proofs.Common.{[], get_or, ap, ◌∙◌}
use Rattle.std.specs.Prelude.{IfSome}
use Rattle.std.proofs.lemmas.List.Elements.{All-set}
use Rattle.std.proofs.lemmas.Option.{get_or_from_slice_get}
use Rattle.kex_script.specs.Scripts.{change_at}
use Rattle.kex_runner.specs.Ways.{IsWayStep, IsStepIf, composition}
use Rattle.kex_runner.proofs.WayLemmas.{known_more, step_if, step_is}
use Rattle.kex_runner.proofs.ways.Ways.learn_step.Goals as goal
use Rattle.kex_runner.proofs.ways.Ways.learn_step.Goals.{In_ok-split}

-- what was found
found : (c : In_ok-split) → IfSome c.in_ok-split.split (λ x. IsWayStep c.args.script.now c.split_of.new.ways c.args.way c.args.update x)
found c =
    let s = c.args.script.now in
    let ways = c.args.self.now.lists in
    let from = c.requires.way.0 in
    let u = change_at s c.args.update in
    step_is s c.words.result.now ways c.split_of.new.ways c.args.way c.args.update c.in_ok-split.split from c.deref.result.now c.words.ensures c.in_ok-split.ensures.kept c.requires.way.1
    (c.deref.ensures.value ∙ c.in_ok-compose.ensures ∙ ap (λ z. composition u z) (c.list.ensures ∙ ap (λ z. get_or ways z []) c.from.ensures ∙ get_or_from_slice_get ways c.args.way from [] c.requires.way.1.at))
    c.in_ok-split.ensures.split

pub returns-then-place-len-clause-known : goal.returns-then-place-len-clause-known
returns-then-place-len-clause-known c =
    let s = c.args.script.now in
    let ways = c.split_of.new.ways in
    let made = c.new.ensures in
    known_more s c.args.self.now _ c.in_ok-split.ensures.kept c.requires.known (λ h. h) (λ h. All-set (IsStepIf s ways) c.args.self.now.steps.items c.place_of-place.result c.new.result (step_if s ways c.args.way c.args.update c.in_ok-split.split c.new.result made.0 made.1 made.2 (found (goal.at.returns-then-place-len-clause-known c).In_ok-split)) h)

pub returns-then-place-len-clause-step : goal.returns-then-place-len-clause-step
returns-then-place-len-clause-step c = found (goal.at.returns-then-place-len-clause-step c).In_ok-split

pub returns-else-place-len-clause-step : goal.returns-else-place-len-clause-step
returns-else-place-len-clause-step c = found (goal.at.returns-else-place-len-clause-step c).In_ok-split
