use Rattle.std.proofs.Common.{◌≡◌, ℕ, ◌<◌, Some, length, refl, sym, ap, subst, ◌∙◌, arith}
use Rattle.std.specs.Prelude.{slice_get}
use Rattle.std.proofs.lemmas.Option.{slice_get-get_or}
use Rattle.kex_model.specs.Labelled.{Shape}
use Rattle.kex_sst.specs.Tables.{transition_of}
use Rattle.kex_paths.specs.Nexts.{HasClass, IsOfShape}
use Rattle.kex_cover.specs.Keeping.{IsUpdateTo}
use Rattle.kex_cover.proofs.LeftWays.{dies_best, does_some, keeps_some, machine_of, many_lefts, target_within}
use Rattle.kex_cover.proofs.rows.transition_on.Goals as goal
use Rattle.kex_cover.proofs.rows.transition_on.Goals.{In-Some, After-index-lefts-state}

pub returns-in_default-clause-does : goal.returns-in_default-clause-does
returns-in_default-clause-does c = λ k s at b lt of. dies_best c.args.tools.now.workspace c.args.table.now c.args.lefts.now k c.args.state s at c.args.class b lt of c.in_default.ensures

on : (c : In-Some) → transition_of c.args.table.now c.args.state c.args.class ≡ Some (record { target = c.in-Some.target; update = c.in-Some._update.now })
on c = c.in-Some.ensures

within : (c : In-Some) → c.in-Some.target < length c.args.lefts.now
within c = target_within c.args.tools.now.workspace c.args.table.now c.args.lefts.now c.requires.left c.args.state c.args.class c.requires.state c.requires.class (record { target = c.in-Some.target; update = c.in-Some._update.now }) (on c)

pub bounds-lefts-target : goal.bounds-lefts-target
bounds-lefts-target c = within (goal.at.bounds-lefts-target c).In-Some

here : (c : After-index-lefts-state) → slice_get c.args.lefts.now c.args.state ≡ Some c.index-lefts-state.result
here c = slice_get-get_or c.args.lefts.now c.args.state c.index-lefts-state.result (omega (arith, c.requires.state, many_lefts c.args.tools.now.workspace c.args.table.now c.args.lefts.now c.requires.left)) ∙ ap (λ z. Some z) (sym c.index-lefts-state.is)

there : (c : After-index-lefts-state) → slice_get c.args.lefts.now c.in-Some.target ≡ Some c.index-lefts-target.result
there c = slice_get-get_or c.args.lefts.now c.in-Some.target c.index-lefts-target.result (target_within c.args.tools.now.workspace c.args.table.now c.args.lefts.now c.requires.left c.args.state c.args.class c.requires.state c.requires.class (record { target = c.in-Some.target; update = c.in-Some._update.now }) c.in-Some.ensures) ∙ ap (λ z. Some z) (sym c.index-lefts-target.is)

pub update_to-requires-clause-from : goal.update_to-requires-clause-from
update_to-requires-clause-from c = machine_of c.args.tools.now.workspace c.args.table.now c.args.lefts.now c.requires.left c.args.state c.index-lefts-state.result (here (goal.at.update_to-requires-clause-from c).After-index-lefts-state)

pub update_to-requires-clause-to : goal.update_to-requires-clause-to
update_to-requires-clause-to c = machine_of c.args.tools.now.workspace c.args.table.now c.args.lefts.now c.requires.left c.in-Some.target c.index-lefts-target.result (there (goal.at.update_to-requires-clause-to c).After-index-lefts-state)

pub update_to-requires-clause-keeps : goal.update_to-requires-clause-keeps
update_to-requires-clause-keeps c =
    let top = (goal.at.update_to-requires-clause-keeps c).After-index-lefts-state in
    keeps_some c.args.tools.now.workspace c.args.table.now c.args.lefts.now c.requires.left c.args.state c.args.class c.requires.state c.requires.class (record { target = c.in-Some.target; update = c.in-Some._update.now }) c.in-Some.ensures c.index-lefts-state.result c.index-lefts-target.result (here top) (there top)

pub returns-clause-does : goal.returns-clause-does
returns-clause-does c = λ k s at b lt of.
    let top = (goal.at.returns-clause-does c).After-index-lefts-state in
    let g = c.args.tools.now.workspace in
    let from = c.index-lefts-state.result in
    let to = c.index-lefts-target.result in
    does_some g c.args.table.now c.args.lefts.now k c.args.state c.args.class s at (record { target = c.in-Some.target; update = c.in-Some._update.now }) c.in-Some.ensures from to (here top) (there top) (record { target = c.in-Some.target; update = c.in_ok-update-2.update }) refl
    (subst (λ z. (x : Shape ℕ) (b : ℕ) → IsOfShape from x → HasClass g c.args.class b → IsUpdateTo g b x to.leaves z) (sym c.in_ok-update-2.ensures) c.in_ok-update.ensures.update) b lt of
