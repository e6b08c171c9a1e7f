use Rattle.std.proofs.Common.{◌≡◌, None, Some, Option, length, get_or, refl, ap, sym, ◌∙◌, arith}
use Rattle.std.specs.Prelude.{slice_get}
use Rattle.std.proofs.lemmas.Option.{slice_get-get_or, slice_get_read}
use Rattle.kex_byteset.specs.Classes.{class_count}
use Rattle.kex_sst.specs.declared.table.Transition.{Transition}
use Rattle.kex_sst.specs.Tables.{transition_of, transition_on, transition_if}
use Rattle.kex_sst.proofs.table.Table.next.Goals as goal
use Rattle.kex_sst.proofs.table.Table.next.Goals.{After-state}

here : (c : After-state) → slice_get c.self.inside.states.items c.args.state ≡ Some c.index-state.result.now
here c = slice_get_read c.self.inside.states.items (length c.self.inside.states.items) c.args.state c.index-state.result.now refl (omega (arith, c.requires.state, ap (λ t. length t.states) c.self.view_is)) c.index-state.ensures

long_row : (c : After-state) → length c.state.inside.go ≡ class_count c.args.self.now.classes
long_row c = ap (λ r. length r.go) c.state.view_is ∙ (c.self.invariant.states c.args.state c.index-state.result.now (here c)).long ∙ ap (λ t. class_count t.classes) c.self.view_is

pub at-requires : goal.at-requires
at-requires c = omega (arith, long_row c, c.requires.class)

transition_is : (c : After-state) (x : Option Transition) → x ≡ get_or c.state.inside.go c.args.class None → transition_of c.args.self.now c.args.state c.args.class ≡ x
transition_is c x e =
    ap (λ t. transition_of t c.args.state c.args.class) (sym c.self.view_is)
    ∙ ap (λ o. transition_on o c.args.class) (here c)
    ∙ ap (λ r. transition_if (slice_get r.go c.args.class)) (sym c.state.view_is)
    ∙ ap transition_if (slice_get-get_or c.state.inside.go c.args.class None (omega (arith, long_row c, c.requires.class)))
    ∙ sym e

pub returns-in-None : goal.returns-in-None
returns-in-None c = transition_is (goal.at.returns-in-None c).After-state c.at.result.now c.at.ensures ∙ c.in-None.is

pub returns-in-Some : goal.returns-in-Some
returns-in-Some c = transition_is (goal.at.returns-in-Some c).After-state c.at.result.now c.at.ensures ∙ c.in-Some.is ∙ ap (λ u. Some (record { target = c.in-Some.transition.target; update = u })) (sym c.get.ensures)
