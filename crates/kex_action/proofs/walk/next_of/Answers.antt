use Rattle.std.proofs.Common.{◌≡◌, ℕ, sym, subst, ◌∙◌}
use Rattle.kex_code.specs.declared.symbol.Symbol.{Symbol}
use Rattle.kex_machine.specs.Nodes.{side_of}
use Rattle.kex_model.specs.Moves.{Allows, reads, goes_left, goes_right, goes_forced, Side, to_left, to_right, symbol_of, forced}
use Rattle.kex_action.specs.Holdings.{step_by}
use Rattle.kex_action.proofs.walk.next_of.Goals as goal

pub returns-in-Read-Byte-clause-some : goal.returns-in-Read-Byte-clause-some
returns-in-Read-Byte-clause-some c = rw (c.in-Read-Byte.is-0, c.in-Read-Byte.is-1) (reads (sym c.has.ensures ∙ c.if-has.true))

pub returns-in-Choice-L-clause-some : goal.returns-in-Choice-L-clause-some
returns-in-Choice-L-clause-some c = rw (c.in-Choice-L.is-0, c.in-Choice-L.is-1) goes_left

pub returns-in-Choice-R-clause-some : goal.returns-in-Choice-R-clause-some
returns-in-Choice-R-clause-some c = rw (c.in-Choice-R.is-0, c.in-Choice-R.is-1) goes_right

forced_by : (x : Side) (y : Symbol) (n : ℕ) → symbol_of x ≡ y → Allows (forced x n) (step_by y n)
forced_by to_left y n e = subst (λ q. Allows (forced to_left n) (step_by q n)) e goes_forced
forced_by to_right y n e = subst (λ q. Allows (forced to_right n) (step_by q n)) e goes_forced

pub returns-in-Forced-default-clause-some : goal.returns-in-Forced-default-clause-some
returns-in-Forced-default-clause-some c = rw c.in-Forced-default.is-0 (forced_by (side_of c.in-Forced-default.bit) c.args.symbol c.in-Forced-default.next (c.is_of.ensures.0 c.if-is_of.true))
