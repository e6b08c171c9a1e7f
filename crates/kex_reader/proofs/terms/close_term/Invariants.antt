use Rattle.std.proofs.Common.{◌≡◌, ◌⊎◌, ℕ, List, length}
use Rattle.kex_reader.specs.Reading.{Entry, take_term}
use Rattle.kex_reader.specs.Stands.{ConstructsShow, InConstructs, Keeps, LosesNone}
use Rattle.kex_reader.specs.Uses.{NodeNumber}
use Rattle.kex_reader.proofs.Stacks.{TermSoFar}
use Rattle.kex_reader.proofs.terms.close_term.Given as goal

abbrev pub invariant-loop-front : goal.invariant-loop-front
invariant-loop-front l = record {
  keeps : Keeps l.fn.draft l.draft;
  broken : l.draft.broken ≡ l.fn.draft.broken;
  held : LosesNone l.fn.draft l.draft (InConstructs l.fn.stack) (λ x. (x ≡ NodeNumber l.term.node) ⊎ InConstructs l.stack x);
  so_far : (at : ℕ → ℕ) (base : ℕ) (es : List Entry) → ConstructsShow l.fn.draft at base l.fn.stack es → TermSoFar l.draft at base l.stack l.term (take_term es);
}

abbrev pub decreases-loop-front : goal.decreases-loop-front
decreases-loop-front l = length l.stack
