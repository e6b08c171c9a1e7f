use Rattle.std.proofs.Common.{◌≡◌, ◌⊎◌, ℕ, ◌+◌, List, length}
use Rattle.kex_reader.specs.Syntax.{Pre}
use Rattle.kex_reader.specs.Reading.{Entry, entries, with_pre as spec_put}
use Rattle.kex_reader.specs.Shown.{ShowsPre}
use Rattle.kex_reader.specs.Stands.{ConstructsShow, InConstructs, Keeps, LosesNone}
use Rattle.kex_reader.specs.Uses.{NodeNumber}
use Rattle.kex_reader.proofs.Stacks.{PreSoFar}
use Rattle.kex_reader.proofs.terms.put.Given as goal

abbrev pub invariant-loop-prefix : goal.invariant-loop-prefix
invariant-loop-prefix l = record {
  keeps : Keeps l.fn.draft l.draft;
  broken : l.draft.broken ≡ l.fn.draft.broken;
  held : LosesNone l.fn.draft l.draft (λ x. (x ≡ NodeNumber l.fn.part.node) ⊎ InConstructs l.fn.stack x) (λ x. (x ≡ NodeNumber l.whole.node) ⊎ InConstructs l.stack x);
  so_far : (at : ℕ → ℕ) (base : ℕ) (es : List Entry) (p : Pre) → ConstructsShow l.fn.draft at base l.fn.stack es → l.fn.part.at ≡ at (base + length (entries es)) → ShowsPre p l.fn.draft at l.fn.part.node (base + length (entries es)) → PreSoFar l.draft at base l.stack l.whole (spec_put p es);
}

abbrev pub decreases-loop-prefix : goal.decreases-loop-prefix
decreases-loop-prefix l = length l.stack
