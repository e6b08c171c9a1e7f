use Rattle.std.proofs.Common.{◌≡◌, ℕ, ◌+◌, ◌⊎◌, List, length, vec_len}
use Rattle.std.specs.Prelude.{reverse}
use Rattle.kex_regexp.specs.Grammar.{Empty}
use Rattle.kex_regexp.specs.Parents.{NoneLost}
use Rattle.kex_regexp.specs.Shown.{Adds}
use Rattle.kex_regexp.specs.Machine.{Entry, entries, take_pieces}
use Rattle.kex_regexp.specs.Holding.{ConstructsShow, InConstructs}
use Rattle.kex_regexp.proofs.Stacks.{BranchSoFar}
use Rattle.kex_regexp.proofs.constructs.close_branch.Given as goal

abbrev pub invariant-loop-piece : goal.invariant-loop-piece
invariant-loop-piece l = record {
  adds : Adds l.fn.into l.into;
  so_far : (base : ℕ) (es : List Entry) → ConstructsShow l.fn.into base (reverse l.fn.constructs.items) es → l.fn.at ≡ base + length (entries es) → BranchSoFar l.into base l.constructs.items l.branch (take_pieces es Empty);
  nodes : NoneLost l.fn.into l.into (InConstructs l.fn.constructs.items) (λ n. (n ≡ l.branch.node) ⊎ InConstructs l.constructs.items n);
}

abbrev pub decreases-loop-piece : goal.decreases-loop-piece
decreases-loop-piece l = vec_len l.constructs
