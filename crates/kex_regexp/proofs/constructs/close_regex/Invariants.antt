use Rattle.std.proofs.Common.{◌≡◌, ℕ, ◌+◌, ◌⊎◌, List, length, vec_len}
use Rattle.std.specs.Prelude.{reverse}
use Rattle.kex_regexp.specs.Parents.{NoneLost}
use Rattle.kex_regexp.specs.Shown.{Adds}
use Rattle.kex_regexp.specs.Machine.{Entry, entries, take_regex}
use Rattle.kex_regexp.specs.Holding.{ConstructsShow, InConstructs}
use Rattle.kex_regexp.proofs.Stacks.{RegexSoFar}
use Rattle.kex_regexp.proofs.constructs.close_regex.Given as goal

abbrev pub invariant-loop-branch : goal.invariant-loop-branch
invariant-loop-branch l = record {
  adds : Adds l.fn.into l.into;
  so_far : (base : ℕ) (es : List Entry) → ConstructsShow l.fn.into base (reverse l.fn.constructs.items) es → l.fn.at ≡ base + length (entries es) → RegexSoFar l.into base l.constructs.items l.regex (take_regex es);
  nodes : NoneLost l.fn.into l.into (InConstructs l.fn.constructs.items) (λ n. (n ≡ l.regex.node) ⊎ InConstructs l.constructs.items n);
}

abbrev pub decreases-loop-branch : goal.decreases-loop-branch
decreases-loop-branch l = vec_len l.constructs
