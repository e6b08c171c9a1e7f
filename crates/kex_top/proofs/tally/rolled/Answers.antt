use Rattle.std.proofs.Common.{◌≡◌, ◌<◌, ◌+◌, ◌*◌, ◌%◌, ◌^◌, ◌++◌, ◌∷◌, [], ℕ, List, sym, ap, ◌∙◌, arith, length, take}
use Rattle.std.specs.Prelude.{slice_index_or}
use Rattle.std.proofs.lemmas.List.{take_more}
use Rattle.kex_top.specs.Trials.{rolling_sum}
use Rattle.kex_top.proofs.TrialCounts.{rolled-append}
use Rattle.kex_top.proofs.tally.rolled.Goals as goal

pub bytes-preserved : goal.bytes-preserved
bytes-preserved c =
    let i = c.bytes.byte-index in
    let all : List ℕ = c.args.bytes.now in
    let within : i < length all = c.bytes-test.true in
    let b : ℕ = slice_index_or all i 0 in
    let last : rolling_sum c.args.start (take (i + 1) all) ≡ rolling_sum c.args.start (take i all ++ b ∷ []) = ap (λ (z : List ℕ). rolling_sum c.args.start z) (take_more all i 0 within) in
    record {
      fits = omega arith;
      value = ap (λ s. (s * 31 + b) % 2 ^ 32) c.bytes.invariant.value ∙ sym (last ∙ rolled-append c.args.start (take i all) (b ∷ []));
    }
