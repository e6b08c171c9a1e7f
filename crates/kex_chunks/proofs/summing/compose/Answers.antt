use Rattle.std.proofs.Common.{◌≡◌, ◌+◌, length, map, take, sym, ap₂, subst, ◌∙◌, arith}
use Rattle.std.proofs.lemmas.List.{take_all}
use Rattle.kex_sst.specs.Summaries.{IsSum, Sum, then_of, then_sum}
use Rattle.kex_sst.proofs.Courses.{determined}
use Rattle.kex_chunks.proofs.Sums.{then_in_range}
use Rattle.kex_chunks.proofs.summing.compose.Goals as goal

pub new-requires : goal.new-requires
new-requires c =
    let one = c.args.one.now in
    let other = c.args.other.now in
    let all = c.entries-entries.result.now in
    let whole : take c.entries.course-index all ≡ all = take_all c.entries.course-index all (let h = c.entries-test.false in omega (arith, h)) in
    let entries : c.entries.all.items ≡ (then_sum one other).entries = c.entries.invariant ∙ ap₂ (λ n es. map (λ d. then_of n other.entries d) es) c.length-bytes.ensures.same (whole ∙ c.entries-entries.ensures.same) in
    subst (λ (z : Sum). IsSum z) (ap₂ (λ y z. record { bytes = y; entries = z }) (ap₂ (λ y z. y + z) (sym c.length-bytes.ensures.same) (sym c.length.ensures.same)) (sym entries))
    (then_in_range one other c.requires.states c.length-bytes.ensures.sum c.length.ensures.sum)

pub returns-clause-text : goal.returns-clause-text
returns-clause-text c = λ t x y table e f.
    let one = c.args.one.now in
    let other = c.args.other.now in
    let all = c.entries-entries.result.now in
    let whole : take c.entries.course-index all ≡ all = take_all c.entries.course-index all (let h = c.entries-test.false in omega (arith, h)) in
    let entries : c.entries.all.items ≡ (then_sum one other).entries = c.entries.invariant ∙ ap₂ (λ n es. map (λ d. then_of n other.entries d) es) c.length-bytes.ensures.same (whole ∙ c.entries-entries.ensures.same) in
    c.new.ensures
    ∙ ap₂ (λ y z. record { bytes = y; entries = z }) (ap₂ (λ y z. y + z) c.length-bytes.ensures.same c.length.ensures.same) entries
    ∙ ap₂ (λ y z. then_sum y z) e f
    ∙ sym (determined t x y table)
