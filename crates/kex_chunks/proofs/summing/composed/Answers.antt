use Rattle.std.proofs.Common.{◌≡◌, ◌<◌, ◌^◌, Some, length, sym, ap, subst, ◌∙◌}
use Rattle.std.proofs.lemmas.Result.{IfOk-weaker}
use Rattle.kex_sst.specs.declared.summary.Course.TheVariants.{Goes}
use Rattle.kex_sst.specs.Summaries.{IsCourseOf, then_by, then_of}
use Rattle.kex_chunks.proofs.Alongs.{gone_before}
use Rattle.kex_chunks.proofs.Sums.{entry_read}
use Rattle.kex_chunks.proofs.summing.composed.Goals as goal

pub joined-requires : goal.joined-requires
joined-requires c =
    let o = c.args.other.now in
    let lt : c.in-Goes.state < length o.entries = (subst (λ z. IsCourseOf c.args.bytes (length o.entries) z) c.in-Goes.is c.requires.range).0 in
    let at = entry_read o c.entries-others.result.now c.in-Goes.state c.index-others-state.result c.entries-others.ensures.same c.index-others-state.is lt in
    gone_before (2 ^ 64) (length o.entries) o.bytes c.args.bytes c.index-others-state.result (c.entries-others.ensures.sum.each c.in-Goes.state c.index-others-state.result at) c.requires.room

pub returns-in-Goes : goal.returns-in-Goes
returns-in-Goes c =
    let o = c.args.other.now in
    let lt : c.in-Goes.state < length o.entries = (subst (λ z. IsCourseOf c.args.bytes (length o.entries) z) c.in-Goes.is c.requires.range).0 in
    let at = entry_read o c.entries-others.result.now c.in-Goes.state c.index-others-state.result c.entries-others.ensures.same c.index-others-state.is lt in
    IfOk-weaker c.joined.result (λ z. z ≡ then_by (Some c.index-others-state.result) c.args.bytes c.in-Goes.series) (λ z. z ≡ then_of c.args.bytes o.entries c.args.course.now)
    (λ z e. e ∙ ap (λ y. then_by y c.args.bytes c.in-Goes.series) (sym at) ∙ ap (λ y. then_of c.args.bytes o.entries y) (sym c.in-Goes.is))
    c.joined.ensures
