use Rattle.std.proofs.Common.{◌≡◌, ◌<◌, get_or, length, ap, ◌∙◌, arith}
use Rattle.std.proofs.Math.ListN.{set}
use Rattle.kex_sst.specs.declared.summary.Course.{Course}
use Rattle.kex_sst.specs.Summaries.{courses_from, then_of}
use Rattle.kex_chunks.specs.Stretches.{Stretched}
use Rattle.kex_chunks.proofs.MovedLists.{changed_more, unchanged_at}
use Rattle.kex_chunks.proofs.summing.go_on.Goals as goal

pub loop-i-preserved : goal.loop-i-preserved
loop-i-preserved c =
    let t = c.args.table.now in
    let x = c.args.text.now in
    let f = λ (d : Course). then_of c.args.done (courses_from t t.states 0 x) d in
    let i = c.loop-i.i in
    let init = c.args.courses.now in
    let r = c.index-courses-i.result in
    let lt : i < length init = (let h = c.loop-i-test.true in let a = c.loop-i.auto.courses in omega (arith, h, a)) in
    let read : c.replace-course.result ≡ get_or init i r = c.replace-course.ensures.value ∙ ap (λ z. get_or z i r) c.loop-i.invariant.courses ∙ unchanged_at f i init r lt in
    let made : c.in_ok-courses.field-0 ≡ f (get_or init i r) =
    c.in_ok-courses.ensures.course
    ∙ ap (λ (s : Stretched). then_of c.args.done (courses_from s.table s.table.states 0 s.text) c.replace-course.result) c.loop-i.invariant.stretches
    ∙ ap f read in
    record {
      stretches = c.behind.ensures.same ∙ c.loop-i.invariant.stretches;
      courses = ap (λ z. set (set z i c.replace-course.new.dest) i c.in_ok-courses.field-0) c.loop-i.invariant.courses ∙ changed_more f i init c.replace-course.new.dest c.in_ok-courses.field-0 r lt made;
    }
