use Rattle.std.proofs.Common.{◌<◌, ◌++◌, ◌∷◌, [], length, ap, ap₂, ◌∙◌, arith}
use Rattle.std.proofs.lemmas.List.{take_all}
use Rattle.kex_sst.specs.Summaries.{courses_from}
use Rattle.kex_sst.proofs.Courses.{courses_count}
use Rattle.kex_chunks.proofs.Alongs.{courses_next}
use Rattle.kex_chunks.proofs.summing.courses_of.Goals as goal

pub states-preserved : goal.states-preserved
states-preserved c =
    let t = c.args.table.now in
    let lt : c.states.state < length t.states = (let m = ap length c.states-states.ensures.same in let h = c.states-test.true in omega (arith, m, h)) in
    c.in_ok-push.ensures.items
    ∙ ap₂ (λ y z. y ++ z ∷ []) c.states.invariant c.into_course.ensures
    ∙ courses_next t c.args.text.now c.states.state c.in_ok-stretch.stretch c.states-states.ensures.table lt c.in_ok-stretch.ensures

pub returns-clause-courses : goal.returns-clause-courses
returns-clause-courses c =
    let t = c.args.table.now in
    let all = courses_from t t.states 0 c.args.text.now in
    let many = courses_count t c.states-states.ensures.table t.states 0 c.args.text.now in
    let m = ap length c.states-states.ensures.same in
    let h = c.states-test.false in
    c.states.invariant ∙ take_all c.states.state all (omega (arith, many, m, h))
