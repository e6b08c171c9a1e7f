use Rattle.std.proofs.Common.{◌≡◌, ◌<◌, ◌^◌, Some, length, sym, ap, subst, ◌∙◌}
use Rattle.std.proofs.lemmas.Result.{IfOk-weaker}
use Rattle.kex_sst.specs.declared.summary.Course.TheVariants.{Goes}
use Rattle.kex_sst.specs.Summaries.{IsCourseOf, courses_from, then_by, then_of}
use Rattle.kex_chunks.specs.Stretches.{course_in}
use Rattle.kex_chunks.proofs.Alongs.{stretch_before, stretch_there}
use Rattle.kex_chunks.proofs.stretches.Stretches.behind.Goals as goal

pub from-requires : goal.from-requires
from-requires c = (subst (λ z. IsCourseOf c.args.done (length c.args.self.now.table.states) z) c.in-Goes.is c.requires.range).0

pub then_stretch-requires : goal.then_stretch-requires
then_stretch-requires c =
    let t = c.args.self.now.table in
    let x = c.args.self.now.text in
    let lt : c.in-Goes.state < length t.states = (subst (λ z. IsCourseOf c.args.done (length t.states) z) c.in-Goes.is c.requires.range).0 in
    stretch_before t x c.in-Goes.state c.in_ok-stretch-in-Goes.stretch lt c.in_ok-stretch-in-Goes.ensures.stretch c.from.ensures.table (2 ^ 64) c.args.done c.requires.room

pub returns-in_ok-stretch-in-Goes-clause-course : goal.returns-in_ok-stretch-in-Goes-clause-course
returns-in_ok-stretch-in-Goes-clause-course c =
    let t = c.args.self.now.table in
    let x = c.args.self.now.text in
    let s = c.in_ok-stretch-in-Goes.stretch in
    let lt : c.in-Goes.state < length t.states = (subst (λ z. IsCourseOf c.args.done (length t.states) z) c.in-Goes.is c.requires.range).0 in
    let there = stretch_there t x c.in-Goes.state s lt c.in_ok-stretch-in-Goes.ensures.stretch in
    IfOk-weaker c.then_stretch.result (λ z. z ≡ then_by (Some (course_in s)) c.args.done c.in-Goes.series) (λ z. z ≡ then_of c.args.done (courses_from t t.states 0 x) c.args.course)
    (λ z e. e ∙ ap (λ y. then_by y c.args.done c.in-Goes.series) (sym there) ∙ ap (λ y. then_of c.args.done (courses_from t t.states 0 x) y) (sym c.in-Goes.is))
    c.then_stretch.ensures
