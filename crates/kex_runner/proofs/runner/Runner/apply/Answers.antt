use Rattle.std.proofs.Common.{◌≡◌, ◌<◌, Some, false, length, refl, sym, ap, subst, ◌∙◌, arith}
use Rattle.std.specs.Prelude.{slice_get}
use Rattle.kex_sst.specs.declared.summary.Course.TheVariants.{Goes}
use Rattle.kex_sst.specs.Summaries.{Sum, courses_from, sum_of}
use Rattle.kex_script.specs.Pieces.{code_over}
use Rattle.kex_runner.specs.declared.answers.Applied.{Applied}
use Rattle.kex_runner.specs.declared.answers.Fed.{Fed}
use Rattle.kex_runner.specs.Applying.{AnswersCourse, code_by_update, went_by}
use Rattle.kex_runner.specs.Following.{IsTablePlace}
use Rattle.kex_runner.specs.Noting.{contents, next_registers}
use Rattle.kex_runner.specs.Running.{Running, RunnerFeeds}
use Rattle.kex_runner.proofs.CourseFeeds.{course_leads, course_read, entry_is, entry_there, feeds_by_course}
use Rattle.kex_runner.proofs.runner.Runner.apply.Goals as goal

pub bounds-entries-self-inside : goal.bounds-entries-self-inside
bounds-entries-self-inside c =
    let t = c.self.inside.table.now in
    let h = c.self.invariant.0.sound in
    let x = c.requires.text.0 in
    let e : c.args.summary.now ≡ sum_of t x = c.requires.text.1 ∙ ap (λ (z : Running). sum_of z.table x) (sym c.self.view_is) in
    let long = ap length (c.entries-entries.ensures.same ∙ ap (λ (z : Sum). z.entries) e) in
    let lt = entry_there t c.self.inside.place.state (contents c.self.inside.guide.script c.self.inside.place.registers) x h.table h.place in
    omega (arith, long, lt)

pub go_by-requires-clause-place : goal.go_by-requires-clause-place
go_by-requires-clause-place c =
    let t = c.self.inside.table.now in
    let state = c.self.inside.place.state in
    let regs = contents c.self.inside.guide.script c.self.inside.place.registers in
    let h = c.self.invariant.0.sound in
    let x = c.requires.text.0 in
    let e : c.args.summary.now ≡ sum_of t x = c.requires.text.1 ∙ ap (λ (z : Running). sum_of z.table x) (sym c.self.view_is) in
    let long = ap length (c.entries-entries.ensures.same ∙ ap (λ (z : Sum). z.entries) e) in
    let lt = entry_there t state regs x h.table h.place in
    let here : state < length c.entries-entries.result.now = omega (arith, long, lt) in
    let at = course_read c.args.summary.now c.entries-entries.result.now state c.index-entries-self.result c.entries-entries.ensures.same c.index-entries-self.is here ∙ ap (λ z. Some z) c.in-Goes.is in
    let there : slice_get (courses_from t t.states 0 x) state ≡ Some (Goes c.in-Goes.target c.in-Goes.series) = ap (λ (z : Sum). slice_get z.entries state) (sym e) ∙ at in
    subst (λ (z : Running). IsTablePlace z.table c.in-Goes.target (next_registers c.in-Goes.series 0 z.registers)) c.self.view_is
    (course_leads t state regs x h.table h.place c.in-Goes.target c.in-Goes.series (entry_is t state regs x h.table h.place (Goes c.in-Goes.target c.in-Goes.series) there))

pub returns-in-Gone-clause-answer : goal.returns-in-Gone-clause-answer
returns-in-Gone-clause-answer c =
    let t = c.self.inside.table.now in
    let state = c.self.inside.place.state in
    let s = c.args.summary.now in
    let h = c.self.invariant.0.sound in
    let x = c.requires.text.0 in
    let e : s ≡ sum_of t x = c.requires.text.1 ∙ ap (λ (z : Running). sum_of z.table x) (sym c.self.view_is) in
    let long = ap length (c.entries-entries.ensures.same ∙ ap (λ (z : Sum). z.entries) e) in
    let lt = entry_there t state (contents c.self.inside.guide.script c.self.inside.place.registers) x h.table h.place in
    let here : state < length c.entries-entries.result.now = omega (arith, long, lt) in
    let at = course_read s c.entries-entries.result.now state c.index-entries-self.result c.entries-entries.ensures.same c.index-entries-self.is here ∙ ap (λ z. Some z) c.in-Gone.is in
    subst (λ (z : Running). AnswersCourse (slice_get s.entries z.state) (Applied.Gone c.in-Gone.count)) c.self.view_is
    (subst (λ z. AnswersCourse z (Applied.Gone c.in-Gone.count)) (sym at) refl)

pub returns-in_ok-go_by-in-Goes-clause-answer : goal.returns-in_ok-go_by-in-Goes-clause-answer
returns-in_ok-go_by-in-Goes-clause-answer c =
    let t = c.self.inside.table.now in
    let state = c.self.inside.place.state in
    let s = c.args.summary.now in
    let h = c.self.invariant.0.sound in
    let x = c.requires.text.0 in
    let e : s ≡ sum_of t x = c.requires.text.1 ∙ ap (λ (z : Running). sum_of z.table x) (sym c.self.view_is) in
    let long = ap length (c.entries-entries.ensures.same ∙ ap (λ (z : Sum). z.entries) e) in
    let lt = entry_there t state (contents c.self.inside.guide.script c.self.inside.place.registers) x h.table h.place in
    let here : state < length c.entries-entries.result.now = omega (arith, long, lt) in
    let at = course_read s c.entries-entries.result.now state c.index-entries-self.result c.entries-entries.ensures.same c.index-entries-self.is here ∙ ap (λ z. Some z) c.in-Goes.is in
    subst (λ (z : Running). AnswersCourse (slice_get s.entries z.state) Applied.On) c.self.view_is
    (subst (λ z. AnswersCourse z Applied.On) (sym at) refl)

pub returns-in_ok-go_by-in-Goes-clause-on : goal.returns-in_ok-go_by-in-Goes-clause-on
returns-in_ok-go_by-in-Goes-clause-on c = λ _ x e.
    let script = c.self.inside.guide.script in
    let r : Running = record { table = c.self.inside.table.now; words = script.words; state = c.self.inside.place.state; pending = code_over script.words c.self.inside.pending.items; registers = contents script c.self.inside.place.registers; read = c.self.inside.read; dead = c.self.inside.dead; ended = c.self.inside.ended; usable = c.self.inside.usable } in
    let s = c.args.summary.now in
    let q = c.in-Goes.target in
    let u = c.in-Goes.series in
    let h = c.self.invariant.0.sound in
    let is : s ≡ sum_of r.table x = e ∙ ap (λ (z : Running). sum_of z.table x) (sym c.self.view_is) in
    let long = ap length (c.entries-entries.ensures.same ∙ ap (λ (z : Sum). z.entries) is) in
    let lt = entry_there r.table r.state r.registers x h.table h.place in
    let here : r.state < length c.entries-entries.result.now = omega (arith, long, lt) in
    let at : slice_get s.entries r.state ≡ Some (Goes q u) = course_read s c.entries-entries.result.now r.state c.index-entries-self.result c.entries-entries.ensures.same c.index-entries-self.is here ∙ ap (λ z. Some z) c.in-Goes.is in
    let live : r.dead ≡ false = ap (λ (z : Running). z.dead) c.self.view_is ∙ c.requires.live in
    let f = feeds_by_course r x s q u c.args.code.now h.table h.place live is at in
    let g = subst (λ (z : Running). RunnerFeeds Fed.On z (went_by z q u s.bytes) x c.args.code.now (code_by_update z u c.args.code.now)) c.self.view_is f in
    let went : went_by c.args.self.now q u s.bytes ≡ c.go_by.new.self = ap (λ n. went_by c.args.self.now q u n) (sym c.length.ensures.same) ∙ sym c.in_ok-go_by-in-Goes.ensures.went in
    subst (λ z. RunnerFeeds Fed.On c.args.self.now c.go_by.new.self x c.args.code.now z) (sym c.in_ok-go_by-in-Goes.ensures.code)
    (subst (λ z. RunnerFeeds Fed.On c.args.self.now z x c.args.code.now (code_by_update c.args.self.now u c.args.code.now)) went g)
