use Rattle.std.proofs.Common.{◌≡◌, ◌<◌, ◌+◌, ◌∙◌, [], take, length, get_or, sym, ap, subst, add-one, arith}
use Rattle.kex_pipe.specs.Events.{bytes_given, end_given}
use Rattle.kex_pipe.specs.Histories.{stop_as}
use Rattle.kex_pipe.specs.Reports.{report_as, latest_report, LastStop}
use Rattle.kex_pipe.proofs.Schedule.{came-given}
use Rattle.kex_rings.proofs.Standings.{settled-answer, last-stop-more, last-stop-all}
use Rattle.kex_rings.proofs.pipe.RingPipe.report.Goals as goal

pub loop-i-preserved : goal.loop-i-preserved
loop-i-preserved g c = λ came ps xs taken line.
    let t = g.T.Turn in
    let i = c.loop-i.i in
    let self = c.args.self.now in
    let at : c.seat-item.result ≡ get_or self.seats.items i c.seat-item.result = c.seat-item.is ∙ ap (λ z. get_or z i c.seat-item.result) c.deref-seat-items.ensures.value in
    let within : i < length self.seats.items = omega (arith, c.loop-i-test.true, ap length c.deref-seat-items.ensures.value) in
    let more = last-stop-more t i 1 (i + 1) came [] ps self.seats.items xs self.output taken c.seat-item.result (stop_as c.stop.result) (report_as c.loop-i.report) within (omega arith)
    (λ h stands. c.stop.ensures h (subst (λ z. t.stands z.seat.staged.stage h) (sym at) stands)) line (c.loop-i.invariant came ps xs taken line) in
    subst (λ z. LastStop t 1 (take (i + 1) ps) (take (i + 1) xs) z) (sym c.latest-report.ensures)
    (subst (λ z. LastStop t 1 (take z ps) (take z xs) (latest_report (i + 1) (stop_as c.stop.result) (report_as c.loop-i.report))) (sym (add-one i)) more)

pub returns-clause-last : goal.returns-clause-last
returns-clause-last g c = λ ps h taken s.
    let t = g.T.Turn in
    let self = c.args.self.now in
    let all : c.loop-i.i ≡ length self.seats.items = omega (arith, c.loop-i-test.false, c.loop-i.auto.i-end, ap length c.deref-seat-items.ensures.value) in
    last-stop-all t 1 s.came [] ps self.seats.items s.seats self.output taken (report_as c.loop-i.report) s.line
    (subst (λ z. LastStop t 1 (take z ps) (take z s.seats) (report_as c.loop-i.report)) all (c.loop-i.invariant s.came ps s.seats taken s.line))

pub returns-clause-settled : goal.returns-clause-settled
returns-clause-settled g c = λ ps h taken s done.
    let t = g.met.T.Turn in
    let self = c.args.self.now in
    settled-answer g.T.Turn t.one 1 s.came [] ps self.seats.items s.seats self.output taken (bytes_given h) (end_given h) _ (came-given g.T.Turn.gives s.after) s.line done (returns-clause-last g c ps h taken s)
