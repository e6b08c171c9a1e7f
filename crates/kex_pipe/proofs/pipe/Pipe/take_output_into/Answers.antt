use Rattle.std.proofs.Common.{◌++◌, ◌∙◌, sym, ap, append-nil}
use Rattle.kex_pipe.proofs.Schedule.{standing, written-taken, line-taken}
use Rattle.kex_pipe.proofs.pipe.Pipe.take_output_into.Goals as goal

pub returns-clause-stands : goal.returns-clause-stands
returns-clause-stands g c = λ ps h taken s.
    let self = c.args.self.now in
    let line = line-taken g.T.Turn s.came ps self.seats.items s.seats self.output c.take_bytes_into.new.self taken c.take_bytes_into.new.out.items c.take_bytes_into.ensures.bytes c.take_bytes_into.ensures.none_left c.take_bytes_into.ensures.same_end s.line in
    standing g.T.Turn ps _ h (taken ++ c.take_bytes_into.new.out.items) s.came s.seats s.after line s.same_end s.going s.closed

pub returns-clause-begins : goal.returns-clause-begins
returns-clause-begins g c = λ ps h taken begins text report answer.
    let b = begins text report answer in
    (b.0, b.1 ∙ ap (λ z. (taken ++ z) ++ b.0) (sym c.take_bytes_into.ensures.bytes) ∙ ap (λ z. z ++ b.0) (sym (append-nil (taken ++ c.take_bytes_into.new.out.items)) ∙ ap (λ z. (taken ++ c.take_bytes_into.new.out.items) ++ z) (sym c.take_bytes_into.ensures.none_left)))

pub returns-clause-written : goal.returns-clause-written
returns-clause-written g c = λ ps h taken w. written-taken g.T.Turn ps c.args.self.now _ h taken c.take_bytes_into.new.out.items c.take_bytes_into.ensures.bytes c.take_bytes_into.ensures.none_left w
