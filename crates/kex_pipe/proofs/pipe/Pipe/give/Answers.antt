use Rattle.std.proofs.Common.{rules, ◌≡◌, ◌++◌, ◌||◌, ◌∙◌, false, map, refl, sym, ap, append-nil, arith}
use Rattle.kex_model.specs.Schedules.{byte, has_end, given}
use Rattle.kex_pipe.specs.Waiting.{unread_bytes}
use Rattle.kex_pipe.proofs.Items.{end-append, end-items}
use Rattle.kex_pipe.proofs.Schedule.{standing, has-written, line-more, waits-more}
use Rattle.kex_pipe.proofs.Begins.{stands-begins}
use Rattle.kex_pipe.proofs.pipe.Pipe.give.Goals as goal

pub returns-in-Ok-clause-stands : goal.returns-in-Ok-clause-stands
returns-in-Ok-clause-stands g c = λ ps h taken s.
    let self = c.args.self.now in
    let first = c.index_mut.result.now in
    let bytes = c.args.bytes.now in
    let no_end : has_end s.came ≡ false = sym s.same_end ∙ c.requires.unended in
    let added : unread_bytes c.give.new.self ≡ unread_bytes first.inbox ++ bytes = search rules in
    let same_end : has_end (s.came ++ map byte bytes) ≡ has_end s.came =
    end-append s.came (map byte bytes) ∙ ap (λ z. z || has_end (map byte bytes)) no_end ∙ ap has_end (sym (append-nil (map byte bytes))) ∙ end-items bytes false ∙ sym no_end in
    standing g.T.Turn ps _ _ taken _ s.seats (given bytes s.after no_end)
    (line-more g.T.Turn s.came (s.came ++ map byte bytes) ps self.seats.items s.seats self.output taken first _ first (omega (arith, self.seats.ok.0, self.some c.requires.closed)) c.index_mut.ensures.value refl refl
    (waits-more g.T.Turn s.came first.inbox c.give.new.self bytes no_end added c.give.ensures.same_end) s.line)
    (s.same_end ∙ sym same_end) s.going s.closed

pub returns-in-Err-clause-memory : goal.returns-in-Err-clause-memory
returns-in-Err-clause-memory g c = λ is ps h taken s.
    let t = g.met.T.Turn in
    stands-begins g.T.Turn t.one t.grows t.ends ps c.args.self.now h taken s

pub returns-in-Err-clause-written : goal.returns-in-Err-clause-written
returns-in-Err-clause-written g c = λ is ps h taken s. has-written g.T.Turn ps c.args.self.now _ h taken refl s
