use Rattle.std.proofs.Common.{◌≡◌, [], ◌∷◌, ◌++◌, ◌||◌, ◌∙◌, false, true, sym, ap, refl, arith}
use Rattle.kex_model.specs.Schedules.{finish, has_end, ended}
use Rattle.kex_pipe.proofs.Items.{end-append}
use Rattle.kex_pipe.proofs.Schedule.{waits-end}
use Rattle.kex_rings.proofs.Standings.{standing, line-more}
use Rattle.kex_rings.proofs.pipe.RingPipe.give_end.Goals as goal

pub returns-clause-stands : goal.returns-clause-stands
returns-clause-stands g c = λ ps h taken s.
    let self = c.args.self.now in
    let first = c.index_mut.result.now in
    let no_end : has_end s.came ≡ false = sym s.same_end ∙ c.requires.unended in
    let ends : has_end (s.came ++ finish ∷ []) ≡ true = end-append s.came (finish ∷ []) ∙ ap (λ z. z || true) no_end in
    standing g.T.Turn ps _ _ taken _ s.seats (ended s.after no_end)
    (line-more g.T.Turn self.room s.came (s.came ++ finish ∷ []) ps self.seats.items s.seats self.output taken first _ first (self.joined s.going) c.index_mut.ensures.value refl refl refl
    (waits-end g.T.Turn s.came first.seat.inbox c.give_end.new.self no_end c.give_end.ensures.same_bytes c.give_end.ensures.end) (omega (arith, self.seats.ok.0, self.some s.going)) s.line)
    (sym ends) s.going
