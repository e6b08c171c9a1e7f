use Rattle.std.proofs.Common.{◌≡◌, ◌∙◌, true, None, map, length, sym, ap, subst, arith}
use Rattle.std.specs.Prelude.{is_ok}
use Rattle.kex_pipe.proofs.Lines.{on-ok}
use Rattle.kex_rings.specs.Ends.{AreBeside}
use Rattle.kex_rings.specs.Looking.{EachLooks, AllRingSeatsUsable}
use Rattle.kex_rings.specs.Lines.{Joined, HaveRings, AllGetOn}
use Rattle.kex_rings.proofs.Line.{line-rounds}
use Rattle.kex_rings.proofs.Rounds.{ended-by, joined-pairs, joined-kept, rings-kept, rings-out, each-looked, usable-looked, looks-length, joined-out, usable-out, all-get-on, get-on-out}
use Rattle.kex_rings.proofs.round.run.Goals as goal

pub look_beside_all-requires-clause-paired : goal.look_beside_all-requires-clause-paired
look_beside_all-requires-clause-paired g c =
    let t = g.T.Turn in
    let room = c.args.task.now.room in
    let old = c.args.seats.now in
    let w = c.work_all.new.seats in
    (room, joined-kept t room None None old w (map (λ s. s.took) w) tt (joined-pairs t room None old c.requires.joined) (c.work_all.ensures.looks (ap is_ok c.in_ok-work_all.was)))

pub returns-clause-usable : goal.returns-clause-usable
returns-clause-usable g c = on-ok c.carry_out.result (λ out.
    let t = g.T.Turn in
    let w = c.work_all.new.seats in
    let mid = c.look_beside_all.new.seats in
    let done : is_ok c.work_all.result ≡ true = ap is_ok c.in_ok-work_all.was in
    let work : EachLooks g.T.Turn c.args.task.now.room c.args.seats.now c.work_all.new.seats (map (λ s. s.took) c.work_all.new.seats) × AllRingSeatsUsable g.T.Turn c.work_all.new.seats = (c.work_all.ensures.looks done, c.work_all.ensures.usable done) in
    let sizes = looks-length t c.args.task.now.room c.args.seats.now w (map (λ s. s.took) w) work.0 in
    let ended = ended-by mid (omega (arith, c.requires.some, sizes.0, c.look_beside_all.ensures.count)) in
    let o = out ended.front ended.last ended.is in
    subst (λ z. AllRingSeatsUsable t z) (sym o.is) (usable-out t ended.front ended.last o.s' o.same_usable (subst (λ z. AllRingSeatsUsable t z) ended.is (usable-looked t w mid c.look_beside_all.ensures.looked work.1)))) c.carry_out.ensures.out

pub returns-clause-joined : goal.returns-clause-joined
returns-clause-joined g c = on-ok c.carry_out.result (λ out.
    let t = g.T.Turn in
    let room = c.args.task.now.room in
    let old = c.args.seats.now in
    let w = c.work_all.new.seats in
    let mid = c.look_beside_all.new.seats in
    let done : is_ok c.work_all.result ≡ true = ap is_ok c.in_ok-work_all.was in
    let work : EachLooks g.T.Turn c.args.task.now.room c.args.seats.now c.work_all.new.seats (map (λ s. s.took) c.work_all.new.seats) × AllRingSeatsUsable g.T.Turn c.work_all.new.seats = (c.work_all.ensures.looks done, c.work_all.ensures.usable done) in
    let sizes = looks-length t room old w (map (λ s. s.took) w) work.0 in
    let joined = c.look_beside_all.ensures.beside room (joined-kept t room None None old w (map (λ s. s.took) w) tt (joined-pairs t room None old c.requires.joined) work.0) in
    let ended = ended-by mid (omega (arith, c.requires.some, sizes.0, c.look_beside_all.ensures.count)) in
    let o = out ended.front ended.last ended.is in
    subst (λ z. Joined t (AreBeside room) None z) (sym o.is) (joined-out t (AreBeside room) None ended.front ended.last o.s' o.same_from o.same_to (subst (λ z. Joined t (AreBeside room) None z) ended.is joined))) c.carry_out.ensures.out

pub returns-clause-count : goal.returns-clause-count
returns-clause-count g c =
    let w = c.work_all.new.seats in
    let sizes = looks-length g.T.Turn c.args.task.now.room c.args.seats.now w (map (λ s. s.took) w) (c.work_all.ensures.looks (ap is_ok c.in_ok-work_all.was)) in
    on-ok c.carry_out.result (λ out. c.carry_out.ensures.count ∙ c.look_beside_all.ensures.count ∙ sizes.0) c.carry_out.ensures.out

pub returns-clause-counts : goal.returns-clause-counts
returns-clause-counts g c =
    let w = c.work_all.new.seats in
    let sizes = looks-length g.T.Turn c.args.task.now.room c.args.seats.now w (map (λ s. s.took) w) (c.work_all.ensures.looks (ap is_ok c.in_ok-work_all.was)) in
    on-ok c.carry_out.result (λ out. ap length c.in_ok-gather.ensures ∙ sizes.1) c.carry_out.ensures.out

pub returns-clause-turns : goal.returns-clause-turns
returns-clause-turns g c = on-ok c.carry_out.result (λ out.
    let t = g.T.Turn in
    let room = c.args.task.now.room in
    let old = c.args.seats.now in
    let w = c.work_all.new.seats in
    let mid = c.look_beside_all.new.seats in
    let cs = c.gather.new.counts.items in
    let done : is_ok c.work_all.result ≡ true = ap is_ok c.in_ok-work_all.was in
    let work : EachLooks g.T.Turn c.args.task.now.room c.args.seats.now c.work_all.new.seats (map (λ s. s.took) c.work_all.new.seats) × AllRingSeatsUsable g.T.Turn c.work_all.new.seats = (c.work_all.ensures.looks done, c.work_all.ensures.usable done) in
    let sizes = looks-length t room old w (map (λ s. s.took) w) work.0 in
    let joined = c.look_beside_all.ensures.beside room (joined-kept t room None None old w (map (λ s. s.took) w) tt (joined-pairs t room None old c.requires.joined) work.0) in
    let ended = ended-by mid (omega (arith, c.requires.some, sizes.0, c.look_beside_all.ensures.count)) in
    let looks : EachLooks t room old mid cs = subst (λ z. EachLooks t room old mid z) (sym c.in_ok-gather.ensures) (each-looked t room old w mid (map (λ s. s.took) w) work.0 c.look_beside_all.ensures.looked) in
    line-rounds t room old ended.front ended.last mid c.carry_out.new.seats c.args.output.now c.carry_out.new.output cs c.requires.joined joined looks ended.is (out ended.front ended.last ended.is)) c.carry_out.ensures.out

pub returns-clause-gets_on : goal.returns-clause-gets_on
returns-clause-gets_on g c = on-ok c.carry_out.result (λ out.
    let t = g.T.Turn in
    let room = c.args.task.now.room in
    let old = c.args.seats.now in
    let w = c.work_all.new.seats in
    let mid = c.look_beside_all.new.seats in
    let cs = c.gather.new.counts.items in
    let done : is_ok c.work_all.result ≡ true = ap is_ok c.in_ok-work_all.was in
    let work : EachLooks g.T.Turn c.args.task.now.room c.args.seats.now c.work_all.new.seats (map (λ s. s.took) c.work_all.new.seats) × AllRingSeatsUsable g.T.Turn c.work_all.new.seats = (c.work_all.ensures.looks done, c.work_all.ensures.usable done) in
    let sizes = looks-length t room old w (map (λ s. s.took) w) work.0 in
    let ended = ended-by mid (omega (arith, c.requires.some, sizes.0, c.look_beside_all.ensures.count)) in
    let o = out ended.front ended.last ended.is in
    let looks : EachLooks t room old mid cs = subst (λ z. EachLooks t room old mid z) (sym c.in_ok-gather.ensures) (each-looked t room old w mid (map (λ s. s.took) w) work.0 c.look_beside_all.ensures.looked) in
    subst (λ z. AllGetOn t room old z cs) (sym o.is) (get-on-out t room old ended.front ended.last o.s' cs o.same_to o.same_from (subst (λ z. AllGetOn t room old z cs) ended.is (all-get-on t room None old mid cs c.requires.joined looks)))) c.carry_out.ensures.out

pub returns-clause-rings : goal.returns-clause-rings
returns-clause-rings g c = on-ok c.carry_out.result (λ out.
    let t = g.T.Turn in
    let room = c.args.task.now.room in
    let old = c.args.seats.now in
    let w = c.work_all.new.seats in
    let mid = c.look_beside_all.new.seats in
    let cs = c.gather.new.counts.items in
    let done : is_ok c.work_all.result ≡ true = ap is_ok c.in_ok-work_all.was in
    let work : EachLooks g.T.Turn c.args.task.now.room c.args.seats.now c.work_all.new.seats (map (λ s. s.took) c.work_all.new.seats) × AllRingSeatsUsable g.T.Turn c.work_all.new.seats = (c.work_all.ensures.looks done, c.work_all.ensures.usable done) in
    let sizes = looks-length t room old w (map (λ s. s.took) w) work.0 in
    let ended = ended-by mid (omega (arith, c.requires.some, sizes.0, c.look_beside_all.ensures.count)) in
    let o = out ended.front ended.last ended.is in
    let looks : EachLooks t room old mid cs = subst (λ z. EachLooks t room old mid z) (sym c.in_ok-gather.ensures) (each-looked t room old w mid (map (λ s. s.took) w) work.0 c.look_beside_all.ensures.looked) in
    subst (λ z. HaveRings t z) (sym o.is) (rings-out t ended.front ended.last o.s' (subst (λ z. HaveRings t z) ended.is (rings-kept t room old mid cs looks c.requires.rings)))) c.carry_out.ensures.out
