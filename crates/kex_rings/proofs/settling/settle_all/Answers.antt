use Rattle.std.proofs.Common.{◌≡◌, ◌∙◌, length, sym, ap, ap₂, subst, arith}
use Rattle.std.specs.Vec.{with_items}
use Rattle.std.proofs.lemmas.List.{with_items_is}
use Rattle.kex_model.specs.Schedules.{items_of}
use Rattle.kex_pipe.specs.Rounds.{Each}
use Rattle.kex_pipe.proofs.Stops.{each-length}
use Rattle.kex_rings.specs.Settling.{LineWorks, AllSeatsUsable}
use Rattle.kex_rings.proofs.Settles.{row-usable, gathers-length, line-settles}
use Rattle.kex_rings.proofs.settling.settle_all.Goals as goal

pub returns-clause-usable : goal.returns-clause-usable
returns-clause-usable g c =
    let worked = with_items c.in_ok-gathered.gathered c.work_off.new.seats in
    let is = with_items_is c.in_ok-gathered.gathered c.work_off.new.seats (omega (arith, c.work_off.ensures.count, c.deref_mut.ensures.len)) in
    row-usable g.T.Turn worked.items c.in_ok-row.row.items c.in_ok-row.ensures.same (subst (AllSeatsUsable g.T.Turn) (sym is) c.in_ok-work_off.ensures.usable)

pub returns-clause-count : goal.returns-clause-count
returns-clause-count g c =
    let worked = with_items c.in_ok-gathered.gathered c.work_off.new.seats in
    let is = with_items_is c.in_ok-gathered.gathered c.work_off.new.seats (omega (arith, c.work_off.ensures.count, c.deref_mut.ensures.len)) in
    each-length (λ s r. r.seat ≡ s) worked.items c.in_ok-row.row.items c.in_ok-row.ensures.same ∙ ap length is ∙ c.work_off.ensures.count ∙ ap length c.deref_mut.ensures.value
    ∙ gathers-length g.T.Turn c.args.seats.items c.in_ok-gathered.gathered.items _ _ c.in_ok-gathered.ensures.gathers

pub returns-clause-settles : goal.returns-clause-settles
returns-clause-settles g c =
    let t = g.T.Turn in
    let gathered = c.in_ok-gathered.gathered in
    let worked = c.work_off.new.seats in
    let row = c.in_ok-row.row.items in
    let is = with_items_is gathered worked (omega (arith, c.work_off.ensures.count, c.deref_mut.ensures.len)) in
    line-settles t c.args.room c.args.seats.items gathered.items worked row c.new-unsent.result c.gather_each.new.unsent c.new-made.result c.work_off.new.made c.args.output.now c.append.new.self
    (ap₂ items_of c.new-unsent.ensures.bytes c.new-unsent.ensures.open) c.in_ok-gathered.ensures.gathers (ap₂ items_of c.new-made.ensures.bytes c.new-made.ensures.open)
    (subst (λ z. LineWorks t z c.new-made.result worked c.work_off.new.made) c.deref_mut.ensures.value c.in_ok-work_off.ensures.works) c.in_ok-work_off.ensures.rest
    (subst (λ z. Each (λ s r. r.seat ≡ s) z row) is c.in_ok-row.ensures.same) c.in_ok-row.ensures.joined c.in_ok-row.ensures.new c.in_ok-append.ensures.ok
