use Rattle.std.proofs.Common.{◌≡◌, ◌-◌, sym, subst, map, slice_index_or, arith}
use Rattle.std.specs.Prelude.{All}
use Rattle.std.proofs.lemmas.List.{with_items_is}
use Rattle.kex_rounds.proofs.DeskKinds.{kinds-own}
use Rattle.kex_rounds.proofs.desks.share.Goals as goal

pub take_back-requires-clause-own : goal.take_back-requires-clause-own
take_back-requires-clause-own g c = λ s.
    let kind = g.D.PartDesk.kind in
    let desks = c.hand_out-desks.result in
    let worked = c.work_desks.new.desks in
    let stage = (slice_index_or c.hand_out-desks.new.pipe.seats.items (c.args.i - 1) s).staged.stage in
    let same : map kind worked ≡ map kind desks.items = subst (λ z. map kind worked ≡ map kind z) c.deref_mut.ensures.value c.work_desks.ensures in
    let items = with_items_is desks worked (omega (arith, c.work_desks.auto.desks, c.deref_mut.ensures.len)) in
    subst (λ z. All (λ d. g.T.Parted.owns stage d) z) (sym items) (kinds-own kind (λ d. g.T.Parted.owns stage d) (λ a b e h. g.met.T.Parted.stays_own stage a b e h) desks.items worked same (c.hand_out-desks.ensures.own s))
