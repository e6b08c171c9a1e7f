use Rattle.std.proofs.Common.{◌≡◌, ◌<◌, ◌≤◌, ◌-◌, length, take, drop, refl, sym, ap, subst, arith, length-take, length-drop, ◌∙◌}
use Rattle.std.proofs.lemmas.List.{take-take}
use Rattle.kex_moves.specs.Known.{IsKnown}
use Rattle.kex_moves.specs.Along.{ReachedOn}
use Rattle.kex_moves.proofs.KnownEdges.{pair_known}
use Rattle.kex_moves.proofs.EdgeRuns.{part_more}
use Rattle.kex_moves.proofs.SheetRuns.{reached_from, reached_on}
use Rattle.kex_moves.proofs.along.go_on.Goals as goal

pub make_room-requires-clause-row : goal.make_room-requires-clause-row
make_room-requires-clause-row c =
    let h = c.requires.row.2 in
    (h.0, h.1, subst (λ m. h.0.node < length m.nodes) (sym c.requires.machine) (pair_known c.args.primer.now.table.now c.args.primer.now.machine.now c.args.book.now.edges c.args.row h.0 h.0 c.requires.known h.1 refl).node)

pub along_acting-requires-clause-known : goal.along_acting-requires-clause-known
along_acting-requires-clause-known c = (c.args.primer.now.table.now, subst (λ m. IsKnown c.args.primer.now.table.now m c.args.book.now.edges) (sym ((c.in_ok-make_room.ensures {u = tt}).machine ∙ c.requires.machine)) c.requires.known)

pub along_acting-requires-clause-row : goal.along_acting-requires-clause-row
along_acting-requires-clause-row c = (c.requires.row.2.0, c.requires.row.2.1)

pub go_past-requires-clause-row : goal.go_past-requires-clause-row
go_past-requires-clause-row c =
    let t = c.args.primer.now.table.now in
    let known = subst (λ m. IsKnown t m c.args.book.now.edges) (sym ((c.in_ok-make_room.ensures {u = tt}).machine ∙ c.requires.machine)) c.requires.known in
    let r = (c.in_ok-place.ensures {u = tt}).reached t known c.requires.row.0 c.requires.row.1 c.requires.row.2 in
    (r.reached.row_for.0, r.reached.row_for.1)

pub returns-then-count-piece-clause-reached : goal.returns-then-count-piece-clause-reached
returns-then-count-piece-clause-reached c =
    let t = c.args.primer.now.table.now in
    let k = c.args.book.now.edges in
    let old = c.args.actor.now in
    let mid = c.make_room.new.actor in
    let new = c.along_acting.new.actor in
    let x0 = c.args.out.now.items in
    let x1 = c.make_room.new.out.items in
    let y = c.along_acting.new.out.items in
    let piece = c.args.piece.now in
    let part = c.part_of-part.result.now in
    let place = c.in_ok-place.place in
    let made = c.in_ok-make_room.ensures {u = tt} in
    let gone = c.in_ok-place.ensures {u = tt} in
    let known = subst (λ m. IsKnown t m k) (sym (made.machine ∙ c.requires.machine)) c.requires.known in
    let few : place.count ≤ 4096 = omega (arith, gone.within, c.part_of-part.ensures.few) in
    let same : take place.count part ≡ take place.count piece = ap (take place.count) c.part_of-part.ensures.front ∙ take-take place.count 4096 piece few in
    let run = reached_from t k k old mid new c.args.book.now.sheet c.make_room.new.sheet c.along_acting.new.sheet c.args.row place.row (take place.count part) x0 x1 y made.same (gone.reached t known) in
    subst (λ l. ReachedOn t k k old new c.args.book.now.sheet c.along_acting.new.sheet c.args.row place.row l x0 y) same run

pub returns-clause-reached : goal.returns-clause-reached
returns-clause-reached c =
    let t = c.args.primer.now.table.now in
    let k = c.args.book.now.edges in
    let k' = c.go_past.new.book.edges in
    let old = c.args.actor.now in
    let mid = c.make_room.new.actor in
    let then = c.along_acting.new.actor in
    let new = c.go_past.new.actor in
    let s = c.args.book.now.sheet in
    let s' = c.along_acting.new.sheet in
    let s'' = c.go_past.new.book.sheet in
    let x0 = c.args.out.now.items in
    let x1 = c.make_room.new.out.items in
    let y = c.along_acting.new.out.items in
    let z = c.go_past.new.out.items in
    let piece = c.args.piece.now in
    let part = c.part_of-part.result.now in
    let place = c.in_ok-place.place in
    let past = c.in_ok-past.past in
    let rest = take (length piece - place.count) (drop place.count piece) in
    let made = c.in_ok-make_room.ensures {u = tt} in
    let gone = c.in_ok-place.ensures {u = tt} in
    let known = subst (λ m. IsKnown t m k) (sym (made.machine ∙ c.requires.machine)) c.requires.known in
    let few : place.count ≤ 4096 = omega (arith, gone.within, c.part_of-part.ensures.few) in
    let same : take place.count part ≡ take place.count piece = ap (take place.count) c.part_of-part.ensures.front ∙ take-take place.count 4096 piece few in
    let run = reached_from t k k old mid then s c.make_room.new.sheet s' c.args.row place.row (take place.count part) x0 x1 y made.same (gone.reached t known) in
    let first = subst (λ l. ReachedOn t k k old then s s' c.args.row place.row l x0 y) same run in
    let all = reached_on t k k k' old then new s s' s'' c.args.row place.row past.row (take place.count piece) (take past.count rest) x0 y z first (c.in_ok-past.ensures {u = tt}).reached in
    subst (λ l. ReachedOn t k k' old new s s'' c.args.row past.row l x0 z) (part_more piece rest place.count (length piece - place.count) past.count refl (c.in_ok-past.ensures {u = tt}).within) all

pub slice_bounds-rest-count : goal.slice_bounds-rest-count
slice_bounds-rest-count c =
    let within = ap length c.part_of-part.ensures.front in
    omega (arith, within, length-take 4096 c.args.piece.now, (c.in_ok-place.ensures {u = tt}).within)

pub slice_bounds-rest-start : goal.slice_bounds-rest-start
slice_bounds-rest-start c =
    let within = ap length c.part_of-part.ensures.front in
    omega (arith, within, length-take 4096 c.args.piece.now, (c.in_ok-place.ensures {u = tt}).within)

pub go_past-requires-clause-some : goal.go_past-requires-clause-some
go_past-requires-clause-some c =
    let piece = c.args.piece.now in
    let count = c.in_ok-place.place.count in
    let within = ap length c.part_of-part.ensures.front in
    omega (arith, within, length-take 4096 piece, (c.in_ok-place.ensures {u = tt}).within, c.if-count-piece.false, length-take (length piece - count) (drop count piece), length-drop count piece)

pub returns-clause-within : goal.returns-clause-within
returns-clause-within c =
    let piece = c.args.piece.now in
    let count = c.in_ok-place.place.count in
    let within = ap length c.part_of-part.ensures.front in
    omega (arith, within, length-take 4096 piece, (c.in_ok-place.ensures {u = tt}).within, (c.in_ok-past.ensures {u = tt}).within, length-take (length piece - count) (drop count piece), length-drop count piece)
