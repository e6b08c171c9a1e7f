use Rattle.std.proofs.Common.{◌≡◌, ◌∙◌, ◌++◌, ◌∷◌, [], ◌≤◌, ◌<◌, length, get_or, take, sym, ap, subst, arith, length-take}
use Rattle.std.proofs.lemmas.List.{take-take}
use Rattle.kex_script.specs.Pieces.{code_over}
use Rattle.kex_moves.specs.Known.{IsKnown}
use Rattle.kex_moves.specs.Speech.{words_table, SaidOn}
use Rattle.kex_moves.proofs.EdgeRuns.{one_more}
use Rattle.kex_moves.proofs.Trails.{no_piece}
use Rattle.kex_moves.proofs.PieceRuns.{spelled_more, said_from, said_more}
use Rattle.kex_moves.proofs.tell.go_on.Goals as goal

pub act_next-requires-clause-row : goal.act_next-requires-clause-row
act_next-requires-clause-row c =
    let words = c.requires.known.0 in
    let known = subst (λ m. IsKnown (words_table words) m c.args.edges.now) (sym (c.in_ok-make_room.ensures {u = tt}).machine) c.requires.known.1 in
    let r = c.along-place.ensures.said words c.make_room.new.actor c.make_room.new.out.items known c.requires.row.0 c.requires.row.1 in
    (r.to, r.row_of)

pub returns-then-count-pieces-clause-said : goal.returns-then-count-pieces-clause-said
returns-then-count-pieces-clause-said c = λ words known.
    let k = c.args.edges.now in
    let old = c.args.actor.now in
    let mid = c.make_room.new.actor in
    let x0 = c.args.out.now.items in
    let x1 = c.make_room.new.out.items in
    let count = c.along-place.result.count in
    let part = c.part_of.result.now in
    let made = c.in_ok-make_room.ensures {u = tt} in
    let few : count ≤ 4096 = omega (arith, c.along-place.ensures.within, c.part_of.ensures.few) in
    let same : take count part ≡ take count c.args.pieces.now = ap (take count) c.part_of.ensures.front ∙ take-take count 4096 c.args.pieces.now few in
    let along = c.along-place.ensures.said words mid x1 (subst (λ m. IsKnown (words_table words) m k) (sym made.machine) known) in
    let run = said_from k old mid mid c.args.sheet.now c.make_room.new.sheet c.along-place.new.sheet c.args.row c.along-place.result.row (code_over words (take count part)) x0 x1 x1 made.same along in
    subst (λ l. SaidOn k old mid c.args.sheet.now c.along-place.new.sheet c.args.row c.along-place.result.row (code_over words l) x0 x1) same run

pub returns-clause-said : goal.returns-clause-said
returns-clause-said c = λ words known.
    let k = c.args.edges.now in
    let old = c.args.actor.now in
    let mid = c.make_room.new.actor in
    let new = c.act_next.new.actor in
    let x0 = c.args.out.now.items in
    let x1 = c.make_room.new.out.items in
    let y = c.act_next.new.out.items in
    let pieces = c.args.pieces.now in
    let part = c.part_of.result.now in
    let count = c.along-place.result.count in
    let made = c.in_ok-make_room.ensures {u = tt} in
    let last = c.in_ok-last.ensures {u = tt} in
    let one = c.in_ok-last.last.count in
    let next = take one (get_or pieces count no_piece ∷ []) in
    let here = subst (λ m. IsKnown (words_table words) m k) (sym made.machine) known in
    let few : count ≤ 4096 = omega (arith, c.along-place.ensures.within, c.part_of.ensures.few) in
    let same : take count part ≡ take count pieces = ap (take count) c.part_of.ensures.front ∙ take-take count 4096 pieces few in
    let within : length part ≤ length pieces = omega (arith, ap length c.part_of.ensures.front, length-take 4096 pieces) in
    let lt : count < length pieces = omega (arith, within, c.along-place.ensures.within, c.if-count-pieces.false) in
    let run = said_from k old mid mid c.args.sheet.now c.make_room.new.sheet c.along-place.new.sheet c.args.row c.along-place.result.row (code_over words (take count part)) x0 x1 x1 made.same (c.along-place.ensures.said words mid x1 here) in
    let all = said_more k old mid new c.args.sheet.now c.along-place.new.sheet c.act_next.new.sheet c.args.row c.along-place.result.row c.in_ok-last.last.row (code_over words (take count part)) (code_over words next) x0 x1 y made.machine run (last.said words here) in
    let whole = sym (spelled_more words (take count part) next) ∙ ap (code_over words) (ap (λ l. l ++ next) same ∙ one_more pieces no_piece count one lt last.within) in
    subst (λ d. SaidOn k old new c.args.sheet.now c.act_next.new.sheet c.args.row c.in_ok-last.last.row d x0 y) whole all

pub bounds-pieces-count : goal.bounds-pieces-count
bounds-pieces-count c =
    let within = ap length c.part_of.ensures.front in
    omega (arith, within, length-take 4096 c.args.pieces.now, c.along-place.ensures.within, c.if-count-pieces.false)

pub returns-clause-within : goal.returns-clause-within
returns-clause-within c =
    let within = ap length c.part_of.ensures.front in
    omega (arith, within, length-take 4096 c.args.pieces.now, c.along-place.ensures.within, c.if-count-pieces.false, (c.in_ok-last.ensures {u = tt}).within)
