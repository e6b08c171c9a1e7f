use Rattle.std.proofs.Common.{◌<◌, ◌∷◌, [], length, get_or, take, subst}
use Rattle.std.specs.Prelude.{IfSome}
use Rattle.kex_moves.specs.Runs.{StopsAt}
use Rattle.kex_moves.specs.Known.{IsEdge}
use Rattle.kex_moves.specs.Along.{ReachedOn}
use Rattle.kex_moves.proofs.EdgeRuns.{one_more}
use Rattle.kex_moves.proofs.SheetRuns.{reached_on, row_reached}
use Rattle.kex_moves.proofs.along.act_next.Goals as goal

pub act_at-requires-clause-row : goal.act_at-requires-clause-row
act_at-requires-clause-row c = row_reached c.requires.known.0 c.args.actor.now.machine c.args.edges.now c.args.sheet.now c.along-gone.new.sheet c.args.row c.along-gone.result.row (take c.along-gone.result.at c.args.piece.now) c.requires.known.1 c.requires.row c.along-gone.ensures.reached

pub act_at-requires-clause-edge : goal.act_at-requires-clause-edge
act_at-requires-clause-edge c =
    let k = c.args.edges.now in
    let gone = c.along-gone.result in
    let is = subst (λ z. IfSome z (λ e. StopsAt k.classes k.edges gone.row gone.at c.args.piece.now e × IsEdge k e)) c.in-Some.is c.along-gone.ensures.edge in
    (is.0.1, is.1)

pub returns-in_default-clause-reached : goal.returns-in_default-clause-reached
returns-in_default-clause-reached c = λ t known. c.along-gone.ensures.reached t c.args.actor.now c.args.out.now.items known

pub returns-clause-reached : goal.returns-clause-reached
returns-clause-reached c = λ t known.
    let k = c.args.edges.now in
    let a = c.args.actor.now in
    let b = c.act_at.new.actor in
    let old = c.args.sheet.now in
    let mid = c.along-gone.new.sheet in
    let new = c.act_at.new.sheet in
    let piece = c.args.piece.now in
    let row = c.along-gone.result.row in
    let count = c.along-gone.result.at in
    let last = c.in_ok-last.last in
    let x = c.args.out.now.items in
    let y = c.act_at.new.out.items in
    let byte = get_or piece count 0 in
    let lt : count < length piece = (subst (λ z. IfSome z (λ e. StopsAt k.classes k.edges row count piece e × IsEdge k e)) c.in-Some.is c.along-gone.ensures.edge).0.0 in
    let all = reached_on t k k k a a b old mid new c.args.row row last.row (take count piece) (take last.count (byte ∷ [])) x x y (c.along-gone.ensures.reached t a x known) ((c.in_ok-last.ensures {u = tt}).reached t known) in
    subst (λ l. ReachedOn t k k a b old new c.args.row last.row l x y) (one_more piece 0 count last.count lt (c.in_ok-last.ensures {u = tt}).within) all
