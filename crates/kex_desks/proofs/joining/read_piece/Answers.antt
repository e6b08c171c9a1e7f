use Rattle.std.proofs.Common.{◌≡◌, ◌<◌, ℕ, length, take, drop, sym, subst, ◌∙◌, take-append-drop}
use Rattle.std.specs.Prelude.{slice_index_or}
use Rattle.kex_desks.specs.Drafts.{ComesTo, GoesOver, ReadsPiece}
use Rattle.kex_desks.proofs.PieceJoins.{no_stop, reads_more, stops_in_front}
use Rattle.kex_desks.proofs.joining.read_piece.Goals as goal

pub returns-then-is_some-clause-reads : goal.returns-then-is_some-clause-reads
returns-then-is_some-clause-reads g c =
    let w = g.W.Worker in
    let piece = c.args.piece.now in
    let n = c.in_ok-joined.joined.count in
    let says = w.says (w.machine c.args.worker.now) in
    let F = w.follows c.args.worker.now in
    let G = w.follows c.join_all.new.worker in
    let stop = c.in_ok-joined.joined.stop in
    let x = c.args.out.now.items in
    let y = c.join_all.new.out.items in
    subst (λ p. ReadsPiece says F G p stop x y) (take-append-drop n piece)
    (stops_in_front says F G (take n piece) (drop n piece) stop x y (g.met.W.KnowsPlace.stopped (w.machine c.args.worker.now)) (sym c.is_some.ensures ∙ c.if-is_some.true) c.in_ok-joined.ensures.comes)

pub returns-clause-reads : goal.returns-clause-reads
returns-clause-reads g c =
    let w = g.W.Worker in
    let piece = c.args.piece.now in
    let n = c.in_ok-joined.joined.count in
    let says = w.says (w.machine c.args.worker.now) in
    let F = w.follows c.args.worker.now in
    let G = w.follows c.join_all.new.worker in
    let H = w.follows c.read_on.new.worker in
    let x = c.args.out.now.items in
    let y = c.join_all.new.out.items in
    let z = c.read_on.new.out.items in
    let none = no_stop c.in_ok-joined.joined.stop (sym c.is_some.ensures ∙ c.if-is_some.false) in
    let first : GoesOver F G (take n piece) x y = subst (λ s. ComesTo says F G (take n piece) s x y) none c.in_ok-joined.ensures.comes in
    let then : ReadsPiece says G H (drop n piece) c.in_ok-stop.stop y z = subst (λ m. ReadsPiece (w.says m) G H (drop n piece) c.in_ok-stop.stop y z) c.join_all.ensures.machine c.in_ok-stop.ensures.reads in
    subst (λ p. ReadsPiece says F H p c.in_ok-stop.stop x z) (take-append-drop n piece) (reads_more says F G H (take n piece) (drop n piece) c.in_ok-stop.stop x y z first then)

pub returns-in_err-stop-clause-desks : goal.returns-in_err-stop-clause-desks
returns-in_err-stop-clause-desks g c =
    let w = g.W.Worker in
    subst (λ ds. (k : ℕ) (d : g.row.W.Denot) → k < length ds → w.machine (slice_index_or ds k d) ≡ w.machine c.read_on.new.worker) (sym c.read_on.ensures.desks)
    (λ k d lt. c.join_all.ensures.desks k d lt ∙ sym c.read_on.ensures.machine)

pub returns-clause-desks : goal.returns-clause-desks
returns-clause-desks g c =
    let w = g.W.Worker in
    subst (λ ds. (k : ℕ) (d : g.row.W.Denot) → k < length ds → w.machine (slice_index_or ds k d) ≡ w.machine c.read_on.new.worker) (sym c.read_on.ensures.desks)
    (λ k d lt. c.join_all.ensures.desks k d lt ∙ sym c.read_on.ensures.machine)
