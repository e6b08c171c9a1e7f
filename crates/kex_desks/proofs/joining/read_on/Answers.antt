use Rattle.std.proofs.Common.{◌≡◌, ◌≤◌, ◌+◌, ◌-◌, ◌++◌, List, ℕ, length, take, drop, sym, ap, subst, ◌∙◌, arith, take-append-drop, drop-drop}
use Rattle.std.proofs.lemmas.List.{take_rest}
use Rattle.kex_pipe.specs.Working.{ReadMore}
use Rattle.kex_desks.specs.Drafts.{GoesOver, ReadsPiece}
use Rattle.kex_desks.proofs.PieceJoins.{comes, goes_on, no_stop, reads_more, stops_in_front}
use Rattle.kex_desks.proofs.joining.read_on.Goals as goal

pub returns-then-is_some-clause-reads : goal.returns-then-is_some-clause-reads
returns-then-is_some-clause-reads g c =
    let w = g.W.Worker in
    let piece = c.args.piece.now in
    let front : List ℕ = take (c.max-lines.result - c.args.at) (drop c.args.at piece) in
    let back = drop (c.max-lines.result - c.args.at) (drop c.args.at piece) in
    let says = w.says (w.machine c.args.worker.now) in
    let F = w.follows c.args.worker.now in
    let G = w.follows c.go_on.new.self in
    let stop = c.in_ok-stop.stop in
    let x = c.args.out.now.items in
    let y = c.go_on.new.out.items in
    subst (λ p. ReadsPiece says F G p stop x y) (take-append-drop (c.max-lines.result - c.args.at) (drop c.args.at piece))
    (stops_in_front says F G front back stop x y (g.met.W.KnowsPlace.stopped (w.machine c.args.worker.now)) (sym c.is_some.ensures ∙ c.if-is_some.true)
    (comes says F G front stop x y c.in_ok-stop.ensures.reads))

pub returns-clause-reads : goal.returns-clause-reads
returns-clause-reads g c =
    let w = g.W.Worker in
    let piece = c.args.piece.now in
    let at = c.args.at in
    let lines = c.max-lines.result in
    let front : List ℕ = take (lines - at) (drop at piece) in
    let back : List ℕ = take (length piece - lines) (drop lines piece) in
    let says = w.says (w.machine c.args.worker.now) in
    let F = w.follows c.args.worker.now in
    let G = w.follows c.go_on.new.self in
    let H = w.follows c.go_on-2.new.self in
    let x = c.args.out.now.items in
    let y = c.go_on.new.out.items in
    let z = c.go_on-2.new.out.items in
    let last = c.in_ok-last.last in
    let first : GoesOver F G front x y = goes_on says F G front c.in_ok-stop.stop x y (no_stop c.in_ok-stop.stop (sym c.is_some.ensures ∙ c.if-is_some.false)) c.in_ok-stop.ensures.reads in
    let then : ReadsPiece says G H back last y z = record { reads = subst (λ m. (u text : List ℕ) → G u text → ReadMore (w.says m) H u text back last y z) c.go_on.ensures.same c.in_ok-last.ensures.reads } in
    let ahead : at ≤ lines = omega (arith, c.max-lines.ensures) in
    let there : at + (lines - at) ≡ lines = omega (arith, ahead) in
    let whole : front ++ back ≡ drop at piece = ap (λ u. front ++ u) (take_rest piece lines ∙ ap (λ n. drop n piece) (sym there) ∙ sym (drop-drop (lines - at) at piece)) ∙ take-append-drop (lines - at) (drop at piece) in
    subst (λ p. ReadsPiece says F H p last x z) whole (reads_more says F G H front back last x y z first then)
