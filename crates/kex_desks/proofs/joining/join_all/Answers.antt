use Rattle.std.proofs.Common.{◌≡◌, ◌+◌, ◌-◌, ◌++◌, List, ℕ, length, take, drop, refl, sym, ap, subst, ◌∙◌, arith, take-add, length-drop}
use Rattle.std.proofs.lemmas.List.{take_rest}
use Rattle.kex_pipe.proofs.Transfers.{all-set, set-length}
use Rattle.kex_desks.specs.Drafts.{ComesTo, GoesOver}
use Rattle.kex_desks.proofs.PieceJoins.{comes_more, goes_nowhere, no_stop}
use Rattle.kex_desks.proofs.joining.join_all.Goals as goal

pub loop-k-init : goal.loop-k-init
loop-k-init g c = record {
  at = omega arith;
  went = goes_nowhere (g.W.Worker.follows c.args.worker.now) c.args.out.now.items;
  ready = c.requires.ready;
  counted = omega arith;
  machine = refl;
  desks = c.requires.same;
  number = refl;
}

pub returns-in_err-joined-clause-desks : goal.returns-in_err-joined-clause-desks
returns-in_err-joined-clause-desks g c =
    let w = g.W.Worker in
    let i = c.loop-k.invariant in
    let now = c.join.ensures.same.0 ∙ i.machine in
    all-set (λ d. w.machine d ≡ w.machine c.join.new.worker) c.loop-k.desks c.loop-k.k c.join.new.self
    (λ k d lt. i.desks k d lt ∙ sym now)
    (c.join.ensures.same.1 ∙ i.desks c.loop-k.k c.index-desks-k.result (omega (arith, c.loop-k-test.true, i.number)) ∙ sym now)

pub returns-then-is_some-clause-comes : goal.returns-then-is_some-clause-comes
returns-then-is_some-clause-comes g c =
    let w = g.W.Worker in
    let i = c.loop-k.invariant in
    let piece = c.args.piece.now in
    let at = c.loop-k.at in
    let count = c.in_ok-joined.joined.count in
    let stop = c.in_ok-joined.joined.stop in
    let rest : List ℕ = take (length piece - at) (drop at piece) in
    let says = w.says (w.machine c.args.worker.now) in
    let F = w.follows c.args.worker.now in
    let G = w.follows c.loop-k.worker in
    let H = w.follows c.join.new.worker in
    let came : ComesTo says G H (take count rest) stop c.loop-k.out.items c.join.new.out.items = subst (λ m. ComesTo (w.says m) G H (take count rest) stop c.loop-k.out.items c.join.new.out.items) i.machine c.in_ok-joined.ensures.comes in
    let whole : take at piece ++ take count rest ≡ take (at + count) piece = ap (λ z. take at piece ++ take count z) (take_rest piece at) ∙ sym (take-add at count piece) in
    subst (λ z. ComesTo says F H z stop c.args.out.now.items c.join.new.out.items) whole
    (comes_more says F G H (take at piece) (take count rest) stop c.args.out.now.items c.loop-k.out.items c.join.new.out.items i.went came)

pub returns-then-is_some-clause-desks : goal.returns-then-is_some-clause-desks
returns-then-is_some-clause-desks g c =
    let w = g.W.Worker in
    let i = c.loop-k.invariant in
    let now = c.join.ensures.same.0 ∙ i.machine in
    all-set (λ d. w.machine d ≡ w.machine c.join.new.worker) c.loop-k.desks c.loop-k.k c.join.new.self
    (λ k d lt. i.desks k d lt ∙ sym now)
    (c.join.ensures.same.1 ∙ i.desks c.loop-k.k c.index-desks-k.result (omega (arith, c.loop-k-test.true, i.number)) ∙ sym now)

pub loop-k-preserved : goal.loop-k-preserved
loop-k-preserved g c =
    let w = g.W.Worker in
    let i = c.loop-k.invariant in
    let piece = c.args.piece.now in
    let at = c.loop-k.at in
    let count = c.in_ok-joined.joined.count in
    let stop = c.in_ok-joined.joined.stop in
    let rest : List ℕ = take (length piece - at) (drop at piece) in
    let says = w.says (w.machine c.args.worker.now) in
    let F = w.follows c.args.worker.now in
    let G = w.follows c.loop-k.worker in
    let H = w.follows c.join.new.worker in
    let on = no_stop stop (sym c.is_some.ensures ∙ c.if-is_some.false) in
    let came : ComesTo says G H (take count rest) stop c.loop-k.out.items c.join.new.out.items = subst (λ m. ComesTo (w.says m) G H (take count rest) stop c.loop-k.out.items c.join.new.out.items) i.machine c.in_ok-joined.ensures.comes in
    let whole : take at piece ++ take count rest ≡ take (at + count) piece = ap (λ z. take at piece ++ take count z) (take_rest piece at) ∙ sym (take-add at count piece) in
    let long = ap length (take_rest piece at) ∙ length-drop at piece in
    let both = comes_more says F G H (take at piece) (take count rest) stop c.args.out.now.items c.loop-k.out.items c.join.new.out.items i.went came in
    record {
      at = omega (arith, c.in_ok-joined.ensures.count, long, i.at);
      went = subst (λ z. GoesOver F H z c.args.out.now.items c.join.new.out.items) whole (subst (λ s. ComesTo says F H (take at piece ++ take count rest) s c.args.out.now.items c.join.new.out.items) on both);
      ready = c.in_ok-joined.ensures.ready on;
      counted = omega (arith, c.in_ok-joined.ensures.counted, i.counted);
      machine = c.join.ensures.same.0 ∙ i.machine;
      desks = all-set (λ d. w.machine d ≡ w.machine c.args.worker.now) c.loop-k.desks c.loop-k.k c.join.new.self i.desks (c.join.ensures.same.1 ∙ i.desks c.loop-k.k c.index-desks-k.result (omega (arith, c.loop-k-test.true, i.number)));
      number = set-length c.loop-k.desks c.loop-k.k c.join.new.self ∙ i.number;
    }
