use Rattle.kex_single.proofs.player.PlayWorker.is_whole.Goals as goal

pub returns-then-whole : goal.returns-then-whole
returns-then-whole c = λ code out done.
    let s = c.whole.ensures.state.0 c.if-whole.true in
    let e = c.at_end.ensures code code out done in
    (λ whole. (s.0, s.1, e.0 whole), λ x. e.1 x.2)
