use Rattle.std.proofs.Common.{inr, length, take, rules}
use Rattle.kex_rings.proofs.SentItems.{more-sent, all-sent, run-cut}
use Rattle.kex_rings.proofs.passing.send.Goals as goal

pub runs-preserved : goal.runs-preserved
runs-preserved c =
    let l = c.runs in
    let p = c.push_partial_slice in
    let r = c.remove.ensures in
    more-sent c.args.unsent.now l.unsent c.remove.new.self c.args.ring.now l.ring p.new.self p.result.0.now l.invariant p.ensures.ring p.ensures.sent
    (run-cut (length l.run) l.unsent c.remove.new.self p.result.0.now p.result.1.now (take c.offer-offered.result c.offer-offered.new.run) c.offer-offered.ensures.items p.ensures.parts r.bytes r.end) p.ensures.known

pub returns-then-not-is_empty : goal.returns-then-not-is_empty
returns-then-not-is_empty c =
    let l = c.runs in
    let p = c.push_partial_slice in
    let r = c.remove.ensures in
    all-sent c.args.unsent.now c.remove.new.self c.args.ring.now p.new.self
    (more-sent c.args.unsent.now l.unsent c.remove.new.self c.args.ring.now l.ring p.new.self p.result.0.now l.invariant p.ensures.ring p.ensures.sent
    (run-cut (length l.run) l.unsent c.remove.new.self p.result.0.now p.result.1.now (take c.offer-offered.result c.offer-offered.new.run) c.offer-offered.ensures.items p.ensures.parts r.bytes r.end) p.ensures.known)
    (inr (p.ensures.most (search rules)))
