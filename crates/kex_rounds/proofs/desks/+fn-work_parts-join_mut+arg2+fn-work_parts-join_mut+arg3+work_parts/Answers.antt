use Rattle.std.proofs.Common.{rules, ◌≡◌, map}
use Rattle.kex_rounds.proofs.DeskKinds.{both-kinds, one-kind}
use Rattle.kex_rounds.proofs.desks.+fn-work_parts-join_mut+arg2+fn-work_parts-join_mut+arg3+work_parts.Goals as goal

pub returns-in-Some : goal.returns-in-Some
returns-in-Some g t c =
    let f = g.D.PartDesk.kind in
    let item = c.in-Some.ensures.item in
    one-kind f c.args.desks.now c.in-Some.desk.now c.work_one.new.desk c.if-desks-lt2.true item.3.0 item.1 c.work_one.ensures

pub returns-then-one : goal.returns-then-one
returns-then-one g t c =
    let f = g.D.PartDesk.kind in
    let h = c.split_at_mut-front in
    let front : map f c.front-1.given.0 ≡ map f h.result.0.now = search rules in
    let back : map f c.back-1.given.0 ≡ map f h.result.1.now = search rules in
    both-kinds f h.result.0.now h.result.1.now c.front-1.given.0 c.back-1.given.0 c.args.desks.now h.ensures.value front back

pub returns-else-one : goal.returns-else-one
returns-else-one g t c =
    let f = g.D.PartDesk.kind in
    let h = c.split_at_mut-front in
    let front : map f c.front-1.given.0 ≡ map f h.result.0.now = search rules in
    let back : map f c.back-1.given.0 ≡ map f h.result.1.now = search rules in
    both-kinds f h.result.0.now h.result.1.now c.front-1.given.0 c.back-1.given.0 c.args.desks.now h.ensures.value front back
