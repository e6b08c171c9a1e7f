use Rattle.std.proofs.Common.{rules, ◌≡◌, ◌<◌, ◌++◌, length, ap₂, sym, subst, ◌∙◌, arith}
use Rattle.std.specs.Prelude.{OnOk}
use Rattle.std.proofs.lemmas.List.{take-append-drop}
use Rattle.std.proofs.lemmas.Result.{on_ok_weaker}
use Rattle.kex_chunks.specs.Parts.{AreSummaries}
use Rattle.kex_chunks.proofs.Sums.{both_summed, one_slot}
use Rattle.kex_chunks.proofs.feeding.+fn-work_all-join_mut+arg2+fn-work_all-join_mut+arg3+work_all.Goals as goal

pub returns-in-Some : goal.returns-in-Some
returns-in-Some g t c =
    let all = c.args.slots.now in
    let item = c.in-Some.ensures.item in
    let few : length all < 2 = (let x = c.if-count-lt2.true in omega (arith, x)) in
    let some : 0 < length all = (let x = item.3.0 in omega (arith, x)) in
    on_ok_weaker c.work.result (λ h. subst (λ z. AreSummaries c.args.task.now.table.now c.args.piece.now z) (sym (one_slot all c.work.new.slot few some)) h) c.work.ensures

pub returns : goal.returns
returns g t c =
    let table = c.args.task.now.table.now in
    let rest = c.after-rest in
    let here = c.split_at.result.0.now in
    let there = c.split_at.result.1.now in
    let first = c.front-1.given.0 in
    let last = c.back-1.given.0 in
    let whole : here ++ there ≡ c.args.piece.now = ap₂ (λ y z. y ++ z) c.split_at.ensures.front c.split_at.ensures.back ∙ take-append-drop c.share_of.result c.args.piece.now in
    let one : OnOk c.join_mut-one.result.0 (AreSummaries table here first) = search rules in
    let other : OnOk c.join_mut-one.result.1 (AreSummaries rest.result.table.now there last) = search rules in
    let front : AreSummaries table here first = subst (λ r. OnOk r (AreSummaries table here first)) c.in_ok-one.was one in
    on_ok_weaker c.join_mut-one.result.1 (λ back. subst (λ z. AreSummaries table z (first ++ last)) whole (both_summed table here there first last front (subst (λ z. AreSummaries z there last) rest.ensures.table back))) other
