use Rattle.std.proofs.Common.{◌≡◌, ◌∙◌, ◌+◌, ◌++◌, ◌∷◌, [], ℕ, List, length, get_or, sym, ap, arith}
use Rattle.std.proofs.lemmas.List.{take_all}
use Rattle.kex_leaps.proofs.KeptMarks.{firsts_kept, firsts_marked}
use Rattle.kex_leaps.proofs.mark.keep_front.Goals as goal

pub returns-then-front-keep-clause-kept : goal.returns-then-front-keep-clause-kept
returns-then-front-keep-clause-kept c = λ yes.
    let n = c.min-front.result in
    let keep = c.args.edge.now.keep in
    let long : length c.keep-keep.result.now ≡ length keep = ap (λ (l : List ℕ). length l) c.keep-keep.ensures in
    c.truncate.ensures.items ∙ firsts_kept c.args.at c.args.marks.now.items keep n (omega (arith, c.min-front.ensures)) (omega (arith, c.if-front-keep.true, long)) (λ i lt. c.firsts-firsts.ensures.1 i (omega (arith, lt, c.min-front.ensures)))

pub returns-then-ends_at_byte-clause-kept : goal.returns-then-ends_at_byte-clause-kept
returns-then-ends_at_byte-clause-kept c = λ yes.
    let n = c.min-front.result in
    let marks = c.args.marks.now.items in
    let keep = c.args.edge.now.keep in
    let long : length c.keep-keep.result.now ≡ length keep = ap (λ (l : List ℕ). length l) c.keep-keep.ensures in
    let ends = c.ends_at_byte.ensures c.if-ends_at_byte.true in
    let last : get_or keep n 0 ≡ get_or c.keep-keep.result.now n 0 = sym (ap (λ (l : List ℕ). get_or l n 0) c.keep-keep.ensures) in
    c.in_ok-push-2.ensures {u = tt} ∙ ap (λ l. l ++ c.args.at ∷ []) c.truncate-then-ends_at_byte.ensures.items ∙ firsts_marked c.args.at marks keep n (omega (arith, c.min-front.ensures)) (omega (arith, ends.0, long)) (λ i lt. c.firsts-firsts.ensures.1 i (omega (arith, lt, c.min-front.ensures))) (omega (arith, last, ends.1, c.len-3.ensures, c.args.marks.now.ok.0))

pub returns-then-firsts-len-clause-kept : goal.returns-then-firsts-len-clause-kept
returns-then-firsts-len-clause-kept c = λ yes.
    let marks = c.args.marks.now.items in
    let keep = c.args.edge.now.keep in
    let n = length marks in
    let long : length c.keep-keep.result.now ≡ length keep = ap (λ (l : List ℕ). length l) c.keep-keep.ensures in
    let all : c.firsts-firsts.result ≡ n + 1 = omega (arith, c.if-firsts-len.true, c.len.ensures) in
    let first = c.firsts-firsts.ensures.1 in
    c.in_ok-push.ensures {u = tt} ∙ ap (λ l. l ++ c.args.at ∷ []) (sym (take_all n marks (omega arith))) ∙ firsts_marked c.args.at marks keep n (omega arith) (omega (arith, c.if-firsts-keep.true, long, all)) (λ i lt. first i (omega (arith, lt, all))) (first n (omega (arith, all)))
