use Rattle.std.proofs.Common.{rules, ◌≡◌, ◌≤◌, ◌<◌, ◌+◌, ◌++◌, ◌&&◌, length, map, sym, ap, subst, ◌∙◌, arith}
use Rattle.std.specs.Prelude.{is_ok}
use Rattle.std.proofs.lemmas.List.{map-append}
use Rattle.kex_each.specs.Desks.{AllWorked, lines_between}
use Rattle.kex_each.proofs.DeskLists.{between_both, both_worked, err_both, map_at, map_long, map_set, on_ok_true, one_worked}
use Rattle.kex_each.proofs.desks.+fn-work_all-join_mut+arg2+fn-work_all-join_mut+arg3+work_all.Goals as goal

pub returns-in-Some : goal.returns-in-Some
returns-in-Some g t c =
    let f = g.D.LineDesk.state in
    let item = c.in-Some.ensures.item in
    let e = c.work_one.ensures in
    let all = c.args.desks.now in
    let long = map_long f all in
    let few : length (map f all) < 2 = (let x = c.if-count-lt2.true in omega (arith, x, long)) in
    let some : 0 < length (map f all) = (let x = item.3.0 in omega (arith, x, long)) in
    let lines = lines_between c.args.from c.args.to c.args.lines.now in
    subst (λ z. AllWorked (is_ok c.work_one.result) lines (map f all) z) (sym (map_set f all 0 c.work_one.new.desk))
    (one_worked (is_ok c.work_one.result) lines (map f all) (f c.in-Some.desk.now) (f c.work_one.new.desk) few some (ap f item.1 ∙ sym (map_at f all 0 c.in-Some.desk.now)) e.plans (λ done. on_ok_true c.work_one.result e.answers done))

pub returns-in_err-one : goal.returns-in_err-one
returns-in_err-one g t c =
    let f = g.D.LineDesk.state in
    let h = c.split_at_mut-front in
    let lines = c.args.lines.now in
    let cut = c.args.from + c.share_of.result in
    let low : c.args.from ≤ cut = omega arith in
    let high : cut ≤ c.args.to = (let w = c.requires.within in let s = c.share_of.ensures.some in omega (arith, w, s)) in
    let front : AllWorked (is_ok c.join_mut-one.result.0) (lines_between c.args.from cut lines) (map f h.result.0.now) (map f c.front-1.given.0) = search rules in
    let back : AllWorked (is_ok c.join_mut-one.result.1) (lines_between cut c.args.to lines) (map f h.result.1.now) (map f c.back-1.given.0) = search rules in
    let both = both_worked _ _ (lines_between c.args.from cut lines) (lines_between cut c.args.to lines) (map f h.result.0.now) (map f c.front-1.given.0) (map f h.result.1.now) (map f c.back-1.given.0) front back in
    let old : map f h.result.0.now ++ map f h.result.1.now ≡ map f c.args.desks.now = sym (map-append f h.result.0.now h.result.1.now) ∙ ap (λ z. map f z) (sym h.ensures.value) in
    let new : map f c.front-1.given.0 ++ map f c.back-1.given.0 ≡ map f (c.front-1.given.0 ++ c.back-1.given.0) = sym (map-append f c.front-1.given.0 c.back-1.given.0) in
    subst (λ z. AllWorked (is_ok c.from_residual.result) (lines_between c.args.from c.args.to lines) (map f c.args.desks.now) z) new
    (subst (λ z. AllWorked (is_ok c.from_residual.result) (lines_between c.args.from c.args.to lines) z (map f c.front-1.given.0 ++ map f c.back-1.given.0)) old
    (subst (λ z. AllWorked (is_ok c.from_residual.result) z (map f h.result.0.now ++ map f h.result.1.now) (map f c.front-1.given.0 ++ map f c.back-1.given.0)) (sym (between_both c.args.from cut c.args.to lines low high))
    (subst (λ z. AllWorked z (lines_between c.args.from cut lines ++ lines_between cut c.args.to lines) (map f h.result.0.now ++ map f h.result.1.now) (map f c.front-1.given.0 ++ map f c.back-1.given.0)) (err_both c.from_residual.result c.join_mut-one.result.0 c.join_mut-one.result.1 _ c.in_err-one.was c.from_residual.ensures.0) both)))

pub returns : goal.returns
returns g t c =
    let f = g.D.LineDesk.state in
    let h = c.split_at_mut-front in
    let lines = c.args.lines.now in
    let cut = c.args.from + c.share_of.result in
    let low : c.args.from ≤ cut = omega arith in
    let high : cut ≤ c.args.to = (let w = c.requires.within in let s = c.share_of.ensures.some in omega (arith, w, s)) in
    let front : AllWorked (is_ok c.join_mut-one.result.0) (lines_between c.args.from cut lines) (map f h.result.0.now) (map f c.front-1.given.0) = search rules in
    let back : AllWorked (is_ok c.join_mut-one.result.1) (lines_between cut c.args.to lines) (map f h.result.1.now) (map f c.back-1.given.0) = search rules in
    let both = both_worked _ _ (lines_between c.args.from cut lines) (lines_between cut c.args.to lines) (map f h.result.0.now) (map f c.front-1.given.0) (map f h.result.1.now) (map f c.back-1.given.0) front back in
    let done : (is_ok c.join_mut-one.result.0 && is_ok c.join_mut-one.result.1) ≡ is_ok c.join_mut-one.result.1 = ap (λ z. is_ok z && is_ok c.join_mut-one.result.1) c.in_ok-one.was in
    let old : map f h.result.0.now ++ map f h.result.1.now ≡ map f c.args.desks.now = sym (map-append f h.result.0.now h.result.1.now) ∙ ap (λ z. map f z) (sym h.ensures.value) in
    let new : map f c.front-1.given.0 ++ map f c.back-1.given.0 ≡ map f (c.front-1.given.0 ++ c.back-1.given.0) = sym (map-append f c.front-1.given.0 c.back-1.given.0) in
    subst (λ z. AllWorked (is_ok c.join_mut-one.result.1) (lines_between c.args.from c.args.to lines) (map f c.args.desks.now) z) new
    (subst (λ z. AllWorked (is_ok c.join_mut-one.result.1) (lines_between c.args.from c.args.to lines) z (map f c.front-1.given.0 ++ map f c.back-1.given.0)) old
    (subst (λ z. AllWorked (is_ok c.join_mut-one.result.1) z (map f h.result.0.now ++ map f h.result.1.now) (map f c.front-1.given.0 ++ map f c.back-1.given.0)) (sym (between_both c.args.from cut c.args.to lines low high))
    (subst (λ z. AllWorked z (lines_between c.args.from cut lines ++ lines_between cut c.args.to lines) (map f h.result.0.now ++ map f h.result.1.now) (map f c.front-1.given.0 ++ map f c.back-1.given.0)) done both)))
