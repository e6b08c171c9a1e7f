use Rattle.std.proofs.Common.{◌≡◌, ◌++◌, ◌∷◌, List, ℕ, [], length, drop, map, true, refl, sym, ap, subst, ◌∙◌, arith}
use Rattle.std.specs.Prelude.{is_ok}
use Rattle.std.proofs.lemmas.List.{map-append}
use Rattle.kex_each.specs.Desks.{AllWorked, answers_of, lines_between, without_answers}
use Rattle.kex_each.proofs.DeskLists.{between_all, cleared_none, map_drop, none_worked, parts_worked}
use Rattle.kex_each.proofs.desks.answer_in_parts.Goals as goal

no_lines : (xs : List (List ℕ)) → length xs ≡ 0 → xs ≡ []
no_lines [] e = refl
no_lines (x ∷ xs) e = let bad : ⊥ = omega (arith, e) in absurd bad

pub returns-then-len-eq0 : goal.returns-then-len-eq0
returns-then-len-eq0 g c =
    let f = g.D.LineDesk.state in
    let old = map f c.args.desks.now in
    let none : c.args.lines.now ≡ [] = no_lines c.args.lines.now (let e = c.len.ensures in let z = c.if-len-eq0.true in omega (arith, e, z)) in
    subst (λ z. AllWorked true z old (map f c.clear_all.new.desks)) (sym none) (subst (λ z. AllWorked true [] old z) (sym c.clear_all.ensures) (none_worked old))

pub returns : goal.returns
returns g c =
    let f = g.D.LineDesk.state in
    let h = c.split_at_mut-busy in
    let lines = c.args.lines.now in
    let old = map f c.args.desks.now in
    let busy = map f h.result.0.now in
    let idle = map f h.result.1.now in
    let new = map f c.work_all.new.desks in
    let cut : without_answers old ≡ busy ++ idle = sym c.clear_all.ensures ∙ ap (λ z. map f z) h.ensures.value ∙ map-append f h.result.0.now h.result.1.now in
    let none : answers_of idle ≡ [] = ap (λ z. answers_of (map f z)) h.ensures.back ∙ ap answers_of (map_drop f c.min-parts.result c.clear_all.new.desks ∙ ap (λ z. drop c.min-parts.result z) c.clear_all.ensures) ∙ cleared_none c.min-parts.result old in
    let all : lines_between 0 c.len-3.result lines ≡ lines = ap (λ n. lines_between 0 n lines) c.len-3.ensures ∙ between_all lines in
    subst (λ z. AllWorked (is_ok c.work_all.result) lines old z) (sym (map-append f c.work_all.new.desks h.result.1.now))
    (parts_worked (is_ok c.work_all.result) lines old busy idle new cut none (subst (λ z. AllWorked (is_ok c.work_all.result) z busy new) all c.work_all.ensures))
