use Rattle.std.proofs.Common.{◌++◌, ◌∷◌, ◌∙◌, [], sym, append_assoc, length-append, arith}
use Rattle.kex_rings.proofs.Joins.{same-cut}
use Rattle.kex_rings.proofs.round.look_beside.Goals as goal

pub look_between-requires-clause-paired : goal.look_between-requires-clause-paired
look_between-requires-clause-paired g c =
    let h = c.split_at_mut-front in
    let q = c.requires.paired in
    let cut = same-cut h.result.0.now h.result.1.now (q.1 ++ q.2 ∷ []) (q.3 ∷ q.4) (sym h.ensures.value ∙ q.5 ∙ sym (append_assoc q.1 (q.2 ∷ []) (q.3 ∷ q.4))) (omega (arith, h.ensures.front_len, q.6, length-append q.1 (q.2 ∷ []))) in
    (q.0, q.1, q.2, q.3, q.4, cut.0, cut.1, q.7)

pub returns-clause-beside : goal.returns-clause-beside
returns-clause-beside g c = λ front back s n is place.
    let h = c.split_at_mut-front in
    let cut = same-cut h.result.0.now h.result.1.now (front ++ s ∷ []) (n ∷ back) (sym h.ensures.value ∙ is ∙ sym (append_assoc front (s ∷ []) (n ∷ back))) (omega (arith, h.ensures.front_len, place, length-append front (s ∷ []))) in
    c.look_between.ensures front back s n cut.0 cut.1
