use Rattle.std.proofs.Common.{◌≡◌, ◌≤◌, ◌+◌, ◌++◌, ◌∷◌, [], length, sym, ap, ap₂, subst, ◌∙◌, arith, length-append}
use Rattle.kex_each.specs.Texts.{AreEnds, cut_at}
use Rattle.kex_each.proofs.TextLists.{cut_more, ends_more}
use Rattle.kex_each.proofs.texts.Texts.push.Goals as goal

pub invariant_of-self-2 : goal.invariant_of-self-2
invariant_of-self-2 c =
    let t = c.self.inside in
    let all = c.extend_from_slice.new.self in
    let grown : all.items ≡ t.bytes.items ++ c.args.text.now = c.in_ok-extend_from_slice.ensures.items in
    let last : c.len.result ≡ length all.items = let e = all.ok.0 in omega (arith, e, c.len.ensures) in
    let ends = c.push_reserved.ensures.items ∙ ap (λ z. z ++ c.len.result ∷ []) c.in_ok-try_reserve.ensures.items in
    let more : length t.bytes.items ≤ length all.items = let e = ap length grown in omega (arith, e, length-append t.bytes.items c.args.text.now) in
    subst (λ z. AreEnds 0 z (length all.items)) (sym ends)
    (subst (λ n. AreEnds 0 (t.ends.items ++ n ∷ []) (length all.items)) (sym last) (ends_more 0 (length t.bytes.items) (length all.items) t.ends.items c.self.invariant more))

pub returns : goal.returns
returns c =
    let t = c.self.inside in
    let all = c.extend_from_slice.new.self in
    let text = c.args.text.now in
    let grown : all.items ≡ t.bytes.items ++ text = c.in_ok-extend_from_slice.ensures.items in
    let last : c.len.result ≡ 0 + length (t.bytes.items ++ text) = let e = all.ok.0 in let long = ap length grown in omega (arith, e, long, c.len.ensures) in
    let ends = c.push_reserved.ensures.items ∙ ap (λ z. z ++ c.len.result ∷ []) c.in_ok-try_reserve.ensures.items in
    ap₂ (λ y z. cut_at 0 y z) ends grown ∙ cut_more 0 (length t.bytes.items) c.len.result t.ends.items t.bytes.items text c.self.invariant (omega arith) last ∙ ap (λ z. z ++ text ∷ []) c.self.view_is
