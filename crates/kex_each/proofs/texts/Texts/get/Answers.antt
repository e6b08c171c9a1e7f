use Rattle.std.proofs.Common.{◌≡◌, ◌<◌, ◌-◌, [], length, take, drop, get_or, ap, ap₂, ◌∙◌, arith}
use Rattle.kex_each.specs.Texts.{begin_of}
use Rattle.kex_each.proofs.TextLists.{cut_is, cut_length, same_at}
use Rattle.kex_each.proofs.texts.Texts.get.Goals as goal

pub begin_of-from-requires : goal.begin_of-from-requires
begin_of-from-requires c =
    let t = c.self.inside in
    let long = cut_length 0 t.ends.items t.bytes.items in
    let view = ap length c.self.view_is in
    let all = ap length c.deref.ensures.value in
    omega (arith, long, view, all, c.requires)

pub index-to-requires : goal.index-to-requires
index-to-requires c =
    let t = c.self.inside in
    let long = cut_length 0 t.ends.items t.bytes.items in
    let view = ap length c.self.view_is in
    let all = t.ends.ok.0 in
    omega (arith, long, view, all, c.requires)

pub prove-unreachable-requires : goal.prove-unreachable-requires
prove-unreachable-requires c =
    let t = c.self.inside in
    let long = cut_length 0 t.ends.items t.bytes.items in
    let view = ap length c.self.view_is in
    let lt : c.args.index < length t.ends.items = omega (arith, long, view, c.requires) in
    let i = cut_is 0 (length t.bytes.items) t.ends.items t.bytes.items c.args.index c.self.invariant (omega arith) lt in
    let from : c.begin_of-from.result ≡ begin_of 0 t.ends.items c.args.index = c.begin_of-from.ensures ∙ ap (λ z. begin_of 0 z c.args.index) c.deref.ensures.value in
    let to : c.index-to.result.now ≡ get_or t.ends.items c.args.index 0 = c.index-to.ensures ∙ same_at t.ends.items c.args.index c.index-to.result.now 0 lt in
    omega (arith, from, to, i.order, c.if-prove.true)

pub prove-unreachable-requires-2 : goal.prove-unreachable-requires-2
prove-unreachable-requires-2 c =
    let t = c.self.inside in
    let long = cut_length 0 t.ends.items t.bytes.items in
    let view = ap length c.self.view_is in
    let lt : c.args.index < length t.ends.items = omega (arith, long, view, c.requires) in
    let i = cut_is 0 (length t.bytes.items) t.ends.items t.bytes.items c.args.index c.self.invariant (omega arith) lt in
    let to : c.index-to.result.now ≡ get_or t.ends.items c.args.index 0 = c.index-to.ensures ∙ same_at t.ends.items c.args.index c.index-to.result.now 0 lt in
    let all = t.bytes.ok.0 in
    omega (arith, to, i.within, all, c.len.ensures, c.if-prove-2.true)

pub returns : goal.returns
returns c =
    let t = c.self.inside in
    let long = cut_length 0 t.ends.items t.bytes.items in
    let view = ap length c.self.view_is in
    let lt : c.args.index < length t.ends.items = omega (arith, long, view, c.requires) in
    let i = cut_is 0 (length t.bytes.items) t.ends.items t.bytes.items c.args.index c.self.invariant (omega arith) lt in
    let begin = begin_of 0 t.ends.items c.args.index in
    let from : c.begin_of-from.result ≡ begin = c.begin_of-from.ensures ∙ ap (λ z. begin_of 0 z c.args.index) c.deref.ensures.value in
    let to : c.index-to.result.now ≡ get_or t.ends.items c.args.index 0 = c.index-to.ensures ∙ same_at t.ends.items c.args.index c.index-to.result.now 0 lt in
    let none : begin ≡ begin - 0 = omega arith in
    ap₂ (λ m n. take (m - n) (drop n c.deref-2.result.now)) to from
    ∙ ap (λ z. take (get_or t.ends.items c.args.index 0 - begin) (drop begin z)) c.deref-2.ensures.value
    ∙ ap (λ n. take (get_or t.ends.items c.args.index 0 - begin) (drop n t.bytes.items)) none
    ∙ i.text ∙ ap (λ z. get_or z c.args.index []) c.self.view_is
