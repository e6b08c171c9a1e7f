use Rattle.std.proofs.Common.{◌≡◌, Some, length, refl, sym, ap, subst, ◌∙◌}
use Rattle.std.specs.Prelude.{slice_get}
use Rattle.std.proofs.lemmas.Bool.{ltb-true}
use Rattle.std.proofs.lemmas.Option.{slice_get_read}
use Rattle.kex_script.proofs.interned.Interned.find.Goals as goal

pub returns-then-are_same : goal.returns-then-are_same
returns-then-are_same c =
    let same = c.are_same.ensures c.if-are_same.true in
    let lists = c.deref.ensures.value ∙ c.self.view_is in
    let at = slice_get_read c.deref.result.now (length c.deref.result.now) c.in_ok-number.field-0.now c.in_ok-list.list.now refl (ltb-true c.in_ok-number.field-0.now (length c.deref.result.now) (sym c.in_ok-list.ensures.lookup.0)) c.in_ok-list.ensures.lookup.1 in
    subst (λ z. slice_get z c.in_ok-number.field-0.now ≡ Some c.args.parts.now) lists (at ∙ ap (λ z. Some z) (sym c.as_slice.ensures ∙ same))
