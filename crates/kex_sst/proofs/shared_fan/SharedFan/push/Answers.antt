use Rattle.std.proofs.Common.{◌≡◌, ℕ, ◌+◌, ◌<◌, ◌∷◌, ◌++◌, [], None, ⊎_elim, length, get_or, sym, ap, ◌∙◌, arith}
use Rattle.std.proofs.lemmas.Bool.{cases_lt}
use Rattle.std.proofs.lemmas.Option.{get_or_from_slice_get, slice_get_within}
use Rattle.kex_sst.specs.Fans.{fan_at}
use Rattle.kex_sst.proofs.Fans.{fan_long, fan_more}
use Rattle.kex_sst.proofs.shared_fan.SharedFan.push.Goals as goal

pub number_of-requires : goal.number_of-requires
number_of-requires c =
    omega (arith, c.requires, c.self.invariant.many, fan_long c.self.inside.classes c.self.inside.numbers.items c.self.inside.different.items, ap length c.self.view_is)

pub invariant_of-self : goal.invariant_of-self
invariant_of-self c =
    let was = c.self.invariant in
    record {
      few = was.few;
      short = was.short;
      many = omega (arith, was.many, c.in_err-number.ensures.none);
      each = λ class lt. omega (arith, was.each class lt, c.number_of.ensures.longer);
    }

module _ (c : goal.After-self-1) where
  each : (class : ℕ) → class < c.self.inside.classes + 1 → get_or c.put_number.new.numbers.items class 0 < length c.number_of.new.different.items
  each class few =
      ⊎_elim
      (λ less. omega (arith, c.put_number.ensures.kept class (omega (arith, less, c.from-class.ensures)), c.self.invariant.each class less, c.number_of.ensures.longer))
      (λ le.
      let at : class ≡ c.from-class.result = omega (arith, few, le, c.from-class.ensures) in
      let same = ap (λ k. get_or c.put_number.new.numbers.items k 0) at in
      omega (arith, same, c.in_default.ensures.put, slice_get_within c.number_of.new.different.items c.in_ok-number.number c.args.transition c.in_ok-number.ensures.at))
      (cases_lt class c.self.inside.classes)

pub invariant_of-self-2 : goal.invariant_of-self-2
invariant_of-self-2 c = record {
  few = omega (arith, c.requires, fan_long c.self.inside.classes c.self.inside.numbers.items c.self.inside.different.items, ap length c.self.view_is);
  short = omega (arith, c.in_default.ensures.short, c.from-class.ensures);
  many = omega (arith, c.self.invariant.many, c.number_of.ensures.one);
  each = each c;
}

pub returns : goal.returns
returns c =
    let n = c.self.inside.classes in
    let ns = c.self.inside.numbers.items in
    let ns' = c.put_number.new.numbers.items in
    let ds = c.self.inside.different.items in
    let ds' = c.number_of.new.different.items in
    let r = c.args.transition in
    let number = c.in_ok-number.number in
    let last : fan_at ns' ds' n ≡ r =
    ap (λ k. get_or ds' k None) (ap (λ k. get_or ns' k 0) (sym c.from-class.ensures) ∙ c.in_default.ensures.put)
    ∙ get_or_from_slice_get ds' number r None c.in_ok-number.ensures.at in
    fan_more n ns ns' ds ds' r
    (λ class lt. ap (λ k. get_or ds' k None) (c.put_number.ensures.kept class (omega (arith, lt, c.from-class.ensures))) ∙ c.number_of.ensures.kept (get_or ns class 0) (c.self.invariant.each class lt))
    last
    ∙ ap (λ z. z ++ r ∷ []) c.self.view_is
