use Rattle.std.proofs.Common.{◌≡◌, ℕ, ◌+◌, ◌<◌, ◌∷◌, ◌++◌, [], None, ⊎_elim, length, get_or, sym, ap, ap₂, ◌∙◌, arith}
use Rattle.std.proofs.lemmas.Bool.{cases_lt}
use Rattle.kex_sst.specs.Fans.{fan_at}
use Rattle.kex_sst.proofs.Fans.{fan_get, fan_long, fan_more}
use Rattle.kex_sst.proofs.shared_fan.SharedFan.repeat.Goals as goal

module _ (c : goal.After-self-1) where
  long : length c.args.self.now ≡ c.self.inside.classes
  long = sym (ap length c.self.view_is) ∙ fan_long c.self.inside.classes c.self.inside.numbers.items c.self.inside.different.items

  lt : c.args.class < c.self.inside.classes
  lt = omega (arith, c.requires.before, long)

  -- the last class has the number of the one before it
  last : get_or c.put_number.new.numbers.items c.self.inside.classes 0 ≡ get_or c.self.inside.numbers.items c.args.class 0
  last =
      ap (λ k. get_or c.put_number.new.numbers.items k 0) (sym c.from-2.ensures)
      ∙ c.in_ok-put_number.ensures.put
      ∙ c.number_at-number.ensures
      ∙ ap₂ (λ xs k. get_or xs k 0) c.deref.ensures.value c.from.ensures

  kept : (class : ℕ) → class < c.self.inside.classes → get_or c.put_number.new.numbers.items class 0 ≡ get_or c.self.inside.numbers.items class 0
  kept class less = c.put_number.ensures.kept class (omega (arith, less, c.from-2.ensures))

  each : (class : ℕ) → class < c.self.inside.classes + 1 → get_or c.put_number.new.numbers.items class 0 < length c.self.inside.different.items
  each class few =
      ⊎_elim
      (λ less. omega (arith, kept class less, c.self.invariant.each class less))
      (λ le.
      let at : class ≡ c.self.inside.classes = omega (arith, few, le) in
      let same = ap (λ k. get_or c.put_number.new.numbers.items k 0) at in
      omega (arith, same, last, c.self.invariant.each c.args.class lt))
      (cases_lt class c.self.inside.classes)

pub invariant_of-self-2 : goal.invariant_of-self-2
invariant_of-self-2 c = record {
  few = omega (arith, c.requires.few, long c);
  short = omega (arith, c.in_ok-put_number.ensures.short, c.from-2.ensures);
  many = omega (arith, c.self.invariant.many);
  each = each c;
}

pub returns : goal.returns
returns c =
    let n = c.self.inside.classes in
    let ns = c.self.inside.numbers.items in
    let ds = c.self.inside.different.items in
    let r = get_or c.args.self.now c.args.class None in
    let there : fan_at c.put_number.new.numbers.items ds n ≡ r =
    ap (λ k. get_or ds k None) (last c) ∙ sym (fan_get n ns ds c.args.class (lt c)) ∙ ap (λ z. get_or z c.args.class None) c.self.view_is in
    fan_more n ns c.put_number.new.numbers.items ds ds r (λ class less. ap (λ k. get_or ds k None) (kept c class less)) there
    ∙ ap (λ z. z ++ r ∷ []) c.self.view_is
