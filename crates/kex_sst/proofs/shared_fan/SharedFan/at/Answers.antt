use Rattle.std.proofs.Common.{◌≡◌, ◌<◌, None, length, get_or, sym, ap, ap₂, ◌∙◌, arith}
use Rattle.std.proofs.lemmas.List.{get_or_read}
use Rattle.kex_sst.proofs.Fans.{fan_get, fan_long}
use Rattle.kex_sst.proofs.shared_fan.SharedFan.at.Goals as goal
use Rattle.kex_sst.proofs.shared_fan.SharedFan.at.Goals.{After-from-2}

module _ (c : After-from-2) where
  lt : c.args.class < c.self.inside.classes
  lt = omega (arith, c.requires, fan_long c.self.inside.classes c.self.inside.numbers.items c.self.inside.different.items, ap length c.self.view_is)

  number : c.from-2.result ≡ get_or c.self.inside.numbers.items c.args.class 0
  number = c.from-2.ensures ∙ c.number_at-number.ensures ∙ ap₂ (λ xs k. get_or xs k 0) c.deref.ensures.value c.from.ensures

  there : c.from-2.result < length c.self.inside.different.items
  there = omega (arith, number, c.self.invariant.each c.args.class lt)

pub index-requires : goal.index-requires
index-requires c = omega (arith, there c, c.self.inside.different.ok.0)

pub returns : goal.returns
returns c =
    let top = (goal.at.returns c).After-from-2 in
    let ns = c.self.inside.numbers.items in
    let ds = c.self.inside.different.items in
    get_or_read ds c.from-2.result c.index.result.now (there top) c.index.ensures None
    ∙ ap (λ k. get_or ds k None) (number top)
    ∙ sym (fan_get c.self.inside.classes ns ds c.args.class (lt top))
    ∙ ap (λ z. get_or z c.args.class None) c.self.view_is
