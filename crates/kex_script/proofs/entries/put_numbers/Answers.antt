use Rattle.std.proofs.Common.{◌≡◌, ◌+◌, ◌-◌, ◌≤◌, ◌++◌, Some, length, length-append, get_or, replicate, sym, ap, subst, ◌∙◌, arith}
use Rattle.std.specs.Prelude.{slice_get}
use Rattle.std.specs.Vec.{vec_len}
use Rattle.std.proofs.lemmas.List.{take_all}
use Rattle.kex_script.proofs.ClassNumbers.{numbers_told, numbers_kept}
use Rattle.kex_script.proofs.entries.put_numbers.Goals as goal

module _ (c : goal.In_ok-resize) where
  at : c.in-Ok.at ≡ length c.args.numbers.now.items
  at = omega (arith, c.in-Ok.ensures.1, c.len.ensures, c.args.numbers.now.ok.0)

  items : c.extend_from_slice.new.self.items ≡ c.args.numbers.now.items ++ c.args.row.now
  items = (c.in_ok-extend_from_slice.ensures {u = tt}).items

  long : vec_len c.extend_from_slice.new.self ≡ length c.args.numbers.now.items + length c.args.row.now
  long = omega (arith, c.extend_from_slice.new.self.ok.0, ap length items, length-append c.args.numbers.now.items c.args.row.now)

  fits : length c.args.row.now + (c.in-Ok.at + c.from.result - vec_len c.extend_from_slice.new.self) ≡ c.args.classes
  fits = omega (arith, at, long, c.from.ensures, c.requires.short)

  few : length c.extend_from_slice.new.self.items ≤ c.in-Ok.at + c.from.result
  few = omega (arith, at, long, c.extend_from_slice.new.self.ok.0, c.from.ensures, c.requires.short)

  resized : c.resize.new.self.items ≡ (c.args.numbers.now.items ++ c.args.row.now) ++ replicate (c.in-Ok.at + c.from.result - vec_len c.extend_from_slice.new.self) 0
  resized =
      (c.in_ok-resize.ensures {u = tt}).items
      ∙ ap (λ z. z ++ replicate (c.in-Ok.at + c.from.result - vec_len c.extend_from_slice.new.self) 0)
      (take_all (c.in-Ok.at + c.from.result) c.extend_from_slice.new.self.items few ∙ items)

pub returns-clause-at : goal.returns-clause-at
returns-clause-at c = λ class lt.
    subst (λ z. slice_get c.resize.new.self.items (z + class) ≡ Some (get_or c.args.row.now class 0)) (sym (at c))
    (numbers_told c.args.numbers.now.items c.args.row.now c.resize.new.self.items c.args.classes _ (fits c) (resized c) class lt)

pub returns-clause-kept : goal.returns-clause-kept
returns-clause-kept c = numbers_kept c.args.numbers.now.items c.args.row.now c.resize.new.self.items c.args.classes _ (fits c) (resized c)
