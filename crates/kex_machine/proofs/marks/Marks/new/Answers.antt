use Rattle.std.proofs.Common.{◌==◌, map, ap, ◌∙◌}
use Rattle.kex_machine.proofs.Stamps.{none_first}
use Rattle.kex_machine.proofs.marks.Marks.new.Goals as goal

pub returns : goal.returns
returns c = ap (λ z. map (λ s. s == 1) z) (c.in_ok-stamps.ensures.items_if_clones_equal (λ y h. h)) ∙ none_first c.args.count
