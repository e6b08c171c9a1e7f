use Rattle.std.proofs.Common.{◌==◌, set, ap₂, ◌∙◌}
use Rattle.std.proofs.lemmas.List.{map-set}
use Rattle.kex_machine.proofs.Stamps.{same_on}
use Rattle.kex_machine.proofs.marks.Marks.mark.Goals as goal

pub returns-clause-marked : goal.returns-clause-marked
returns-clause-marked c = map-set (λ s. s == c.self.inside.current) c.self.inside.stamps.items c.args.place c.self.inside.current ∙ ap₂ (λ u v. set u c.args.place v) c.self.view_is (same_on c.self.inside.current)
