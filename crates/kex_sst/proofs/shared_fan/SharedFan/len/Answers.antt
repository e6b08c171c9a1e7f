use Rattle.std.proofs.Common.{length, sym, ap, ◌∙◌}
use Rattle.kex_sst.proofs.Fans.{fan_long}
use Rattle.kex_sst.proofs.shared_fan.SharedFan.len.Goals as goal

pub returns-clause-long : goal.returns-clause-long
returns-clause-long c = sym (fan_long c.self.inside.classes c.self.inside.numbers.items c.self.inside.different.items) ∙ ap length c.self.view_is
