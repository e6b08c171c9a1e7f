use Rattle.std.specs.Prelude.{All, take}
use Rattle.kex_determine.specs.Rows.{LeadsApart}
use Rattle.kex_determine.proofs.rows.alike_among.Given as goal

abbrev pub invariant-loop-earlier : goal.invariant-loop-earlier
invariant-loop-earlier l = All (λ earlier. LeadsApart l.tree earlier l.class) (take l.earlier-index l.classes)
