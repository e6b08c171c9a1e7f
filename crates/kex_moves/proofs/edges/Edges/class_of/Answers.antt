use Rattle.std.proofs.Common.{◌≡◌, Some, get_or, subst, arith}
use Rattle.std.specs.Prelude.{slice_get}
use Rattle.std.proofs.lemmas.Option.{slice_get-get_or}
use Rattle.kex_moves.proofs.edges.Edges.class_of.Goals as goal

pub returns-clause-class : goal.returns-clause-class
returns-clause-class c = subst (λ k. slice_get k.classes c.args.byte ≡ Some (get_or c.self.inside.classes c.args.byte 0)) c.self.view_is (slice_get-get_or c.self.inside.classes c.args.byte 0 (omega (arith, c.self.invariant.bytes, c.ranges.byte.fits)))
