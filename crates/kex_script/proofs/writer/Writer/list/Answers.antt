use Rattle.std.proofs.Common.{refl}
use Rattle.kex_script.proofs.Segments.{joined}
use Rattle.kex_script.proofs.writer.Writer.list.Goals as goal

pub join-requires-clause-joined : goal.join-requires-clause-joined
join-requires-clause-joined c = joined c.loop-from.self.lists c.loop-from.number c.args.parts.now _ c.loop-from.from c.first_segment-segment.result c.loop-from.invariant.number c.loop-from.invariant.from c.first_segment-segment.ensures refl
