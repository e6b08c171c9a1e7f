use Rattle.std.proofs.Common.{◌≡◌, ◌∙◌, refl, subst, arith, ◌+◌, Some}
use Rattle.std.specs.Prelude.{slice_set}
use Rattle.kex_paths.proofs.Samples.{AreSampled, sampled_none, sampled_more, sampled_all}
use Rattle.kex_paths.proofs.workspace.samples_of.Goals as goal

pub loop-byte-init : goal.loop-byte-init
loop-byte-init c = sampled_none c.args.partition.now

pub loop-byte-preserved : goal.loop-byte-preserved
loop-byte-preserved c = sampled_more c.args.partition.now c.loop-byte.samples (slice_set c.loop-byte.samples c.from.result (Some c.loop-byte.byte)) c.loop-byte.byte c.from.result (omega arith) (c.from.ensures ∙ c.class_of.ensures.class) refl c.loop-byte.invariant

pub returns-2 : goal.returns-2
returns-2 c =
    let last : c.loop-byte.byte + 1 ≡ 256 = omega arith in
    sampled_all c.args.partition.now (slice_set c.loop-byte.samples c.from.result (Some c.loop-byte.byte)) (subst (λ z. AreSampled c.args.partition.now (slice_set c.loop-byte.samples c.from.result (Some c.loop-byte.byte)) z) last (sampled_more c.args.partition.now c.loop-byte.samples (slice_set c.loop-byte.samples c.from.result (Some c.loop-byte.byte)) c.loop-byte.byte c.from.result (omega arith) (c.from.ensures ∙ c.class_of.ensures.class) refl c.loop-byte.invariant))
