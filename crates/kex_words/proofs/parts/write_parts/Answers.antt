use Rattle.std.proofs.Common.{◌++◌, ◌+◌, ◌∙◌, ap, append_assoc, drop, map, sym}
use Rattle.std.proofs.lemmas.List.{at_drop_more}
use Rattle.std.specs.List.{concat}
use Rattle.kex_words.specs.Parts.{part_bytes}
use Rattle.kex_ports.proofs.Endings.{same-finishes, unfinished-at}
use Rattle.kex_words.proofs.Writes.{fails-after, whole-then}
use Rattle.kex_words.proofs.parts.write_parts.Goals as goal

pub returns-in_err-write_part-clause-tells : goal.returns-in_err-write_part-clause-tells
returns-in_err-write_part-clause-tells g c =
    let i = c.loop-part.invariant in
    let rest = concat (map part_bytes (drop (c.loop-part.part-index + 1) c.args.parts.now)) in
    let here = at_drop_more (λ parts. concat (map part_bytes parts)) c.args.parts.now c.loop-part.part-index _ c.loop-part-test.true in
    fails-after _ _ _ _ _ _ i.0 _ rest _ _ c.from_residual.ensures.0 (i.1 ∙ ap (λ s. i.0 ++ s) here) i.2 c.in_err-write_part.ensures.tells

pub returns-in_err-write_part-clause-unfinished : goal.returns-in_err-write_part-clause-unfinished
returns-in_err-write_part-clause-unfinished g c =
    unfinished-at _ _ _ c.from_residual.ensures.0 (c.in_err-write_part.ensures.unfinished ∙ same-finishes _ _ c.loop-part.invariant.3)

pub loop-part-preserved : goal.loop-part-preserved
loop-part-preserved g c =
    let i = c.loop-part.invariant in
    let here = at_drop_more (λ parts. concat (map part_bytes parts)) c.args.parts.now c.loop-part.part-index _ c.loop-part-test.true in
    let joined = i.1 ∙ ap (λ s. i.0 ++ s) here ∙ sym (append_assoc i.0 _ _) in
    (_, joined, whole-then _ _ _ _ _ _ i.0 _ i.2 c.in_ok-write_part.ensures.tells, c.in_ok-write_part.ensures.unfinished ∙ i.3)
