use Rattle.std.proofs.Common.{◌++◌, ◌∷◌, [], get_or, ap, sym, ◌∙◌}
use Rattle.kex_code.specs.declared.symbol.Symbol.TheVariants.{L}
use Rattle.kex_sst.specs.declared.parts.Part.TheVariants.{Put}
use Rattle.kex_script.specs.Scripts.{change_at}
use Rattle.kex_runner.specs.Ways.{composition}
use Rattle.kex_runner.proofs.WayLemmas.{composed_next}
use Rattle.kex_runner.proofs.ways.compose.Goals as goal

pub loop-part-preserved : goal.loop-part-preserved
loop-part-preserved c =
    let u = change_at c.args.script.now c.args.update in
    c.in_ok-put.ensures ∙ ap (λ z. z ++ composition u (get_or c.args.way.now c.loop-part.part-index (Put L) ∷ [])) c.loop-part.invariant ∙ sym (composed_next u c.args.way.now c.loop-part.part-index (Put L) c.loop-part-test.true)
