-- The refusals of the passes as a stage's.
use Rattle.kex_desugar.specs.declared.refusal.DesugarRefusal.{DesugarRefusal}
use Rattle.kex_trim.specs.declared.TrimRefusal.{TrimRefusal}
use Rattle.kex_lowering.specs.declared.refusal.StageRefusal.{StageRefusal}
use Rattle.kex_lowering.specs.declared.refusal.StageRefusal.TheVariants.{TooManyPlaces, NoText}
use Rattle.kex_lowering.specs.declared.refusal.StageRefusal.TheVariants.{Memory}
use Rattle.kex_desugar.specs.declared.refusal.DesugarRefusal.TheVariants as desugar
use Rattle.kex_trim.specs.declared.TrimRefusal.TheVariants as trim

abbrev pub of_desugar : DesugarRefusal → StageRefusal
of_desugar desugar.TooManyPlaces = TooManyPlaces
of_desugar desugar.Memory = Memory

abbrev pub of_trim : TrimRefusal → StageRefusal
of_trim trim.NoText = NoText
of_trim trim.Memory = Memory
