-- A step: what the runner passes on along the front of a piece is performed.
use Rattle.std.proofs.Common.{◌≡◌, ℕ, ◌<◌, ◌≤◌, true, false, List, [], length, take, sym, ap, subst, ◌∙◌, arith}
use Rattle.std.proofs.lemmas.List.{length-take-le}
use Rattle.kex_code.specs.declared.symbol.Symbol.{Symbol}
use Rattle.kex_action.specs.Actors.{Position, TookAll}
use Rattle.kex_moves.specs.Speech.{PerformsSaid}
use Rattle.kex_stage.specs.declared.follower.Follower.{Follower}
use Rattle.kex_stage.specs.declared.oracle.Oracle.{Oracle}
use Rattle.kex_stage.specs.declared.oracle.Oracle.TheVariants.{Table}
use Rattle.kex_stage.specs.Oracles.{Tells}
use Rattle.kex_stage.specs.Works.{StageGoes}
use Rattle.kex_stage.specs.Strides.{HasGone}
use Rattle.kex_stage.proofs.OracleAnswers.{take_all}
use Rattle.kex_stage.proofs.ActorOutputs.{speaks, stops}
use Rattle.kex_stage.proofs.ByTable.{still_tells}
use Rattle.kex_stage.proofs.Followers.{fronts}

module _ (o : Oracle) (f n : Follower) (a b : Position) (piece : List ℕ) (taken good : ℕ) (said : List Symbol) (before after : List ℕ) (runner : n.runner ≡ f.runner) (moves : n.moves ≡ f.moves) (mb : b.machine ≡ a.machine) (within : taken ≤ length piece) (most : good ≤ taken) (told : Tells o (Table f) (take taken piece) good [] said) (performs : PerformsSaid a b said before after) where
  long : length (take taken piece) ≡ taken
  long = length-take-le taken piece within

  tells : Tells o (Table n) (take taken piece) good [] said
  tells = still_tells o f n (take taken piece) good [] said runner moves told

  -- all that was taken is good
  pub steps_on : taken ≤ good → HasGone false o (Table n) a b piece good before after
  steps_on all =
      let front : List ℕ = take taken piece in
      let whole : good ≡ length front = omega (arith, long, all, most) in
      let goes : StageGoes o (Table n) a b (take good front) before after = subst (λ p. StageGoes o (Table n) a b p before after) (sym (ap (λ z. take z front) whole ∙ take_all front)) (speaks o (Table n) a b front good said before after mb tells performs whole) in
      fronts false o (Table n) a b piece taken good before after within (omega (arith, whole), goes)

  -- the last byte was refused, and the actor does what needs no symbol
  pub steps_out : (c : Position) (last : List ℕ) → good < taken → c.machine ≡ b.machine → TookAll b c [] after last → HasGone true o (Table n) a c piece good before last
  steps_out c last less mc took =
      let front : List ℕ = take taken piece in
      let lt : good < length front = omega (arith, long, less) in
      fronts true o (Table n) a c piece taken good before last within (lt, stops o (Table n) a b front good said before after mb tells performs c last lt mc took)
