use Rattle.std.proofs.Common.{◌≡◌, refl, ap}
use Rattle.std.specs.Bool.{Decides}
use Rattle.std.proofs.lemmas.Bool.Decides.{Decides-eqb}
use Rattle.std.proofs.lemmas.Slice.Eq.{slice_eq-Decides}
use Rattle.kex_code.specs.declared.symbol.Symbol.TheVariants.{L, R, Byte}
use Rattle.kex_sst.specs.declared.parts.Part.{Part}
use Rattle.kex_sst.specs.declared.parts.Part.TheVariants.{Put, Old, Input}
use Rattle.kex_sst.specs.contracts.parts.PartPartialEq.TheImpl as derived
use Rattle.kex_sst.proofs.parts.are_same.Goals as goal

parts_decide : (a b : Part) → Decides (derived.eq-value.it a b) (a ≡ b)
parts_decide (Put L) (Put L) = (λ e. refl, λ e. refl)
parts_decide (Put L) (Put R) = (λ e. cc, λ e. cc)
parts_decide (Put L) (Put (Byte b)) = (λ e. cc, λ e. cc)
parts_decide (Put R) (Put L) = (λ e. cc, λ e. cc)
parts_decide (Put R) (Put R) = (λ e. refl, λ e. refl)
parts_decide (Put R) (Put (Byte b)) = (λ e. cc, λ e. cc)
parts_decide (Put (Byte a)) (Put L) = (λ e. cc, λ e. cc)
parts_decide (Put (Byte a)) (Put R) = (λ e. cc, λ e. cc)
parts_decide (Put (Byte a)) (Put (Byte b)) = (λ e. ap (λ z. Put (Byte z)) ((Decides-eqb a b).0 e), λ e. (Decides-eqb a b).1 cc)
parts_decide (Put s) (Old j) = (λ e. cc, λ e. cc)
parts_decide (Put s) Input = (λ e. cc, λ e. cc)
parts_decide (Old i) (Put s) = (λ e. cc, λ e. cc)
parts_decide (Old i) (Old j) = (λ e. ap (λ z. Old z) ((Decides-eqb i j).0 e), λ e. (Decides-eqb i j).1 cc)
parts_decide (Old i) Input = (λ e. cc, λ e. cc)
parts_decide Input (Put s) = (λ e. cc, λ e. cc)
parts_decide Input (Old j) = (λ e. cc, λ e. cc)
parts_decide Input Input = (λ e. refl, λ e. refl)

pub returns : goal.returns
returns c = (slice_eq-Decides parts_decide c.args.left.now c.args.right.now c.eq.result c.eq.ensures).0
