use Rattle.std.proofs.Common.{rules, ◌≡◌, true, [], ◌∷◌, ◌++◌, sym, ap, subst, ◌∙◌, if◌then◌else◌, arith}
use Rattle.kex_desugar.specs.declared.spot.Spot.{Spot}
use Rattle.kex_desugar.specs.Spots.{Real}
use Rattle.kex_desugar.specs.contracts.spot.SpotPartialEq.TheImpl.{eq-value}
use Rattle.kex_model.proofs.Tables.{found_at, absent_at}
use Rattle.kex_desugar.proofs.PlaceNumbers.{real_push, more_than}
use Rattle.kex_desugar.proofs.spot.intern.Goals as goal

same : (s t : Spot) → eq-value.it s t ≡ true → s ≡ t
same s t e = search rules

own : (s : Spot) → eq-value.it s s ≡ true
own s = search rules

pub returns-in-Some-clause-number : goal.returns-in-Some-clause-number
returns-in-Some-clause-number c = found_at eq-value.it same own c.args.spots.now.keys c.args.spot c.in-Some.i c.in-Some.ensures.index

pub returns-then-len-max-clause-refused : goal.returns-then-len-max-clause-refused
returns-then-len-max-clause-refused c = λ u P root real here. more_than P root c.args.spots.now.keys c.args.spot c.args.max real here (absent_at eq-value.it same own c.args.spots.now.keys c.args.spot c.in_default.ensures.found) (omega (arith, c.requires))

pub returns-clause-real : goal.returns-clause-real
returns-clause-real c = λ P root real here.
    let keys = c.args.spots.now.keys in
    let pushed : c.insert_full.new.self.keys ≡ keys ++ c.args.spot ∷ [] = c.in_ok-i.ensures.keys ∙ ap (λ b. if b then keys else keys ++ c.args.spot ∷ []) (sym c.in_default.ensures.found) in
    subst (λ z. Real P root z) (sym pushed) (real_push P root keys c.args.spot real here (absent_at eq-value.it same own keys c.args.spot c.in_default.ensures.found))
