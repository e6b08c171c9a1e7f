-- An actor that stopped at a symbol.
use Rattle.std.proofs.Common.{◌≡◌, ℕ, suc, List, ◌++◌, take, drop, sym, ap, ◌∙◌, append_assoc, take-append-drop}
use Rattle.kex_code.specs.declared.symbol.Symbol.{Symbol}
use Rattle.kex_action.specs.Actors.{Position, StoppedAt}
use Rattle.kex_action.proofs.ActorRuns.{begins_front}
use Rattle.kex_moves.specs.Speech.{RefusesCode}

-- where the actor stopped it refuses the symbols
pub stopped_refuses : (i : ℕ) (old new : Position) (symbols : List Symbol) (x y : List ℕ) → StoppedAt i old new symbols x y → RefusesCode old symbols
stopped_refuses i old new symbols x y s = λ given c w h run.
    let front = take (suc i) symbols in
    let whole : given ++ symbols ≡ (given ++ front) ++ drop (suc i) symbols = ap (λ l. given ++ l) (sym (take-append-drop (suc i) symbols)) ∙ sym (append_assoc given front (drop (suc i) symbols)) in
    s.bad given c w h (begins_front old.machine (given ++ front) (given ++ symbols) run (drop (suc i) symbols, whole))
