-- Bytes of which the first says something, which does nothing.
use Rattle.std.proofs.Common.{◌≡◌, ℕ, ◌<◌, ◌+◌, ◌-◌, List, [], ◌∷◌, ◌++◌, Some, None, map, length, take, drop, get_or, sym, ap, subst, ◌∙◌, append_assoc, append-nil, arith}
use Rattle.std.proofs.lemmas.List.{append_cancel_left, take_all, take_more}
use Rattle.kex_code.specs.declared.symbol.Symbol.{Symbol}
use Rattle.kex_model.specs.Moves.{code_of}
use Rattle.kex_action.specs.Actors.{Position, BeginsRun, HasPerformed}
use Rattle.kex_action.specs.Holdings.{state_of}
use Rattle.kex_action.proofs.ActorRuns.{goes_from, went_on}
use Rattle.kex_held.specs.Walks.{TakesCode, code_with_byte}
use Rattle.kex_sst.specs.declared.parts.Part.{Part}
use Rattle.kex_sst.specs.declared.table.Transition.{Transition}
use Rattle.kex_sst.specs.Parts.{parts_code}
use Rattle.kex_sst.specs.Passes.{next_of, next_pass, passes_if}
use Rattle.kex_sst.proofs.Passes.{passes_more}
use Rattle.kex_sst.specs.Tables.{Transducer}
use Rattle.kex_runner.specs.Following.{pass_at}
use Rattle.kex_runner.specs.Quiet.{GoesQuietly}
use Rattle.kex_stage.specs.declared.follower.Follower.{Follower}
use Rattle.kex_stage.specs.declared.oracle.Oracle.TheVariants.{Table}
use Rattle.kex_stage.specs.declared.ahead.PastFirst.{PastFirst}
use Rattle.kex_stage.specs.Ahead.{CanWait, DoesNothing, IsIdleAt}
use Rattle.kex_stage.specs.PastFirsts.{IsPastFirst}

-- where a run's code goes on from what was performed, it can be taken
takes_on : (a : Position) (given c d : List Symbol) (out : List ℕ) → HasPerformed a given c out → BeginsRun a.machine (c ++ d) → (x : List Symbol) × TakesCode a.machine.nodes a.at (d ++ x)
takes_on a given c d out h run =
    let code : code_of run.0 ≡ c ++ (d ++ run.2.0) = run.2.1 ∙ append_assoc c d run.2.0 in
    let on = goes_from a.machine h.came.steps run.0 a.at c h.came.walk h.came.codes run.1 (d ++ run.2.0, code) in
    (run.2.0, record { steps = on.rest; to = run.1.0; walk = on.walk; codes = on.codes })

-- what does nothing at the actor's node
idle_does : (a : Position) (b : ℕ) (parts : List Part) → IsIdleAt a.machine.nodes a.at parts → DoesNothing a (code_with_byte b parts)
idle_does a b parts idle = record {
  to = idle.to;
  settled = idle.rests;
  performed = λ c out h run.
      let said = code_with_byte b parts in
      let takes = takes_on a c c said out h run in
      let leads = idle.learns.does b takes.0 takes.1 (state_of out a.holding) in
      let went = went_on a.machine a.at idle.to a.holding a.holding a.refused a.usable a.usable said out out leads in
      let none : went.more ≡ [] = append_cancel_left out went.more [] (sym went.written ∙ sym (append-nil out)) in
      subst (λ z. HasPerformed (record a { at = idle.to }) (c ++ said) (c ++ said) z) (ap (λ z. out ++ z) none ∙ append-nil out) (went.performed c c out h);
}

-- a byte at which something is said, and others that are quiet
module _ (f : Follower) (a : Position) (byte : ℕ) (rest : List ℕ) (q : ℕ) (by : Transition) (none : f.runner.pending ≡ []) (bare : f.runner.registers ≡ []) (goes : next_of f.runner.table f.runner.state byte ≡ Some by) (quiet : GoesQuietly f.runner.table by.target q rest) where
  said : List Symbol
  said = code_with_byte byte by.update.out

  abbrev t : Transducer
  t = f.runner.table

  waits_past : DoesNothing a (code_with_byte byte by.update.out) → CanWait (Table f) a (byte ∷ rest) q
  waits_past idle = record {
    said = code_with_byte byte by.update.out;
    tells = (
      none,
      λ c.
          let held = map (λ xs. parts_code f.runner.registers byte xs) by.update.regs in
          let code : c ++ parts_code f.runner.registers byte by.update.out ≡ c ++ code_with_byte byte by.update.out = ap (λ rs. c ++ parts_code rs byte by.update.out) bare in
          let on = quiet (c ++ code_with_byte byte by.update.out) held in (
            on.0,
            ap (λ o. passes_if t (next_pass o byte (pass_at f.runner.state c f.runner.registers)) rest) goes
                ∙ ap (λ z. passes_if t (Some (pass_at by.target z held)) rest) code
                ∙ on.1,
          ),
    );
    idle = idle;
  }

-- a piece past whose first byte was looked
pub first_waits : (f : Follower) (a : Position) (piece : List ℕ) (p : PastFirst) → f.runner.pending ≡ [] → f.runner.registers ≡ [] → IsPastFirst f.runner.table f.runner.state piece p → IsIdleAt a.machine.nodes a.at p.said.now → CanWait (Table f) a piece p.to
first_waits f a piece p none bare seen idle =
    let here = subst (λ ps. IsIdleAt a.machine.nodes a.at ps) (sym seen.said) idle in
    subst (λ l. CanWait (Table f) a l p.to) (sym seen.parts) (waits_past f a seen.byte seen.rest p.to seen.by none bare seen.goes seen.quiet (idle_does a seen.byte seen.by.update.out here))

pub first_of : (piece : List ℕ) → 0 < length piece → get_or piece 0 0 ∷ take (length piece - 1) (drop 1 piece) ≡ piece
first_of [] lt = absurd (omega arith)
first_of (b ∷ bs) lt = ap (λ l. b ∷ l) (take_all (length (b ∷ bs) - 1) bs (omega arith))

-- some bytes are quiet, and the next is refused
pub stops_after : (t : Transducer) (q r n : ℕ) (piece : List ℕ) → n < length piece → GoesQuietly t q r (take n piece) → next_of t r (get_or piece n 0) ≡ None → (c : List Symbol) (held : List (List Symbol)) → passes_if t (Some (pass_at q c held)) (take (n + 1) piece) ≡ None
stops_after t q r n piece lt quiet none c held =
    let on = quiet c held in
    let one : take (n + 1) piece ≡ take n piece ++ get_or piece n 0 ∷ [] = take_more piece n 0 lt in
    ap (λ l. passes_if t (Some (pass_at q c held)) l) one
    ∙ passes_more t (Some (pass_at q c held)) (take n piece) (get_or piece n 0 ∷ [])
    ∙ ap (λ o. passes_if t o (get_or piece n 0 ∷ [])) on.1
    ∙ ap (λ o. passes_if t (next_pass o (get_or piece n 0) (pass_at r c on.0)) []) none
