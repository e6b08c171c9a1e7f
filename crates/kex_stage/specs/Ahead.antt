-- Bytes that an oracle isn't given yet, since what it would tell of them does nothing.
use Rattle.std.specs.Prelude.{◌≡◌, ℕ, ◌<◌, ◌≤◌, ◌+◌, List, [], ◌++◌, Some, None, drop}
use Rattle.std.specs.Prelude.{length}
use Rattle.std.specs.Prelude.{slice_get, take}
use Rattle.kex_code.specs.declared.symbol.Symbol.{Symbol}
use Rattle.kex_machine.specs.declared.MNode.{MNode}
use Rattle.kex_machine.specs.Nodes.{Graph, node_moves}
use Rattle.kex_machine.specs.Answers.{IsViableFor, MeansByRun}
use Rattle.kex_action.specs.Actors.{Position, BeginsRun, HasPerformed, IsSettled}
use Rattle.kex_action.specs.Holdings.{Rests}
use Rattle.kex_sst.specs.declared.parts.Part.{Part}
use Rattle.kex_sst.specs.Passes.{passes_if, way_of}
use Rattle.kex_held.specs.Walks.{Learns}
use Rattle.kex_runner.specs.Following.{pass_at}
use Rattle.kex_runner.specs.Quiet.{GoesQuietly}
use Rattle.kex_stage.specs.declared.advance.Advance.{Advance}
use Rattle.kex_stage.specs.declared.advance.Advance.TheVariants.{Whole, Refused, PutOff}
use Rattle.kex_stage.specs.declared.ahead.Outlook.{Outlook}
use Rattle.kex_stage.specs.declared.ahead.Outlook.TheVariants as outlook
use Rattle.kex_stage.specs.declared.ahead.Outlook.TheVariants.{Quiet, Told}
use Rattle.kex_stage.specs.declared.oracle.Oracle.{Oracle}
use Rattle.kex_stage.specs.declared.oracle.Oracle.TheVariants.{Paths, Table}
use Rattle.kex_plan.specs.declared.plan.Telling.{Telling}
use Rattle.kex_stage.specs.Works.{Followed}

-- the code of the parts does nothing from a node on, and leads to where a symbol or the end comes
-- next
pub record IsIdleAt (nodes : List MNode) (n : ℕ) (parts : List Part) : Type 0 where
  pub to : ℕ
  pub learns : Learns nodes n parts to []
  pub rests : Rests (node_moves nodes to)

-- the same actor at a node
abbrev pub at_node : Position → ℕ → Position
at_node a n = record a { at = n }

-- an actor that has performed a code, with which and this one a run's code begins, would only go to
-- another node for it: nothing is written, and what it holds stays
pub record DoesNothing (a : Position) (said : List Symbol) : Type 0 where
  pub to : ℕ
  pub settled : IsSettled (at_node a to)
  pub performed : (c : List Symbol) (out : List ℕ) → HasPerformed a c c out
      → BeginsRun a.machine (c ++ said) → HasPerformed (at_node a to) (c ++ said) (c ++ said) out

-- the oracle has told all that it was to tell; it would tell this of the bytes, which lead to this
-- state
abbrev pub WouldTell : Oracle → List Symbol → List ℕ → ℕ → Type 0
WouldTell (Paths p) said v q = ⊥
WouldTell (Table f) said v q = (f.runner.pending ≡ []) × ((c : List Symbol)
    → (held : List (List Symbol))
    × (passes_if f.runner.table (Some (pass_at f.runner.state c f.runner.registers)) v
    ≡ Some (pass_at q (c ++ said) held)))

-- the bytes can wait: what the oracle would tell of them does nothing. They lead to this state
pub record CanWait (o : Oracle) (a : Position) (v : List ℕ) (q : ℕ) : Type 0 where
  pub said : List Symbol
  pub tells : WouldTell o said v q
  pub idle : DoesNothing a said

-- from a state on the oracle tells nothing of the bytes, and they lead to this state
abbrev pub TellsNoneOf : Oracle → ℕ → ℕ → List ℕ → Type 0
TellsNoneOf (Paths p) q r v = ⊥
TellsNoneOf (Table f) q r v = GoesQuietly f.runner.table q r v

-- from a state on the oracle tells nothing of the first bytes of a piece, and refuses the next
abbrev pub RefusesAfter : Oracle → ℕ → List ℕ → ℕ → Type 0
RefusesAfter (Paths p) q v n = ⊥
RefusesAfter (Table f) q v n = (n < length v)
    × ((r : ℕ) × GoesQuietly f.runner.table q r (take n v))
    × ((c : List Symbol) (held : List (List Symbol))
    → passes_if f.runner.table (Some (pass_at q c held)) (take (n + 1) v) ≡ None)

-- what is seen of a piece from a state on
abbrev pub SeesAhead : Oracle → ℕ → List ℕ → Outlook → Type 0
SeesAhead o q v (Quiet r) = TellsNoneOf o q r v
SeesAhead o q v (outlook.Refused n) = RefusesAfter o q v n
SeesAhead o q v Told = Unit {0}

-- what the oracle was given of a piece: all but what is put off
abbrev pub heard_part : Advance → List ℕ → List ℕ
heard_part Whole piece = piece
heard_part (Refused n) piece = piece
heard_part (PutOff n q) piece = take n piece

-- how many bytes of it are good
abbrev pub good_part : Advance → List ℕ → ℕ
good_part Whole piece = length piece
good_part (Refused n) piece = n
good_part (PutOff n q) piece = n

-- a byte of the piece was refused, or those that are put off can wait
abbrev pub IsAdvance : Oracle → Position → List ℕ → Advance → Type 0
IsAdvance o a piece Whole = Unit {0}
IsAdvance o a piece (Refused n) = n < length piece
IsAdvance o a piece (PutOff n q) = (n ≤ length piece) × CanWait o a (drop n piece) q

-- nothing is put off
abbrev pub PutsNoneOff : Advance → Type 0
PutsNoneOff Whole = Unit {0}
PutsNoneOff (Refused n) = Unit {0}
PutsNoneOff (PutOff n q) = ⊥

-- no text ends at this state
abbrev pub CannotEnd : Oracle → ℕ → Type 0
CannotEnd (Paths p) q = ⊥
CannotEnd (Table f) q = way_of (slice_get f.runner.table.states q) ≡ None

-- the oracle is as before, whatever else was learnt
abbrev pub IsStill : Oracle → Oracle → Type 0
IsStill (Paths p) (Paths q) = q ≡ p
IsStill (Paths p) (Table f) = ⊥
IsStill (Table f) (Paths p) = ⊥
IsStill (Table f) (Table h) = (h.runner ≡ f.runner) × (h.moves ≡ f.moves)

-- w goes on with bytes and ends: what that means is written, of which `text` was before
pub record MeansPast (g : Graph) (w text bs before after : List ℕ) : Type 0 where
  pub more : List ℕ
  pub written : after ≡ before ++ more
  pub means : MeansByRun g (w ++ bs) (text ++ more)

-- so it is whatever oracle and actor have followed
abbrev pub FinishesPast : Oracle → Position → List ℕ → List ℕ → List ℕ → Type 0
FinishesPast o a bs before after = (k : Telling) (g : Graph) (w text : List ℕ)
    → Followed k g o a w text → IsViableFor g w → MeansPast g w text bs before after
