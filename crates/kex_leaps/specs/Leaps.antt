-- Leaps: a table goes from a state without registers to another, along rows of held text.
use Rattle.std.specs.Prelude.{◌≡◌, ◌≤◌, ℕ, List, [], ◌∷◌, ◌++◌, Some, All, map, take, length}
use Rattle.std.specs.Prelude.{get_or, slice_get}
use Rattle.kex_code.specs.declared.symbol.Symbol.{Symbol}
use Rattle.kex_machine.specs.declared.MNode.{MNode}
use Rattle.kex_sst.specs.Tables.{Transducer}
use Rattle.kex_sst.specs.Passes.{Pass, passes_if, whole_code}
use Rattle.kex_held.specs.declared.item.HeldItem.{HeldItem}
use Rattle.kex_held.specs.declared.item.HeldItem.TheVariants as items
use Rattle.kex_held.specs.Acts.{Act, bytes, effect, MakeSame}
use Rattle.kex_held.specs.TreeEdges.{DoesActs, AreHeld}
use Rattle.kex_held.specs.Tracks.{HeldState}
use Rattle.kex_held.specs.HeldRuns.{pass_with}
use Rattle.kex_held.specs.Slices.{slice_between}
use Rattle.kex_held.specs.Windows.{points_at}
use Rattle.kex_held.specs.HeldRows.{HeldRow, state_over, FitsWindow}
use Rattle.kex_leaps.specs.declared.act.LeapAct.{LeapAct}
use Rattle.kex_leaps.specs.declared.act.LeapAct.TheVariants.{Text, Effect}

-- bytes of a piece, or what a node does
abbrev pub act_in : List ℕ → LeapAct → Act
act_in piece (Text a b) = bytes (slice_between piece a b)
act_in piece (Effect n) = effect n

abbrev pub acts_in : List ℕ → List LeapAct → List Act
acts_in piece xs = map (λ x. act_in piece x) xs

-- a text lies within that many bytes
abbrev pub IsActWithin : ℕ → LeapAct → Type 0
IsActWithin high (Text a b) = (a ≤ b) × (b ≤ high)
IsActWithin high (Effect n) = Unit {0}

abbrev pub AreActsWithin : ℕ → List LeapAct → Type 0
AreActsWithin high xs = All (IsActWithin high) xs

-- one does what these do one after another, within the same bytes
abbrev pub DoesAll : List LeapAct → LeapAct → Type 0
DoesAll xs x = (nodes : List MNode) (piece : List ℕ) → AreActsWithin (length piece) xs
    → IsActWithin (length piece) x × MakeSame nodes (acts_in piece xs) (act_in piece x ∷ [])

-- an item of an edge at the byte after the first `at`
abbrev pub leap_act : ℕ → List ℕ → HeldItem → LeapAct
leap_act at marks (items.Slice i j) =
    Text (get_or (points_at at marks) i 0) (get_or (points_at at marks) j 0)
leap_act at marks (items.Effect n) = Effect n

abbrev pub leap_acts : ℕ → List ℕ → List HeldItem → List LeapAct
leap_acts at marks xs = map (λ x. leap_act at marks x) xs

-- at a state without registers
abbrev pub without_registers : ℕ → ℕ → HeldState
without_registers q n = record { state = q; node = n; edges = [] }

-- along the bytes the table goes from q to r, both without registers, and the code that it passes
-- on does the acts from n to m
pub record IsLeap (t : Transducer) (nodes : List MNode) (q n : ℕ) (bs : List ℕ) (acts : List Act)
    (r m : ℕ) : Type 0 where
  pub said : List Symbol
  pub passed : (c : List Symbol)
      → passes_if t (Some (pass_with (without_registers q n) c [])) bs
      ≡ Some (pass_with (without_registers r m) (c ++ said) [])
  pub does : DoesActs nodes n said m acts

-- along the bytes the table goes from q, without registers, to a state in which the text may end;
-- the code that it has passed on then in all does the acts from n to m
pub record IsLastLeap (t : Transducer) (nodes : List MNode) (q n : ℕ) (bs : List ℕ)
    (acts : List Act) (m : ℕ) : Type 0 where
  pub said : List Symbol
  pub ended : (c : List Symbol) → (p : Pass)
      × (passes_if t (Some (pass_with (without_registers q n) c [])) bs ≡ Some p)
      × (whole_code t p ≡ Some (c ++ said))
  pub does : DoesActs nodes n said m acts

-- along the first bytes of a piece the table has gone from q, without registers, to a row; what is
-- passed on does the acts from n to the row's node
pub record HasScanned (t : Transducer) (nodes : List MNode) (rows : List HeldRow) (q n : ℕ)
    (piece : List ℕ) (at row : ℕ) (marks : List ℕ) (acts : List LeapAct) : Type 0 where
  pub to : HeldRow
  pub is : slice_get rows row ≡ Some to
  pub fits : FitsWindow (take at piece) marks to
  pub said : List Symbol
  pub registers : List (List Symbol)
  pub passed : (c : List Symbol)
      → passes_if t (Some (pass_with (without_registers q n) c [])) (take at piece)
      ≡ Some (pass_with (state_over (take at piece) marks to) (c ++ said) registers)
  pub held : AreHeld nodes (state_over (take at piece) marks to).edges registers
  pub does : DoesActs nodes n said to.node (acts_in piece acts)
  pub within : AreActsWithin at acts
