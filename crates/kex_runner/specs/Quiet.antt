-- Quiet updates: those that pass nothing on, by places: a row for each state, and in it a place for
-- each class. Code takes only those whose target has registers.
use Rattle.std.specs.Prelude.{◌≡◌, ℕ, ◌+◌, ◌*◌, ◌/◌, ◌%◌, ◌^◌, ◌<◌, ◌≤◌, true, List, Some, get_or}
use Rattle.std.specs.Prelude.{length, map, slice_get}
use Rattle.kex_byteset.specs.Classes.{class_at, class_count}
use Rattle.kex_code.specs.declared.symbol.Symbol.{Symbol}
use Rattle.kex_sst.specs.Tables.{Transducer}
use Rattle.kex_sst.specs.Passes.{passes_if}
use Rattle.kex_script.specs.declared.script.Entry.{Entry}
use Rattle.kex_script.specs.Scripts.{Sheet, IsScriptOf, entry_at}
use Rattle.kex_runner.specs.declared.quiet.Quiet.{Quiet}
use Rattle.kex_runner.specs.declared.quiet.Guide.{Guide}
use Rattle.kex_runner.specs.declared.history.NotedUpdate.{NotedUpdate}

-- an entry is quiet, and this has its update, and where the row of its target begins; that row is
-- within `count` places
pub record IsQuiet (e : Entry) (width count : ℕ) (q : Quiet) : Type 0 where
  pub goes : e.goes ≡ true
  pub silent : e.silent ≡ true
  pub update : q.update ≡ e.update
  pub row : q.row ≡ e.target * width
  pub within : q.row + width ≤ count

-- the same, where there is a row
abbrev pub IsQuietIf : Entry → ℕ → ℕ → Quiet → Type 0
IsQuietIf e width count q = (q.row ≡ 4294967295 → ⊥) → IsQuiet e width count q

-- each place tells what a state does on a class
abbrev pub AreQuiet : Sheet → ℕ → ℕ → List Quiet → Type 0
AreQuiet s width count qs = (k : ℕ) (q : Quiet) → slice_get qs k ≡ Some q
    → IsQuietIf (entry_at s (k / width) (k % width)) width count q

-- the script is a table's, and the rows are as wide as a power of two, and have a place for each
-- class of the table
pub record IsGuide (t : Transducer) (g : Guide) : Type 0 where
  pub script : IsScriptOf g.script t
  pub width : g.width ≡ 2 ^ g.shift
  pub few : g.shift ≤ 8
  pub wide : class_count t.classes ≤ g.width
  pub some : 0 < g.width
  pub narrow : g.width ≤ 256
  pub quiet : AreQuiet g.script g.width (length g.quiets.items) g.quiets.items

-- what a row has for a byte
abbrev pub quiet_at : List Quiet → List ℕ → ℕ → ℕ → Quiet
quiet_at qs classes row b = get_or qs (row + class_at classes b) (record { row = 0; update = 0 })

-- it leads back to the row
abbrev pub StaysAt : List Quiet → List ℕ → ℕ → ℕ → Type 0
StaysAt qs classes row b = (class_at classes b < class_count classes)
    × ((quiet_at qs classes row b).row ≡ row)

-- the updates that a row tells for some bytes, noted as such that stay
abbrev pub staying : List Quiet → List ℕ → ℕ → List ℕ → List NotedUpdate
staying qs classes row bytes =
    map (λ b. record { update = (quiet_at qs classes row b).update; byte = b; stays = true }) bytes

-- from q on the table passes nothing on along the bytes, whatever its registers hold, and comes
-- to r
abbrev pub GoesQuietly : Transducer → ℕ → ℕ → List ℕ → Type 0
GoesQuietly t q r bs = (c : List Symbol) (held : List (List Symbol)) → (more : List (List Symbol))
    × (passes_if t (Some (record { state = q; code = c; registers = held })) bs
    ≡ Some (record { state = r; code = c; registers = more }))
