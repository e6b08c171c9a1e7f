-- The rows that are filled so far, state by state.
use Rattle.std.specs.Prelude.{◌≡◌, ℕ, ◌<◌, ◌≤◌, List, Some, length, slice_get}
use Rattle.std.specs.Global.{Vec}
use Rattle.kex_model.specs.Labelled.{Shape, shape_of, Grown}
use Rattle.kex_machine.specs.Nodes.{Graph}
use Rattle.kex_sst.specs.declared.parts.Part.{Part}
use Rattle.kex_sst.specs.Tables.{Row}
use Rattle.kex_paths.specs.Nexts.{Outline, IsFirstTree}
use Rattle.kex_determine.specs.Determined.{targets_in, MeetsInOrder}
use Rattle.kex_determine.specs.Rows.{IsRowOf}
use Rattle.kex_determine.specs.Numbering.{AreNumbered}

-- the first states have these rows; the numbers that they lead to were met in their order
pub record IsFilled (g : Graph) (classes : List ℕ) (keys : List (Vec ℕ)) (trees : List Outline)
    (rows : List Row) : Type 0 where
  pub shapes : List (Shape ℕ)
  pub numbered : AreNumbered g keys trees shapes
  pub first : (a : Grown Part ℕ) × IsFirstTree g (Some a)
      × (slice_get shapes 0 ≡ Some (shape_of a.tree))
  pub within : length rows ≤ length shapes
  pub each : (i : ℕ) (s : Shape ℕ) → i < length rows → slice_get shapes i ≡ Some s → (r : Row)
      × (slice_get rows i ≡ Some r) × IsRowOf g classes shapes s r
  pub order : MeetsInOrder 1 (targets_in rows) (length shapes)
