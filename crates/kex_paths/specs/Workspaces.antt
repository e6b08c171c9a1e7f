-- What a workspace keeps: a byte of each class, and a mark for each place.
use Rattle.std.specs.Prelude.{◌≡◌, ℕ, ◌<◌, Bool, List, Option, Some, None, length, slice_get}
use Rattle.kex_byteset.specs.Classes.{class_at}
use Rattle.kex_model.specs.Labelled.{Shape, Grown}
use Rattle.kex_machine.specs.Nodes.{Graph, HasClasses}
use Rattle.kex_sst.specs.declared.parts.Part.{Part}
use Rattle.kex_paths.specs.declared.forest.PathEdge.{PathEdge}
use Rattle.kex_paths.specs.Forests.{EdgeStock, LeadsToTree}
use Rattle.kex_paths.specs.Nexts.{IsNext}

-- for each class one of its bytes, and none where it has no byte
pub record AreSamples (classes : List ℕ) (samples : List (Option ℕ)) : Type 0 where
  pub long : length samples ≡ 256
  pub right : (class b : ℕ) → slice_get samples class ≡ Some (Some b) → (b < 256)
      × (class_at classes b ≡ class)
  pub all : (b : ℕ) → b < 256 → slice_get samples (class_at classes b) ≡ Some None → ⊥

pub record IsWorkspaceReady (g : Graph) (samples : List (Option ℕ))
    (marks : List Bool) : Type 0 where
  pub classes : List ℕ
  pub has : HasClasses g.nodes classes
  pub each : AreSamples classes samples
  pub long : length marks ≡ length g.nodes

-- the edge leads to the tree that one of this shape goes on to with byte b; none where it is gone
abbrev pub ReachesTree : Graph → ℕ → Shape ℕ → EdgeStock → Option PathEdge → Type 0
ReachesTree g b s edges root = (a : Option (Grown Part ℕ)) × IsNext g b s a
    × LeadsToTree edges root a
