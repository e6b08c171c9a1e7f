-- What a place does, as a plan over the frames that are put on its rest.
use Rattle.std.specs.Prelude.{◌≡◌, ℕ, nat_eq, List, [], ◌∷◌, ◌++◌, Option, Some, None}
use Rattle.indexmap.specs.IndexMap.{IndexMap, get}
use Rattle.kex_model.specs.declared.frame.Frame.{Frame}
use Rattle.kex_model.specs.declared.program.Kind.{Kind}
use Rattle.kex_model.specs.declared.program.Kind.TheVariants.{One}
use Rattle.kex_model.specs.Programs.{Grammar}
use Rattle.kex_model.specs.Trees.{root_of}
use Rattle.kex_model.specs.Moves.{Move, read, choose, go, nothing}
use Rattle.kex_model.specs.Places.{Place}
use Rattle.kex_machine.specs.Nodes.{effect_of}
use Rattle.kex_desugar.specs.declared.plan.Way.{Way}
use Rattle.kex_desugar.specs.declared.plan.Way.TheVariants.{Rest, Under, Both}
use Rattle.kex_desugar.specs.declared.plan.NodePlan.{NodePlan}
use Rattle.kex_desugar.specs.declared.plan.NodePlan.TheVariants.{Take, Fork, Act, Pass}

-- the frames that are put on the rest, the upper first
abbrev pub frames : Way → List Frame
frames Rest = []
frames (Under f) = f ∷ []
frames (Both f g) = f ∷ g ∷ []

-- what a plan says there is to do, on top of q
abbrev pub plan_move : NodePlan → Place → Move Place
plan_move (Take set) q = read set q
plan_move (Fork l r) q = choose (frames l ++ q) (frames r ++ q)
plan_move (Act e w) q = go (effect_of e) (frames w ++ q)
plan_move (Pass w) q = go nothing (frames w ++ q)

-- the kind that was found; a node that isn't there does nothing
abbrev pub kind_or : Option Kind → Kind
kind_or None = One
kind_or (Some k) = k

abbrev pub or_zero : Option ℕ → ℕ
or_zero None = 0
or_zero (Some r) = r

-- the map has the roots of the definitions' names
abbrev pub MapHasRoots : {S : Type 0} → Grammar → IndexMap ℕ ℕ S → Type 0
MapHasRoots P m = (name : ℕ) → or_zero (get nat_eq m name) ≡ root_of P name
