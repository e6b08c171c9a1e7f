-- Places: what is still to be done, and the moves from there.
use Rattle.std.specs.Prelude.{ℕ, zero, suc, List, [], ◌∷◌, ◌++◌, Option, Some, None}
use Rattle.kex_model.specs.declared.program.Kind.{Kind}
use Rattle.kex_model.specs.declared.program.Kind.TheVariants.{One, Lit, Class, Call, Seq, Alt, Rep}
use Rattle.kex_model.specs.declared.program.Kind.TheVariants.{Mute, At, Write, Set, Add}
use Rattle.kex_model.specs.declared.frame.Frame.{Frame}
use Rattle.kex_model.specs.declared.frame.Frame.TheVariants.{Pending, EndOf}
use Rattle.kex_model.specs.Programs.{Grammar}
use Rattle.kex_model.specs.Moves.{Move, Effect, accept, read, choose, go, nothing, append}
use Rattle.kex_model.specs.Moves.{open_buffer, drop_buffer, into, write, set_to, add_to, turn_side}
use Rattle.kex_model.specs.Moves.{end_side, turn_or_end, Step, to_left, to_right, took, chose, went}
use Rattle.kex_model.specs.Moves.{Allows, target_of}
use Rattle.kex_model.specs.Trees.{kind_at, root_of, less, Tree, leaf, byte, pair, chose_left}
use Rattle.kex_model.specs.Trees.{chose_right, inner, turn, done}

-- what is pending, the next first
abbrev pub Place : Type 0
Place = List Frame

abbrev pub fresh : ℕ → Kind → Frame
fresh n (Rep body min max lazy) = Pending n min max
fresh n _ = Pending n 0 None

-- the frame of a node that is begun
abbrev pub enter : Grammar → ℕ → Frame
enter P n = fresh n (kind_at P n)

-- a repetition with what is needed and left now
abbrev pub with_counts : Kind → ℕ → Option ℕ → Kind
with_counts (Rep body min max lazy) need left = Rep body need left lazy
with_counts k need left = k

-- what there is to do at a place with node n of this kind on top
abbrev pub moves_of : Grammar → ℕ → Kind → Place → Move Place
moves_of P n One rest = go nothing rest
moves_of P n (Lit s) rest = go (append s) rest
moves_of P n (Class s) rest = read s rest
moves_of P n (Call name) rest = go nothing (enter P (root_of P name) ∷ rest)
moves_of P n (Seq l r) rest = go nothing (enter P l ∷ enter P r ∷ rest)
moves_of P n (Alt l r) rest = choose (enter P l ∷ rest) (enter P r ∷ rest)
moves_of P n (Rep body (suc need) left lazy) rest =
    go nothing (enter P body ∷ Pending n need (less left) ∷ rest)
moves_of P n (Rep body zero (Some zero) lazy) rest = go nothing rest
moves_of P n (Rep body zero left lazy) rest =
    turn_or_end lazy (enter P body ∷ Pending n zero (less left) ∷ rest) rest
moves_of P n (Mute t) rest = go open_buffer (enter P t ∷ EndOf n ∷ rest)
moves_of P n (At r t) rest = go open_buffer (enter P t ∷ EndOf n ∷ rest)
moves_of P n (Write r) rest = go (write r) rest
moves_of P n (Set r parts) rest = go (set_to r parts) rest
moves_of P n (Add r parts) rest = go (add_to r parts) rest

-- what the end of a node of this kind does
abbrev pub end_effect : Kind → Effect
end_effect (Mute t) = drop_buffer
end_effect (At r t) = into r
end_effect _ = nothing

-- what there is to do at a place
abbrev pub moves : Grammar → Place → Move Place
moves P [] = accept
moves P (Pending n need left ∷ rest) = moves_of P n (with_counts (kind_at P n) need left) rest
moves P (EndOf n ∷ rest) = go (end_effect (kind_at P n)) rest

-- the place where a stage begins
abbrev pub start_of : Grammar → ℕ → Place
start_of P root = enter P root ∷ []

-- a stage's places
pub data IsPlace (P : Grammar) (root : ℕ) : Place → Type 0 where
  at_start : IsPlace P root (start_of P root)
  by_step : {p : Place} (k : Step Place) → IsPlace P root p → Allows (moves P p) k
      → IsPlace P root (target_of k)
  by_rest : {f : Frame} {p : Place} → IsPlace P root (f ∷ p) → IsPlace P root p

-- the steps of a tree of node n of this kind, up to the place after it
abbrev pub steps_of : Grammar → ℕ → Kind → Tree → Place → List (Step Place)
steps_of P n One leaf rest = went nothing rest ∷ []
steps_of P n (Lit s) leaf rest = went (append s) rest ∷ []
steps_of P n (Class s) (byte b) rest = took b rest ∷ []
steps_of P n (Call name) (inner a) rest = went nothing (enter P (root_of P name) ∷ rest)
    ∷ steps_of P (root_of P name) (kind_at P (root_of P name)) a rest
steps_of P n (Seq l r) (pair a b) rest = went nothing (enter P l ∷ enter P r ∷ rest)
    ∷ (steps_of P l (kind_at P l) a (enter P r ∷ rest) ++ steps_of P r (kind_at P r) b rest)
steps_of P n (Alt l r) (chose_left a) rest =
    chose to_left (enter P l ∷ rest) ∷ steps_of P l (kind_at P l) a rest
steps_of P n (Alt l r) (chose_right a) rest =
    chose to_right (enter P r ∷ rest) ∷ steps_of P r (kind_at P r) a rest
steps_of P n (Rep body (suc min) max lazy) (turn a b) rest =
    went nothing (enter P body ∷ Pending n min (less max) ∷ rest) ∷ (steps_of P body (kind_at P
    body) a (Pending n min (less max) ∷ rest) ++ steps_of P n (Rep body min (less max) lazy) b rest)
steps_of P n (Rep body zero max lazy) (turn a b) rest = chose (turn_side lazy)
    (enter P body ∷ Pending n zero (less max) ∷ rest) ∷ (steps_of P body (kind_at P body) a
    (Pending n zero (less max) ∷ rest) ++ steps_of P n (Rep body zero (less max) lazy) b rest)
steps_of P n (Rep body min None lazy) done rest = chose (end_side lazy) rest ∷ []
steps_of P n (Rep body min (Some zero) lazy) done rest = went nothing rest ∷ []
steps_of P n (Rep body min (Some (suc m)) lazy) done rest = chose (end_side lazy) rest ∷ []
steps_of P n (Mute t) (inner a) rest = went open_buffer (enter P t ∷ EndOf n ∷ rest)
    ∷ (steps_of P t (kind_at P t) a (EndOf n ∷ rest) ++ went drop_buffer rest ∷ [])
steps_of P n (At r t) (inner a) rest = went open_buffer (enter P t ∷ EndOf n ∷ rest)
    ∷ (steps_of P t (kind_at P t) a (EndOf n ∷ rest) ++ went (into r) rest ∷ [])
steps_of P n (Write r) leaf rest = went (write r) rest ∷ []
steps_of P n (Set r parts) leaf rest = went (set_to r parts) rest ∷ []
steps_of P n (Add r parts) leaf rest = went (add_to r parts) rest ∷ []
steps_of P n _ _ rest = []
