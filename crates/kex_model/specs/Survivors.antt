-- Paths on a text, survivors, what they agree on, and a stage's answer, over places of any type.
use Rattle.std.specs.Prelude.{◌≡◌, ℕ, ◌≤◌, List, [], ◌∷◌, ◌⊎◌, length}
use Rattle.kex_code.specs.declared.symbol.Symbol.{Symbol}
use Rattle.kex_code.specs.declared.symbol.Symbol.TheVariants.{L, R}
use Rattle.kex_code.specs.Codes.{bytes_of, Begins, Before, IsAmong}
use Rattle.kex_model.specs.Labelled.{Leaf, Labelled, tip, fork, leaves_of, Shape, shape_of}
use Rattle.kex_model.specs.Moves.{Move, accept, Step, took, chose, went, code_of, Walk, Waits}

-- no place is entered twice without a byte in between; `seen` are those that were entered
abbrev pub NoReturn : {S : Type 0} → List S → List (Step S) → Type 0
NoReturn seen [] = Unit {0}
NoReturn seen (took b t ∷ ks) = NoReturn (t ∷ []) ks
NoReturn seen (chose x t ∷ ks) = (¬ IsAmong seen t) × NoReturn (t ∷ seen) ks
NoReturn seen (went e t ∷ ks) = (¬ IsAmong seen t) × NoReturn (t ∷ seen) ks

-- a place with a code
abbrev pub CodedPlace : Type 0 → Type 0
CodedPlace S = Leaf Symbol S

-- each comes before those that follow it
abbrev pub Rising : {S : Type 0} → List (CodedPlace S) → Type 0
Rising [] = Unit {0}
Rising {S} (x ∷ xs) = ((y : CodedPlace S) → IsAmong xs y → Before x.code y.code) × Rising xs

abbrev pub StartsWith : Symbol → List Symbol → Type 0
StartsWith s x = (more : List Symbol) × (x ≡ s ∷ more)

-- a tree whose edges bear codes: those to the left begin with L, those to the right with R
abbrev pub IsParted : {S : Type 0} → Labelled Symbol S → Type 0
IsParted (tip p) = Unit {0}
IsParted (fork x l y r) = StartsWith L x × IsParted l × StartsWith R y × IsParted r

module _ {S : Type 0} (moves : S → Move S) where
  -- some text leads from p to the end
  abbrev pub LeadsToEnd : S → Type 0
  LeadsToEnd p = (ks : List (Step S)) × (e : S) × Walk moves p ks e × (moves e ≡ accept)

module _ {S : Type 0} (moves : S → Move S) (start : S) where
  -- a path on w to the waiting place p
  pub record IsPath (w : List ℕ) (p : S) (ks : List (Step S)) : Type 0 where
    pub walk : Walk moves start ks p
    pub waits : Waits moves p
    pub once : NoReturn (start ∷ []) ks
    pub reads : bytes_of (code_of ks) ≡ w

  -- c is the code of a path on w to p
  abbrev pub Reaches : List ℕ → S → List Symbol → Type 0
  Reaches w p c = (ks : List (Step S)) × IsPath w p ks × (code_of ks ≡ c)

  -- p is a waiting place that has a path on w and from which some text leads to the end
  abbrev pub IsAlive : List ℕ → S → Type 0
  IsAlive w p = (c : List Symbol) × Reaches w p c × LeadsToEnd moves p

  abbrev pub IsViable : List ℕ → Type 0
  IsViable w = (p : S) × IsAlive w p

  -- p is a survivor of w, and c the least code of its paths
  pub record Survives (w : List ℕ) (p : S) (c : List Symbol) : Type 0 where
    pub reached : Reaches w p c
    pub alive : LeadsToEnd moves p
    pub least : (d : List Symbol) → Reaches w p d → (c ≡ d) ⊎ Before c d

  -- c is the longest common prefix of the survivors' codes
  pub record Agreed (w : List ℕ) (c : List Symbol) : Type 0 where
    pub viable : IsViable w
    pub common : (p : S) (d : List Symbol) → Survives w p d → Begins d c
    pub longest : (c' : List Symbol) → ((p : S) (d : List Symbol) → Survives w p d → Begins d c')
        → Begins c c'

  -- c is the code of the greedy path on w to the end
  abbrev pub Greedy : List ℕ → List Symbol → Type 0
  Greedy w c = (e : S) × (moves e ≡ accept) × Survives w e c

  -- v is the longest prefix of w that is viable
  pub record LongestViable (w v : List ℕ) : Type 0 where
    pub front : Begins w v
    pub viable : IsViable v
    pub longest : (u : List ℕ) → Begins w u → IsViable u → length u ≤ length v

  -- xs are the survivors of w, each once, in the order of their codes
  pub record Lists (w : List ℕ) (xs : List (CodedPlace S)) : Type 0 where
    pub each : (x : CodedPlace S) → IsAmong xs x → Survives w x.at x.code
    pub all : (p : S) → IsAlive w p → (c : List Symbol) × IsAmong xs (record { at = p; code = c })
    pub ordered : Rising xs

  -- t is the tree of the survivors of w, and c what they agree on
  pub record HasTree (w : List ℕ) (c : List Symbol) (t : Labelled Symbol S) : Type 0 where
    pub lists : Lists w (leaves_of t c)
    pub parted : IsParted t

  -- s is the shape of w
  abbrev pub HasShape : List ℕ → Shape S → Type 0
  HasShape w s = (c : List Symbol) × (t : Labelled Symbol S) × HasTree w c t × (shape_of t ≡ s)
