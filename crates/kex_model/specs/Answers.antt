-- A stage's answer, a pipeline's, and what a schedule leaves.
use Rattle.std.specs.Prelude.{◌≡◌, ℕ, suc, ◌<◌, ◌≤◌, Bool, true, false, List, [], ◌∷◌, ◌++◌, ◌⊎◌}
use Rattle.std.specs.Prelude.{Option, Some, None, length, take, replicate}
use Rattle.kex_model.specs.Programs.{Grammar}
use Rattle.kex_code.specs.declared.symbol.Symbol.{Symbol}
use Rattle.kex_code.specs.Codes.{Begins, Before}
use Rattle.kex_code.specs.Registers.{Registers}
use Rattle.kex_model.specs.Trees.{Tree, Parses, kind_at, code, meaning, part_meaning}
use Rattle.kex_model.specs.Places.{moves, start_of, steps_of}
use Rattle.kex_model.specs.Survivors.{Agreed, IsPath, IsViable}

-- where a stage's registers begin
abbrev pub empty : Grammar → Registers
empty P = replicate P.registers []

module _ (P : Grammar) (root : ℕ) where
  abbrev pub code_at : Tree → List Symbol
  code_at t = code P (kind_at P root) t

  -- t is a parse of w: a tree of w whose steps form a path, so they enter no place twice without a
  -- byte in between
  pub record IsParse (t : Tree) (w : List ℕ) : Type 0 where
    pub derives : Parses P root t w
    pub path : IsPath (moves P) (start_of P root) w [] (steps_of P root (kind_at P root) t [])

  abbrev pub HasParse : List ℕ → Type 0
  HasParse w = (t : Tree) × IsParse t w

  -- t is the greedy parse of w
  pub record GreedyParse (w : List ℕ) (t : Tree) : Type 0 where
    pub parses : IsParse t w
    pub least : (s : Tree) → IsParse s w → (code_at t ≡ code_at s) ⊎ Before (code_at t) (code_at s)

  -- the text that w means
  abbrev pub Means : List ℕ → List ℕ → Type 0
  Means w text = (t : Tree) × GreedyParse w t
      × (text ≡ (meaning P (kind_at P root) t (empty P)).bytes)

  -- the text that is said on w: what any tree of a text that begins with w does with the symbols
  -- that are agreed
  pub record Says (w text : List ℕ) : Type 0 where
    pub agreed : List Symbol
    pub is_agreed : Agreed (moves P) (start_of P root) w agreed
    pub tree : Tree
    pub more : List ℕ
    pub parses : Parses P root tree (w ++ more)
    pub begins : Begins (code_at tree) agreed
    pub said : text ≡ (part_meaning P (kind_at P root) tree agreed (empty P)).bytes

  abbrev pub Viable : List ℕ → Type 0
  Viable w = IsViable (moves P) (start_of P root) w

pub data Why : Type 0 where
  at_byte : Why
  at_end : Why
  at_limit : Why

pub record Stop : Type 0 where
  pub at : ℕ
  pub why : Why

pub record Answer : Type 0 where
  pub text : List ℕ
  pub ended : Bool
  pub stop : Option Stop

abbrev pub stopped_answer : List ℕ → ℕ → Why → Answer
stopped_answer text at why =
    record { text = text; ended = false; stop = Some (record { at = at; why = why }) }

-- a stage, given what is viable, what is said, what has a parse and what is meant, over places or
-- nodes
module _ (CanGoOn : List ℕ → Type 0) (Says' : List ℕ → List ℕ → Type 0) (Parsed : List ℕ → Type 0)
    (Means' : List ℕ → List ℕ → Type 0) where
  -- the longest front of a text from which it can go on
  pub record LongestGood (w v : List ℕ) : Type 0 where
    pub front : Begins w v
    pub good : CanGoOn v
    pub longest : (u : List ℕ) → Begins w u → CanGoOn u → length u ≤ length v

  -- the answer on a text that is ended (true) or open, within a limit
  pub data Answers (limit : ℕ) : List ℕ → Bool → Answer → Type 0 where
    bad_byte : {w : List ℕ} {e : Bool} {text : List ℕ} (v : List ℕ) → (CanGoOn (take limit w) → ⊥)
        → LongestGood (take limit w) v → Says' v text
        → Answers limit w e (stopped_answer text (length v) at_byte)
    too_long : {w : List ℕ} {e : Bool} {text : List ℕ} → limit < length w → CanGoOn (take limit w)
        → Says' (take limit w) text → Answers limit w e (stopped_answer text limit at_limit)
    cut_off : {w text : List ℕ} → length w ≤ limit → CanGoOn w → (Parsed w → ⊥) → Says' w text
        → Answers limit w true (stopped_answer text (length w) at_end)
    whole : {w text : List ℕ} → length w ≤ limit → Means' w text
        → Answers limit w true (record { text = text; ended = true; stop = None })
    still_open : {w text : List ℕ} → length w ≤ limit → CanGoOn w → Says' w text
        → Answers limit w false (record { text = text; ended = false; stop = None })

pub record Report : Type 0 where
  pub stage : ℕ
  pub stop : Stop

-- the later stage's report, or else this one's
abbrev pub later_report : ℕ → Option Stop → Option Report → Option Report
later_report i own (Some r) = Some r
later_report i None None = None
later_report i (Some s) None = Some (record { stage = i; stop = s })

module _ {T : Type 0} (Gives : T → List ℕ → Bool → Answer → Type 0) where
  -- the text and the report of stages from number i on
  abbrev pub Pipeline : ℕ → List T → List ℕ → Bool → List ℕ → Option Report → Type 0
  Pipeline i [] w e text report = (text ≡ w) × (report ≡ None)
  Pipeline i (s ∷ ss) w e text report = (a : Answer) × (rest : Option Report) × Gives s w e a
      × Pipeline (suc i) ss a.text a.ended text rest × (report ≡ later_report i a.stop rest)
