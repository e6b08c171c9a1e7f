-- Laws of the definitions, each of which a function of `laws` proves.
use Rattle.std.specs.Prelude.{◌≡◌, ℕ, Bool, false, List, [], ◌∷◌, ◌++◌, ◌⊎◌, Option, Some, None}
use Rattle.kex_model.specs.Programs.{Grammar}
use Rattle.kex_code.specs.declared.symbol.Symbol.{Symbol}
use Rattle.kex_code.specs.Codes.{bytes_of, Begins, IsAmong}
use Rattle.kex_code.specs.Registers.{Registers}
use Rattle.kex_model.specs.Trees.{Tree, IsTree, Parses, kind_at, code, meaning, part_meaning}
use Rattle.kex_model.specs.Acting.{after_steps}
use Rattle.kex_model.specs.Moves.{Step, Allows, target_of, symbols_of, code_of, Walk}
use Rattle.kex_model.specs.Places.{Place, moves, start_of, steps_of}
use Rattle.kex_model.specs.Survivors.{IsPath, Agreed}
use Rattle.kex_model.specs.Answers.{code_at, IsParse, GreedyParse, HasParse, Says, Means, Viable}
use Rattle.kex_model.specs.Answers.{Answer, Answers, Report, Pipeline}

-- of two paths on one text neither code is a proper prefix of the other, and equal codes are of
-- equal paths
abbrev pub OnePath : Type 0
OnePath = (P : Grammar) (root : ℕ) (w : List ℕ) (p q : Place) (js ks : List (Step Place))
    → IsPath (moves P) (start_of P root) w p js → IsPath (moves P) (start_of P root) w q ks
    → Begins (code_of ks) (code_of js) → js ≡ ks

-- every tree whose code begins with c gives the same part
abbrev pub OnePart : Type 0
OnePart = (P : Grammar) (n : ℕ) (s t : Tree) (c : List Symbol) (regs : Registers)
    → IsTree P (kind_at P n) s → IsTree P (kind_at P n) t → Begins (code P (kind_at P n) s) c
    → Begins (code P (kind_at P n) t) c
    → part_meaning P (kind_at P n) s c regs ≡ part_meaning P (kind_at P n) t c regs

-- the parses of a text and the paths on it to the empty place correspond one to one, with equal
-- codes; a text that has a tree has a parse
pub record OneToOne (P : Grammar) (root : ℕ) (w : List ℕ) : Type 0 where
  pub path_of_parse : (t : Tree) → IsParse P root t w → (ks : List (Step Place))
      × IsPath (moves P) (start_of P root) w [] ks × (code_of ks ≡ code P (kind_at P root) t)
  pub parse_of_path : (ks : List (Step Place)) → IsPath (moves P) (start_of P root) w [] ks
      → (t : Tree) × IsParse P root t w × (code P (kind_at P root) t ≡ code_of ks)
  pub parse_of_tree : (t : Tree) → Parses P root t w → HasParse P root w
  pub one_tree : (s t : Tree) → Parses P root s w → Parses P root t w
      → code P (kind_at P root) s ≡ code P (kind_at P root) t → s ≡ t
  pub one_path : (js ks : List (Step Place)) → IsPath (moves P) (start_of P root) w [] js
      → IsPath (moves P) (start_of P root) w [] ks → code_of js ≡ code_of ks → js ≡ ks

abbrev pub ParsesAndPaths : Type 0
ParsesAndPaths = (P : Grammar) (root : ℕ) (w : List ℕ) → OneToOne P root w

-- what is agreed and what is said grow with the text, up to the greedy code and the meaning
pub record Grows (P : Grammar) (root : ℕ) (w v : List ℕ) : Type 0 where
  pub viable : Viable P root (w ++ v) → Viable P root w
  pub agreed : (c d : List Symbol) → Agreed (moves P) (start_of P root) w c
      → Agreed (moves P) (start_of P root) (w ++ v) d → Begins d c
  pub greedy : (c : List Symbol) (t : Tree) → Agreed (moves P) (start_of P root) w c
      → GreedyParse P root (w ++ v) t → Begins (code_at P root t) c
  pub said : (x y : List ℕ) → Says P root w x → Says P root (w ++ v) y → Begins y x
  pub meant : (x y : List ℕ) → Says P root w x → Means P root (w ++ v) y → Begins y x

abbrev pub AnswersGrow : Type 0
AnswersGrow = (P : Grammar) (root : ℕ) (w v : List ℕ) → Grows P root w v

-- the text on open input is a front of that on every continuation, and a stop stays, with the same
-- text
pub record AnswerStands (P : Grammar) (root limit : ℕ) (w v : List ℕ) (e : Bool)
    (a b : Answer) : Type 0 where
  pub text : Begins b.text a.text
  pub stop : (a.stop ≡ None → ⊥) → b ≡ a

abbrev pub StageAnswers : Grammar → ℕ → ℕ → List ℕ → Bool → Answer → Type 0
StageAnswers P root limit w e a =
    Answers (Viable P root) (Says P root) (HasParse P root) (Means P root) limit w e a

abbrev pub AnswersStand : Type 0
AnswersStand = (P : Grammar) (root limit : ℕ) (w v : List ℕ) (e : Bool) (a b : Answer)
    → StageAnswers P root limit w false a → StageAnswers P root limit (w ++ v) e b
    → AnswerStands P root limit w v e a b

-- a stage has at most one answer
abbrev pub OneAnswer : Type 0
OneAnswer = (P : Grammar) (root limit : ℕ) (w : List ℕ) (e : Bool) (a b : Answer)
    → StageAnswers P root limit w e a → StageAnswers P root limit w e b → a ≡ b

-- a pipeline's text on open input is a front of that on every continuation, and a report stays,
-- with the same text
pub record PipelineStands (s t : List ℕ) (r q : Option Report) : Type 0 where
  pub text : Begins t s
  pub report : (r ≡ None → ⊥) → (t ≡ s) × (q ≡ r)

-- the stages by their roots
abbrev pub StagesAnswer : Grammar → ℕ → List ℕ → List ℕ → Bool → List ℕ → Option Report → Type 0
StagesAnswer P limit roots w e text report =
    Pipeline (λ root v f a. StageAnswers P root limit v f a) 1 roots w e text report

abbrev pub ReportsStand : Type 0
ReportsStand = (P : Grammar) (limit : ℕ) (roots w v s t : List ℕ) (e : Bool) (r q : Option Report)
    → StagesAnswer P limit roots w false s r → StagesAnswer P limit roots (w ++ v) e t q
    → PipelineStands s t r q

-- with its whole code a tree's part is its meaning
abbrev pub WholePart : Type 0
WholePart = (P : Grammar) (n : ℕ) (t : Tree) (regs : Registers) → IsTree P (kind_at P n) t
    → part_meaning P (kind_at P n) t (code P (kind_at P n) t) regs
    ≡ record {
      bytes = (meaning P (kind_at P n) t regs).bytes;
      registers = (meaning P (kind_at P n) t regs).registers;
      rest = Some [];
    }

-- a tree's part is what its steps do, with buffers: what is written, and the registers
pub record DoneBySteps (P : Grammar) (root : ℕ) (t : Tree) (c : List Symbol) (regs : Registers)
    (out : List ℕ) : Type 0 where
  pub written : (after_steps (steps_of P root (kind_at P root) t []) c
      (record { out = out; buffers = []; registers = regs })).out
      ≡ out ++ (part_meaning P (kind_at P root) t c regs).bytes
  pub held : (after_steps (steps_of P root (kind_at P root) t []) c
      (record { out = out; buffers = []; registers = regs })).registers
      ≡ (part_meaning P (kind_at P root) t c regs).registers

abbrev pub PartBySteps : Type 0
PartBySteps = (P : Grammar) (root : ℕ) (t : Tree) (c : List Symbol) (regs : Registers)
    (out : List ℕ) → IsTree P (kind_at P root) t → DoneBySteps P root t c regs out

-- the places that steps enter
abbrev pub entered_places : {S : Type 0} → List (Step S) → List S
entered_places [] = []
entered_places (k ∷ ks) = target_of k ∷ entered_places ks

-- the steps enter none of these places
abbrev pub EntersNone : {S : Type 0} → List S → List (Step S) → Type 0
EntersNone {S} places ks = (p : S) → IsAmong places p → ¬ IsAmong (entered_places ks) p

-- no step without a byte from one of the places `left` leads elsewhere than to those and to the
-- open ones, `begun`
abbrev pub LeadsWithin : Grammar → List Place → List Place → Type 0
LeadsWithin P left begun = (p : Place) (k : Step Place) → IsAmong left p → Allows (moves P p) k
    → bytes_of (symbols_of k) ≡ [] → IsAmong left (target_of k) ⊎ IsAmong begun (target_of k)

-- then a walk without a byte that enters no open place, and ends at none of the places `left`,
-- enters none of them
abbrev pub LeftBehind : Type 0
LeftBehind = (P : Grammar) (left begun : List Place) → LeadsWithin P left begun
    → (p q : Place) (ks : List (Step Place)) → Walk (moves P) p ks q → bytes_of (code_of ks) ≡ []
    → EntersNone begun ks → ¬ IsAmong left q → EntersNone left ks
