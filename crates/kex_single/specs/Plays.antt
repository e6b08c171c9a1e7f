-- What the text of a code means, as far as it is the text of a tree's code.
use Rattle.std.specs.Prelude.{◌≡◌, ℕ, ◌<◌, ◌≤◌, ◌+◌, Bool, true, false, List, [], ◌∷◌, ◌++◌, ◌⊎◌}
use Rattle.std.specs.Prelude.{Option, Some, None, length, take}
use Rattle.kex_code.specs.declared.symbol.Symbol.{Symbol}
use Rattle.kex_code.specs.Codes.{Begins}
use Rattle.kex_code.specs.Texts.{BeginsText, IsCode, text_of}
use Rattle.kex_model.specs.Answers.{Answer, stopped_answer, at_byte, at_end, at_limit}
use Rattle.kex_model.specs.Moves.{Step, code_of}
use Rattle.kex_machine.specs.Nodes.{Graph}
use Rattle.kex_machine.specs.Answers.{IsRun, left_by}
use Rattle.kex_action.specs.Actors.{BeginsRun, IsWholeCode}

-- u has the whole text of one more symbol
abbrev pub HasNext : List ℕ → List Symbol → Type 0
HasNext u c = (x : Symbol) × IsCode (c ++ x ∷ []) × Begins u (text_of (c ++ x ∷ []))

-- byte k of u is the first with which no code's text begins
pub record IsBadByte (u : List ℕ) (k : ℕ) : Type 0 where
  pub within : k < length u
  pub before : BeginsText (take k u)
  pub bad : BeginsText (take (k + 1) u) → ⊥

-- by the codes that begin a tree's code, those that are a tree's whole code, and what is written
-- for one
module _ (BeginsTreeCode : List Symbol → Type 0) (IsTreeCode : List Symbol → Type 0)
    (Writes : List Symbol → List ℕ → Type 0) where
  -- of the codes whose text is at the front of u, and that begin a tree's code, the longest
  pub record LongestCode (u : List ℕ) (c : List Symbol) : Type 0 where
    pub code : IsCode c
    pub front : Begins u (text_of c)
    pub begins : BeginsTreeCode c
    pub longest : (d : List Symbol) → IsCode d → Begins u (text_of d) → BeginsTreeCode d
        → length d ≤ length c

  -- where u stops: at the first byte of the next whole symbol; or else at the byte with which no
  -- code's text begins
  abbrev pub StopsIn : List ℕ → List Symbol → Option ℕ → Type 0
  StopsIn u c (Some k) = (HasNext u c × (k ≡ length (text_of c)))
      ⊎ ((HasNext u c → ⊥) × IsBadByte u k)
  StopsIn u c None = (HasNext u c → ⊥) × BeginsText u

  -- c is performed of u, and u stops there, or nowhere
  pub record PlaysOn (u : List ℕ) (c : List Symbol) (stop : Option ℕ) : Type 0 where
    pub longest : LongestCode u c
    pub stops : StopsIn u c stop

  -- on u this text is written, and u stops at this byte, or nowhere
  abbrev pub SaysPlayed : List ℕ → Option ℕ → List ℕ → Type 0
  SaysPlayed u at text = (c : List Symbol) × PlaysOn u c at × Writes c text

  -- at the end of u this text is written, and u is the text of a tree's whole code (true), or none
  abbrev pub ClosesPlayed : List ℕ → Bool → List ℕ → Type 0
  ClosesPlayed u true text = (c : List Symbol) × PlaysOn u c None × (u ≡ text_of c) × IsTreeCode c
      × Writes c text
  ClosesPlayed u false text = (c : List Symbol) × PlaysOn u c None
      × (u ≡ text_of c → IsTreeCode c → ⊥) × Writes c text

  -- the answer on a text that is ended (true) or open, within a limit
  pub data Plays (limit : ℕ) : List ℕ → Bool → Answer → Type 0 where
    bad_byte : {w : List ℕ} {e : Bool} {text : List ℕ} (c : List Symbol) (k : ℕ)
        → PlaysOn (take limit w) c (Some k) → Writes c text
        → Plays limit w e (stopped_answer text k at_byte)
    too_long : {w : List ℕ} {e : Bool} {text : List ℕ} (c : List Symbol) → limit < length w
        → PlaysOn (take limit w) c None → Writes c text
        → Plays limit w e (stopped_answer text limit at_limit)
    cut_off : {w text : List ℕ} (c : List Symbol) → length w ≤ limit → PlaysOn w c None
        → (w ≡ text_of c → IsTreeCode c → ⊥) → Writes c text
        → Plays limit w true (stopped_answer text (length w) at_end)
    whole : {w text : List ℕ} (c : List Symbol) → length w ≤ limit → PlaysOn w c None
        → w ≡ text_of c → IsTreeCode c → Writes c text
        → Plays limit w true (record { text = text; ended = true; stop = None })
    still_open : {w text : List ℕ} (c : List Symbol) → length w ≤ limit → PlaysOn w c None
        → Writes c text → Plays limit w false (record { text = text; ended = false; stop = None })

-- what a run whose code begins with c writes as far as c goes
abbrev pub WritesRun : Graph → List Symbol → List ℕ → Type 0
WritesRun g c text = (ks : List (Step ℕ)) × IsRun g ks × Begins (code_of ks) c
    × (text ≡ (left_by g ks c).out)

abbrev pub MachineActAnswers : Graph → ℕ → List ℕ → Bool → Answer → Type 0
MachineActAnswers g limit w e a = Plays (BeginsRun g) (IsWholeCode g) (WritesRun g) limit w e a
