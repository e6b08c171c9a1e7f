-- What a worker says of the bytes that it was given, and what a stage answers by that within a
-- limit.
use Rattle.std.specs.Prelude.{◌≡◌, ℕ, ◌<◌, ◌≤◌, ◌++◌, ◌&&◌, Bool, true, false, List, Option, Some}
use Rattle.std.specs.Prelude.{None, is_none, IsSome, length, take}
use Rattle.kex_code.specs.Codes.{Begins}
use Rattle.kex_model.specs.Answers.{Answer, stopped_answer, at_byte, at_end, at_limit, LongestGood}

-- a stage's machine, and the most bytes that it takes
pub record BoundedPlan (M : Type 0) : Type 0 where
  pub machine : M
  pub limit : ℕ

-- a piece was read after w, on which this text was said: the bytes can go on, or they stop it at a
-- byte
pub record ReadMore (Says : List ℕ → Option ℕ → List ℕ → Type 0)
    (Follows : List ℕ → List ℕ → Type 0)
    (w text piece : List ℕ) (at : Option ℕ) (before after : List ℕ) : Type 0 where
  pub more : List ℕ
  pub written : after ≡ before ++ more
  pub says : Says (w ++ piece) at (text ++ more)
  pub follows : at ≡ None → Follows (w ++ piece) (text ++ more)

-- the end came after w, on which this text was said
pub record CameToEnd (Closes : List ℕ → Bool → List ℕ → Type 0) (w text : List ℕ) (parsed : Bool)
    (before after : List ℕ) : Type 0 where
  pub more : List ℕ
  pub written : after ≡ before ++ more
  pub closes : Closes w parsed (text ++ more)

-- given what is said of texts, open (None: they can go on, Some: they stop at this byte) or at
-- their end (true: they have a parse)
module _ (Says : List ℕ → Option ℕ → List ℕ → Type 0) (Closes : List ℕ → Bool → List ℕ → Type 0)
    (Gives : ℕ → List ℕ → Bool → Answer → Type 0) where
  -- what is answered within a limit: the cases, that there is one answer, that it grows, and that a
  -- stop stays
  pub record Answering : Type 0 where
    pub stops_at : (n : ℕ) (w : List ℕ) (e : Bool) (at : ℕ) (text : List ℕ)
        → Says (take n w) (Some at) text → Gives n w e (stopped_answer text at at_byte)
    pub too_long : (n : ℕ) (w : List ℕ) (e : Bool) (text : List ℕ)
        → n < length w → Says (take n w) None text → Gives n w e (stopped_answer text n at_limit)
    pub cut_off : (n : ℕ) (w text : List ℕ)
        → length w ≤ n → Closes w false text
        → Gives n w true (stopped_answer text (length w) at_end)
    pub whole : (n : ℕ) (w text : List ℕ)
        → length w ≤ n → Closes w true text
        → Gives n w true (record { text = text; ended = true; stop = None })
    pub still_open : (n : ℕ) (w text : List ℕ)
        → length w ≤ n → Says w None text
        → Gives n w false (record { text = text; ended = false; stop = None })
    pub stopped : (n : ℕ) (w v : List ℕ) (e : Bool) (a : Answer)
        → Gives n w false a → (a.stop ≡ None → ⊥) → Gives n (w ++ v) e a
    pub one : (n : ℕ) (w : List ℕ) (e : Bool) (a b : Answer) → Gives n w e a → Gives n w e b → a ≡ b
    pub grows : (n : ℕ) (w v : List ℕ) (e : Bool) (a b : Answer)
        → Gives n w false a → Gives n (w ++ v) e b → Begins b.text a.text
    pub stays : (n : ℕ) (w v : List ℕ) (e : Bool) (a b : Answer)
        → Gives n w false a → Gives n (w ++ v) e b → (a.stop ≡ None → ⊥) → b ≡ a
    pub ends : (n : ℕ) (w : List ℕ) (e : Bool) (a : Answer) → Gives n w e a
        → a.ended ≡ (e && is_none a.stop)
    pub past : (n : ℕ) (w : List ℕ) (e : Bool) (a : Answer) → Gives n w e a → n < length w
        → IsSome a.stop

-- given what is viable, what is said, what has a parse and what is meant, as the model's answers
module _ (CanGoOn : List ℕ → Type 0) (Says : List ℕ → List ℕ → Type 0) (Parsed : List ℕ → Type 0)
    (Means : List ℕ → List ℕ → Type 0) where
  abbrev pub SaysViable : List ℕ → Option ℕ → List ℕ → Type 0
  SaysViable w None text = CanGoOn w × Says w text
  SaysViable w (Some at) text =
      (¬ CanGoOn w)
      × ((v : List ℕ) × LongestGood CanGoOn Says Parsed Means w v × Says v text × (at ≡ length v))

  abbrev pub ClosesParsed : List ℕ → Bool → List ℕ → Type 0
  ClosesParsed w true text = Means w text
  ClosesParsed w false text = CanGoOn w × (¬ Parsed w) × Says w text
