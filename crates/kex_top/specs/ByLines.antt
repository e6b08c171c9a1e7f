-- What a command leaves that answers each line of its input by itself.
use Rattle.std.specs.Prelude.{◌≡◌, ◌+◌, ◌<◌, ◌≤◌, ℕ, Bool, true, false, List, Some, None, length}
use Rattle.std.specs.Io.KnownBytes.{Consumes, IsAtEnd}
use Rattle.std.specs.List.{concat}
use Rattle.kex_model.specs.Answers.{Answer}
use Rattle.kex_model.specs.Laws.{StageAnswers}
use Rattle.kex_model.specs.Programs.{Grammar}
use Rattle.kex_compile.specs.Stages.{roots_of}
use Rattle.kex_each.specs.Answers.{AnswersLines}
use Rattle.kex_each.specs.Lines.{lines_of}
use Rattle.kex_stage.specs.Stages.{StagePlan, Gives}
use Rattle.kex_words.specs.Words.{most_input}
use Rattle.kex_words.specs.Gains.{StreamChange}
use Rattle.kex_pipeline.specs.Sayings.{Said}
use Rattle.kex_top.specs.Run.{EndsAs, WritesAll, is_whole}
use Rattle.kex_top.specs.declared.status.Status.{Status}
use Rattle.kex_top.specs.declared.status.Status.TheVariants.{Done, Rejected, ReadFault, TooLong}
use Rattle.kex_top.specs.declared.status.Status.TheVariants.{InputTooLong}

-- how many bytes each read asks for
abbrev pub line_block : ℕ
line_block = 65536

-- What is said of an input, open or (true) ended, by stages that answer each of its lines: the
-- answers, in the order of the lines, and nothing is reported.
pub record LinesSay {T : Type 0} (Gives : T → List ℕ → Bool → Answer → Type 0) (stages : List T)
    (w : List ℕ) (e : Bool) (said : Said) : Type 0 where
  pub texts : List (List ℕ)
  pub answers : AnswersLines Gives stages (lines_of w e) texts
  pub text : said.text ≡ concat texts
  pub unreported : said.report ≡ None

-- the same, by the plans of stages
abbrev pub NodesSayLines : List StagePlan → List ℕ → Bool → Said → Type 0
NodesSayLines ps w e said = LinesSay (λ p v d a. Gives p v d a) ps w e said

-- the same, by the stages of a program, each within the limit
abbrev pub SaysLines : Grammar → ℕ → List ℕ → Bool → Said → Type 0
SaysLines P limit w e said =
    LinesSay (λ root v d a. StageAnswers P root limit v d a) (roots_of P) w e said

-- The last read, which gave no more than this many bytes, took the input past the most that it may
-- have.
abbrev pub GoesPast : ℕ → List ℕ → Type 0
GoesPast last w = (most_input < length w) × (length w ≤ most_input + last)

module _ (says : List ℕ → Bool → Said → Type 0) where
  -- What each status says of a run that read w, and the end after it where e. Rejected lines are
  -- part of what is said; past the most bytes that an input may have all whole lines are answered.
  abbrev pub EndsByLines : ℕ → List ℕ → Bool → StreamChange → StreamChange → Status → Type 0
  EndsByLines last w e source sink Done = (length w ≤ most_input)
      × EndsAs says last w e source sink Done
  EndsByLines last w e source sink ReadFault = (length w ≤ most_input)
      × EndsAs says last w e source sink ReadFault
  EndsByLines last w e source sink InputTooLong = GoesPast last w × (e ≡ false)
      × WritesAll says w e None sink × (source.now ≡ source.before) × (sink.now ≡ sink.before)
  EndsByLines last w e source sink (Rejected r) = ⊥
  EndsByLines last w e source sink (TooLong r) = ⊥
  EndsByLines last w e source sink status = EndsAs says last w e source sink status

  -- A run: what it read, whether to the end, and what its status says.
  pub record RanByLines (last : ℕ) (source sink : StreamChange) (status : Status) : Type 0 where
    pub w : List ℕ
    pub e : Bool
    pub read : Consumes source.old source.new w
    pub ended : e ≡ true → IsAtEnd source.new
    pub ends : EndsByLines last w e source sink status

  -- A run before the sink is closed: where all was written, something is said on what was read as
  -- open input.
  abbrev pub PumpedByLines : ℕ → StreamChange → StreamChange → Status → Type 0
  PumpedByLines last source sink status = (ran : RanByLines last source sink status)
      × (is_whole status ≡ true → (earlier : Said) × says ran.w false earlier)

-- The source's bytes are known, and are no more than an input may have.
pub record IsShort (source : StreamChange) : Type 0 where
  pub input : List ℕ
  pub rest : source.old ≡ Some input
  pub short : length input ≤ most_input
