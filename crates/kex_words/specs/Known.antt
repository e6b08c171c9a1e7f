-- What some words ask for.
use Rattle.std.specs.Prelude.{◌≡◌, ◌==◌, ◌++◌, ℕ, List, [], ◌∷◌, Bool, true, false, Some, None}
use Rattle.std.specs.Prelude.{codes, is_none, map}
use Rattle.std.specs.List.{list_all, slice_split}
use Prim.Native.String.{String}
use Rattle.clap.specs.Words.{Text}
use Rattle.kex_words.specs.Words.{Asked, Reach, asked_of}
use Rattle.kex_words.specs.Words.Asked.{ToStream, ToCheck, ToCompile, ToExec, ToEach, ToTry}
use Rattle.kex_words.specs.Words.Mode.{running, coding, acting, testing}

-- the words of a line, between single blanks, so that an empty word may be among them
abbrev pub words_of : String → List Text
words_of line = slice_split (λ byte. byte == 32) (codes line)

abbrev pub reach : ℕ → ℕ → Reach
reach max_input block =
    record { max_input = max_input; block = block; rings = None; workers = 1 }

abbrev pub usual_reach : Reach
usual_reach = reach 281474976710656 65536

-- with rings that have room for this many items
abbrev pub over_rings : ℕ → Reach
over_rings room = record usual_reach { rings = Some room }

-- shared among this many workers
abbrev pub by_workers : ℕ → Reach
by_workers workers = record usual_reach { workers = workers }

-- the lines ask for these
abbrev pub LinesAsk : List (String × Asked) → Type 0
LinesAsk rows = map (λ row. asked_of (words_of row.0)) rows ≡ map (λ row. Some row.1) rows

-- the line is out of form
abbrev pub is_usage : String → Bool
is_usage line = is_none (asked_of (words_of line))

abbrev pub AreUsage : List String → Type 0
AreUsage lines = list_all is_usage lines ≡ true

-- with the usual number of states
abbrev pub to_run : String → Reach → Asked
to_run name r = ToStream (running 4096 false) (codes name) r

abbrev pub run_lines : List (String × Asked)
run_lines = ("kex run p", to_run "p" usual_reach)
    ∷ ("kex run p --max-input 3 --block 1", to_run "p" (reach 3 1))
    ∷ ("kex run --block=1048576 --max-input=0 p", to_run "p" (reach 0 1048576))
    ∷ (
      "kex run p --states 7 --block 1",
      ToStream (running 7 false) (codes "p") (reach 281474976710656 1),
    )
    ∷ (
      "kex run p --max-input 281474976710656 --states 1048576",
      ToStream (running 1048576 false) (codes "p") usual_reach,
    )
    ∷ ("kex run p --rings 1", to_run "p" (over_rings 1))
    ∷ ("kex run --rings=1048576 p", to_run "p" (over_rings 1048576))
    ∷ ("kex run --workers=1 p", to_run "p" usual_reach)
    ∷ ("kex run p --workers 64", to_run "p" (by_workers 64))
    ∷ ("kex run p --workers 2 --rings 3", to_run "p" (record (over_rings 3) { workers = 2 }))
    ∷ ("kex run p --optimal", ToStream (running 4096 true) (codes "p") usual_reach)
    ∷ ("kex run --optimal p --states 7", ToStream (running 7 true) (codes "p") usual_reach)
    ∷ ("kex run --optimal p --workers 2", ToStream (running 4096 true) (codes "p") (by_workers 2))
    ∷ []

-- numbers are read as `clap` reads them, and names may look like other words
abbrev pub odd_lines : List (String × Asked)
odd_lines = ("kex run p --max-input +3 --block 007", to_run "p" (reach 3 7))
    ∷ ("kex run ", to_run "" usual_reach) ∷ ("kex run -", to_run "-" usual_reach)
    ∷ ("kex run -- --block", to_run "--block" usual_reach)
    ∷ ("kex run --block 3 p --", to_run "p" (reach 281474976710656 3))
    ∷ ("kex run check", to_run "check" usual_reach) ∷ ("kex run help", to_run "help" usual_reach)
    ∷ ("kex run @p", to_run "@p" usual_reach)
    -- the first word is the program's own name, whatever it is
    ∷ ("--help run p", to_run "p" usual_reach) ∷ []

abbrev pub check_lines : List (String × Asked)
check_lines = ("kex check p", ToCheck (codes "p") 4096)
    ∷ ("kex check --states 1 p", ToCheck (codes "p") 1) ∷ ("kex check ", ToCheck [] 4096)
    ∷ ("kex check -- --states", ToCheck (codes "--states") 4096)
    ∷ ("kex check run", ToCheck (codes "run") 4096) ∷ []

-- the commands on a program of one stage
abbrev pub single_lines : List (String × Asked)
single_lines = ("kex code p", ToStream coding (codes "p") usual_reach)
    ∷ ("kex act p --block 7", ToStream acting (codes "p") (reach 281474976710656 7))
    ∷ ("kex test --max-input 3 p", ToStream testing (codes "p") (reach 3 65536)) ∷ []

abbrev pub trial_lines : List (String × Asked)
trial_lines = ("kex trial 2", ToTry 2 65536 None 1) ∷ ("kex trial --block 1 0", ToTry 0 1 None 1)
    ∷ ("kex trial 1000000", ToTry 1000000 65536 None 1)
    ∷ ("kex trial 2 --rings 64", ToTry 2 65536 (Some 64) 1)
    ∷ ("kex trial --workers=64 2", ToTry 2 65536 None 64)
    ∷ ("kex trial 2 --rings 4096 --workers 2", ToTry 2 65536 (Some 4096) 2) ∷ []

-- the commands on table files
abbrev pub table_lines : List (String × Asked)
table_lines = ("kex compile p", ToCompile (codes "p") 4096)
    ∷ ("kex compile --states 1 p", ToCompile (codes "p") 1)
    ∷ ("kex exec t", ToExec (codes "t") usual_reach)
    ∷ ("kex exec --block 1 t --max-input 3", ToExec (codes "t") (reach 3 1)) ∷ []

abbrev pub each_lines : List (String × Asked)
each_lines = ("kex each p", ToEach (codes "p") 4096 281474976710656 1)
    ∷ ("kex each --workers 64 p --states 7 --max-input=0", ToEach (codes "p") 7 0 64) ∷ []

abbrev pub known_lines : List (String × Asked)
known_lines = run_lines ++ odd_lines ++ check_lines ++ single_lines ++ trial_lines ++ table_lines
    ++ each_lines

pub record RefusesWords : Type 0 where
  pub no_words : asked_of [] ≡ None
  pub no_command
      : AreUsage ("kex" ∷ "kex " ∷ "kex --" ∷ "kex p" ∷ "kex -- run p" ∷ "kex --block 3 run p" ∷ [])
  pub other_command
      : AreUsage ("kex walk p" ∷ "kex ru p" ∷ "kex RUN p" ∷ "kex checks p" ∷ "kex --run p" ∷ [])
  pub help_or_version
      : AreUsage ("kex help" ∷ "kex help run" ∷ "kex -h" ∷ "kex --help" ∷ "kex -V" ∷ "kex --version"
      ∷ "kex run -h" ∷ "kex run p --help" ∷ "kex run p --version" ∷ "kex check --help" ∷ [])
  pub no_program : AreUsage
      ("kex run" ∷ "kex run --" ∷ "kex run --block 3" ∷ "kex check" ∷ "kex code" ∷ "kex trial"
      ∷ "kex compile" ∷ "kex exec" ∷ [])
  pub two_programs : AreUsage
      ("kex run p q" ∷ "kex run p p" ∷ "kex run p " ∷ "kex run -- p --" ∷ "kex run -- p --block 3"
      ∷ "kex check p q" ∷ "kex check p run q" ∷ "kex compile p q" ∷ "kex exec t u" ∷ [])
  pub unknown_option : AreUsage
      ("kex run p --rate 1" ∷ "kex run p --state 1" ∷ "kex run p --bloc 3" ∷ "kex run p --Block 3"
      ∷ "kex run p --max_input 3" ∷ "kex run p -b 3" ∷ "kex run p -block 3" ∷ "kex run -p"
      ∷ "kex run -5" ∷ [])
  pub option_of_another_command : AreUsage ("kex check p --block 1" ∷ "kex check p --max-input 1"
      ∷ "kex code p --states 1" ∷ "kex act p --states 1"
      ∷ "kex test p --states 1" ∷ "kex trial 1 --states 1" ∷ "kex trial 1 --max-input 1"
      ∷ "kex check p --rings 1" ∷ "kex code p --rings 1"
      ∷ "kex act p --rings 1" ∷ "kex test p --rings 1" ∷ "kex each p --block 1"
      ∷ "kex each p --rings 1" ∷ "kex check p --workers 1" ∷ "kex code p --workers 1"
      ∷ "kex act p --workers 1" ∷ "kex test p --workers 1" ∷ "kex compile p --workers 1"
      ∷ "kex exec t --workers 1"
      ∷ "kex check p --optimal" ∷ "kex code p --optimal" ∷ "kex act p --optimal"
      ∷ "kex test p --optimal" ∷ "kex trial 1 --optimal" ∷ "kex each p --optimal"
      ∷ "kex compile p --optimal" ∷ "kex exec t --optimal"
      ∷ "kex compile p --block 1" ∷ "kex compile p --max-input 1" ∷ "kex exec t --states 1"
      ∷ "kex exec t --rings 1" ∷ [])
  pub option_twice : AreUsage ("kex run p --block 2 --block 3" ∷ "kex run p --block=2 --block=2"
      ∷ "kex run --max-input 1 p --max-input 1" ∷ "kex run --optimal p --optimal"
      ∷ "kex run p --workers 2 --workers 2" ∷ "kex trial 1 --workers=2 --workers 3" ∷ [])
  pub value_of_a_flag : AreUsage ("kex run p --optimal=true" ∷ "kex run --optimal= p"
      ∷ "kex run p --optimal true" ∷ [])
  pub no_value : AreUsage ("kex run p --block" ∷ "kex run p --block=" ∷ "kex run p --block "
      ∷ "kex run p --block --max-input 3"
      ∷ "kex run --block -- p" ∷ "kex run p --workers" ∷ "kex run p --workers="
      ∷ "kex run --workers p" ∷ "kex trial 1 --workers" ∷ [])
  pub below_range : AreUsage ("kex run p --block 0" ∷ "kex run p --block -1"
      ∷ "kex run p --max-input -1" ∷ "kex run p --max-input=-0"
      ∷ "kex run p --states 0" ∷ "kex run p --rings 0" ∷ "kex trial 1 --rings 0"
      ∷ "kex check p --states 0" ∷ "kex trial -1" ∷ "kex each p --workers 0"
      ∷ "kex run p --workers 0" ∷ "kex trial 1 --workers 0" ∷ [])
  pub above_range : AreUsage ("kex run p --block 1048577" ∷ "kex run p --max-input 281474976710657"
      ∷ "kex run p --block 18446744073709551617" ∷ "kex run p --states 1048577"
      ∷ "kex run p --rings 1048577" ∷ "kex trial 1000001" ∷ "kex each p --workers 65"
      ∷ "kex run p --workers 65" ∷ "kex trial 1 --workers 65" ∷ [])
  pub no_number : AreUsage ("kex run p --block two" ∷ "kex run p --block 3k"
      ∷ "kex run p --block 0x10" ∷ "kex run p --block 1_000"
      ∷ "kex run p --block 3.0" ∷ "kex run p --block +" ∷ "kex run p --block ++3"
      ∷ "kex run p --block=3=4"
      ∷ "kex run p --block 3,5" ∷ "kex trial p" ∷ "kex trial " ∷ "kex run p --workers two"
      ∷ "kex trial 1 --workers two" ∷ [])

pub record ReadsWords : Type 0 where
  pub in_form : LinesAsk known_lines
  pub out_of_form : RefusesWords
