-- Worked examples: small grammars, and what the definitions come to on them. A text is the list of
-- its bytes.
use Rattle.std.specs.Prelude.{◌≡◌, ℕ, Bool, true, false, List, [], ◌∷◌, Some, None, map, replicate}
use Rattle.std.specs.Prelude.{slice_set}
use Rattle.kex_code.specs.declared.symbol.Symbol.TheVariants.{L, R, Byte}
use Rattle.kex_code.specs.declared.piece.Piece.TheVariants.{Lit as Said, Register}
use Rattle.kex_code.specs.Codes.{Before, IsAmong}
use Rattle.kex_model.specs.declared.program.Kind.{Kind}
use Rattle.kex_model.specs.declared.program.Kind.TheVariants.{Lit, Class, Call, Seq, Alt, Rep, Mute}
use Rattle.kex_model.specs.declared.program.Kind.TheVariants.{At, Write, Set, Add}
use Rattle.kex_model.specs.declared.frame.Frame.TheVariants.{Pending}
use Rattle.kex_model.specs.Programs.{Grammar}
use Rattle.kex_model.specs.Moves.{Step, Walk, choose, go, nothing}
use Rattle.kex_model.specs.Labelled.{place, parts}
use Rattle.kex_model.specs.Trees.{Tree, leaf, byte, pair, chose_left, chose_right, inner, turn}
use Rattle.kex_model.specs.Trees.{done, Parses, kind_at, meaning, part_meaning}
use Rattle.kex_model.specs.Places.{Place, IsPlace, moves, start_of}
use Rattle.kex_model.specs.Survivors.{Agreed, HasShape}
use Rattle.kex_model.specs.Answers.{empty, code_at, IsParse, HasParse, GreedyParse, Means, Says}
use Rattle.kex_model.specs.Answers.{at_byte, at_end, at_limit, stopped_answer}
use Rattle.kex_model.specs.Laws.{StageAnswers, StagesAnswer}

-- the set of these bytes
abbrev pub set_of : List ℕ → List Bool
set_of [] = replicate 256 false
set_of (b ∷ bs) = slice_set (set_of bs) b true

-- a grammar of two registers and these nodes; a name, if it is used, stands for the node with this
-- number
abbrev pub grammar : ℕ → List Kind → Grammar
grammar named kinds = record {
  nodes = map (λ k. record { kind = k; at = 0 }) kinds;
  names = [] ∷ [];
  definitions = record { name = 0; at = 0; root = named } ∷ [];
  stages = [];
  registers = 2;
}

-- what a tree means at a node, with all registers empty
abbrev pub meant_bytes : Grammar → ℕ → Tree → List ℕ
meant_bytes P root t = (meaning P (kind_at P root) t (empty P)).bytes

-- main := "1" /ac/ | "2" /ab/
abbrev pub late : Grammar
late = grammar 0 (Lit (49 ∷ []) ∷ Class (set_of (97 ∷ [])) ∷ Class (set_of (99 ∷ [])) ∷ Seq 1 2
    ∷ Seq 0 3 ∷ Lit (50 ∷ []) ∷ Class (set_of (97 ∷ [])) ∷ Class (set_of (98 ∷ [])) ∷ Seq 6 7
    ∷ Seq 5 8 ∷ Alt 4 9 ∷ [])

abbrev pub late_tree : Tree
late_tree = chose_right (pair leaf (pair (byte 97) (byte 98)))

-- `ab` has the code R a b and means `2ab`; on `a` nothing is agreed yet, and nothing is said
pub record ChoiceIsLate : Type 0 where
  pub parses : Parses late 10 late_tree (97 ∷ 98 ∷ [])
  pub code : code_at late 10 late_tree ≡ R ∷ Byte 97 ∷ Byte 98 ∷ []
  pub means : meant_bytes late 10 late_tree ≡ 50 ∷ 97 ∷ 98 ∷ []
  pub agreed : Agreed (moves late) (start_of late 10) (97 ∷ []) []
  pub said : Says late 10 (97 ∷ []) []

-- main := /a/ "x" | /a/ "y"
abbrev pub twice : Grammar
twice = grammar 0 (Class (set_of (97 ∷ [])) ∷ Lit (120 ∷ []) ∷ Seq 0 1 ∷ Class (set_of (97 ∷ []))
    ∷ Lit (121 ∷ []) ∷ Seq 3 4 ∷ Alt 2 5 ∷ [])

abbrev pub twice_left : Tree
twice_left = chose_left (pair (byte 97) leaf)

abbrev pub twice_right : Tree
twice_right = chose_right (pair (byte 97) leaf)

-- of the two parses of `a` the left one is greedy, since L comes before R; both paths end at one
-- place, so the left one is agreed, and what it writes is said before the end
pub record LeftIsGreedy : Type 0 where
  pub greedy : GreedyParse twice 6 (97 ∷ []) twice_left
  pub other : Parses twice 6 twice_right (97 ∷ [])
  pub before : Before (code_at twice 6 twice_left) (code_at twice 6 twice_right)
  pub means : Means twice 6 (97 ∷ []) (97 ∷ 120 ∷ [])
  pub agreed : Agreed (moves twice) (start_of twice 6) (97 ∷ []) (L ∷ Byte 97 ∷ [])
  pub said : Says twice 6 (97 ∷ []) (97 ∷ 120 ∷ [])

-- main := a@/[ab]+/ ~/,/ b@/[12]+/ !b "," !a
abbrev pub swap : Grammar
swap = grammar 0 (Class (set_of (97 ∷ 98 ∷ [])) ∷ Rep 0 1 None false ∷ At 0 1 ∷ Class
    (set_of (44 ∷ [])) ∷ Mute 3 ∷ Class (set_of (49 ∷ 50 ∷ [])) ∷ Rep 5 1 None false ∷ At 1 6
    ∷ Write 1 ∷ Lit (44 ∷ []) ∷ Write 0 ∷ Seq 9 10 ∷ Seq 8 11 ∷ Seq 7 12 ∷ Seq 4 13 ∷ Seq 2 14 ∷ [])

abbrev pub swap_tree : Tree
swap_tree = pair (inner (turn (byte 97) (turn (byte 98) done))) (pair (inner (byte 44))
    (pair (inner (turn (byte 49) (turn (byte 50) done))) (pair leaf (pair leaf leaf))))

-- `ab,12` means `12,ab`
pub record RegistersSwap : Type 0 where
  pub parses : Parses swap 15 swap_tree (97 ∷ 98 ∷ 44 ∷ 49 ∷ 50 ∷ [])
  pub means : meant_bytes swap 15 swap_tree ≡ 49 ∷ 50 ∷ 44 ∷ 97 ∷ 98 ∷ []

-- main := [r <- "a"] (~/x/ [r += r])* !r
abbrev pub doubling : Grammar
doubling = grammar 0 (Set 0 (Said (97 ∷ []) ∷ []) ∷ Class (set_of (120 ∷ [])) ∷ Mute 1
    ∷ Add 0 (Register 0 ∷ []) ∷ Seq 2 3 ∷ Rep 4 0 None false ∷ Write 0 ∷ Seq 5 6 ∷ Seq 0 7 ∷ [])

abbrev pub doubling_tree : Tree
doubling_tree = let once : Tree = pair (inner (byte 120)) leaf
    in pair leaf (pair (turn once (turn once (turn once done))) leaf)

-- `xxx` doubles the register three times
pub record RegisterDoubles : Type 0 where
  pub parses : Parses doubling 8 doubling_tree (120 ∷ 120 ∷ 120 ∷ [])
  pub means : meant_bytes doubling 8 doubling_tree ≡ replicate 8 97

-- main := ~(a@/x/) !a
abbrev pub muted_register : Grammar
muted_register = grammar 0 (Class (set_of (120 ∷ [])) ∷ At 0 0 ∷ Mute 1 ∷ Write 0 ∷ Seq 2 3 ∷ [])

abbrev pub muted_tree : Tree
muted_tree = pair (inner (inner (byte 120))) leaf

-- `x` goes into the register though it is muted, and not to the output
pub record MuteKeepsRegisters : Type 0 where
  pub parses : Parses muted_register 4 muted_tree (120 ∷ [])
  pub means : meant_bytes muted_register 4 muted_tree ≡ 120 ∷ []

-- main := "p" r@(/a/ "q" /b/) "s" !r
abbrev pub kept_register : Grammar
kept_register =
    grammar 0 (Lit (112 ∷ []) ∷ Class (set_of (97 ∷ [])) ∷ Lit (113 ∷ []) ∷ Class (set_of (98 ∷ []))
    ∷ Seq 2 3 ∷ Seq 1 4 ∷ At 0 5 ∷ Lit (115 ∷ []) ∷ Write 0 ∷ Seq 7 8 ∷ Seq 6 9 ∷ Seq 0 10 ∷ [])

abbrev pub kept_tree : Tree
kept_tree = pair leaf (pair (inner (pair (byte 97) (pair leaf (byte 98)))) (pair leaf leaf))

-- `ab` means `psaqb`; with the code of `a` alone `p` is written, and the register that was begun
-- stays as it was
pub record RegisterIsWholeOrAsItWas : Type 0 where
  pub parses : Parses kept_register 11 kept_tree (97 ∷ 98 ∷ [])
  pub means : meant_bytes kept_register 11 kept_tree ≡ 112 ∷ 115 ∷ 97 ∷ 113 ∷ 98 ∷ []
  pub begun : part_meaning kept_register (kind_at kept_register 11) kept_tree (Byte 97 ∷ []) ((122
      ∷ []) ∷ [] ∷ []) ≡ record { bytes = 112 ∷ []; registers = (122 ∷ []) ∷ [] ∷ []; rest = None }

-- main := (~/x/ "y"){2,3}
abbrev pub counted_loop : Grammar
counted_loop = grammar 0
    (Class (set_of (120 ∷ [])) ∷ Mute 0 ∷ Lit (121 ∷ []) ∷ Seq 1 2 ∷ Rep 3 2 (Some 3) false ∷ [])

abbrev pub counted_turn : Tree
counted_turn = pair (inner (byte 120)) leaf

-- the two turns that are needed bear no mark, a third has L, and the end has R unless three turns
-- are taken
pub record TurnsAreCounted : Type 0 where
  pub two : Parses counted_loop 4 (turn counted_turn (turn counted_turn done)) (120 ∷ 120 ∷ [])
  pub two_code : code_at counted_loop 4 (turn counted_turn (turn counted_turn done))
      ≡ Byte 120 ∷ Byte 120 ∷ R ∷ []
  pub three : Parses counted_loop 4 (turn counted_turn (turn counted_turn (turn counted_turn done)))
      (120 ∷ 120 ∷ 120 ∷ [])
  pub three_code
      : code_at counted_loop 4 (turn counted_turn (turn counted_turn (turn counted_turn done)))
      ≡ Byte 120 ∷ Byte 120 ∷ L ∷ Byte 120 ∷ []
  pub one : HasParse counted_loop 4 (120 ∷ []) → ⊥
  pub four : HasParse counted_loop 4 (120 ∷ 120 ∷ 120 ∷ 120 ∷ []) → ⊥
  pub needed : moves counted_loop (start_of counted_loop 4)
      ≡ go nothing (Pending 3 0 None ∷ Pending 4 1 (Some 2) ∷ [])

-- f := /ab/, main := ~f | ~f
abbrev pub muted_twice : Grammar
muted_twice = grammar 2 (Class (set_of (97 ∷ [])) ∷ Class (set_of (98 ∷ [])) ∷ Seq 0 1 ∷ Call 0
    ∷ Mute 3 ∷ Call 0 ∷ Mute 5 ∷ Alt 4 6 ∷ [])

-- the ends of the two groups are two places, so on `a` two paths survive, and nothing is agreed
abbrev pub EndsAreOfNodes : Type 0
EndsAreOfNodes = Agreed (moves muted_twice) (start_of muted_twice 7) (97 ∷ []) []

-- main := /ab*c/
abbrev pub breaks : Grammar
breaks = grammar 0 (Class (set_of (97 ∷ [])) ∷ Class (set_of (98 ∷ [])) ∷ Rep 1 0 None false
    ∷ Class (set_of (99 ∷ [])) ∷ Seq 2 3 ∷ Seq 0 4 ∷ [])

abbrev pub breaks_tree : Tree
breaks_tree = pair (byte 97) (pair (turn (byte 98) done) (byte 99))

-- on `ab` the second b's turn or the end comes next, and `ab` is said; `abx` is rejected at byte 2,
-- ended or open, `ab` at its end; `abc` is whole
pub record TextsBreakOff : Type 0 where
  pub agreed : Agreed (moves breaks) (start_of breaks 5) (97 ∷ 98 ∷ []) (Byte 97 ∷ L ∷ Byte 98 ∷ [])
  pub said : Says breaks 5 (97 ∷ 98 ∷ []) (97 ∷ 98 ∷ [])
  pub so_far : StageAnswers breaks 5 9 (97 ∷ 98 ∷ []) false
      (record { text = 97 ∷ 98 ∷ []; ended = false; stop = None })
  pub rejected : (ended : Bool)
      → StageAnswers breaks 5 9 (97 ∷ 98 ∷ 120 ∷ []) ended (stopped_answer (97 ∷ 98 ∷ []) 2 at_byte)
  pub cut_off : StageAnswers breaks 5 9 (97 ∷ 98 ∷ []) true (stopped_answer (97 ∷ 98 ∷ []) 2 at_end)
  pub whole : StageAnswers breaks 5 9 (97 ∷ 98 ∷ 99 ∷ []) true
      (record { text = 97 ∷ 98 ∷ 99 ∷ []; ended = true; stop = None })

-- main := /a*/
abbrev pub stars : Grammar
stars = grammar 0 (Class (set_of (97 ∷ [])) ∷ Rep 0 0 None false ∷ [])

-- within 3 bytes `aaa` is whole; a fourth byte is too long, whatever it is
pub record LimitStops : Type 0 where
  pub within : StageAnswers stars 1 3 (97 ∷ 97 ∷ 97 ∷ []) true
      (record { text = 97 ∷ 97 ∷ 97 ∷ []; ended = true; stop = None })
  pub past : (b : ℕ) (ended : Bool) → StageAnswers stars 1 3 (97 ∷ 97 ∷ 97 ∷ b ∷ []) ended
      (stopped_answer (97 ∷ 97 ∷ 97 ∷ []) 3 at_limit)

-- of the empty text the shape forks: another turn to the left, the end to the right
pub record ShapeForks : Type 0 where
  pub first : moves stars (start_of stars 1) ≡ choose (Pending 0 0 None ∷ Pending 1 0 None ∷ []) []
  pub shape : HasShape (moves stars) (start_of stars 1) []
      (parts (place (Pending 0 0 None ∷ Pending 1 0 None ∷ [])) (place []))

-- the places of `/a*/`: the repetition, a byte of another turn before it, and the end
abbrev pub star_places : List Place
star_places =
    (Pending 1 0 None ∷ [])
    ∷ (Pending 0 0 None ∷ Pending 1 0 None ∷ [])
    ∷ []
    ∷ []

-- main := f /b/, f := /a/ f
abbrev pub endless : Grammar
endless =
    grammar 2
    (Class (set_of (97 ∷ [])) ∷ Call 0 ∷ Seq 0 1 ∷ Call 0 ∷ Class (set_of (98 ∷ [])) ∷ Seq 3 4 ∷ [])

abbrev pub behind_endless : Place
behind_endless = Pending 4 0 None ∷ []

-- a stage's places are those that steps reach, and the rest of each: what follows a call that never
-- ends is a place that no walk reaches
pub record PlacesAreClosed : Type 0 where
  pub three : (p : Place) → IsPlace stars 1 p → IsAmong star_places p
  pub each : (p : Place) → IsAmong star_places p → IsPlace stars 1 p
  pub rest : IsPlace endless 5 behind_endless
  pub unreached : (ks : List (Step Place))
      → ¬ Walk (moves endless) (start_of endless 5) ks behind_endless

-- start: a >> b, a := (~/x/ "yy")*, b := (~/yyy/ "z")*; and the end of it with b := /y/
abbrev pub two_stages : Grammar
two_stages = grammar 0 (Class (set_of (120 ∷ [])) ∷ Mute 0 ∷ Lit (121 ∷ 121 ∷ []) ∷ Seq 1 2
    ∷ Rep 3 0 None false ∷ Class (set_of (121 ∷ [])) ∷ Class (set_of (121 ∷ []))
    ∷ Class (set_of (121 ∷ [])) ∷ Seq 6 7 ∷ Seq 5 8 ∷ Mute 9 ∷ Lit (122 ∷ []) ∷ Seq 10 11
    ∷ Rep 12 0 None false ∷ Class (set_of (121 ∷ [])) ∷ [])

-- on `xxq` stage 1 stops at byte 2, and stage 2 works off `yyyy` as open input; where stage 2 stops
-- too, it is the one that is reported
pub record LastStopIsReported : Type 0 where
  pub first_stops : StagesAnswer two_stages 99 (4 ∷ 13 ∷ []) (120 ∷ 120 ∷ 113 ∷ []) true (122 ∷ [])
      (Some (record { stage = 1; stop = record { at = 2; why = at_byte } }))
  pub both_stop : StagesAnswer two_stages 99 (4 ∷ 14 ∷ []) (120 ∷ 120 ∷ 113 ∷ []) true (121 ∷ [])
      (Some (record { stage = 2; stop = record { at = 1; why = at_byte } }))

-- main := ("x" | /a/)*
abbrev pub loops : Grammar
loops = grammar 0 (Lit (120 ∷ []) ∷ Class (set_of (97 ∷ [])) ∷ Alt 0 1 ∷ Rep 2 0 None false ∷ [])

abbrev pub empty_turn : Tree
empty_turn = turn (chose_left leaf) done

abbrev pub byte_turn : Tree
byte_turn = turn (chose_right (byte 97)) done

-- a turn that reads nothing comes back to where it began: it has a code and a meaning, and is no
-- parse; the parse of the empty text has no turn, and writes nothing; a turn that comes back after
-- a byte is taken
pub record EmptyTurnsAreNoParses : Type 0 where
  pub tree : Parses loops 3 empty_turn []
  pub code : code_at loops 3 empty_turn ≡ L ∷ L ∷ R ∷ []
  pub written : meant_bytes loops 3 empty_turn ≡ 120 ∷ []
  pub no_parse : IsParse loops 3 empty_turn [] → ⊥
  pub parse : IsParse loops 3 done []
  pub parse_code : code_at loops 3 done ≡ R ∷ []
  pub nothing : meant_bytes loops 3 done ≡ []
  pub after_byte : IsParse loops 3 byte_turn (97 ∷ [])
  pub after_byte_code : code_at loops 3 byte_turn ≡ L ∷ R ∷ Byte 97 ∷ R ∷ []
  pub after_byte_written : meant_bytes loops 3 byte_turn ≡ 97 ∷ []

-- main := /a*?/
abbrev pub lazy_stars : Grammar
lazy_stars = grammar 0 (Class (set_of (97 ∷ [])) ∷ Rep 0 0 None true ∷ [])

-- a lazy repetition has the end to its left, with the code L, and another turn to its right
pub record LazyPrefersTheEnd : Type 0 where
  pub first : moves lazy_stars (start_of lazy_stars 1)
      ≡ choose [] (Pending 0 0 None ∷ Pending 1 0 None ∷ [])
  pub none : code_at lazy_stars 1 done ≡ L ∷ []
  pub one : code_at lazy_stars 1 (turn (byte 97) done) ≡ R ∷ Byte 97 ∷ L ∷ []
  pub tree : Parses lazy_stars 1 (turn (byte 97) done) (97 ∷ [])

-- /a??/, /a{2}?/ and /a{1,2}?/, of one body
abbrev pub lazy_counts : Grammar
lazy_counts = grammar 0 (Class (set_of (97 ∷ [])) ∷ Rep 0 0 (Some 1) true ∷ Rep 0 2 (Some 2) true
    ∷ Rep 0 1 (Some 2) true ∷ [])

abbrev pub one_turn : Tree
one_turn = turn (byte 97) done

abbrev pub two_turns : Tree
two_turns = turn (byte 97) one_turn

-- a lazy repetition bears its marks where a greedy one does: none before a turn that is needed, and
-- none at the end where no turn is left; of `/a{1,2}?/` the shorter text is preferred
pub record LazyTurnsAreCounted : Type 0 where
  pub maybe_none : code_at lazy_counts 1 done ≡ L ∷ []
  pub maybe_one : code_at lazy_counts 1 one_turn ≡ R ∷ Byte 97 ∷ []
  pub maybe_tree : Parses lazy_counts 1 one_turn (97 ∷ [])
  pub exact : code_at lazy_counts 2 two_turns ≡ Byte 97 ∷ Byte 97 ∷ []
  pub exact_tree : Parses lazy_counts 2 two_turns (97 ∷ 97 ∷ [])
  pub needed : moves lazy_counts (start_of lazy_counts 3)
      ≡ go nothing (Pending 0 0 None ∷ Pending 3 0 (Some 1) ∷ [])
  pub wanted : moves lazy_counts (Pending 3 0 (Some 1) ∷ [])
      ≡ choose [] (Pending 0 0 None ∷ Pending 3 0 (Some 0) ∷ [])
  pub short : code_at lazy_counts 3 one_turn ≡ Byte 97 ∷ L ∷ []
  pub short_tree : Parses lazy_counts 3 one_turn (97 ∷ [])
  pub long : code_at lazy_counts 3 two_turns ≡ Byte 97 ∷ R ∷ Byte 97 ∷ []
  pub long_tree : Parses lazy_counts 3 two_turns (97 ∷ 97 ∷ [])

-- main := (/a*/)*
abbrev pub nested : Grammar
nested = grammar 0 (Class (set_of (97 ∷ [])) ∷ Rep 0 0 None false ∷ Rep 1 0 None false ∷ [])

-- a turn of the outer repetition without one of the inner, alone and after one with a byte
abbrev pub turn_of_none : Tree
turn_of_none = turn done done

abbrev pub turn_of_byte : Tree
turn_of_byte = turn one_turn done

abbrev pub turn_of_none_behind : Tree
turn_of_none_behind = turn one_turn turn_of_none

-- a path doesn't come back by the step of a choice, as where the inner repetition ends at once, nor
-- to the place that a byte led to
pub record ReturnsAreNoParses : Type 0 where
  pub chosen : Parses nested 2 turn_of_none []
  pub chosen_code : code_at nested 2 turn_of_none ≡ L ∷ R ∷ R ∷ []
  pub by_choice : IsParse nested 2 turn_of_none [] → ⊥
  pub behind : Parses nested 2 turn_of_none_behind (97 ∷ [])
  pub behind_code : code_at nested 2 turn_of_none_behind
      ≡ L ∷ L ∷ Byte 97 ∷ R ∷ L ∷ R ∷ R ∷ []
  pub to_byte : IsParse nested 2 turn_of_none_behind (97 ∷ []) → ⊥
  pub parse : IsParse nested 2 turn_of_byte (97 ∷ [])
  pub parse_code : code_at nested 2 turn_of_byte ≡ L ∷ L ∷ Byte 97 ∷ R ∷ R ∷ []
