-- How the lines of a table file are spelled.
use Rattle.std.specs.Prelude.{ℕ, suc, List, [], ◌∷◌, ◌++◌, codes, decimal, get_or, length, count_by}
use Rattle.std.specs.Prelude.{◌==◌}
use Rattle.kex_code.specs.declared.symbol.Symbol.TheVariants.{L, R, Byte}
use Rattle.kex_model.specs.Labelled.{Shape, place, parts}
use Rattle.kex_sst.specs.declared.parts.Part.{Part}
use Rattle.kex_sst.specs.declared.parts.Part.TheVariants.{Put, Old, Input}
use Rattle.kex_sst.specs.Parts.{Change}
use Rattle.kex_tokens.specs.Bytes.{line_feed}

-- ---- the parts of lines

-- a place by its number; an inner node as the two trees below it
abbrev pub tree_text : List ℕ → Shape ℕ → List ℕ
tree_text numbers (place p) = decimal (get_or numbers p 0)
tree_text numbers (parts l r) = codes "(" ++ (tree_text numbers l ++ (codes ","
    ++ (tree_text numbers r ++ codes ")")))

-- a side, the byte that is read, or an old register; no update gives a byte of its own
abbrev pub part_text : Part → List ℕ
part_text (Put L) = codes "0"
part_text (Put R) = codes "1"
part_text (Put (Byte b)) = []
part_text (Old i) = codes "$" ++ (decimal (suc i) ++ codes ";")
part_text Input = codes "."

abbrev pub parts_text : List Part → List ℕ
parts_text [] = []
parts_text (x ∷ xs) = part_text x ++ parts_text xs

abbrev pub registers_text : List (List Part) → List ℕ
registers_text [] = []
registers_text (xs ∷ rest) = codes "," ++ (parts_text xs ++ registers_text rest)

-- what is passed on, and after a comma what each register is given
abbrev pub update_text : Change → List ℕ
update_text u = parts_text u.out ++ registers_text u.regs

-- ---- whole lines

abbrev pub name_line : List ℕ
name_line = codes "kextable 1\n"

abbrev pub size_line : ℕ → List ℕ
size_line n = codes "text " ++ (decimal n ++ codes "\n")

-- the lines of a text: that of its size, and its own
abbrev pub head_text : List ℕ → List ℕ
head_text text = name_line ++ (size_line (length text) ++ (text ++ codes "\n"))

-- a stage's line, up to the number of its states
abbrev pub stage_front : ℕ → ℕ → List ℕ
stage_front stage classes = codes "stage " ++ (decimal stage ++ (codes " classes "
    ++ (decimal classes ++ codes " states ")))

abbrev pub stage_line : ℕ → ℕ → ℕ → List ℕ
stage_line stage classes states = stage_front stage classes ++ (decimal states ++ codes "\n")

abbrev pub state_line : List ℕ → ℕ → Shape ℕ → List ℕ
state_line numbers state tree = codes "state " ++ (decimal state ++ (codes " "
    ++ (tree_text numbers tree ++ codes "\n")))

abbrev pub init_line : Change → List ℕ
init_line u = codes "init " ++ (update_text u ++ codes "\n")

-- a line by which a state goes on, up to the target
abbrev pub go_front : ℕ → ℕ → List ℕ
go_front state class = codes "go " ++ (decimal state ++ (codes " " ++ (decimal class ++ codes " ")))

abbrev pub go_rest : ℕ → Change → List ℕ
go_rest target u = decimal target ++ (codes " " ++ (update_text u ++ codes "\n"))

abbrev pub go_line : ℕ → ℕ → ℕ → Change → List ℕ
go_line state class target u = go_front state class ++ go_rest target u

abbrev pub end_line : List ℕ
end_line = codes "end\n"

-- the number of the line that begins after these bytes
abbrev pub line_behind : List ℕ → ℕ
line_behind before = suc (count_by (λ b. b == line_feed) before)
