-- What byte words spell, over a list of words.
use Rattle.std.specs.Prelude.{List, [], ◌∷◌, ◌++◌, get_or}
use Rattle.kex_code.specs.declared.symbol.Symbol.{Symbol}
use Rattle.kex_sst.specs.declared.parts.Part.{Part}
use Rattle.kex_sst.specs.Parts.{parts_code}
use Rattle.kex_script.specs.declared.piece.ByteWord.{ByteWord}

-- the symbols of the piece's word, with its byte where one is read; a word holds no register
abbrev pub word_code : List (List Part) → ByteWord → List Symbol
word_code words p = parts_code [] p.byte (get_or words p.word [])

-- the symbols of the pieces, joined
abbrev pub code_over : List (List Part) → List ByteWord → List Symbol
code_over words [] = []
code_over words (p ∷ ps) = word_code words p ++ code_over words ps
