-- Registers that are settled from the lists that updates give them.
use Rattle.std.proofs.Common.{◌≡◌, ℕ, ◌+◌, ◌<◌, List, [], ◌∷◌, ◌++◌, Some, length, get_or, map, take, drop, sym, ap, ap₂, ◌∙◌, append_assoc}
use Rattle.std.specs.Prelude.{slice_get}
use Rattle.std.proofs.lemmas.List.{drop_more, take_more, map_push, map-append}
use Rattle.std.proofs.lemmas.Option.{get_or_from_slice_get}
use Rattle.kex_code.specs.declared.symbol.Symbol.{Symbol}
use Rattle.kex_sst.specs.declared.parts.Part.{Part}
use Rattle.kex_sst.specs.Parts.{Change, parts_code, value}
use Rattle.kex_sst.specs.Series.{series_of, then_update}
use Rattle.kex_sst.proofs.Courses.{series_push, then_code, then_registers}
use Rattle.kex_script.specs.declared.piece.ByteWord.{ByteWord}
use Rattle.kex_script.specs.Pieces.{word_code}
use Rattle.kex_runner.specs.Noting.{next_registers, spelled_back}
use Rattle.kex_runner.proofs.Pieces.{spelled_back_more}

pub word_there : (words : List (List Part)) (n b : ℕ) (w : List Part) → slice_get words n ≡ Some w → word_code words (record { word = n; byte = b }) ≡ parts_code [] b w
word_there words n b w e = ap (λ z. parts_code [] b z) (get_or_from_slice_get words n w [] e)

-- a piece is read
pub piece_before : (words : List (List Part)) (ps : List ByteWord) (p : ByteWord) (code : List Symbol) → word_code words p ≡ code → spelled_back words (ps ++ p ∷ []) ≡ code ++ spelled_back words ps
piece_before words ps p code e = spelled_back_more words ps p ∙ ap (λ z. z ++ spelled_back words ps) e

-- a part is read
pub part_before : (regs : List (List Symbol)) (b : ℕ) (parts : List Part) (k : ℕ) (d : Part) (old new : List Symbol) → k < length parts → old ≡ parts_code regs b (drop (k + 1) parts) → new ≡ value regs b (get_or parts k d) ++ old → new ≡ parts_code regs b (drop k parts)
part_before regs b parts k d old new lt e f = f ∙ ap (λ z. value regs b (get_or parts k d) ++ z) e ∙ sym (ap (λ z. parts_code regs b z) (drop_more parts k d lt))

-- a list is read
pub list_behind : (f : List ByteWord → List Symbol) (g : List Part → List Symbol) (all : List (List ByteWord)) (s : List ByteWord) (lists : List (List Part)) (k : ℕ) (d : List Part) → k < length lists → map f all ≡ map g (take k lists) → f s ≡ g (get_or lists k d) → map f (all ++ s ∷ []) ≡ map g (take (k + 1) lists)
list_behind f g all s lists k d lt e h =
    map_push f all s
    ∙ ap₂ (λ y z. y ++ z ∷ []) e h
    ∙ sym (map-append g (take k lists) (get_or lists k d ∷ []))
    ∙ ap (λ z. map g z) (sym (take_more lists k d lt))

-- one update more of a series
module _ (base : List (List Symbol)) (first : Change) (more : List Change) (k : ℕ) (u d : Change) (lt : k < length more) (is : u ≡ get_or more k d) where
  more_updates : series_of first (take (k + 1) more) ≡ then_update (series_of first (take k more)) u
  more_updates = ap (λ z. series_of first z) (take_more more k d lt ∙ ap (λ z. take k more ++ z ∷ []) (sym is)) ∙ series_push first (take k more) u

  pub code_next : (before now after : List Symbol) (regs : List (List Symbol)) → now ≡ before ++ parts_code base 0 (series_of first (take k more)).out → regs ≡ next_registers (series_of first (take k more)) 0 base → after ≡ now ++ parts_code regs 0 u.out → after ≡ before ++ parts_code base 0 (series_of first (take (k + 1) more)).out
  code_next before now after regs e f g =
      let s = series_of first (take k more) in
      g
      ∙ ap₂ (λ y z. y ++ parts_code z 0 u.out) e f
      ∙ append_assoc before (parts_code base 0 s.out) (parts_code (next_registers s 0 base) 0 u.out)
      ∙ ap (λ z. before ++ z) (sym (then_code base s u) ∙ ap (λ (z : Change). parts_code base 0 z.out) (sym more_updates))

  pub registers_next : (regs new : List (List Symbol)) → regs ≡ next_registers (series_of first (take k more)) 0 base → new ≡ next_registers u 0 regs → new ≡ next_registers (series_of first (take (k + 1) more)) 0 base
  registers_next regs new f g =
      let s = series_of first (take k more) in
      g
      ∙ ap (λ z. next_registers u 0 z) f
      ∙ sym (then_registers base s u)
      ∙ ap (λ (z : Change). next_registers z 0 base) (sym more_updates)
