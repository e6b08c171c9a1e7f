-- What pieces spell.
use Rattle.std.proofs.Common.{◌≡◌, ℕ, ◌+◌, ◌<◌, List, [], ◌∷◌, ◌++◌, length, get_or, take, reverse, refl, sym, ap, ◌∙◌, append_assoc, append-nil}
use Rattle.std.proofs.lemmas.List.{take_more, reverse-append}
use Rattle.kex_code.specs.declared.symbol.Symbol.{Symbol}
use Rattle.kex_sst.specs.declared.parts.Part.{Part}
use Rattle.kex_script.specs.declared.piece.ByteWord.{ByteWord}
use Rattle.kex_script.specs.Pieces.{code_over, word_code}
use Rattle.kex_runner.specs.Noting.{spelled_back}

module _ (words : List (List Part)) where
  pub spelled-append : (xs ys : List ByteWord) → code_over words (xs ++ ys) ≡ code_over words xs ++ code_over words ys
  spelled-append [] ys = refl
  spelled-append (x ∷ xs) ys = ap (λ z. word_code words x ++ z) (spelled-append xs ys) ∙ sym (append_assoc (word_code words x) (code_over words xs) (code_over words ys))

  pub spelled_more : (ps : List ByteWord) (i : ℕ) (d : ByteWord) (before now : List Symbol) → i < length ps → now ≡ before ++ code_over words (take i ps) → now ++ word_code words (get_or ps i d) ≡ before ++ code_over words (take (i + 1) ps)
  spelled_more ps i d before now lt e =
      let p : ByteWord = get_or ps i d in
      ap (λ z. z ++ word_code words p) e ∙ append_assoc before (code_over words (take i ps)) (word_code words p)
      ∙ ap (λ z. before ++ z) (ap (λ z. code_over words (take i ps) ++ z) (sym (append-nil (word_code words p))) ∙ sym (spelled-append (take i ps) (p ∷ [])) ∙ ap (λ z. code_over words z) (sym (take_more ps i d lt)))

  pub spelled_back-append : (xs ys : List ByteWord) → spelled_back words (xs ++ ys) ≡ spelled_back words ys ++ spelled_back words xs
  spelled_back-append xs ys = ap (λ z. code_over words z) (reverse-append xs ys) ∙ spelled-append (reverse ys) (reverse xs)

  pub spelled_back_more : (xs : List ByteWord) (p : ByteWord) → spelled_back words (xs ++ p ∷ []) ≡ word_code words p ++ spelled_back words xs
  spelled_back_more xs p = spelled_back-append xs (p ∷ []) ∙ ap (λ z. z ++ spelled_back words xs) (append-nil (word_code words p))
