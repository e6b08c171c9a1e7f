-- The lines before a text, as they are read.
use Rattle.std.proofs.Common.{◌≡◌, ℕ, ◌≤◌, List, ◌++◌, Option, Some, length, drop, refl, sym, ap, ◌∙◌, append_assoc, length-append, arith}
use Rattle.std.specs.Prelude.{codes, decimal}
use Rattle.kex_code.specs.Codes.{Begins}
use Rattle.kex_tabfile.specs.Lines.{name_line, size_line, head_text}
use Rattle.kex_tabfile.specs.Readers.{most_bytes}
use Rattle.kex_tabfile.proofs.ReaderSteps.{drop_front}
use Rattle.kex_tabfile.proofs.StateLines.{FindsNumber, feed}

-- after the name a text's other lines come
pub head_rest : (file rest text : List ℕ) → file ≡ name_line ++ rest → Begins file (head_text text) → Begins rest (size_line (length text) ++ (text ++ codes "\n"))
head_rest file rest text e (more, f) =
    let tail = size_line (length text) ++ (text ++ codes "\n") in
    (more, sym (drop_front name_line rest) ∙ ap (drop (length name_line)) (sym e ∙ f ∙ append_assoc name_line tail more) ∙ drop_front name_line (tail ++ more))

-- the size of the text is found
pub size_found : (rest text : List ℕ) (found : Option ℕ) → FindsNumber rest 5 most_bytes found → length rest ≤ most_bytes → Begins rest (size_line (length text) ++ (text ++ codes "\n")) → found ≡ Some (length text)
size_found rest text found finds le (more, e) =
    let n = length text in
    let behind = (text ++ codes "\n") ++ more in
    let whole : rest ≡ size_line n ++ behind = e ∙ append_assoc (size_line n) (text ++ codes "\n") more in
    let fits : n ≤ most_bytes = omega (arith, le, ap length whole, length-append (size_line n) behind, length-append (text ++ codes "\n") more, length-append text (codes "\n")) in
    finds (codes "text ") n 10 behind refl fits (whole ∙ append_assoc (codes "text ") (decimal n ++ codes "\n") behind ∙ ap (λ z. codes "text " ++ z) (append_assoc (decimal n) (codes "\n") behind)) feed
