use Rattle.std.proofs.Common.{◌≡◌, ◌<◌, ◌+◌, ◌∙◌, ℕ, suc, List, [], ◌∷◌, ap, arith, get_or, length, length-append, take, take-suc}
use Rattle.kex_code.specs.declared.symbol.Symbol.{Symbol}
use Rattle.kex_code.specs.declared.symbol.Symbol.TheVariants.{L}
use Rattle.kex_code.specs.Texts.{text_of}
use Rattle.kex_code.proofs.Texts.{text_of-append}
use Rattle.kex_single.proofs.player.size_on.Goals as goal

one_more : (s : List Symbol) (i : ℕ) (d : Symbol) → i < length s → length (text_of (take (i + 1) s)) ≡ length (text_of (take i s)) + length (text_of (get_or s i d ∷ []))
one_more s i d lt =
    ap (λ n. length (text_of (take n s))) (let e : i + 1 ≡ suc i = omega arith in e)
    ∙ ap (λ z. length (text_of z)) (take-suc s i d lt)
    ∙ ap (λ (z : List ℕ). length z) (text_of-append (take i s) (get_or s i d ∷ []))
    ∙ length-append (text_of (take i s)) (text_of (get_or s i d ∷ []))

pub loop-symbol-preserved : goal.loop-symbol-preserved
loop-symbol-preserved c =
    let s = c.args.symbols.now in
    let i = c.loop-symbol.symbol-index in
    let size : c.size_of.result ≡ length (text_of (get_or s i L ∷ [])) = c.size_of.ensures in
    omega (arith, c.loop-symbol.invariant, size, c.saturating_add-total.ensures, one_more s i L c.loop-symbol-test.true)
