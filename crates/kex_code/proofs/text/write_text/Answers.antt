use Rattle.std.proofs.Common.{◌∷◌, ◌++◌, [], take, get_or, sym, ap, ◌∙◌, append_assoc}
use Rattle.std.proofs.lemmas.List.{take_more}
use Rattle.kex_code.specs.Texts.{text_of}
use Rattle.kex_code.specs.declared.symbol.Symbol.TheVariants.{L}
use Rattle.kex_code.proofs.Texts.{text_of-append}
use Rattle.std.specs.Prelude.{Result, Ok, Err, OnErr}
use Rattle.kex_code.proofs.text.write_text.Goals as goal

on_err : {T E P : Type 0} (r : Result T E) → P → OnErr r P
on_err (Ok x) p = tt
on_err (Err e) p = p

pub returns-in_err-write_symbol-clause-err : goal.returns-in_err-write_symbol-clause-err
returns-in_err-write_symbol-clause-err c = on_err c.from_residual.result (c.loop-symbol.symbol-index, (c.in_err-write_symbol.ensures {u = tt}).err ∙ c.loop-symbol.invariant)

pub loop-symbol-preserved : goal.loop-symbol-preserved
loop-symbol-preserved c =
    let front = take c.loop-symbol.symbol-index c.args.symbols.now in
    let x = get_or c.args.symbols.now c.loop-symbol.symbol-index L in
    (c.in_ok-write_symbol.ensures {u = tt}).ok ∙ ap (λ z. z ++ text_of (x ∷ [])) c.loop-symbol.invariant ∙ append_assoc c.args.out.now.items (text_of front) (text_of (x ∷ [])) ∙ ap (λ z. c.args.out.now.items ++ z) (sym (text_of-append front (x ∷ [])) ∙ ap text_of (sym (take_more c.args.symbols.now c.loop-symbol.symbol-index L c.loop-symbol-test.true)))
