use Rattle.std.proofs.Common.{◌≡◌, ◌+◌, ◌∷◌, ◌++◌, length, drop, sym, ap, ◌∙◌, length-append, arith}
use Rattle.std.specs.Prelude.{decimal}
use Rattle.std.proofs.lemmas.List.{length-drop}
use Rattle.kex_tabfile.proofs.ReaderSteps.{drop_on, drop_front}
use Rattle.kex_tabfile.proofs.reader.TableReader.number.Goals as goal

pub returns-then-skip-self-clause-number : goal.returns-then-skip-self-clause-number
returns-then-skip-self-clause-number c = λ front n next more long le e none.
    let is = ap length (ap (λ z. z.rest) c.self.view_is ∙ e) in
    absurd (omega (arith, is, length-drop c.self.inside.at c.self.inside.bytes.now, length-append front (decimal n ++ next ∷ more), long, c.if-skip-self.true))

pub returns-clause-number : goal.returns-clause-number
returns-clause-number c = λ front n next more long le e none.
    let bytes = c.self.inside.bytes.now in
    let there : drop (c.self.inside.at + c.args.skip) bytes ≡ decimal n ++ next ∷ more =
    drop_on c.self.inside.at c.args.skip bytes ∙ ap (drop c.args.skip) (ap (λ z. z.rest) c.self.view_is ∙ e) ∙ ap (λ k. drop k (front ++ (decimal n ++ next ∷ more))) (sym long) ∙ drop_front front (decimal n ++ next ∷ more) in
    c.number_at.ensures.number n next more le there none
