use Rattle.std.proofs.Common.{ap, ◌∙◌, arith}
use Rattle.std.specs.Prelude.{length}
use Rattle.std.proofs.lemmas.List.{length-drop}
use Rattle.std.proofs.lemmas.Bool.{eqb-false}
use Rattle.kex_tabfile.proofs.reader.TableReader.is_at_end.Goals as goal

pub returns-clause-no : goal.returns-clause-no
returns-clause-no c = λ differs e.
    let long = ap length (ap (λ z. z.rest) c.self.view_is ∙ e) in
    eqb-false c.self.inside.at (length c.self.inside.bytes.now) differs (omega (arith, length-drop c.self.inside.at c.self.inside.bytes.now, long, c.self.invariant.0))
