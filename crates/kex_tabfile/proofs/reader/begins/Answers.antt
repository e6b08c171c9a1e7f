use Rattle.std.proofs.Common.{◌≡◌, true, false, sym, ◌∙◌}
use Rattle.std.proofs.lemmas.Slice.Eq.{starts_is}
use Rattle.std.proofs.lemmas.Bool.Decides.{Decides-eqb}
use Rattle.kex_tabfile.proofs.reader.begins.Goals as goal

pub returns-clause-yes : goal.returns-clause-yes
returns-clause-yes c = λ e. (starts_is Decides-eqb c.args.bytes.now c.args.line.now c.starts_with.result c.starts_with.ensures.value).0 e

pub returns-clause-no : goal.returns-clause-no
returns-clause-no c = λ e h. let yes = (starts_is Decides-eqb c.args.bytes.now c.args.line.now c.starts_with.result c.starts_with.ensures.value).1 h.0 h.1 in let bad : true ≡ false = sym yes ∙ e in clash bad
  where
    clash : true ≡ false → ⊥
    clash e = cc
