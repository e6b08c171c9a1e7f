use Rattle.std.proofs.Common.{refl}
use Rattle.kex_code.specs.declared.reader.Begun.TheVariants.{Nothing}
use Rattle.kex_code.proofs.Texts.{is_begun}
use Rattle.kex_code.proofs.reader.CodeReader.new.Goals as goal

pub returns-clause-begins : goal.returns-clause-begins
returns-clause-begins c = record { spells = record { text = refl; code = tt; front = is_begun Nothing tt }; all = λ _. refl; none = λ e. cc }
