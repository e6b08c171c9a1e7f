use Rattle.std.proofs.Common.{sym, ap, ◌∙◌}
use Rattle.kex_tabfile.proofs.ResultParts.{ok_as}
use Rattle.kex_tabfile.proofs.head.text_in.Goals as goal

pub returns-clause-text : goal.returns-clause-text
returns-clause-text c = ok_as c.take_head.result _ _ (λ text read. (c.take_head.new.reader.rest, sym (ap (λ z. z.rest) c.new-reader.ensures) ∙ read.came)) c.take_head.ensures.read
