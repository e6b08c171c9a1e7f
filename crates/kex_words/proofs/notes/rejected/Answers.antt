use Rattle.kex_words.proofs.notes.rejected.Goals as goal

pub returns-clause-tells : goal.returns-clause-tells
returns-clause-tells g c = rw (← c.end_of.ensures) c.write_parts.ensures.tells
