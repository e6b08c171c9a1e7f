use Rattle.kex_stage.proofs.TableAnswers.{tables_answer}
use Rattle.kex_stage.proofs.laws.tables_answer.Goals as goal

pub returns : goal.returns
returns c = tables_answer
