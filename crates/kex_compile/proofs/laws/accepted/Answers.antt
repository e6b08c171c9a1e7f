use Rattle.kex_compile.proofs.Alike.{alike}
use Rattle.kex_compile.proofs.OneCause as refusing
use Rattle.kex_compile.proofs.laws.accepted.Goals as goal

pub returns : goal.returns
returns c = λ limits text. refusing.accepted limits text (alike c.one_cut.ensures.tokens c.one_tree-2.ensures.tree c.one_tree.ensures.tree c.one_value.ensures text) (c.one_refusal.ensures.either text)
