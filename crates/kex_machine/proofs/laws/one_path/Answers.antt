use Rattle.std.proofs.Common.{sym, ap, ◌∙◌}
use Rattle.kex_code.specs.Codes.{bytes_of}
use Rattle.kex_model.specs.Moves.{code_of}
use Rattle.kex_model.proofs.Walks.{one_walk, bytes_of-append, nothing_after}
use Rattle.kex_machine.specs.Nodes.{node_moves}
use Rattle.kex_machine.proofs.laws.one_path.Goals as goal

pub returns : goal.returns
returns c = λ g w p q js ks hj hk more.
    one_walk (node_moves g.nodes) js ks g.start p q more.0 hj.walk hk.walk hj.waits hk.waits more.1
    (nothing_after (bytes_of (code_of js)) (bytes_of more.0) (sym (bytes_of-append (code_of js) more.0) ∙ ap bytes_of (sym more.1) ∙ hk.reads ∙ sym hj.reads))
