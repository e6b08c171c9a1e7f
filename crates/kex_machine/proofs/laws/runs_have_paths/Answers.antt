use Rattle.std.proofs.Common.{refl, sym, subst, ◌∙◌}
use Rattle.std.proofs.lemmas.Bool.{cases_eq}
use Rattle.kex_model.specs.Moves.{code_of, IsWaiting}
use Rattle.kex_model.proofs.LeftBehind.{shorten}
use Rattle.kex_machine.specs.Nodes.{node_moves}
use Rattle.kex_machine.proofs.laws.runs_have_paths.Goals as goal

pub returns : goal.returns
returns c = λ g w (ks, (e, walk, acc), q).
    let s = shorten cases_eq (node_moves g.nodes) ks g.start e walk in
    (e, code_of s.steps, acc, (s.steps, record { walk = s.walk; waits = subst (λ z. IsWaiting z) (sym acc) tt; once = s.once; reads = s.reads ∙ q }, refl))
