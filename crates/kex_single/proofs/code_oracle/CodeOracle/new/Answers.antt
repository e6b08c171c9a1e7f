use Rattle.std.proofs.Common.{◌∙◌, subst, sym}
use Rattle.std.specs.Prelude.{IfSome}
use Rattle.kex_machine.specs.Nodes.{IsTrimmed}
use Rattle.kex_sst.specs.Machines.{IsTableOf}
use Rattle.kex_single.proofs.PathCodes.{begins_good}
use Rattle.kex_single.proofs.TableCodes.{none_read}
use Rattle.kex_single.proofs.code_oracle.CodeOracle.new.Goals as goal

pub returns-in_ok-new-in-None-clause-told : goal.returns-in_ok-new-in-None-clause-told
returns-in_ok-new-in-None-clause-told c =
    let n = c.in_ok-new-in-None in
    let is = n.ensures.machine ∙ c.basis.view_is in
    ((is, n.ensures.begins), begins_good n.field-0 c.args.basis is n.ensures.begins)

pub returns-in_ok-new-in-Some-clause-told : goal.returns-in_ok-new-in-Some-clause-told
returns-in_ok-new-in-Some-clause-told c =
    let n = c.in_ok-new-in-Some in
    let known = subst (λ g. IfSome c.basis.inside.table (λ t. IsTableOf g t.now)) c.basis.view_is c.basis.invariant in
    let given : IsTableOf c.args.basis c.in-Some.table.now = subst (λ o. IfSome o (λ t. IsTableOf c.args.basis t.now)) c.in-Some.is known in
    let of = subst (λ t. IsTableOf c.args.basis t) (sym n.ensures.table) given in
    ((subst IsTrimmed c.basis.view_is c.nodes-nodes.ensures.trimmed, of, n.ensures.stands), none_read c.args.basis n.field-0.runner.table of)
