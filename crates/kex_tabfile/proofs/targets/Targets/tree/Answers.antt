use Rattle.std.proofs.Common.{Some, None, sym, ap, subst, ◌∙◌}
use Rattle.std.specs.Prelude.{option_copied}
use Rattle.kex_tabfile.proofs.ResultParts.{if_some, if_none}
use Rattle.kex_tabfile.proofs.TargetTrees.{IsLookup, lookup_is, found_target, no_target}
use Rattle.kex_tabfile.proofs.targets.Targets.tree.Goals as goal

pub returns-clause-some : goal.returns-clause-some
returns-clause-some c = if_some c.get.result _ (λ x e g targets h.
    let l = subst (λ z. IsLookup c.args.state z (Some x.now)) c.self.view_is (lookup_is c.args.state c.self.inside.trees.entries (Some x.now) (sym (ap option_copied e) ∙ c.get.ensures.value)) in
    found_target g c.args.state c.args.self.now x.now targets l h.trees)

pub returns-clause-none : goal.returns-clause-none
returns-clause-none c = if_none c.get.result _ (λ e g targets s h i.
    let l = subst (λ z. IsLookup c.args.state z None) c.self.view_is (lookup_is c.args.state c.self.inside.trees.entries None (sym (ap option_copied e) ∙ c.get.ensures.value)) in
    no_target g c.args.state c.args.self.now targets l h.trees s i)
