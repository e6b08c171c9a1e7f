use Rattle.std.proofs.Common.{◌≡◌, ◌∷◌, ◌++◌, [], Some, None, sym, subst}
use Rattle.kex_tabfile.specs.Checking.{AreTargets}
use Rattle.kex_tabfile.proofs.TargetTrees.{IsLookup, lookup_is, meet_known, meet_other, meet_new, insert_new}
use Rattle.kex_tabfile.proofs.targets.Targets.meet.Goals as goal

pub returns-in-Some-clause-yes : goal.returns-in-Some-clause-yes
returns-in-Some-clause-yes c = λ e g targets s h m shape.
    let l = subst (λ z. IsLookup c.args.state z (Some c.in-Some.known.now)) c.self.view_is (lookup_is c.args.state c.self.inside.trees.entries (Some c.in-Some.known.now) c.in-Some.ensures.value) in
    let same = c.are_same_trees.ensures.same e in
    meet_known g c.args.self.now targets h c.args.state c.args.tree m s shape c.in-Some.known.now l same.0 same.1

pub returns-in-Some-clause-no : goal.returns-in-Some-clause-no
returns-in-Some-clause-no c = λ e g targets after s h m shape meets.
    let l = subst (λ z. IsLookup c.args.state z (Some c.in-Some.known.now)) c.self.view_is (lookup_is c.args.state c.self.inside.trees.entries (Some c.in-Some.known.now) c.in-Some.ensures.value) in
    meet_other g c.args.self.now targets h c.args.state c.args.tree m s shape c.in-Some.known.now l (c.are_same_trees.ensures.other e) after meets

pub returns-in_ok-insert-in-None-clause-yes : goal.returns-in_ok-insert-in-None-clause-yes
returns-in_ok-insert-in-None-clause-yes c = λ e g targets s h m shape.
    let l = subst (λ z. IsLookup c.args.state z None) c.self.view_is (lookup_is c.args.state c.self.inside.trees.entries None c.in-None.ensures.value) in
    let r = meet_new g c.args.self.now targets h c.args.state c.args.tree m s shape l in
    let new = insert_new c.args.state c.args.self.now c.args.tree l in
    let view = c.self.view_is in
    let put = c.in_ok-insert-in-None.ensures.entries in
    let is : c.insert.new.self.entries ≡ c.args.self.now ++ (c.args.state, c.args.tree) ∷ [] = cc in
    (r.0, subst (λ z. AreTargets g z r.0) (sym is) r.1, r.2)
