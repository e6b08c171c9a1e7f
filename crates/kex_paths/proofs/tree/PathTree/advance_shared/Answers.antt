use Rattle.std.proofs.Common.{◌≡◌, sym, subst}
use Rattle.std.specs.Prelude.{IfOk, IfSome}
use Rattle.kex_paths.specs.Nexts.{HasClass}
use Rattle.kex_paths.specs.Spellings.{IsTreeSound}
use Rattle.kex_paths.proofs.TaskSteps.{GoesOnBy, GoesOnFor, ShowsOver, goes_on_for, shows_for, if_ok_both}
use Rattle.kex_paths.proofs.tree.PathTree.advance_shared.Goals as goal

pub advance_shared-requires : goal.advance_shared-requires
advance_shared-requires c =
    subst (λ z. IsTreeSound z c.shape.result.now c.leaves.result.now) (sym c.requires)
    (subst (λ z. IsTreeSound c.args.self.now.machine z c.leaves.result.now) (sym c.shape.ensures.same)
    (subst (λ z. IsTreeSound c.args.self.now.machine c.args.self.now.shape z) (sym c.leaves.ensures) c.shape.ensures.sound))

pub returns-in-None-clause-next : goal.returns-in-None-clause-next
returns-in-None-clause-next c = λ s b is has. absurd (c.in-None.ensures b (subst (λ z. HasClass z c.args.class b) (sym c.requires) has))

pub returns-in-None-clause-shows : goal.returns-in-None-clause-shows
returns-in-None-clause-shows c = λ w x t b tree is has. absurd (c.in-None.ensures b (subst (λ z. HasClass z c.args.class b) (sym c.requires) has))

pub returns-in-Some-clause-next : goal.returns-in-Some-clause-next
returns-in-Some-clause-next c =
    let g = c.args.workspace.now in
    subst (λ z. IfOk c.advance_shared.result (GoesOnFor z c.args.self.now c.args.class)) c.requires
    (if_ok_both (λ r. IfSome r (λ n. n.0.machine ≡ g)) (GoesOnBy g c.shape.result.now c.leaves.result.now c.in-Some.byte) (GoesOnFor g c.args.self.now c.args.class) c.advance_shared.result
    (λ r same goes. goes_on_for g c.args.self.now c.args.class c.in-Some.byte c.shape.result.now c.leaves.result.now r c.in-Some.ensures c.shape.ensures.same c.leaves.ensures same goes)
    c.advance_shared.ensures.machine c.advance_shared.ensures.next)

pub returns-in-Some-clause-shows : goal.returns-in-Some-clause-shows
returns-in-Some-clause-shows c =
    let g = c.args.workspace.now in
    subst (λ z. IfOk c.advance_shared.result (ShowsOver z c.args.self.now c.args.class)) c.requires
    (if_ok_both (λ r. IfSome r (λ n. n.0.machine ≡ g)) (GoesOnBy g c.shape.result.now c.leaves.result.now c.in-Some.byte) (ShowsOver g c.args.self.now c.args.class) c.advance_shared.result
    (λ r same goes. shows_for g c.advance_shared.ensures.trimmed c.args.self.now c.args.class r same (goes_on_for g c.args.self.now c.args.class c.in-Some.byte c.shape.result.now c.leaves.result.now r c.in-Some.ensures c.shape.ensures.same c.leaves.ensures same goes))
    c.advance_shared.ensures.machine c.advance_shared.ensures.next)
