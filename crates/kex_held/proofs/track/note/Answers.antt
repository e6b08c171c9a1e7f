use Rattle.std.proofs.Common.{◌++◌, ◌∷◌, [], ◌∙◌, ap, sym, take, get_or, append_assoc}
use Rattle.kex_action.specs.declared.action.Action.TheVariants.{Byte}
use Rattle.kex_held.specs.declared.link.Link.TheVariants.{Own}
use Rattle.kex_held.specs.Tracks.{own_all}
use Rattle.kex_held.proofs.TrackSteps.{own-take}
use Rattle.kex_held.proofs.track.note.Goals as goal

pub actions-preserved : goal.actions-preserved
actions-preserved c =
    let all = c.args.actions.now in
    let i = c.actions.action-index in
    let before = c.args.links.now.items in
    record {
      links = c.in_ok-push.ensures.items ∙ ap (λ l. l ++ Own (get_or all i Byte) ∷ []) c.actions.invariant.links ∙ append_assoc before (own_all (take i all)) (Own (get_or all i Byte) ∷ []) ∙ ap (λ l. before ++ l) (sym (own-take all i Byte c.actions-test.true));
    }
