use Rattle.std.proofs.Common.{◌≡◌, ◌∙◌, ◌<◌, Some, length, [], ◌∷◌, refl, sym, subst}
use Rattle.std.specs.Prelude.{IfSome, slice_get}
use Rattle.std.proofs.lemmas.Option.{slice_get_read}
use Rattle.kex_sst.specs.declared.parts.Part.TheVariants.{Old}
use Rattle.kex_held.specs.Tracks.{HeldList, GoesBy, StepsBy}
use Rattle.kex_held.proofs.TrackSteps.{steps_own, steps_old}
use Rattle.kex_held.proofs.track.step.Goals as goal

pub returns-in_default : goal.returns-in_default
returns-in_default c =
    let nodes = c.args.machine.now.nodes in
    let to = c.in-Some.to in
    record {
      within = subst (λ o. IfSome o (λ to. to < length nodes)) c.in-Some.is (c.in_ok-to.ensures {u = tt}).within;
      steps = steps_own nodes c.args.texts.now c.args.from to c.args.part c.args.links.now.items c.go_on.new.links.items (λ r e. c.in_default.not-Old r e) (subst (λ o. IfSome o (λ to. GoesBy nodes c.args.from (c.args.part ∷ []) to c.args.links.now.items c.go_on.new.links.items)) c.in-Some.is (c.in_ok-to.ensures {u = tt}).goes);
    }

pub returns-clause-steps : goal.returns-clause-steps
returns-clause-steps c =
    let nodes = c.args.machine.now.nodes in
    let at = c.in-Some-2.at in
    let g : GoesBy nodes c.args.from [] at c.args.links.now.items c.go_on-2.new.links.items = subst (λ o. IfSome o (λ to. GoesBy nodes c.args.from [] to c.args.links.now.items c.go_on-2.new.links.items)) c.in-Some-2.is (c.in_ok-at.ensures {u = tt}).goes in
    let lists = c.args.texts.now in
    let r = c.in-Old.register in
    let e : HeldList = c.index-texts-register.result in
    let is : slice_get lists r ≡ Some e = slice_get_read lists (length lists) r e refl c.if-register-texts.false c.index-texts-register.is in
    let after = c.push.new.self.items in
    let from : e.from ≡ at = sym c.from.ensures ∙ c.if-from-at.false in
    let steps : StepsBy nodes lists (Old r) c.args.from e.to c.args.links.now.items after = steps_old nodes lists c.args.from at r e c.args.links.now.items c.go_on-2.new.links.items after g is from (c.in_ok-push.ensures {u = tt}).items in
    subst (λ n. StepsBy nodes lists c.args.part c.args.from n c.args.links.now.items after) (sym c.to-to.ensures) (subst (λ p. StepsBy nodes lists p c.args.from e.to c.args.links.now.items after) (sym c.in-Old.is) steps)
