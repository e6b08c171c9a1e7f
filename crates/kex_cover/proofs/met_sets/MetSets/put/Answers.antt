use Rattle.std.proofs.Common.{◌≡◌, None, length, replicate, refl, subst, ap, ◌∙◌, arith}
use Rattle.std.specs.Prelude.{MatchBool}
use Rattle.kex_code.specs.Codes.{IsAmong}
use Rattle.kex_determine.specs.Numbering.{texts}
use Rattle.kex_cover.specs.Searches.{HasEnd, met_sets}
use Rattle.kex_cover.proofs.SetNumbers.{added_new, added_old, sets_more, sets_same}
use Rattle.kex_cover.proofs.met_sets.MetSets.put.Goals as goal

pub returns-then-not-new-clause-met : goal.returns-then-not-new-clause-met
returns-then-not-new-clause-met c =
    let ts = met_sets c.args.self.now in
    sets_same c.args.machine.now c.args.self.now _ c.requires.met c.requires.met.rooms refl
    (added_old ts (texts c.number.new.lists.keys) c.args.set.items c.in_ok-at.ensures.added
    (subst (λ b. MatchBool b (IsAmong ts c.args.set.items → ⊥) (IsAmong ts c.args.set.items)) c.if-not-new.true c.in_ok-at.ensures.new))
    refl

pub returns-clause-met : goal.returns-clause-met
returns-clause-met c =
    let ts = met_sets c.args.self.now in
    let nowhere = subst (λ b. MatchBool b (IsAmong ts c.args.set.items → ⊥) (IsAmong ts c.args.set.items)) c.if-not-new.false c.in_ok-at.ensures.new in
    let long : c.len.result ≡ length c.args.self.now.bytes.items = omega (arith, c.len.ensures, c.args.self.now.bytes.ok.0) in
    sets_more c.args.machine.now c.args.self.now _ c.requires.met c.requires.met.rooms refl c.args.set.items (record { end = c.holds_end-end.result; ways = c.in_ok-ways.ways }) nowhere
    (added_new ts (texts c.number.new.lists.keys) c.args.set.items c.in_ok-at.ensures.added nowhere)
    c.requires.within c.in_ok-push.ensures.items
    (subst (λ z. MatchBool c.holds_end-end.result (HasEnd c.args.machine.now.nodes z) (HasEnd c.args.machine.now.nodes z → ⊥)) c.deref.ensures.value (subst (λ z. MatchBool c.holds_end-end.result (HasEnd z c.deref.result.now) (HasEnd z c.deref.result.now → ⊥)) c.nodes.ensures.same c.holds_end-end.ensures))
    (c.in_ok-ways.ensures ∙ ap (λ z. replicate z None) long)
