use Rattle.std.proofs.Common.{◌<◌, [], subst, length, get_or}
use Rattle.std.proofs.lemmas.List.{take_all}
use Rattle.std.specs.Prelude.{IfSome}
use Rattle.kex_code.specs.declared.symbol.Symbol.TheVariants.{L}
use Rattle.kex_sst.specs.declared.parts.Part.TheVariants.{Put}
use Rattle.kex_held.specs.Tracks.{GoesBy, StepsBy, TracksAny}
use Rattle.kex_held.proofs.TrackSteps.{any_step, any_end}
use Rattle.kex_held.proofs.track.track.Goals as goal

pub parts-preserved : goal.parts-preserved
parts-preserved c =
    let nodes = c.args.machine.now.nodes in
    let lists = c.args.texts.now in
    let parts = c.args.parts.now in
    let i = c.parts.part-index in
    let at = c.parts.at in
    let before = c.parts.links.items in
    let after = c.step.new.links.items in
    let steps = subst (λ o. IfSome o (λ to. StepsBy nodes lists (get_or parts i (Put L)) at to before after)) c.in-Some.is (c.in_ok-to.ensures {u = tt}).steps in
    record {
      node = subst (λ o. IfSome o (λ to. to < length nodes)) c.in-Some.is (c.in_ok-to.ensures {u = tt}).within;
      tracks = any_step nodes lists c.args.from at c.in-Some.to parts i (Put L) before after c.parts-test.true c.parts.invariant.tracks steps;
    }

pub returns-clause-tracks : goal.returns-clause-tracks
returns-clause-tracks c =
    let nodes = c.args.machine.now.nodes in
    let lists = c.args.texts.now in
    let parts = c.args.parts.now in
    let at = c.parts.at in
    let before = c.parts.links.items in
    let after = c.go_on.new.links.items in
    let goes = subst (λ o. IfSome o (λ to. GoesBy nodes at [] to before after)) c.in-Some-2.is (c.in_ok-to-2.ensures {u = tt}).goes in
    let all : TracksAny nodes lists parts c.args.from at before = subst (λ l. TracksAny nodes lists l c.args.from at before) (take_all c.parts.part-index parts c.parts-test.false) c.parts.invariant.tracks in
    any_end nodes lists c.args.from at c.in-Some-2.to parts before after all goes
