use Rattle.std.proofs.Common.{◌++◌, ◌∷◌, [], length, sym, ap, ap₂, subst, ◌∙◌, arith}
use Rattle.std.proofs.lemmas.List.{length-map}
use Rattle.kex_runner.specs.Noting.{settled_of, spelled_back, update_of, updates_of}
use Rattle.kex_runner.specs.Looking.{AreNoted, codes_of, if_some, weight_of}
use Rattle.kex_runner.proofs.LookUps.{noted_right}
use Rattle.kex_runner.proofs.history.History.look_up.Goals as goal
use Rattle.kex_runner.proofs.history.History.look_up.Goals.{In-Some}

pub loop-next-init : goal.loop-next-init
loop-next-init c =
    let s = c.args.self.now.script.now in
    let notes = updates_of s c.args.self.now.notes.now in
    let first = if_some c.args.first in
    record {
      text = ap (λ z. codes_of s (settled_of s c.args.self.now.base.now) notes (z ++ first) ++ spelled_back s.words c.args.reading.now.back.items) c.requires.none;
      noted = subst (λ z. AreNoted (length notes) (z ++ first)) (sym c.requires.none) (subst (λ z. AreNoted z first) (sym (length-map c.args.self.now.notes.now (λ n. update_of s n))) c.requires.noted);
      none = λ e. c.requires.none;
    }

-- all that are unread, the next on top
noted : (c : In-Some) → AreNoted (length (updates_of c.args.self.now.script.now c.args.self.now.notes.now)) (c.loop-next.reading.pending.items ++ c.in-Some.unread ∷ [])
noted c = subst (λ z. AreNoted (length (updates_of c.args.self.now.script.now c.args.self.now.notes.now)) (c.loop-next.reading.pending.items ++ if_some z)) c.in-Some.is c.loop-next.invariant.noted

pub read-requires : goal.read-requires
read-requires c =
    let s = c.args.self.now.script.now in
    let h = noted_right s (settled_of s c.args.self.now.base.now) (updates_of s c.args.self.now.notes.now) (length (updates_of s c.args.self.now.notes.now)) c.loop-next.reading.pending.items (c.in-Some.unread ∷ []) (noted (goal.at.read-requires c).In-Some) in
    omega (arith, h.0, length-map c.args.self.now.notes.now (λ n. update_of s n))

pub loop-next-smaller : goal.loop-next-smaller
loop-next-smaller c =
    let s = c.args.self.now.script.now in
    let same = ap (λ z. weight_of s (updates_of s c.args.self.now.notes.now) (c.loop-next.reading.pending.items ++ if_some z)) c.in-Some.is in
    omega (arith, c.in_ok-next.ensures.read.weight, same)

pub loop-next-preserved : goal.loop-next-preserved
loop-next-preserved c =
    let s = c.args.self.now.script.now in
    let base = settled_of s c.args.self.now.base.now in
    let notes = updates_of s c.args.self.now.notes.now in
    let h = c.in_ok-next.ensures.read in
    record {
      text = h.text ∙ ap (λ z. codes_of s base notes (c.loop-next.reading.pending.items ++ if_some z) ++ spelled_back s.words c.loop-next.reading.back.items) (sym c.in-Some.is) ∙ c.loop-next.invariant.text;
      noted = h.noted (noted (goal.at.loop-next-preserved c).In-Some);
      none = c.in_ok-next.ensures.none;
    }

pub returns : goal.returns
returns c =
    let s = c.args.self.now.script.now in
    let back = spelled_back s.words c.loop-next.reading.back.items in
    sym (ap₂ (λ y z. codes_of s (settled_of s c.args.self.now.base.now) (updates_of s c.args.self.now.notes.now) (y ++ if_some z) ++ back) (c.loop-next.invariant.none c.in_default.is) c.in_default.is) ∙ c.loop-next.invariant.text
