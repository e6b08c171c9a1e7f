use Rattle.std.proofs.Common.{◌≡◌, ℕ, [], Some, get_or, sym, ap, subst, ◌∙◌}
use Rattle.std.specs.Prelude.{IfSome, MatchOption, option_copied, slice_get}
use Rattle.kex_cover.specs.Pairs.{ArePlacesAfter}
use Rattle.kex_cover.specs.Searches.{ArePairsKept, GrowsPairs, HasNumbers, IsNextPair, met_sets, pair_sets, pairs_met}
use Rattle.kex_cover.proofs.NextPairs.{byte_at}
use Rattle.kex_cover.proofs.PairSteps.{done_empty, done_now, get_among, grows_now, grows_same, kept_now, more_now, on_both, on_one, refuses}
use Rattle.kex_cover.proofs.search.follow_class.Goals as goal
use Rattle.kex_cover.proofs.search.follow_class.Goals.{In-Some}

pub next_pair-requires-clause-pair : goal.next_pair-requires-clause-pair
next_pair-requires-clause-pair c =
    let keys = c.args.pairs.now.met.keys in
    let q = c.unwrap-pair.result.now in
    let here : slice_get keys c.args.at ≡ Some q = sym c.get_index.ensures.key ∙ ap option_copied c.unwrap-pair.ensures in
    c.requires.kept.numbered q (get_among keys c.args.at q here)

pub returns-in-None-clause-grows : goal.returns-in-None-clause-grows
returns-in-None-clause-grows c = grows_same c.args.machine.now c.args.sets.now c.next_pair.new.sets c.args.pairs.now c.requires.kept c.in_ok-next.ensures.met c.in_ok-next.ensures.grows

pub returns-in-None-clause-done : goal.returns-in-None-clause-done
returns-in-None-clause-done c =
    let g = c.args.machine.now in
    let s = c.args.sets.now in
    let q = c.unwrap-pair.result.now in
    let here : slice_get c.args.pairs.now.met.keys c.args.at ≡ Some q = sym c.get_index.ensures.key ∙ ap option_copied c.unwrap-pair.ensures in
    λ u b e byte. done_empty g s c.args.pairs.now (pairs_met c.next_pair.new.sets c.args.pairs.now) c.args.at b q here
    (subst (λ z. MatchOption z (ArePlacesAfter g (pair_sets (met_sets s) q).first b []) (λ next. IsNextPair g (pair_sets (met_sets s) q) b (pair_sets (met_sets c.next_pair.new.sets) next))) c.in-None.is (c.in_ok-next.ensures.next b byte)) u e

module _ (c : In-Some) where
  here : slice_get c.args.pairs.now.met.keys c.args.at ≡ Some c.unwrap-pair.result.now
  here = sym c.get_index.ensures.key ∙ ap option_copied c.unwrap-pair.ensures

  numbered : HasNumbers (met_sets c.next_pair.new.sets) c.in-Some.next
  numbered = subst (λ z. IfSome z (HasNumbers (met_sets c.next_pair.new.sets))) c.in-Some.is c.in_ok-next.ensures.numbered

  next : (b : ℕ) → slice_get c.args.sets.now.bytes.items c.args.class ≡ Some b → IsNextPair c.args.machine.now (pair_sets (met_sets c.args.sets.now) c.unwrap-pair.result.now) b (pair_sets (met_sets c.next_pair.new.sets) c.in-Some.next)
  next b byte = subst (λ z. MatchOption z (ArePlacesAfter c.args.machine.now (pair_sets (met_sets c.args.sets.now) c.unwrap-pair.result.now).first b []) (λ next. IsNextPair c.args.machine.now (pair_sets (met_sets c.args.sets.now) c.unwrap-pair.result.now) b (pair_sets (met_sets c.next_pair.new.sets) next))) c.in-Some.is (c.in_ok-next.ensures.next b byte)

  abbrev byte : ℕ
  byte = get_or c.args.sets.now.bytes.items c.args.class 0

  now : IsNextPair c.args.machine.now (pair_sets (met_sets c.args.sets.now) c.unwrap-pair.result.now) byte (pair_sets (met_sets c.next_pair.new.sets) c.in-Some.next)
  now = next byte (byte_at c.args.sets.now.bytes.items c.args.class c.requires.class)

pub returns-in-Some-clause-kept : goal.returns-in-Some-clause-kept
returns-in-Some-clause-kept c =
    let top = (goal.at.returns-in-Some-clause-kept c).In-Some in
    on_both (ArePairsKept c.args.machine.now c.next_pair.new.sets c.enter.new.self) c.enter.result
    (λ ok within. kept_now c.args.machine.now c.args.sets.now c.next_pair.new.sets c.args.pairs.now c.enter.new.self c.args.at (byte top) c.unwrap-pair.result.now c.in-Some.next c.requires.kept c.in_ok-next.ensures.met c.in_ok-next.ensures.grows (here top) (numbered top) (now top) ok within c.enter.ensures.most)
    c.enter.ensures.ok c.enter.ensures.within

pub returns-in-Some-clause-grows : goal.returns-in-Some-clause-grows
returns-in-Some-clause-grows c =
    let top = (goal.at.returns-in-Some-clause-grows c).In-Some in
    on_one (GrowsPairs c.args.machine.now (pairs_met c.args.sets.now c.args.pairs.now) (pairs_met c.next_pair.new.sets c.enter.new.self)) c.enter.result
    (λ ok. grows_now c.args.machine.now c.args.sets.now c.next_pair.new.sets c.args.pairs.now c.enter.new.self c.args.at (byte top) c.unwrap-pair.result.now c.in-Some.next c.requires.kept c.in_ok-next.ensures.met c.in_ok-next.ensures.grows (here top) (numbered top) (now top) ok)
    c.enter.ensures.ok

pub returns-in-Some-clause-done : goal.returns-in-Some-clause-done
returns-in-Some-clause-done c =
    let top = (goal.at.returns-in-Some-clause-done c).In-Some in
    on_one _ c.enter.result
    (λ ok. λ u b e f. done_now c.args.machine.now c.args.sets.now c.next_pair.new.sets c.args.pairs.now c.enter.new.self c.args.at b c.unwrap-pair.result.now c.in-Some.next c.requires.kept c.in_ok-next.ensures.met c.in_ok-next.ensures.grows (here top) (numbered top) (next top b f) ok u e)
    c.enter.ensures.ok

pub returns-in-Some-clause-err : goal.returns-in-Some-clause-err
returns-in-Some-clause-err c =
    let top = (goal.at.returns-in-Some-clause-err c).In-Some in
    refuses c.args.pairs.now.most c.enter.result
    (more_now c.args.machine.now c.args.sets.now c.next_pair.new.sets c.args.pairs.now c.enter.new.self c.args.at (byte top) c.unwrap-pair.result.now c.in-Some.next c.requires.kept c.in_ok-next.ensures.met c.in_ok-next.ensures.grows (here top) (numbered top) (now top))
    c.enter.ensures.err
