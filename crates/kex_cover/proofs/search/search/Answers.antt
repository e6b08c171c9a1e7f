use Rattle.std.proofs.Common.{◌≡◌, ℕ, List, [], ◌∷◌, inl, length, refl, sym, ap, subst, ◌∙◌, arith}
use Rattle.std.specs.Prelude.{MatchBool}
use Rattle.std.proofs.lemmas.List.{length-map}
use Rattle.kex_code.specs.Codes.{IsAmong}
use Rattle.kex_machine.specs.Nodes.{Graph}
use Rattle.kex_cover.specs.Pairs.{PlaceSets, HasMorePairs}
use Rattle.kex_cover.specs.Searches.{AllHold, ArePairs, GrowsPairs, IsDoneFor, SomeFails, RefusesPairs, all_pair_sets, met_sets, pair_sets, pairs_met}
use Rattle.kex_cover.proofs.MetPairs.{has_pairs}
use Rattle.kex_cover.proofs.PairNumbers.{different_sets}
use Rattle.kex_cover.proofs.PairSteps.{err_as, refuses_more, begun_among, all_bytes}
use Rattle.kex_cover.proofs.Starts.{first_entered, first_reached, second_reached, first_refused, are_pairs, decided, kept_first}
use Rattle.kex_cover.proofs.search.search.Goals as goal
use Rattle.kex_cover.proofs.search.search.Goals.{In_ok-follow_all}

pub returns-in_err-enter-clause-refused : goal.returns-in_err-enter-clause-refused
returns-in_err-enter-clause-refused c =
    let g = c.args.machine.now in
    let most = c.forget.new.self.most in
    let err = c.in_err-enter.field-0.0 in
    let more : RefusesPairs most (HasMorePairs g c.args.leaf c.args.before.now most) err =
    refuses_more most err (λ h. first_refused g c.args.leaf c.args.before.now c.requires.leaf c.requires.before (pair_sets (met_sets c.first_pair.new.sets) c.in_ok-pair.pair) c.in_ok-pair.ensures.first c.in_ok-pair.ensures.second most (let le = h.1 in let none = ap length c.forget.ensures.met in omega (arith, le, none))) c.in_err-enter.ensures.err in
    err_as _ c.from_residual-in_err-enter.result err c.from_residual-in_err-enter.ensures.1 (subst (λ m. RefusesPairs m (HasMorePairs g c.args.leaf c.args.before.now m) err) c.forget.ensures.most more)

pub follow_all-requires-clause-kept : goal.follow_all-requires-clause-kept
follow_all-requires-clause-kept c = kept_first c.args.machine.now c.first_pair.new.sets c.forget.new.self c.enter.new.self c.in_ok-pair.pair c.in_ok-pair.ensures.met c.forget.ensures.met c.in_ok-pair.ensures.numbered c.in_ok-enter.ensures.ok c.in_ok-enter.ensures.within c.enter.ensures.most

pub returns-in_err-follow_all-clause-refused : goal.returns-in_err-follow_all-clause-refused
returns-in_err-follow_all-clause-refused c =
    let g = c.args.machine.now in
    let leaf = c.args.leaf in
    let before = c.args.before.now in
    let sets = met_sets c.first_pair.new.sets in
    let start = pair_sets sets c.in_ok-pair.pair in
    let one : pairs_met c.first_pair.new.sets c.enter.new.self ≡ start ∷ [] = ap (all_pair_sets sets) (first_entered c.forget.new.self.met.keys c.enter.new.self.met.keys c.in_ok-pair.pair c.forget.ensures.met c.in_ok-enter.ensures.ok) in
    let pairs : ArePairs g leaf before (pairs_met c.first_pair.new.sets c.enter.new.self) = subst (λ z. ArePairs g leaf before z) (sym one) (are_pairs g leaf before c.requires.leaf c.requires.before start c.in_ok-pair.ensures.first c.in_ok-pair.ensures.second) in
    let most : c.enter.new.self.most ≡ c.args.pairs.now.most = c.enter.ensures.most ∙ c.forget.ensures.most in
    let err = c.in_err-follow_all.field-0.0 in
    let more : RefusesPairs c.enter.new.self.most (HasMorePairs g leaf before c.enter.new.self.most) err =
    refuses_more c.enter.new.self.most err (λ h. h leaf before pairs) c.in_err-follow_all.ensures.err in
    err_as _ c.from_residual-in_err-follow_all.result err c.from_residual-in_err-follow_all.ensures.1 (subst (λ m. RefusesPairs m (HasMorePairs g leaf before m) err) most more)

pub all_hold-requires-clause-met : goal.all_hold-requires-clause-met
all_hold-requires-clause-met c = c.in_ok-follow_all.ensures.kept.sets

pub all_hold-requires-clause-numbered : goal.all_hold-requires-clause-numbered
all_hold-requires-clause-numbered c = λ p i. c.in_ok-follow_all.ensures.kept.numbered p (subst (λ z. IsAmong z p) c.as_slice.ensures.keys i)

module _ (c : In_ok-follow_all) where
  abbrev g : Graph
  g = c.args.machine.now

  abbrev start : PlaceSets
  start = pair_sets (met_sets c.first_pair.new.sets) c.in_ok-pair.pair

  abbrev us : List PlaceSets
  us = pairs_met c.follow_all.new.sets c.follow_all.new.pairs

  one : pairs_met c.first_pair.new.sets c.enter.new.self ≡ start ∷ []
  one = ap (all_pair_sets (met_sets c.first_pair.new.sets)) (first_entered c.forget.new.self.met.keys c.enter.new.self.met.keys c.in_ok-pair.pair c.forget.ensures.met c.in_ok-enter.ensures.ok)

  grows : GrowsPairs g (start ∷ []) us
  grows = subst (λ z. GrowsPairs g z us) one c.in_ok-follow_all.ensures.grows

  found : ArePairs g c.args.leaf c.args.before.now us
  found = grows.real c.args.leaf c.args.before.now (are_pairs g c.args.leaf c.args.before.now c.requires.leaf c.requires.before start c.in_ok-pair.ensures.first c.in_ok-pair.ensures.second)

  begun : IsAmong us start
  begun = begun_among (start ∷ []) us start grows.begins (inl refl)

  closed : (u : PlaceSets) (b : ℕ) → IsAmong us u → IsDoneFor g us u b
  closed = all_bytes g c.first_pair.new.sets.bytes.items us c.in_ok-pair.ensures.met.bytes c.in_ok-follow_all.ensures.done

pub returns-clause-tells : goal.returns-clause-tells
returns-clause-tells c =
    let top = (goal.at.returns-clause-tells c).In_ok-follow_all in
    let sets = met_sets c.follow_all.new.sets in
    decided (g top) c.args.leaf c.args.before.now c.requires.leaf c.requires.before (start top) c.in_ok-pair.ensures.first c.in_ok-pair.ensures.second (us top) (begun top) (found top) (closed top) c.all_hold.result
    (subst (λ z. MatchBool c.all_hold.result (AllHold (g top) (all_pair_sets sets z)) (SomeFails (g top) (all_pair_sets sets z))) c.as_slice.ensures.keys c.all_hold.ensures)

pub returns-clause-count : goal.returns-clause-count
returns-clause-count c =
    let top = (goal.at.returns-clause-count c).In_ok-follow_all in
    let kept = c.in_ok-follow_all.ensures.kept in
    let keys = c.follow_all.new.pairs.met.keys in
    let sets = met_sets c.follow_all.new.sets in
    let long = length-map keys (pair_sets sets) in
    let most : c.follow_all.new.pairs.most ≡ c.args.pairs.now.most = c.follow_all.ensures.most ∙ c.enter.ensures.most ∙ c.forget.ensures.most in
    let within = kept.within in (
      length (us top),
      omega (arith, within, most, long),
      has_pairs (g top) c.args.leaf c.args.before.now (us top) (start top)
          (first_reached (g top) c.args.leaf c.args.before.now c.requires.leaf c.requires.before (start top) c.in_ok-pair.ensures.first c.in_ok-pair.ensures.second)
          (second_reached (g top) c.args.leaf c.args.before.now c.requires.leaf c.requires.before (start top) c.in_ok-pair.ensures.first c.in_ok-pair.ensures.second)
          (begun top) (closed top) (different_sets sets kept.sets.different keys kept.numbered kept.different) (found top),
    )
