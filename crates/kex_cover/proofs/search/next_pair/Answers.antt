use Rattle.std.proofs.Common.{◌≡◌, ℕ, [], Some, get_or, refl, ap, ◌∙◌}
use Rattle.std.specs.Prelude.{slice_get}
use Rattle.kex_cover.specs.Searches.{IsWayTo, met_sets}
use Rattle.kex_cover.proofs.NextPairs.{byte_at, none_next, number_on, some_next, way_within}
use Rattle.kex_cover.proofs.PairNumbers.{set_there}
use Rattle.kex_cover.proofs.SetNumbers.{get_on}
use Rattle.kex_cover.proofs.search.next_pair.Goals as goal
use Rattle.kex_cover.proofs.search.next_pair.Goals.{In_ok-first, In_ok-second}

-- where the first part leads
way : (c : In_ok-first) (b : ℕ) → slice_get c.args.sets.now.bytes.items c.args.class ≡ Some b → IsWayTo c.args.machine.now (met_sets c.after.new.self) (get_or (met_sets c.args.sets.now) c.args.pair.first []) b c.in_ok-first.first
way c b byte = c.in_ok-first.ensures.after (get_or (met_sets c.args.sets.now) c.args.pair.first []) b (set_there (met_sets c.args.sets.now) c.args.pair.first c.requires.pair.0) byte

-- and the second
other : (c : In_ok-second) (b : ℕ) → slice_get c.args.sets.now.bytes.items c.args.class ≡ Some b → IsWayTo c.args.machine.now (met_sets c.after-2.new.self) (get_or (met_sets c.args.sets.now) c.args.pair.second []) b c.in_ok-second.second
other c b byte =
    let x = get_or (met_sets c.args.sets.now) c.args.pair.second [] in
    c.in_ok-second.ensures.after x b (get_on (met_sets c.args.sets.now) (met_sets c.after.new.self) c.args.pair.second x c.in_ok-first.ensures.grows (set_there (met_sets c.args.sets.now) c.args.pair.second c.requires.pair.1)) (ap (λ z. slice_get z.items c.args.class) c.after.ensures.bytes ∙ byte)

pub is_empty-requires : goal.is_empty-requires
is_empty-requires c =
    let top = (goal.at.is_empty-requires c).In_ok-first in
    let b = get_or c.args.sets.now.bytes.items c.args.class 0 in
    way_within c.args.machine.now (met_sets c.after.new.self) (get_or (met_sets c.args.sets.now) c.args.pair.first []) b c.in_ok-first.first (way top b (byte_at c.args.sets.now.bytes.items c.args.class c.requires.class))

pub returns-then-is_empty-clause-next : goal.returns-then-is_empty-clause-next
returns-then-is_empty-clause-next c =
    let top = (goal.at.returns-then-is_empty-clause-next c).In_ok-first in
    λ b byte. none_next c.args.machine.now (met_sets c.args.sets.now) (met_sets c.after.new.self) c.args.pair c.in_ok-first.first b (way top b byte) c.if-is_empty.ensures

pub returns-clause-numbered : goal.returns-clause-numbered
returns-clause-numbered c =
    let first = (goal.at.returns-clause-numbered c).In_ok-first in
    let second = (goal.at.returns-clause-numbered c).In_ok-second in
    let g = c.args.machine.now in
    let s = met_sets c.args.sets.now in
    let b = get_or c.args.sets.now.bytes.items c.args.class 0 in
    let byte = byte_at c.args.sets.now.bytes.items c.args.class c.requires.class in (
      number_on (met_sets c.after.new.self) (met_sets c.after-2.new.self) c.in_ok-first.first c.in_ok-second.ensures.grows (way_within g (met_sets c.after.new.self) (get_or s c.args.pair.first []) b c.in_ok-first.first (way first b byte)),
      way_within g (met_sets c.after-2.new.self) (get_or s c.args.pair.second []) b c.in_ok-second.second (other second b byte),
    )

pub returns-clause-next : goal.returns-clause-next
returns-clause-next c =
    let first = (goal.at.returns-clause-next c).In_ok-first in
    let second = (goal.at.returns-clause-next c).In_ok-second in
    λ b byte. some_next c.args.machine.now (met_sets c.args.sets.now) (met_sets c.after.new.self) c.args.pair c.in_ok-first.first b (way first b byte) (met_sets c.after-2.new.self) c.in_ok-second.second c.in_ok-second.ensures.grows c.if-is_empty.ensures (other second b byte) (record { first = c.in_ok-first.first; second = c.in_ok-second.second }) refl refl
