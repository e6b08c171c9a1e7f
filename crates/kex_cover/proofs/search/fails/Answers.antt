use Rattle.std.proofs.Common.{sym, subst, arith}
use Rattle.std.specs.Prelude.{MatchBool}
use Rattle.kex_cover.specs.Searches.{Fails, HasEnd, Holds, met_sets, pair_sets}
use Rattle.kex_cover.proofs.SetNumbers.{ends_there, item_at}
use Rattle.kex_cover.proofs.Starts.{fails_by}
use Rattle.kex_cover.proofs.search.fails.Goals as goal

pub returns-then-first : goal.returns-then-first
returns-then-first c =
    let g = c.args.machine.now in
    let s = c.args.sets.now in
    let u = pair_sets (met_sets s) c.args.pair in
    let one = ends_there g s c.args.pair.first c.index-first.result.now c.requires.met c.requires.numbered.0 (item_at s.met.items c.args.pair.first c.index-first.result.now (omega (arith, c.requires.numbered.0, c.requires.met.count)) c.index-first.ensures) in
    let two = ends_there g s c.args.pair.second c.index-second.result.now c.requires.met c.requires.numbered.1 (item_at s.met.items c.args.pair.second c.index-second.result.now (omega (arith, c.requires.numbered.1, c.requires.met.count)) c.index-second.ensures) in
    fails_by (HasEnd g.nodes u.first) (HasEnd g.nodes u.second) c.index-second.result.now.end (subst (λ z. MatchBool z (HasEnd g.nodes u.first) (HasEnd g.nodes u.first → ⊥)) c.if-first.true one) two

pub returns-else-first : goal.returns-else-first
returns-else-first c =
    let g = c.args.machine.now in
    let s = c.args.sets.now in
    let u = pair_sets (met_sets s) c.args.pair in
    let one = ends_there g s c.args.pair.first c.index-first.result.now c.requires.met c.requires.numbered.0 (item_at s.met.items c.args.pair.first c.index-first.result.now (omega (arith, c.requires.numbered.0, c.requires.met.count)) c.index-first.ensures) in
    let none = subst (λ z. MatchBool z (HasEnd g.nodes u.first) (HasEnd g.nodes u.first → ⊥)) c.if-first.false one in
    subst (λ z. MatchBool z (Fails g.nodes u) (Holds g.nodes u)) (sym c.if-first.false) (λ e. absurd (none e))
