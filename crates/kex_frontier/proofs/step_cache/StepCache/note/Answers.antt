use Rattle.std.proofs.Common.{◌≡◌, ◌+◌, set, subst, sym}
use Rattle.std.specs.Prelude.{Some}
use Rattle.kex_machine.specs.Nodes.{HasClasses}
use Rattle.kex_frontier.specs.Caches.{KeptSteps, IsKeptAt, KnowsSteps}
use Rattle.kex_frontier.proofs.CachedWays.{knows_way}
use Rattle.kex_frontier.proofs.step_cache.StepCache.note.Goals as goal

pub returns-clause-knows : goal.returns-clause-knows
returns-clause-knows c = λ nodes was row classes knows from to step.
    let k : KeptSteps = record { classes = c.self.inside.classes; width = c.self.inside.rows.width; rows = c.self.inside.rows.rows; ways = c.self.inside.ways.items; at = c.self.inside.at } in
    let seen : k ≡ c.args.self.now = c.self.view_is in
    let known : KnowsSteps nodes k = subst (λ z. KnowsSteps nodes z) (sym seen) knows in
    let f : IsKeptAt k c.args.from was = subst (λ z. IsKeptAt z c.args.from was) (sym seen) from in
    let t : IsKeptAt k c.args.to row = subst (λ z. IsKeptAt z c.args.to row) (sym seen) to in
    let cl : HasClasses nodes k.classes = subst (λ z. HasClasses nodes z.classes) (sym seen) classes in
    let way = knows_way nodes k c.self.invariant.3 known cl c.args.from c.args.byte c.args.to was row f t c.ranges.byte.fits step in
    subst (λ i. KnowsSteps nodes (record k { ways = set k.ways (c.args.from + i) (Some c.args.to) })) (sym c.class_of-class.ensures.class) way
