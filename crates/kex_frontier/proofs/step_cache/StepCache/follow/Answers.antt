use Rattle.std.proofs.Common.{◌≡◌, ℕ, ◌<◌, ◌*◌, ◌/◌, [], List, length, take, get_or, subst, sym, ap, ◌∙◌}
use Rattle.std.proofs.lemmas.List.Elements.{All-get_or}
use Rattle.kex_byteset.specs.Classes.{class_count}
use Rattle.kex_frontier.specs.Rows.{HasSomeMark, AreByteSteps}
use Rattle.kex_frontier.specs.Caches.{KeptSteps, ways_from, IsRowStart, IsKeptAt, IsKeptNow, AreWays, KnowsSteps}
use Rattle.kex_frontier.proofs.CachedWays.{along_starts, along_rows, kept_start, number_at, some_value}
use Rattle.kex_frontier.proofs.step_cache.StepCache.follow.Goals as goal
use Rattle.kex_frontier.proofs.step_cache.StepCache.follow.Goals.{After-go_along-trail}

module _ (c : After-go_along-trail) where
  abbrev k : KeptSteps
  k = record { classes = c.self.inside.classes; width = c.self.inside.rows.width; rows = c.self.inside.rows.rows; ways = c.self.inside.ways.items; at = c.self.inside.at }

  abbrev bs : List ℕ
  bs = take c.go_along-trail.result.taken c.args.piece.now

  seen : k ≡ c.args.self.now
  seen = c.self.view_is

  from_row : IsKeptAt k c.in-Some.from c.args.row.now
  from_row = some_value (λ z. IsKeptAt k z c.args.row.now) k.at c.in-Some.from c.in-Some.is (subst (λ z. IsKeptNow z c.args.row.now) (sym seen) c.requires.now)

  along : AreWays k.classes k.ways c.in-Some.from bs c.go_along-trail.result.at
  along = subst (λ z. AreWays k.classes z c.in-Some.from bs c.go_along-trail.result.at) c.deref.ensures.value c.go_along-trail.ensures.along

  start : IsRowStart k c.go_along-trail.result.at
  start = along_starts k c.self.invariant.3 bs c.in-Some.from c.go_along-trail.result.at (kept_start k c.in-Some.from c.args.row.now from_row) along

  number_is : c.go_along-trail.result.at / c.self.inside.count ≡ start.0
  number_is = ap (λ z. z / c.self.inside.count) start.2 ∙ ap (λ z. start.0 * class_count k.classes / z) c.self.invariant.0 ∙ number_at start.0 (class_count k.classes) c.self.invariant.3.some

pub words_at-requires : goal.words_at-requires
words_at-requires c = let at = (goal.at.words_at-requires c).After-go_along-trail in subst (λ z. z < length c.self.inside.rows.rows) (sym (number_is at)) (start at).1

pub invariant_of-self : goal.invariant_of-self
invariant_of-self c =
    let at = (goal.at.invariant_of-self c).After-go_along-trail in
    let o = c.self.invariant.3 in
    (c.self.invariant.0, c.self.invariant.1, c.self.invariant.2, record { bytes = o.bytes; some = o.some; long = o.long; ways = o.ways; now = start at })

pub returns-clause-now : goal.returns-clause-now
returns-clause-now c =
    let at = (goal.at.returns-clause-now c).After-go_along-trail in
    ((start at).0, (start at).1, (start at).2, sym (c.copy_words.ensures ∙ c.words_at.ensures.words ∙ ap (λ n. get_or c.self.inside.rows.rows n []) (number_is at)))

pub returns-clause-steps : goal.returns-clause-steps
returns-clause-steps c = λ nodes knows.
    let at = (goal.at.returns-clause-steps c).After-go_along-trail in
    let known : KnowsSteps nodes (k at) = subst (λ z. KnowsSteps nodes z) (sym (seen at)) knows in
    let (n, ln, en, rn) = from_row at in
    let (m, lm, em) = start at in
    let steps = along_rows nodes (k at) c.self.invariant.3 known (bs at) n m ln lm (subst (λ z. AreWays (k at).classes (k at).ways z (bs at) (ways_from (k at) m)) en (subst (λ z. AreWays (k at).classes (k at).ways c.in-Some.from (bs at) z) em (along at))) in
    let to : get_or c.self.inside.rows.rows m [] ≡ c.copy_words.new.self = sym (c.copy_words.ensures ∙ c.words_at.ensures.words ∙ ap (λ n. get_or c.self.inside.rows.rows n []) (number_is at)) in
    subst (λ z. AreByteSteps nodes z (bs at) c.copy_words.new.self) rn (subst (λ z. AreByteSteps nodes (get_or c.self.inside.rows.rows n []) (bs at) z) to steps)

pub returns-clause-marked : goal.returns-clause-marked
returns-clause-marked c = λ nodes knows some.
    let at = (goal.at.returns-clause-marked c).After-go_along-trail in
    let known : KnowsSteps nodes (k at) = subst (λ z. KnowsSteps nodes z) (sym (seen at)) knows in
    let (m, lm, em) = start at in
    let to : get_or c.self.inside.rows.rows m [] ≡ c.copy_words.new.self = sym (c.copy_words.ensures ∙ c.words_at.ensures.words ∙ ap (λ n. get_or c.self.inside.rows.rows n []) (number_is at)) in
    subst HasSomeMark to (All-get_or HasSomeMark c.self.inside.rows.rows m [] lm known.marked)
