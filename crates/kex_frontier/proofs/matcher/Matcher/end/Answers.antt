use Rattle.std.proofs.Common.{◌≡◌, ◌<◌, ℕ, List, length, true, subst}
use Rattle.std.specs.Prelude.{IsTrue, ◌↔◌}
use Rattle.kex_model.specs.Moves.{accept}
use Rattle.kex_machine.specs.Nodes.{node_moves}
use Rattle.kex_machine.specs.Answers.{HasRun}
use Rattle.kex_machine.proofs.Ranges.{stays_within}
use Rattle.kex_frontier.specs.Rows.{has_mark}
use Rattle.kex_frontier.specs.Matchers.{Match, WasFed}
use Rattle.kex_frontier.proofs.Matches.{parse_by_mark, mark_by_parse}
use Rattle.kex_frontier.proofs.matcher.Matcher.end.Goals as goal

pub returns : goal.returns
returns c =
    let g = c.self.inside.machine.now in
    let m : Match = record { machine = g; row = c.self.inside.row; good = c.self.inside.good; dead = c.self.inside.dead } in
    let found = subst (λ z. IsTrue c.accepts.result ↔ ((n : ℕ) × (n < length z) × (has_mark c.self.inside.row n ≡ true) × (node_moves z n ≡ accept))) c.nodes.ensures.same c.accepts.ensures in
    subst (λ z. (w : List ℕ) → WasFed z w → (IsTrue c.accepts.result ↔ HasRun z.machine w)) c.self.view_is (λ w h. (
      (λ t. let (n, lt, marked, acc) = found.0 t in parse_by_mark g w c.self.inside.row n h.row marked acc),
      (λ p. found.1 (mark_by_parse g w c.self.inside.row (stays_within g c.nodes.ensures.in_range) c.nodes.ensures.in_range.start_in h.row p)),
    ))
