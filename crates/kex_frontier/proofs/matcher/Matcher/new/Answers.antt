use Rattle.std.proofs.Common.{◌∷◌, [], false, refl, subst, sym}
use Rattle.kex_machine.specs.Nodes.{StaysWithin}
use Rattle.kex_machine.proofs.Ranges.{is_trim, stays_within}
use Rattle.kex_frontier.specs.Rows.{AlsoMarks, IsClosureOf}
use Rattle.kex_frontier.specs.Matchers.{Match}
use Rattle.kex_frontier.proofs.Matches.{row_starts, fed_nothing}
use Rattle.kex_frontier.proofs.matcher.Matcher.new.Goals as goal

pub returns-clause-begins : goal.returns-clause-begins
returns-clause-begins c =
    let g = c.args.machine.now in
    let m : Match = record { machine = g; row = c.close.new.row; good = 0; dead = false } in
    let row = row_starts g c.in_ok-row.row c.mark.new.self c.close.new.row (c.in_ok-row.ensures {u = tt}).none
    (subst (λ z. AlsoMarks (z ∷ []) c.in_ok-row.row c.mark.new.self) c.start.ensures c.mark.ensures.marked)
    (subst (λ z. IsClosureOf z c.mark.new.self c.close.new.row) c.nodes-nodes.ensures.same c.close.ensures.closure) in
    fed_nothing m (is_trim g c.nodes-nodes.ensures.trimmed) row refl refl

pub close-requires-clause-within : goal.close-requires-clause-within
close-requires-clause-within c = subst StaysWithin (sym c.nodes-nodes.ensures.same) (stays_within c.args.machine.now c.nodes-nodes.ensures.in_range)
