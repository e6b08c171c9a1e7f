use Rattle.std.proofs.Common.{◌+◌, length, ap, ap₂, replicate, ◌∙◌}
use Rattle.kex_rules.specs.Graphs.{vertices, vertex_successors}
use Rattle.kex_rules.specs.declared.components.Mark.TheVariants.{Unseen}
use Rattle.kex_rules.proofs.OpenVertices.{nothing_met}
use Rattle.kex_rules.proofs.components.Search.new.Goals as goal

pub returns-clause-search : goal.returns-clause-search
returns-clause-search c =
    nothing_met (vertex_successors c.args.program.now) (vertices c.args.program.now) c.in_ok-marks.marks.items c.new.result.items c.new-2.result.items c.new-3.result.items
    (c.in_ok-marks.ensures.items_if_clones_equal (λ y e. e) ∙ ap (λ z. replicate z Unseen) (ap₂ (λ x y. x + y) (ap length c.nodes.ensures) (ap length c.names.ensures)))
    c.new.ensures.items c.new-2.ensures.items c.new-3.ensures.items
