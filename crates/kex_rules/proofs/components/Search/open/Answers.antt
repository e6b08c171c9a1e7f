use Rattle.std.proofs.Common.{◌≡◌, ◌<◌, ◌++◌, ◌∷◌, [], length, set, ap, ◌∙◌, length-append, arith}
use Rattle.kex_rules.specs.Graphs.{vertices, vertex_successors, successor_list}
use Rattle.kex_rules.specs.declared.components.Mark.TheVariants.{Open}
use Rattle.kex_rules.proofs.Marks.{unseen_count-open}
use Rattle.kex_rules.proofs.Ways.{two_successors}
use Rattle.kex_rules.proofs.OpenVertices.{opened_as}
use Rattle.kex_rules.proofs.components.Search.open.Goals as goal

pub returns-clause-search : goal.returns-clause-search
returns-clause-search c =
    let at : c.len.result ≡ length c.args.self.now.path.items = omega (arith, c.len.ensures, c.args.self.now.path.ok.0) in
    let ahead_at : c.len-2.result ≡ length c.args.self.now.ahead.items = omega (arith, c.len-2.ensures, c.args.self.now.ahead.ok.0) in
    opened_as (vertex_successors c.args.program.now) (vertices c.args.program.now) c.args.self.now.marks.items c.args.self.now.path.items c.args.self.now.ahead.items c.args.v c.args.self.now.bounds.items c.args.self.now.closed (record { path = c.len.result; ahead = c.len-2.result })
    (set c.args.self.now.marks.items c.args.v (Open c.len.result)) c.push.new.self.items c.push_successors.new.ahead.items c.push-2.new.self.items
    c.requires.search c.requires.unseen c.requires.fits c.requires.reached at ahead_at
    (ap (λ z. set c.args.self.now.marks.items c.args.v (Open z)) at) c.in_ok-push.ensures.items (c.in_ok-push_successors.ensures ∙ ap (λ z. c.args.self.now.ahead.items ++ z) c.successors_of.ensures) c.in_ok-push-2.ensures.items

pub returns-clause-work : goal.returns-clause-work
returns-clause-work c =
    let fits : c.args.v < length c.args.self.now.marks.items = omega (arith, c.requires.fits, c.requires.search.long) in
    omega (arith, unseen_count-open c.args.self.now.marks.items c.args.v c.len.result fits c.requires.unseen, ap length c.in_ok-push_successors.ensures, length-append c.args.self.now.ahead.items (successor_list c.successors_of.result), two_successors c.successors_of.result, ap length c.in_ok-push-2.ensures.items, length-append c.args.self.now.bounds.items (record { path = c.len.result; ahead = c.len-2.result } ∷ []))
