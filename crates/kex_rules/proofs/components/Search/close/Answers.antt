use Rattle.std.proofs.Common.{◌≤◌, ◌++◌, [], length, drop, sym, ap, subst, ◌∙◌, length-take, arith}
use Rattle.std.proofs.lemmas.List.{take-append-drop}
use Rattle.kex_code.specs.Codes.{HasNumber}
use Rattle.kex_rules.specs.Graphs.{vertices, vertex_successors}
use Rattle.kex_rules.specs.Searches.{IsSearch, ClosesPath}
use Rattle.kex_rules.specs.declared.components.Mark.TheVariants.{Open}
use Rattle.kex_rules.proofs.Marks.{mark_within}
use Rattle.kex_rules.proofs.LastComponent.{closed_off, last_off}
use Rattle.kex_rules.proofs.components.Search.close.Goals as goal

pub close_all-requires : goal.close_all-requires
close_all-requires c = λ v i h. mark_within c.args.self.now.marks.items v (Open i) (c.requires.search.opened v i (subst (λ z. HasNumber z v i) c.deref.ensures.value h)) (λ e. cc)

pub returns-clause-search : goal.returns-clause-search
returns-clause-search c =
    let P = c.args.program.now in
    let path = c.args.self.now.path.items in
    let n = c.args.bound.path in
    let low : n ≤ length path = (c.requires.search.within c.requires.last.0 c.args.bound c.requires.last.2).0 in
    let bounds = last_off c.args.self.now.bounds.items c.pop.new.self.items c.pop.result c.args.bound c.requires.last.0 _ _ c.pop.ensures.items c.pop.ensures.cases c.args.self.now.bounds.ok.0 c.requires.last.1 c.requires.last.2 in
    closed_off (vertex_successors P) (vertices P) c.args.self.now.marks.items c.close_all.new.marks.items path c.truncate.new.self.items (drop n path) c.args.self.now.ahead.items c.pop.new.self.items c.args.bound c.args.self.now.closed
    (subst (λ z. IsSearch (vertex_successors P) (vertices P) [] c.args.self.now.marks.items path c.args.self.now.ahead.items z c.args.self.now.closed) bounds c.requires.search)
    c.requires.ahead
    (sym (take-append-drop n path) ∙ ap (λ z. z ++ drop n path) (sym c.truncate.ensures.items))
    (omega (arith, ap length c.truncate.ensures.items, length-take n path))
    (subst (λ z. ClosesPath n (length z) c.args.self.now.closed z c.args.self.now.marks.items c.close_all.new.marks.items) c.deref.ensures.value c.close_all.ensures)
