use Rattle.std.proofs.Common.{◌≡◌, ◌∙◌, ◌<◌, ◌^◌, All, ap, sym, subst, arith}
use Rattle.kex_byteset.specs.Classes.{class_count}
use Rattle.kex_moves.proofs.KnownEdges.{classes_below}
use Rattle.kex_moves.proofs.moves.Moves.new.Goals as goal

pub new-requires-clause-classes : goal.new-requires-clause-classes
new-requires-clause-classes c =
    let classes = c.args.table.now.classes in
    let width : class_count classes ≡ c.classes.result = sym (c.classes.ensures.count ∙ ap class_count c.partition.ensures.same) in
    subst (λ l. All (λ x. x < 2 ^ c.shift_of-shift.result) l) (sym c.classes_of.ensures) (λ i d lt. omega (arith, classes_below classes i d lt, width, c.shift_of-shift.ensures.enough))
