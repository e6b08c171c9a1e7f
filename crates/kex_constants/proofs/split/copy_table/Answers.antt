use Rattle.std.proofs.Common.{rules, ◌<◌, length, subst, ◌∙◌, arith}
use Rattle.std.proofs.lemmas.List.{length-map}
use Rattle.std.specs.Prelude.{IfSome}
use Rattle.kex_sst.specs.Tables.{Transducer}
use Rattle.kex_constants.specs.Copies.{AreCopies, HasCopiedStates, originals}
use Rattle.kex_constants.proofs.CopiedLists.{is_copy_of}
use Rattle.kex_constants.proofs.CopiedTables.{split_is_table}
use Rattle.kex_constants.proofs.split.copy_table.Goals as goal
use Rattle.kex_constants.proofs.split.copy_table.Goals.{After-copy}

some_copies : (c : After-copy) → 0 < length c.args.copies.now
some_copies c = search rules

module _ (c : After-copy) where
  abbrev made : Transducer
  made = record { classes = c.copy.result; initial = c.in_ok-initial.initial; states = c.in-Some.states.items }

  copied : AreCopies (originals c.args.copies.now) c.args.table.now.states c.in-Some.states.items
  copied = subst (λ xs. AreCopies (originals c.args.copies.now) xs c.in-Some.states.items) c.states.ensures.same (subst (λ o. IfSome o (λ s. AreCopies (originals c.args.copies.now) c.states.result.now s.items)) c.in-Some.is (c.in_ok-states.ensures {u = tt}))

  split : HasCopiedStates c.args.table.now made
  split = record {
    of = originals c.args.copies.now;
    classes = c.copy.ensures ∙ c.partition.ensures.same;
    initial = c.in_ok-initial.ensures ∙ c.initial.ensures.same;
    first = is_copy_of c.args.copies.now 0 0 c.index-copies-0.result (some_copies c) c.if-copies-ne0.false;
    copies = copied;
  }

pub new-requires : goal.new-requires
new-requires c =
    let few : length c.in-Some.states.items < 4294967296 = omega (arith, (copied c).count, length-map c.args.copies.now (λ x. x.of), c.if-copies-gt-MOST_COPIES.false) in
    split_is_table c.args.table.now (made c) (split c) c.partition.ensures.table few
