use Rattle.std.proofs.Common.{ℕ, ◌≡◌, ◌≢◌, ◌+◌, ◌<◌, ◌∷◌, ◌++◌, [], List, true, IfSome, get_or, take, sym, ap, subst, ◌∙◌, append_assoc, arith}
use Rattle.std.proofs.lemmas.List.{map_push, take_more}
use Rattle.std.proofs.lemmas.List.Elements.{All-more}
use Rattle.std.proofs.lemmas.Option.{slice_get-get_or, slice_get_past}
use Rattle.kex_byteset.specs.Classes.{class_at, class_count}
use Rattle.kex_runner.specs.declared.quiet.Quiet.{Quiet}
use Rattle.kex_runner.specs.declared.history.NotedUpdate.{NotedUpdate}
use Rattle.kex_runner.specs.Quiet.{StaysAt, quiet_at, staying}
use Rattle.kex_runner.proofs.registers.stay.Goals as goal

pub loop-count-preserved : goal.loop-count-preserved
loop-count-preserved c =
    let piece = c.args.piece.now in
    let count = c.loop-count.count in
    let old = c.args.notes.now.items in
    let qs = c.args.quiets.now in
    let classes = c.args.partition.now in
    let row = c.args.row in
    let b = get_or piece count 0 in
    let none : Quiet = record { row = 0; update = 0 } in
    let told : Quiet = get_or qs (row + c.from.result) none in
    let same : told ≡ quiet_at qs classes row b = ap (λ z. get_or qs (row + z) none) (c.from.ensures ∙ c.class_of.ensures.class) in
    let note : NotedUpdate = record { update = told.update; byte = b; stays = true } in
    let noted : NotedUpdate = record { update = (quiet_at qs classes row b).update; byte = b; stays = true } in
    let alike : note ≡ noted = ap (λ (z : Quiet). record { update = z.update; byte = b; stays = true }) same in
    let run : List ℕ → List NotedUpdate = λ bytes. staying qs classes row bytes in
    let one = ap run (take_more piece count 0 c.loop-count-test.true) ∙ map_push (λ x. record { update = (quiet_at qs classes row x).update; byte = x; stays = true }) (take count piece) b in
    let below : class_at classes b < class_count classes = subst (λ z. z < class_count classes) c.class_of.ensures.class c.class_of.ensures.below in
    record {
      count = omega (arith, c.loop-count-test.true);
      stays = All-more (λ x. StaysAt qs classes row x) piece count 0 c.loop-count-test.true c.loop-count.invariant.stays (below, ap (λ (z : Quiet). z.row) (sym same) ∙ c.if-told-row.false);
      notes = c.push_reserved.ensures.items ∙ ap (λ z. z ++ note ∷ []) c.loop-count.invariant.notes ∙ append_assoc old (run (take count piece)) (note ∷ []) ∙ ap (λ z. old ++ (run (take count piece) ++ z ∷ [])) alike ∙ ap (λ z. old ++ z) (sym one);
      room = omega (arith, c.loop-count.invariant.room, c.push_reserved.ensures.len, c.push_reserved.ensures.capacity, c.loop-count-test.true);
    }

pub returns-after-loop-count-clause-other : goal.returns-after-loop-count-clause-other
returns-after-loop-count-clause-other c =
    subst (λ o. IfSome o (λ b. (quiet_at c.args.quiets.now c.args.partition.now c.args.row b).row ≢ c.args.row)) (sym (slice_get_past c.args.piece.now c.loop-count.count c.loop-count-test.false)) tt

pub returns-then-told-row-clause-other : goal.returns-then-told-row-clause-other
returns-then-told-row-clause-other c =
    let none : Quiet = record { row = 0; update = 0 } in
    let same = ap (λ z. get_or c.args.quiets.now (c.args.row + z) none) (c.from.ensures ∙ c.class_of.ensures.class) in
    subst (λ o. IfSome o (λ b. (quiet_at c.args.quiets.now c.args.partition.now c.args.row b).row ≢ c.args.row)) (sym (slice_get-get_or c.args.piece.now c.loop-count.count 0 c.loop-count-test.true)) (λ e. c.if-told-row.true (ap (λ (z : Quiet). z.row) same ∙ e))
