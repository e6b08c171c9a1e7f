use Rattle.std.proofs.Common.{◌≡◌, ◌<◌, None, get_or, length, subst, ap, ◌∙◌, arith}
use Rattle.std.proofs.lemmas.List.{take_all}
use Rattle.kex_byteset.specs.Classes.{class_at}
use Rattle.kex_sst.specs.Passes.{next_of}
use Rattle.kex_sst.specs.Tables.{Transducer}
use Rattle.kex_runner.specs.Quiet.{GoesQuietly}
use Rattle.kex_runner.proofs.ByteSteps.{next_by_class}
use Rattle.kex_stage.proofs.PastTurns.{stops_after}
use Rattle.kex_stage.proofs.follower.Follower.outlook.Goals as goal

pub returns-then-seen-piece : goal.returns-then-seen-piece
returns-then-seen-piece c =
    let seen = c.glance-seen.result in
    subst (λ l. GoesQuietly c.args.self.now.runner.table c.args.state seen.state l) (take_all seen.count c.args.piece.now (omega (arith, c.if-seen-piece.true))) c.glance-seen.ensures.quiet

pub returns-in-None : goal.returns-in-None
returns-in-None c =
    let f = c.args.self.now in
    let t = f.table.now in
    let piece = c.args.piece.now in
    let seen = c.glance-seen.result in
    let byte = get_or piece seen.count 0 in
    let lt : seen.count < length piece = omega (arith, c.glance-seen.ensures.count, c.if-seen-piece.false) in
    let here : next_of t seen.state byte ≡ None = next_by_class t seen.state byte c.class_of-class.result c.partition.ensures.table (omega (arith, c.type_inv.piece seen.count)) (c.class_of-class.ensures.class ∙ ap (λ cs. class_at cs byte) c.partition.ensures.same) ∙ c.in-None.ensures in
    let none = subst (λ (p : Transducer). next_of p seen.state byte ≡ None) f.own_table here in
    (lt, (seen.state, c.glance-seen.ensures.quiet), stops_after f.runner.table c.args.state seen.state seen.count piece lt c.glance-seen.ensures.quiet none)
