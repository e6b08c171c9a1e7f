use Rattle.std.proofs.Common.{◌≡◌, ◌-◌, Some, get_or, length, take, drop, sym, ap, subst, ◌∙◌, arith}
use Rattle.kex_byteset.specs.Classes.{class_at}
use Rattle.kex_sst.specs.declared.table.Transition.{Transition}
use Rattle.kex_sst.specs.Passes.{next_of}
use Rattle.kex_sst.specs.Tables.{Transducer}
use Rattle.kex_runner.proofs.ByteSteps.{next_by_class}
use Rattle.kex_stage.proofs.PastTurns.{first_of}
use Rattle.kex_stage.proofs.follower.Follower.past_first.Goals as goal

pub returns : goal.returns
returns c =
    let f = c.args.self.now in
    let t = f.table.now in
    let piece = c.args.piece.now in
    let byte = get_or piece 0 0 in
    let by : Transition = record { target = c.in_ok-target.target; update = c.in_ok-target.update.now } in
    let here : next_of t c.args.state byte ≡ Some by = next_by_class t c.args.state byte c.class_of-class.result c.partition.ensures.table (omega (arith, c.type_inv.piece 0)) (c.class_of-class.ensures.class ∙ ap (λ cs. class_at cs byte) c.partition.ensures.same) ∙ c.in_ok-target.ensures in
    record {
      byte = byte;
      rest = take (length piece - 1) (drop 1 piece);
      parts = sym (first_of piece c.requires.some);
      by = by;
      goes = subst (λ (p : Transducer). next_of p c.args.state byte ≡ Some by) f.own_table here;
      said = sym (c.as_slice.ensures ∙ c.out.ensures);
      quiet = c.in_ok-to.ensures;
    }
