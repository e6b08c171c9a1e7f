use Rattle.std.proofs.Common.{◌∙◌}
use Rattle.std.proofs.lemmas.List.{get_or_read}
use Rattle.kex_runner.specs.Noting.{contents}
use Rattle.kex_runner.proofs.Settlings.{code_next, registers_next}
use Rattle.kex_runner.proofs.registers.Registers.take_series.Goals as goal

pub more-preserved : goal.more-preserved
more-preserved c =
    let s = c.args.script.now in
    let base = contents s c.args.self.now in
    let inv = c.more.invariant in
    let first = inv.0 in
    let more = c.updates.result.1.now in
    let k = c.more.update-index in
    let u = c.update-item.result in
    let is = get_or_read more k u c.more-test.true c.update-item.is u in (
      first,
      inv.1,
      code_next base first more k c.get-in-more.result.now u c.more-test.true (c.get-in-more.ensures ∙ is) c.args.code.now c.more.code c.behind-in-more.new.code (contents s c.more.made) inv.2 inv.3 c.in_ok-next.ensures.code,
      registers_next base first more k c.get-in-more.result.now u c.more-test.true (c.get-in-more.ensures ∙ is) (contents s c.more.made) (contents s c.in_ok-next.next) inv.3 c.in_ok-next.ensures.registers,
      c.in_ok-next.ensures.counted,
    )
