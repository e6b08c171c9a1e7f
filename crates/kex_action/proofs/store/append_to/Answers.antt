use Rattle.std.proofs.Common.{◌∙◌}
use Rattle.kex_action.proofs.Buffers.{innermost, on_ok}
use Rattle.kex_action.proofs.store.append_to.Goals as goal

pub returns-clause-ok : goal.returns-clause-ok
returns-clause-ok c = on_ok c.append.result c.append.ensures (λ f regs. innermost c.args.bytes.now c.args.out.now.items c.args.buffers.now.items c.len-count.result c.index_mut.result.now c.append.new.self regs (c.len-count.ensures ∙ c.args.buffers.now.ok.0) c.if-count-eq0.false c.index_mut.ensures.value f)
