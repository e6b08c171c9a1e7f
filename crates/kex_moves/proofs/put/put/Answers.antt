use Rattle.std.proofs.Common.{◌+◌, ◌-◌, ◌∙◌, ap, take, set, ◌++◌, arith}
use Rattle.kex_moves.proofs.BufferWrites.{over_text, copied}
use Rattle.kex_moves.proofs.put.put.Goals as goal

pub returns-clause-written : goal.returns-clause-written
returns-clause-written c =
    let used = c.args.used in
    let xs = c.args.buffer.now in
    let e = c.args.e in
    let copy = c.copy_from_slice-2.new.self in
    let text = copied c.args.text.now copy e.from c.requires.edge.text (c.copy_from_slice-2.ensures.after ∙ c.copy_from_slice.ensures.after) in
    over_text xs copy used e.byte_at (used + 16 - used) e.adds c.args.byte (omega arith) (omega arith) ∙ ap (λ t. take used xs ++ take e.adds (set t e.byte_at c.args.byte)) text.0
