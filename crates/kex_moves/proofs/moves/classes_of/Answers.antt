use Rattle.std.proofs.Common.{◌≡◌, ◌∙◌, ◌<◌, below_more, get_or, set, length, sym, ap, arith, length-set}
use Rattle.std.proofs.lemmas.List.{ext_get_or, get_or-set_same, get_or-set_other}
use Rattle.kex_byteset.specs.Classes.{class_at}
use Rattle.kex_moves.proofs.moves.classes_of.Goals as goal

pub loop-byte-preserved : goal.loop-byte-preserved
loop-byte-preserved c =
    let old = c.loop-byte.classes in
    let b = c.loop-byte.byte in
    let v = c.class_of.result in
    let t = c.args.table.now.classes in
    let lt : b < 256 = c.loop-byte-test.true in
    let here : get_or (set old b v) b 0 ≡ get_or t b 0 = get_or-set_same old b v 0 (omega (arith, c.loop-byte.invariant.long, lt)) ∙ c.class_of.ensures.class ∙ ap (λ l. class_at l b) c.partition-partition.ensures.same in
    record {
      long = length-set old b v ∙ c.loop-byte.invariant.long;
      same = below_more (λ k. get_or (set old b v) k 0 ≡ get_or t k 0) b (λ k lt. get_or-set_other old b k v 0 (λ e. omega arith) ∙ c.loop-byte.invariant.same k lt) here;
    }

pub returns : goal.returns
returns c =
    let t = c.args.table.now.classes in
    let long : length t ≡ 256 = c.partition-partition.ensures.table.numbered.long in
    ext_get_or 0 c.loop-byte.classes t (c.loop-byte.invariant.long ∙ sym long) (λ i lt. c.loop-byte.invariant.same i (omega (arith, c.loop-byte.invariant.long, c.loop-byte-test.false)))
