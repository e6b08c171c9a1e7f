use Rattle.std.proofs.Common.{◌≡◌, ◌-◌, length, get_or, arith}
use Rattle.std.proofs.lemmas.Bool.{ltb-true, ltb-false}
use Rattle.kex_rings.specs.declared.item.Item.TheVariants.{Byte, End}
use Rattle.kex_rings.proofs.Wholes.{put-ended, put-none, put-bytes}
use Rattle.kex_rings.proofs.SentItems.{on-ok}
use Rattle.kex_rings.proofs.passing.put.Goals as goal
use Rattle.kex_rings.proofs.passing.put.Goals.{in_default-via-then-items-lt1, in_default-via-else-items-lt1+in-Byte-1}

pub returns : goal.returns
returns c =
    let r = c.in_ok-give_bytes.ensures in
    let e = c.give_end.ensures in
    let xs = c.args.items.now in
    let last : get_or xs (length xs - 1) (Byte 0) ≡ End = cc in
    put-ended c.args.inbox.now c.give_bytes-2.new.inbox c.give_end.new.self xs (length xs - 1) (Byte 0) (omega (arith, c.in-End.len_at_least)) last r.bytes r.same_end e.same_bytes e.end

pub returns-in_default : goal.returns-in_default
returns-in_default c =
    let r = c.give_bytes.ensures in
    let xs = c.args.items.now in
    let b = c.args.inbox.now in
    let b' = c.give_bytes.new.inbox in
    on-ok c.give_bytes.result (λ bytes.
    elim c.in_default.branch [
      | in_default-via-then-items-lt1 w ↦ λ whole. put-none b b' xs (omega (arith, ltb-true)) bytes r.same_end
      | in_default-via-else-items-lt1+in-Byte-1 w ↦ put-bytes b b' xs (length xs - 1) (Byte 0) (omega (arith, ltb-false)) (λ e. cc) bytes r.same_end
    ]) r.bytes
