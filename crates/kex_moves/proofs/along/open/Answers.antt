use Rattle.std.proofs.Common.{◌<◌, ◌∙◌, ◌+◌, ◌∷◌, [], length, reverse, refl, ap, arith}
use Rattle.std.specs.Vec.{with_item}
use Rattle.std.proofs.Math.ListN.{length-set}
use Rattle.std.proofs.lemmas.List.{take_more_set}
use Rattle.kex_action.specs.declared.sheet.Sheet.{Sheet}
use Rattle.kex_action.specs.Holdings.{with_bytes}
use Rattle.kex_action.proofs.Sheets.{marks_more, opened, wrote}
use Rattle.kex_moves.proofs.along.open.Goals as goal

pub returns-clause-opened : goal.returns-clause-opened
returns-clause-opened c = λ out h.
    let s = c.args.sheet.now in
    let b = c.args.byte in
    let mid : Sheet = c.open.new.self in
    let new : Sheet = record { bytes = with_item mid.bytes mid.used b; used = mid.used + 1; marks = mid.marks } in
    let did = c.in_ok-open.ensures {u = tt} in
    let room : mid.used < length mid.bytes.items = omega (arith, c.requires.room, did.same.1, ap length did.same.0) in
    wrote mid new (b ∷ []) out h did.sheet (record { used = take_more_set mid.bytes.items mid.used b room; marks = refl }) ∙ ap (with_bytes (b ∷ [])) (opened s mid out h c.requires.sheet did.opened did.same.0 did.same.1)

pub returns-clause-sheet : goal.returns-clause-sheet
returns-clause-sheet c =
    let mid : Sheet = c.open.new.self in
    let did = c.in_ok-open.ensures {u = tt} in
    let long = length-set mid.bytes.items mid.used c.args.byte in
    (record { used = omega (arith, long, c.requires.room, did.same.1, ap length did.same.0); marks = marks_more mid.used (mid.used + 1) (reverse mid.marks.items) (omega arith) did.sheet.marks }, long ∙ ap length did.same.0)
