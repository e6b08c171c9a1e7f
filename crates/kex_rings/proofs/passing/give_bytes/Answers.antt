use Rattle.std.proofs.Common.{◌<◌, ◌++◌, ◌∷◌, ◌∙◌, [], length, sym, ap₂, arith, length-set}
use Rattle.std.proofs.lemmas.List.{take_more_set, map_more}
use Rattle.kex_rings.specs.Items.{byte_of}
use Rattle.kex_rings.specs.declared.item.Item.TheVariants.{Byte}
use Rattle.kex_rings.proofs.passing.give_bytes.Goals as goal

pub items-preserved : goal.items-preserved
items-preserved c =
    let l = c.items in
    let room : l.i < length l.bytes = omega (arith, c.items-test.true, l.invariant.long, c.requires) in
    record {
      long = length-set l.bytes l.i c.byte.result ∙ l.invariant.long;
      written = take_more_set l.bytes l.i c.byte.result room ∙ ap₂ (λ y z. y ++ z ∷ []) l.invariant.written c.byte.ensures ∙ sym (map_more byte_of c.args.items.now l.i (Byte 0) c.items-test.true);
    }
