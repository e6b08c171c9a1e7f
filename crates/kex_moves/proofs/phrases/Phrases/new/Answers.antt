use Rattle.std.proofs.Common.{◌∙◌, ◌<◌, ◌^◌, ap}
use Rattle.std.proofs.lemmas.List.Elements.{All-replicate}
use Rattle.std.proofs.lemmas.Nat.{pow_pos}
use Rattle.kex_moves.specs.Known.{Known}
use Rattle.kex_moves.specs.Speech.{words_table}
use Rattle.kex_moves.proofs.KnownEdges.{known_none}
use Rattle.kex_moves.proofs.phrases.Phrases.new.Goals as goal

pub new-requires-clause-classes : goal.new-requires-clause-classes
new-requires-clause-classes c = All-replicate (λ x. x < 2 ^ c.shift_of-shift.result) 256 0 (pow_pos c.shift_of-shift.result)

pub invariant_of-result-2 : goal.invariant_of-result-2
invariant_of-result-2 c = λ usable.
    let e = c.edges.inside in
    let k : Known = record { classes = e.classes; width = e.width; shift = e.shift; pairs = e.pairs.items; edges = e.edges.items; text = e.text.items; acts = e.acts.items } in
    let made = c.edges.view_is ∙ c.in_ok-edges.ensures {u = tt} in
    let sheet = c.in_ok-new.ensures {u = tt} in
    (known_none (words_table c.in_ok-copy_of.field-0.items) c.args.machine.now k c.edges.invariant (ap (λ (k : Known). k.classes) made) (ap (λ (k : Known). k.pairs) made), sheet.none, sheet.room)
