use Rattle.std.proofs.Common.{◌≡◌, ◌∙◌, ◌<◌, true, [], length, Some, refl, sym, ap, subst, arith}
use Rattle.std.specs.Prelude.{slice_get, IfSome}
use Rattle.std.proofs.lemmas.Bool.{ltb-true}
use Rattle.std.proofs.lemmas.Option.{slice_get_read}
use Rattle.kex_sst.specs.declared.table.Transition.{Transition}
use Rattle.kex_sst.specs.Tables.{Transducer, transition_of}
use Rattle.kex_moves.specs.declared.edge.Edge.{Edge}
use Rattle.kex_moves.specs.Edges.{is_known}
use Rattle.kex_held.specs.Walks.{Learns}
use Rattle.kex_moves.specs.Known.{IsRight, IsLed, IsKnown}
use Rattle.kex_moves.specs.Speech.{words_table}
use Rattle.kex_moves.proofs.PlacedTexts.{map_ok}
use Rattle.kex_moves.proofs.KnownEdges.{right_led}
use Rattle.kex_moves.proofs.PieceRuns.{by_word}
use Rattle.kex_moves.proofs.learn.word_edge.Goals as goal

pub returns-clause-known : goal.returns-clause-known
returns-clause-known c =
    let t = words_table c.args.words.now in
    let g = c.args.machine.now in
    map_ok (λ (e : Edge). (t : Transducer) → 0 < length t.states → IsKnown t g c.args.edges.now → IsKnown t g c.lead.new.edges) (λ (e : Edge). IsKnown t g c.lead.new.edges) c.lead.result (λ e f. f t (omega arith) c.requires.known) c.lead.ensures.known

pub returns-clause-right : goal.returns-clause-right
returns-clause-right c =
    let words = c.args.words.now in
    let t = words_table words in
    let nodes = c.args.machine.now.nodes in
    let k = c.lead.new.edges in
    let p = c.args.pair in
    let l = c.in-Some-2.learnt in
    let word = c.in-Some.parts.now in
    let by : Transition = record { target = 0; update = record { out = word; regs = [] } } in
    let led = λ (e : Edge). IsLed nodes k 0 l.to l.actions.items e in
    let right = λ (e : Edge). is_known e.kind ≡ true → IsRight t nodes k p c.args.word e in
    let lt : c.args.word < length words = ltb-true c.args.word (length words) (sym c.in-Some.ensures.lookup.0) in
    let read : slice_get words c.args.word ≡ Some word = slice_get_read words (length words) c.args.word word refl lt c.in-Some.ensures.lookup.1 in
    let first : p.state ≡ 0 = omega (arith, c.requires.pair.state) in
    let goes : transition_of t p.state c.args.word ≡ Some by = ap (λ s. transition_of t s c.args.word) first ∙ by_word words c.args.word word read in
    let learns : Learns nodes p.node c.as_slice.result.now l.to l.actions.items = subst (λ o. IfSome o (λ l. Learns nodes p.node c.as_slice.result.now l.to l.actions.items)) c.in-Some-2.is (c.in_ok-learnt.ensures {u = tt}).learns in
    map_ok led right c.lead.result (λ e q known. right_led t nodes k p c.args.word by c.as_slice.result.now l.to l.actions.items e goes refl c.as_slice.ensures learns q known) c.lead.ensures.led
