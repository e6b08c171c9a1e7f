use Rattle.std.proofs.Common.{◌≡◌, ◌<◌, ◌+◌, true, false, length, get_or, sym, ap, subst, ◌∙◌, arith}
use Rattle.std.proofs.lemmas.Option.{slice_get-get_or, get_or_from_slice_get}
use Rattle.kex_code.specs.Codes.{HasNumber}
use Rattle.kex_rules.specs.Tables.{IsLeastOffset}
use Rattle.kex_rules.proofs.Marks.{read_any}
use Rattle.kex_rules.proofs.Apart.{ApartBefore, before_more, before_same, before_all}
use Rattle.kex_rules.proofs.tail.lowest_not_tail.Goals as goal
use Rattle.kex_rules.proofs.tail.lowest_not_tail.Goals.{in-Call+then-index, in-Call+else-index, in_default}

pub loop-n-preserved : goal.loop-n-preserved
loop-n-preserved c =
    let P = c.args.program.now in
    let nodes = c.nodes-nodes.result.now in
    let n = c.loop-n.n in
    let apart = c.in_ok-apart.apart.items in
    let lt : n < length apart = omega (arith, c.loop-n-test.true, ap length c.nodes-nodes.ensures, c.in_ok-apart.ensures.long) in
    elim c.match-nodes-n.branch [
      | in-Call+then-index w ↦
          let m = get_or nodes n w.index-nodes-n.result in
          let at_n = slice_get-get_or nodes n w.index-nodes-n.result c.loop-n-test.true in
          subst (λ z. IsLeastOffset (ApartBefore P apart (n + 1)) z) (sym (w.found-is ∙ w.lowest-found.ensures))
          (before_more P apart n w.in-Call.field-0 m c.loop-n.found (subst (λ z. HasNumber z m n) c.nodes-nodes.ensures at_n) (ap (λ z. z.kind) (sym (get_or_from_slice_get nodes n m _ at_n)) ∙ w.in-Call.is) (read_any apart n false w.index.result.now lt ∙ sym w.index.ensures ∙ w.if-index.true) c.loop-n.invariant)
      | in-Call+else-index w ↦ subst (λ z. IsLeastOffset (ApartBefore P apart (n + 1)) z) (sym w.found-is) (before_same P apart n c.loop-n.found (λ name at k f. let clash : true ≡ false = sym f ∙ read_any apart n false w.index.result.now lt ∙ sym w.index.ensures ∙ w.if-index.false in cc) c.loop-n.invariant)
      | in_default w ↦ subst (λ z. IsLeastOffset (ApartBefore P apart (n + 1)) z) (sym w.found-is) (before_same P apart n c.loop-n.found (λ name at k f. w.in_default.not-Call name (ap (λ z. z.kind) (get_or_from_slice_get nodes n k.0 _ (subst (λ z. HasNumber z k.0 n) (sym c.nodes-nodes.ensures) k.1)) ∙ k.2)) c.loop-n.invariant)
    ]

pub returns : goal.returns
returns c = before_all c.args.program.now c.requires.grammar c.args.marks.now c.requires.parted c.in_ok-apart.apart.items c.in_ok-apart.ensures c.loop-n.found (subst (λ z. IsLeastOffset (ApartBefore c.args.program.now c.in_ok-apart.apart.items z) c.loop-n.found) (omega (arith, c.loop-n.auto.n-end, c.loop-n-test.false, ap length c.nodes-nodes.ensures)) c.loop-n.invariant)
