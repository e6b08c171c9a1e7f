use Rattle.std.proofs.Common.{◌≡◌, ◌<◌, ◌+◌, ◌-◌, length, get_or, sym, ap, subst, arith}
use Rattle.std.proofs.lemmas.Option.{slice_get-get_or}
use Rattle.kex_code.specs.Codes.{HasNumber}
use Rattle.kex_model.specs.Trees.{kind_at}
use Rattle.kex_rules.specs.Rules.{last_parts, other_parts}
use Rattle.kex_rules.specs.Tails.{HasApart, MarksParts}
use Rattle.kex_rules.proofs.Tails.{kind_is}
use Rattle.kex_rules.proofs.Apart.{apart_none, apart_more}
use Rattle.kex_rules.proofs.tail.apart_nodes.Goals as goal

pub nodes-init : goal.nodes-init
nodes-init c = record { within = omega arith; apart = apart_none c.args.program.now c.args.marks.now c.in_ok-apart.apart.items (length c.nodes-nodes.result.now) (c.in_ok-apart.ensures.items_if_clones_equal (λ y e. e)) (ap length c.nodes-nodes.ensures) }

pub mark_parts-requires-clause-below : goal.mark_parts-requires-clause-below
mark_parts-requires-clause-below c =
    let lt : c.nodes.node - 1 < length c.nodes-nodes.result.now = omega (arith, c.nodes.invariant.within, c.nodes-test.true) in
    c.requires.grammar.in_order (c.nodes.node - 1) (get_or c.nodes-nodes.result.now (c.nodes.node - 1) c.index-nodes-node.result) (subst (λ z. HasNumber z (get_or c.nodes-nodes.result.now (c.nodes.node - 1) c.index-nodes-node.result) (c.nodes.node - 1)) c.nodes-nodes.ensures (slice_get-get_or c.nodes-nodes.result.now (c.nodes.node - 1) c.index-nodes-node.result lt))

pub nodes-preserved : goal.nodes-preserved
nodes-preserved c =
    let n = c.nodes.node - 1 in
    let P = c.args.program.now in
    let m = get_or c.nodes-nodes.result.now n c.index-nodes-node.result in
    let lt : n < length c.nodes-nodes.result.now = omega (arith, c.nodes.invariant.within, c.nodes-test.true) in
    let kind : kind_at P n ≡ m.kind = kind_is P n m (subst (λ z. HasNumber z m n) c.nodes-nodes.ensures (slice_get-get_or c.nodes-nodes.result.now n c.index-nodes-node.result lt)) in
    let last : n + 1 ≡ c.nodes.node = omega (arith, c.nodes-test.true) in
    record {
      within = omega (arith, c.nodes.invariant.within);
      apart = apart_more P c.args.marks.now n c.nodes.apart.items c.mark_parts.new.apart.items (subst (λ z. HasApart P c.args.marks.now z c.nodes.apart.items) (sym last) c.nodes.invariant.apart) (subst (λ z. MarksParts c.args.marks.now n (last_parts z) (other_parts z) c.nodes.apart.items c.mark_parts.new.apart.items) (sym kind) c.mark_parts.ensures);
    }
