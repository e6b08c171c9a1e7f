use Rattle.std.proofs.Common.{◌≡◌, ◌<◌, ◌+◌, ◌-◌, false, length, get_or, sym, ap, subst, ◌∙◌, arith}
use Rattle.std.proofs.lemmas.Option.{slice_get-get_or}
use Rattle.kex_code.specs.Codes.{HasNumber}
use Rattle.kex_model.specs.Trees.{kind_at}
use Rattle.kex_rules.specs.Rules.{last_parts, other_parts}
use Rattle.kex_rules.specs.Within.{HasWithin, FlagsParts}
use Rattle.kex_rules.proofs.Marks.{read_any}
use Rattle.kex_rules.proofs.Tails.{kind_is}
use Rattle.kex_rules.proofs.NodeFlags.{within_more, within_same}
use Rattle.kex_rules.proofs.within.nodes_within.Goals as goal

pub nodes-preserved-then-index : goal.nodes-preserved-then-index
nodes-preserved-then-index c =
    let n = c.nodes.node - 1 in
    let P = c.args.program.now in
    let within = c.nodes.within.items in
    let m = get_or c.nodes-nodes.result.now n c.index-nodes-node.result in
    let lt : n < length c.nodes-nodes.result.now = omega (arith, c.nodes.invariant.fits, c.nodes-test.true) in
    let fits : n < length within = omega (arith, lt, c.nodes.invariant.within.long, ap length c.nodes-nodes.ensures) in
    let last : n + 1 ≡ c.nodes.node = omega (arith, c.nodes-test.true) in
    let kind : kind_at P n ≡ m.kind = kind_is P n m (subst (λ z. HasNumber z m n) c.nodes-nodes.ensures (slice_get-get_or c.nodes-nodes.result.now n c.index-nodes-node.result lt)) in
    record {
      fits = omega (arith, c.nodes.invariant.fits);
      within = within_more P n within c.flag_parts.new.within.items (subst (λ z. HasWithin P z within) (sym last) c.nodes.invariant.within) (read_any within n false _ fits ∙ sym c.index.ensures ∙ c.if-index.true) (subst (λ z. FlagsParts n (last_parts z) (other_parts z) within c.flag_parts.new.within.items) (sym kind) c.flag_parts.ensures);
    }

pub nodes-preserved : goal.nodes-preserved
nodes-preserved c =
    let n = c.nodes.node - 1 in
    let P = c.args.program.now in
    let within = c.nodes.within.items in
    let lt : n < length within = omega (arith, c.nodes.invariant.fits, c.nodes-test.true, c.nodes.invariant.within.long, ap length c.nodes-nodes.ensures) in
    let last : n + 1 ≡ c.nodes.node = omega (arith, c.nodes-test.true) in
    record {
      fits = omega (arith, c.nodes.invariant.fits);
      within = within_same P n within (subst (λ z. HasWithin P z within) (sym last) c.nodes.invariant.within) (read_any within n false _ lt ∙ sym c.index.ensures ∙ c.if-index.false);
    }
