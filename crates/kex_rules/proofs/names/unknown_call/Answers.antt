use Rattle.std.proofs.Common.{◌≡◌, ◌<◌, ◌+◌, true, false, length, get_or, sym, ap, subst, ◌∙◌, arith}
use Rattle.std.proofs.lemmas.Option.{slice_get-get_or, get_or_from_slice_get}
use Rattle.kex_code.specs.Codes.{HasNumber}
use Rattle.kex_model.specs.declared.program.Kind.TheVariants.{Call}
use Rattle.kex_rules.specs.Rules.{IsDefined}
use Rattle.kex_rules.specs.Tables.{IsLeastOffset}
use Rattle.kex_rules.proofs.Marks.{read_any}
use Rattle.kex_rules.proofs.DefinedNames.{first_none, is_known}
use Rattle.kex_rules.proofs.NodeFlags.{UnknownBefore, unknown_more, unknown_same, unknown_all}
use Rattle.kex_rules.proofs.names.unknown_call.Goals as goal
use Rattle.kex_rules.proofs.names.unknown_call.Goals.{in-Call+then-within-n+then-is_unknown, in-Call+else-within-n, else-within-n-via-then-within-n+else-is_unknown, else-within-n-via-else-within-n, in_default}

pub loop-n-preserved : goal.loop-n-preserved
loop-n-preserved c =
    let P = c.args.program.now in
    let defs = P.definitions in
    let nodes = c.nodes-nodes.result.now in
    let n = c.loop-n.n in
    let within = c.args.within.now in
    let lt : n < length within = omega (arith, c.loop-n-test.true, ap length c.nodes-nodes.ensures, c.requires.within.long) in
    elim c.match-nodes-n.branch [
      | in-Call+then-within-n+then-is_unknown w ↦
          let m = get_or nodes n w.index-nodes-n.result in
          let at_n = slice_get-get_or nodes n w.index-nodes-n.result c.loop-n-test.true in
          subst (λ z. IsLeastOffset (UnknownBefore P within (n + 1)) z) (sym (w.found-is ∙ w.lowest-found.ensures))
          (unknown_more P within n w.in-Call.name m c.loop-n.found (subst (λ z. HasNumber z m n) c.nodes-nodes.ensures at_n) (ap (λ z. z.kind) (sym (get_or_from_slice_get nodes n m _ at_n)) ∙ w.in-Call.is) (read_any within n false _ lt ∙ w.if-within-n.true) (first_none defs w.in-Call.name (w.is_unknown.ensures.0 w.if-is_unknown.true)) c.loop-n.invariant)
      | in-Call+else-within-n w ↦ subst (λ z. IsLeastOffset (UnknownBefore P within (n + 1)) z) (sym w.found-is)
          (unknown_same P within n c.loop-n.found
          (λ name at k f u. elim w.else-within-n.branch [
            | else-within-n-via-then-within-n+else-is_unknown v ↦
                let both : Call w.in-Call.name ≡ Call name = sym w.in-Call.is ∙ ap (λ z. z.kind) (get_or_from_slice_get nodes n k.0 _ (subst (λ z. HasNumber z k.0 n) (sym c.nodes-nodes.ensures) k.1)) ∙ k.2 in
                let same : w.in-Call.name ≡ name = cc in
                u (subst (λ z. IsDefined defs z) same (is_known defs w.in-Call.name v.is_unknown.result v.is_unknown.ensures v.if-is_unknown.false))
            | else-within-n-via-else-within-n v ↦ let clash : true ≡ false = sym f ∙ read_any within n false _ lt ∙ v.if-within-n.false in cc
          ])
          c.loop-n.invariant)
      | in_default w ↦ subst (λ z. IsLeastOffset (UnknownBefore P within (n + 1)) z) (sym w.found-is) (unknown_same P within n c.loop-n.found (λ name at k f u. w.in_default.not-Call name (ap (λ z. z.kind) (get_or_from_slice_get nodes n k.0 _ (subst (λ z. HasNumber z k.0 n) (sym c.nodes-nodes.ensures) k.1)) ∙ k.2)) c.loop-n.invariant)
    ]

pub returns : goal.returns
returns c = unknown_all c.args.program.now c.args.within.now c.requires.within c.loop-n.found (subst (λ z. IsLeastOffset (UnknownBefore c.args.program.now c.args.within.now z) c.loop-n.found) (omega (arith, c.loop-n.auto.n-end, c.loop-n-test.false, ap length c.nodes-nodes.ensures)) c.loop-n.invariant)
