use Rattle.std.proofs.Common.{◌∷◌, ◌++◌, [], take, arith, sym, subst, ap, ◌∙◌}
use Rattle.std.proofs.lemmas.List.{take_more, take_all}
use Rattle.kex_code.specs.Prefixes.{IsCommonLength}
use Rattle.kex_code.proofs.Prefixes.{front_fits, more_agree, all_agree}
use Rattle.kex_code.proofs.prefix.lcp.Goals as goal

pub loop-code-preserved : goal.loop-code-preserved
loop-code-preserved c =
    let first = c.as_slice-first.result.now in
    let codes = c.args.codes.now in
    let i = c.loop-code.code-index in
    let h = more_agree first c.as_slice.result.now (take i codes) c.loop-code.agreed c.common-agreed.result c.loop-code.invariant.so_far c.common-agreed.ensures in
    let long = front_fits first c.as_slice.result.now c.loop-code.agreed c.common-agreed.result c.common-agreed.ensures in
    record {
      within = omega (arith, long, c.loop-code.invariant.within);
      so_far = subst (λ z. IsCommonLength (first ∷ z) c.common-agreed.result) (sym (take_more codes i c.code-item.result c.loop-code-test.true ∙ ap (λ z. take i codes ++ z ∷ []) (sym (c.as_slice.ensures ∙ c.code-item.is)))) h;
    }

pub returns : goal.returns
returns c =
    let first = c.as_slice-first.result.now in
    let codes = c.args.codes.now in
    all_agree codes c.index-codes-0.result c.loop-code.agreed c.requires (subst (λ z. IsCommonLength (z ∷ codes) c.loop-code.agreed) (c.as_slice-first.ensures ∙ c.index-codes-0.is) (subst (λ z. IsCommonLength (first ∷ z) c.loop-code.agreed) (take_all c.loop-code.code-index codes c.loop-code-test.false) c.loop-code.invariant.so_far))
