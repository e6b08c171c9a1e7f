use Rattle.std.proofs.Common.{◌≡◌, length, sym, ap, ◌∙◌, arith}
use Rattle.std.specs.Prelude.{◌==◌, option_copied}
use Rattle.kex_cover.proofs.SetNumbers.{empty_at}
use Rattle.kex_cover.proofs.met_sets.MetSets.is_empty.Goals as goal

pub returns : goal.returns
returns c =
    let k = c.unwrap.result.now in
    let long : k.len ≡ length k.items = omega (arith, k.ok.0) in
    empty_at c.args.self.now.sets.keys c.args.at c.unwrap.result.now c.is_empty.result (sym c.get_index.ensures.key ∙ ap option_copied c.unwrap.ensures) (c.is_empty.ensures ∙ ap (λ z. z == 0) long)
