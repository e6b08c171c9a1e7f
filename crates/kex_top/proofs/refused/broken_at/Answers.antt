use Rattle.std.proofs.Common.{◌≡◌, ℕ, take, length-take, ap, ◌∙◌, arith}
use Rattle.kex_words.specs.declared.refusals.RefusalPlace.TheVariants.{At}
use Rattle.kex_top.specs.Refusals.{column_at, line_at}
use Rattle.kex_top.specs.declared.start.StartError.TheVariants.{Refused}
use Rattle.kex_top.proofs.LineColumns.{few-behind, few-feeds}
use Rattle.kex_top.proofs.refused.broken_at.Goals as goal

pub returns : goal.returns
returns c =
    let front = take c.args.at c.args.text.now in
    let short = length-take c.args.at c.args.text.now in
    let line : c.place-line.result.0 ≡ line_at c.args.text.now c.args.at = omega (arith, c.place-line.ensures.line, few-feeds front, short, c.requires) in
    let column : c.place-line.result.1 ≡ column_at c.args.text.now c.args.at = omega (arith, c.place-line.ensures.column, few-behind 0 front, short, c.requires) in
    ap (λ (n : ℕ). Refused (record { rule = c.args.rule; place = At n c.place-line.result.1 })) line ∙ ap (λ (n : ℕ). Refused (record { rule = c.args.rule; place = At (line_at c.args.text.now c.args.at) n })) column
