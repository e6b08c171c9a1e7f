use Rattle.std.proofs.Common.{◌≡◌, ◌-◌, ◌<◌, List, length, refl, sym, ap, subst, ◌∙◌, arith}
use Rattle.std.specs.Prelude.{IfOk}
use Rattle.std.proofs.lemmas.Option.{slice_get_read}
use Rattle.kex_code.specs.Codes.{HasNumber}
use Rattle.kex_machine.specs.Nodes.{Graph}
use Rattle.kex_model.proofs.Tables.{some_same}
use Rattle.kex_plan.specs.Plans.{Planned}
use Rattle.kex_compile.proofs.compiled.shorten_as.Goals as goal

pub returns-then-first-shorter : goal.returns-then-first-shorter
returns-then-first-shorter c =
    let plan = c.args.plan in
    let shorter : List Planned = c.args.shorter.now in
    let r = c.requires.first in
    let other = c.index-shorter-first.result in
    let first : c.stage.result ≡ plan.machine.stage = c.stage.ensures ∙ ap (λ (z : Graph). z.stage) (c.machine-2.ensures.same ∙ c.machine.ensures.same) in
    let number : c.stage.result - 1 ≡ r.0 = omega (arith, first, r.1) in
    let within : r.0 < length shorter = omega (arith, first, r.1, c.if-first-shorter.true) in
    let at : HasNumber shorter other (c.stage.result - 1) = slice_get_read shorter (length shorter) (c.stage.result - 1) other refl c.if-first-shorter.true c.index-shorter-first.is in
    let there : HasNumber shorter plan (c.stage.result - 1) = subst (λ k. HasNumber shorter plan k) (sym number) (r.2 within) in
    subst (λ (z : Planned). IfOk c.again.result (λ p. p ≡ z)) (some_same other plan (sym at ∙ there)) c.again.ensures
