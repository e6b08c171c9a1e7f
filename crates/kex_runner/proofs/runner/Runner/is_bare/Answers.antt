use Rattle.std.proofs.Common.{◌≡◌, ◌<◌, true, false, Some, length, refl, sym, ap, subst, ◌∙◌, arith, eq-eqb}
use Rattle.std.specs.Prelude.{slice_get}
use Rattle.std.proofs.lemmas.Bool.{eqb-true, ltb-true, ltb-false}
use Rattle.std.proofs.lemmas.Option.{slice_get_read}
use Rattle.kex_sst.specs.Tables.{Row}
use Rattle.kex_runner.proofs.ByteSteps.{place_in_range}
use Rattle.kex_runner.proofs.runner.Runner.is_bare.Goals as goal

false_true : false ≡ true → ⊥
false_true e = cc

some_row : {x y : Row} → Some x ≡ Some y → x ≡ y
some_row e = cc

pub returns-in-None : goal.returns-in-None
returns-in-None c =
    let table = ap (λ z. z.table) c.self.view_is in (
      λ e. absurd (false_true e),
      λ p.
          let lt = place_in_range p in
          let le = ltb-false c.args.state (length c.states.result.now) (sym c.in-None.ensures.lookup.0) in
          absurd (omega (arith, lt, le, ap length c.states.ensures.same, ap (λ z. length z.states) table)),
    )

pub returns-in-Some : goal.returns-in-Some
returns-in-Some c =
    let table = ap (λ z. z.table) c.self.view_is in
    let lt : c.args.state < length c.states.result.now = ltb-true c.args.state (length c.states.result.now) (sym c.in-Some.ensures.lookup.0) in
    let at : slice_get c.args.self.now.table.states c.args.state ≡ Some c.in-Some.row.now =
    subst (λ z. slice_get z c.args.state ≡ Some c.in-Some.row.now) (c.states.ensures.same ∙ ap (λ z. z.states) table) (slice_get_read c.states.result.now (length c.states.result.now) c.args.state c.in-Some.row.now refl lt c.in-Some.ensures.lookup.1) in (
      λ e. record { row = c.in-Some.row.now; at = at; count = sym (eqb-true c.registers.result 0 e) ∙ c.registers.ensures },
      λ p.
          let same : p.row ≡ c.in-Some.row.now = some_row (sym p.at ∙ at) in
          eq-eqb c.registers.result 0 (c.registers.ensures ∙ ap (λ z. z.registers) (sym same) ∙ sym p.count),
    )
