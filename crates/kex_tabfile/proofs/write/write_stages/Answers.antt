use Rattle.std.proofs.Common.{◌≡◌, ◌+◌, ◌≤◌, ◌++◌, Option, None, Some, length, refl, sym, ap, subst, ◌∙◌, append_assoc}
use Rattle.std.specs.Prelude.{slice_get}
use Rattle.std.proofs.lemmas.Option.{slice_get_read}
use Rattle.kex_model.proofs.Tables.{some_same}
use Rattle.kex_sst.specs.Tables.{Transducer}
use Rattle.kex_determine.specs.Determined.{IsDetermined}
use Rattle.kex_tabfile.specs.TableFiles.{goes_of}
use Rattle.kex_tabfile.specs.Walks.{IsStageText, most_table_states}
use Rattle.kex_tabfile.proofs.WrittenFiles.{planned, stage_more}
use Rattle.kex_tabfile.proofs.write.write_stages.Goals as goal
use Rattle.kex_tabfile.proofs.write.write_stages.Goals.{in-Some+in_ok-write_stage, in_default}

clash : (t : Transducer) (o : Option Transducer) → o ≡ None → o ≡ Some t → ⊥
clash t o e f = cc

pub write_stage-requires-clause-determined : goal.write_stage-requires-clause-determined
write_stage-requires-clause-determined c =
    let stages = c.args.stages.now in
    let p = c.index-stages-i.result in
    let table = c.in-Some.table.now in
    let at : slice_get stages c.plans.i ≡ Some p = slice_get_read stages (length stages) c.plans.i p refl c.plans-test.true c.index-stages-i.is in
    let x = planned stages c.requires.determined c.plans.i p at in
    let same : x.0 ≡ table = some_same x.0 table (sym x.1 ∙ c.in-Some.ensures.same) in
    subst (λ z. IsDetermined z table) (sym c.machine.ensures.same) (subst (λ z. IsDetermined p.machine z) same x.2)

pub write_stage-requires-clause-few : goal.write_stage-requires-clause-few
write_stage-requires-clause-few c =
    let stages = c.args.stages.now in
    let p = c.index-stages-i.result in
    let table = c.in-Some.table.now in
    let at : slice_get stages c.plans.i ≡ Some p = slice_get_read stages (length stages) c.plans.i p refl c.plans-test.true c.index-stages-i.is in
    let x = planned stages c.requires.determined c.plans.i p at in
    let same : x.0 ≡ table = some_same x.0 table (sym x.1 ∙ c.in-Some.ensures.same) in
    subst (λ z. length z.states ≤ most_table_states) same x.3

pub plans-preserved : goal.plans-preserved
plans-preserved c =
    let stages = c.args.stages.now in
    let out = c.args.out.now.items in
    let i = c.plans.i in
    let p = c.index-stages-i.result in
    let old = c.plans.invariant in
    let at : slice_get stages i ≡ Some p = slice_get_read stages (length stages) i p refl c.plans-test.true c.index-stages-i.is in
    elim c.match-table.branch [
      | in-Some+in_ok-write_stage w ↦ (
          let own = w.in_ok-write_stage.ensures in
          let table = w.in-Some.table.now in (
            old.0 ++ own.0,
            ap (λ z. z.items) w.out-is ∙ own.1 ∙ ap (λ z. z ++ own.0) old.1 ∙ append_assoc out old.0 own.0,
            stage_more stages i p table old.0 own.0 at w.in-Some.ensures.same old.2 (subst (λ z. IsStageText (i + 1) z (goes_of table.states) own.0) w.machine.ensures.same own.2),
          )
          )
      | in_default w ↦ (let x = planned stages c.requires.determined i p at in absurd (clash x.0 p.table w.in_default.ensures.same x.1))
    ]
