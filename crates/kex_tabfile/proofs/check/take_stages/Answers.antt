use Rattle.std.proofs.Common.{◌≡◌, suc, ◌+◌, ◌++◌, ◌∷◌, [], Some, length, length-append, arith, map, refl, sym, ap, subst, ◌∙◌, append_assoc}
use Rattle.std.proofs.lemmas.List.{map-append}
use Rattle.kex_machine.specs.Nodes.{Graph}
use Rattle.kex_plan.specs.Plans.{AllTell, Planned, machine_of}
use Rattle.kex_plan.specs.declared.plan.Telling.TheVariants as telling
use Rattle.kex_plan.proofs.ToldPlans.{tell_more}
use Rattle.kex_tabfile.specs.TableFiles.{AreStageTexts, EachHasTable, goes_in, goes_of}
use Rattle.kex_sst.specs.Tables.{Transducer}
use Rattle.kex_sst.specs.Machines.{IsTableOf}
use Rattle.kex_tabfile.specs.Checking.{BreaksStage, ReadsStage}
use Rattle.kex_tabfile.specs.Walks.{IsStageText}
use Rattle.kex_tabfile.proofs.ResultParts.{if_err}
use Rattle.kex_tabfile.proofs.LineSteps.{read_on}
use Rattle.kex_tabfile.proofs.StageTexts.{texts_more, stages_break, tables_more}
use Rattle.kex_tabfile.proofs.check.take_stages.Goals as goal

pub returns-in_err-table-clause-bad : goal.returns-in_err-table-clause-bad
returns-in_err-table-clause-bad c =
    let l = c.machines in
    let e = c.in_err-table.field-0.0 in
    let so = l.invariant.so_far in
    let split = l.invariant.split ∙ ap (λ z. l.yielded ++ z) c.in-Some.ensures.steps.0 in
    let number : l.stage + 1 ≡ suc (length l.yielded) = omega (arith, l.invariant.stage) in
    if_err c.from_residual-in_err-table.result e _ c.from_residual-in_err-table.ensures.1
    (stages_break c.args.machines.items l.yielded c.next.new.self.rest.items c.in-Some.machine (map goes_in l.plans.items) so.0 c.args.reader.now l.reader e split so.1 so.2 (subst (λ n. BreaksStage n c.in-Some.machine l.reader e) number (subst (λ (g : Graph). BreaksStage (l.stage + 1) g l.reader e) c.get.ensures c.in_err-table.ensures.bad)))

pub machines-preserved : goal.machines-preserved
machines-preserved c =
    let l = c.machines in
    let g = c.in-Some.machine in
    let t = c.in_ok-table.table in
    let so = l.invariant.so_far in
    let own = subst (λ (z : Graph). ReadsStage (l.stage + 1) z (goes_of t.states) l.reader c.take_stage.new.reader) c.get.ensures c.in_ok-table.ensures.right in
    let table : IsTableOf g t = subst (λ (z : Graph). IsTableOf z t) c.get.ensures c.in_ok-table.ensures.table in
    let plan : Planned = record { machine = g; table = Some t; telling = telling.Agreed } in
    let made : c.sharing-plan.result ≡ plan = c.sharing-plan.ensures ∙ ap (λ (z : Transducer). let p : Planned = record { machine = g; table = Some z; telling = telling.Agreed } in p) c.in_ok-table-2.ensures in
    let pushed : c.push.new.self.items ≡ l.plans.items ++ plan ∷ [] = c.in_ok-push.ensures.items ∙ ap (λ (z : Planned). l.plans.items ++ z ∷ []) made in
    let number : l.stage + 1 ≡ 1 + length l.yielded = omega (arith, l.invariant.stage) in
    record {
      stage = omega (arith, l.invariant.stage, length-append l.yielded (g ∷ []));
      split = l.invariant.split ∙ ap (λ z. l.yielded ++ z) c.in-Some.ensures.steps.0 ∙ sym (append_assoc l.yielded (g ∷ []) c.next.new.self.rest.items);
      made = ap (λ z. map machine_of z) pushed ∙ map-append machine_of l.plans.items (plan ∷ []) ∙ ap (λ z. z ++ g ∷ []) l.invariant.made;
      tables = subst (λ z. EachHasTable z) (sym pushed) (tables_more l.plans.items g t l.invariant.tables table);
      agreed = subst (λ z. AllTell telling.Agreed z) (sym pushed) (tell_more telling.Agreed l.plans.items plan l.invariant.agreed refl);
      so_far = (
        so.0 ++ own.0,
        subst (λ z. AreStageTexts 1 (l.yielded ++ g ∷ []) z (so.0 ++ own.0)) (sym (ap (λ z. map goes_in z) pushed ∙ map-append goes_in l.plans.items (plan ∷ [])))
            (texts_more 1 l.yielded (map goes_in l.plans.items) so.0 g (goes_of t.states) own.0 so.1 (subst (λ n. IsStageText n g (goes_of t.states) own.0) number own.1)),
        read_on g [] [] c.args.reader.now l.reader c.take_stage.new.reader so.0 own.0 so.2 own.2,
      );
    }
