use Rattle.std.proofs.Common.{◌≡◌, ℕ, ◌+◌, ◌<◌, ◌++◌, ◌∷◌, [], List, Option, length, length-append, map, refl, sym, ap, ap₂, subst, ◌∙◌, arith}
use Rattle.std.proofs.lemmas.List.{length-map, map-append}
use Rattle.std.proofs.lemmas.Option.{slice_get_read}
use Rattle.kex_code.specs.Codes.{HasNumber}
use Rattle.kex_machine.specs.Nodes.{Graph}
use Rattle.kex_model.proofs.Tables.{some_same}
use Rattle.kex_sst.specs.Tables.{Row, Transducer}
use Rattle.kex_plan.specs.Plans.{AllTell, Planned, machine_of}
use Rattle.kex_plan.specs.declared.plan.Telling.{Telling}
use Rattle.kex_plan.proofs.ToldPlans.{tell_more}
use Rattle.kex_compile.specs.Stages.{Plans, StandAtNumbers, stage_in, states_if, table_of}
use Rattle.kex_compile.proofs.FirstStages.{among-at}
use Rattle.kex_compile.proofs.ItemNumbers.{number-map, stand-again}
use Rattle.kex_compile.proofs.compiled.Compiled.push_again.Goals.{In_ok-push, in-None, in-Some}
use Rattle.kex_compile.proofs.compiled.Compiled.push_again.Goals as goal

module _ (c : In_ok-push) where
  abbrev old : List Planned
  old = c.self.inside.stages.items

  abbrev plan : Planned
  plan = c.in_ok-plan.plan

  within : c.args.earlier < length old
  within = let long = length-map old machine_of in let view = ap (λ (z : Plans). length z.stages) c.self.view_is in omega (arith, c.requires.earlier, long, view)

  again : HasNumber old plan c.args.earlier
  again = subst (λ p. HasNumber old p c.args.earlier) (sym c.in_ok-plan.ensures) (slice_get_read old (length old) c.args.earlier c.index.result.now refl within c.index.ensures)

  counted : c.match-table.states ≡ states_if plan.table
  counted = elim c.match-table.branch [
    | in-None w ↦ w.states-is ∙ sym (ap states_if w.in-None.ensures.same)
    | in-Some w ↦ w.states-is ∙ ap (λ (z : List Row). length z) w.states.ensures.same ∙ sym (ap states_if w.in-Some.ensures.same)
  ]

pub invariant_of-self-2 : goal.invariant_of-self-2
invariant_of-self-2 c =
    let top = (goal.at.invariant_of-self-2 c).In_ok-push in
    let items = c.in_ok-push.ensures.items in
    let long = length-map (old top) machine_of in
    let view = ap (λ (z : Plans). length z.stages) c.self.view_is in
    let told = c.self.invariant.1 (plan top) (among-at (old top) c.args.earlier (plan top) (again top)) in (
      omega (arith, ap (λ (ps : List Planned). length ps) items, length-append (old top) (plan top ∷ []), long, view, c.requires.stages),
      subst (λ ps. AllTell c.self.inside.telling ps) (sym items) (tell_more c.self.inside.telling (old top) (plan top) c.self.invariant.1 told),
      subst (λ ps. StandAtNumbers stage_in ps) (sym items) (stand-again stage_in (old top) (plan top) c.args.earlier (again top) c.self.invariant.2),
    )

abbrev plans_as : List Graph → List (Option Transducer) → Telling → ℕ → ℕ → Plans
plans_as ms os k m n = record { stages = ms; tables = os; telling = k; places = m; states = n }

alike : (ms ns : List Graph) (os qs : List (Option Transducer)) (k l : Telling) (i j m n : ℕ) → ms ≡ ns → os ≡ qs → k ≡ l → i ≡ j → m ≡ n → plans_as ms os k i m ≡ plans_as ns qs l j n
alike ms ns os qs k l i j m n e f g h r =
    ap (λ z. plans_as z os k i m) e ∙ ap (λ z. plans_as ns z k i m) f ∙ ap (λ z. plans_as ns qs z i m) g ∙ ap (λ z. plans_as ns qs l z m) h ∙ ap (λ z. plans_as ns qs l j z) r

pub returns-clause-pushed : goal.returns-clause-pushed
returns-clause-pushed c = λ m o at_m at_o.
    let top = (goal.at.returns-clause-pushed c).In_ok-push in
    let items = c.in_ok-push.ensures.items in
    let now = c.args.self.now in
    let view = c.self.view_is in
    let at_machine : HasNumber (map machine_of (old top)) m c.args.earlier = subst (λ (z : Plans). HasNumber z.stages m c.args.earlier) (sym view) at_m in
    let at_table : HasNumber (map table_of (old top)) o c.args.earlier = subst (λ (z : Plans). HasNumber z.tables o c.args.earlier) (sym view) at_o in
    let is : (plan top).machine ≡ m = some_same (plan top).machine m (sym (number-map machine_of (old top) (plan top) c.args.earlier (again top)) ∙ at_machine) in
    let table : (plan top).table ≡ o = some_same (plan top).table o (sym (number-map table_of (old top) (plan top) c.args.earlier (again top)) ∙ at_table) in
    let ms : map machine_of c.push.new.self.items ≡ now.stages ++ m ∷ [] = ap (λ (z : List Planned). map machine_of z) items ∙ map-append machine_of (old top) (plan top ∷ []) ∙ ap₂ (λ (x : List Graph) (y : Graph). x ++ y ∷ []) (ap (λ (z : Plans). z.stages) view) is in
    let os : map table_of c.push.new.self.items ≡ now.tables ++ o ∷ [] = ap (λ (z : List Planned). map table_of z) items ∙ map-append table_of (old top) (plan top ∷ []) ∙ ap₂ (λ (x : List (Option Transducer)) (y : Option Transducer). x ++ y ∷ []) (ap (λ (z : Plans). z.tables) view) table in
    let total : c.self.inside.states + c.from.result ≡ now.states + states_if o = ap₂ (λ (x : ℕ) (y : ℕ). x + y) (ap (λ (z : Plans). z.states) view) (c.from.ensures ∙ counted top ∙ ap states_if table) in
    alike _ _ _ _ _ _ _ _ _ _ ms os (ap (λ (z : Plans). z.telling) view) (ap (λ (z : Plans). z.places) view) total
