use Rattle.std.proofs.Common.{◌≡◌, ℕ, ◌+◌, ◌<◌, ◌++◌, ◌∷◌, [], List, length, length-append, map, refl, rules, sym, ap, ap₂, subst, ◌∙◌, arith}
use Rattle.std.proofs.lemmas.List.{length-map, map-append}
use Rattle.std.proofs.lemmas.Option.{slice_get_read}
use Rattle.kex_code.specs.Codes.{HasNumber}
use Rattle.kex_machine.specs.Nodes.{Graph}
use Rattle.kex_model.proofs.Tables.{some_same}
use Rattle.kex_compile.specs.declared.lowered.LoweredStage.{LoweredStage}
use Rattle.kex_compile.specs.Stages.{Machines, StandAtNumbers, stage_of}
use Rattle.kex_compile.proofs.ItemNumbers.{number-map, stand-again}
use Rattle.kex_compile.proofs.lowered.Lowered.push_again.Goals.{In_ok-push}
use Rattle.kex_compile.proofs.lowered.Lowered.push_again.Goals as goal

module _ (c : In_ok-push) where
  abbrev old : List LoweredStage
  old = c.self.inside.stages.items

  abbrev earlier : LoweredStage
  earlier = c.index-stage.result.now

  abbrev made : LoweredStage
  made = record { machine = c.in_ok-machine.machine; places = earlier.places }

  within : c.args.earlier < length old
  within = let long = length-map old (λ s. s.machine) in let view = ap (λ (z : Machines). length z.machines) c.self.view_is in omega (arith, c.requires.earlier, long, view)

  at : HasNumber old earlier c.args.earlier
  at = slice_get_read old (length old) c.args.earlier earlier refl within c.index-stage.ensures

  again : HasNumber (map (λ s. s.machine) old) c.in_ok-machine.machine c.args.earlier
  again = subst (λ m. HasNumber (map (λ s. s.machine) old) m c.args.earlier) (sym c.in_ok-machine.ensures) (number-map (λ s. s.machine) old earlier c.args.earlier at)

pub invariant_of-self-2 : goal.invariant_of-self-2
invariant_of-self-2 c =
    let top = (goal.at.invariant_of-self-2 c).In_ok-push in
    let items = c.in_ok-push.ensures.items in
    let ms : List Graph = map (λ s. s.machine) (old top) in
    let long : length ms ≡ length (old top) = length-map (old top) (λ s. s.machine) in
    let view : length ms ≡ length c.args.self.now.machines = ap (λ (z : Machines). length z.machines) c.self.view_is in
    let more = ap (λ (z : List LoweredStage). length z) items in
    let same = ap (λ (z : List LoweredStage). let gs : List Graph = map (λ s. s.machine) z in gs) items ∙ map-append (λ s. s.machine) (old top) (made top ∷ []) in (
      omega (arith, more, length-append (old top) (made top ∷ []), long, view, c.requires.few),
      search (rules, more, length-append (old top) (made top ∷ []), c.self.invariant.1, c.from.ensures),
      subst (λ z. StandAtNumbers stage_of z) (sym same) (stand-again stage_of ms c.in_ok-machine.machine c.args.earlier (again top) c.self.invariant.2),
    )

abbrev machines_as : List Graph → List ℕ → ℕ → Machines
machines_as ms cs n = record { machines = ms; counts = cs; places = n }

alike : (ms ns : List Graph) (cs ds : List ℕ) (m n : ℕ) → ms ≡ ns → cs ≡ ds → m ≡ n → machines_as ms cs m ≡ machines_as ns ds n
alike ms ns cs ds m n e f g = ap (λ z. machines_as z cs m) e ∙ ap (λ z. machines_as ns z m) f ∙ ap (λ z. machines_as ns ds z) g

pub returns-clause-pushed : goal.returns-clause-pushed
returns-clause-pushed c = λ m n at_m at_n.
    let top = (goal.at.returns-clause-pushed c).In_ok-push in
    let items = c.in_ok-push.ensures.items in
    let now = c.args.self.now in
    let view = c.self.view_is in
    let at_machine : HasNumber (map (λ s. s.machine) (old top)) m c.args.earlier = subst (λ (z : Machines). HasNumber z.machines m c.args.earlier) (sym view) at_m in
    let at_count : HasNumber (map (λ s. s.places) (old top)) n c.args.earlier = subst (λ (z : Machines). HasNumber z.counts n c.args.earlier) (sym view) at_n in
    let is : c.in_ok-machine.machine ≡ m = some_same c.in_ok-machine.machine m (sym (again top) ∙ at_machine) in
    let count : (earlier top).places ≡ n = some_same (earlier top).places n (sym (number-map (λ s. s.places) (old top) (earlier top) c.args.earlier (at top)) ∙ at_count) in
    let ms : map (λ s. s.machine) c.push.new.self.items ≡ now.machines ++ m ∷ [] = ap (λ (z : List LoweredStage). let gs : List Graph = map (λ s. s.machine) z in gs) items ∙ map-append (λ s. s.machine) (old top) (made top ∷ []) ∙ ap₂ (λ (x : List Graph) (y : Graph). x ++ y ∷ []) (ap (λ (z : Machines). z.machines) view) is in
    let cs : map (λ s. s.places) c.push.new.self.items ≡ now.counts ++ n ∷ [] = ap (λ (z : List LoweredStage). let ns : List ℕ = map (λ s. s.places) z in ns) items ∙ map-append (λ s. s.places) (old top) (made top ∷ []) ∙ ap₂ (λ (x : List ℕ) (y : ℕ). x ++ y ∷ []) (ap (λ (z : Machines). z.counts) view) count in
    let total : c.self.inside.places + c.from.result ≡ now.places + n = ap₂ (λ (x : ℕ) (y : ℕ). x + y) (ap (λ (z : Machines). z.places) view) (c.from.ensures ∙ count) in
    alike _ _ _ _ _ _ ms cs total
