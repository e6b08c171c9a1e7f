use Rattle.std.proofs.Common.{◌≡◌, ◌+◌, ◌∷◌, [], List, length, length-append, map, sym, ap, subst, ◌∙◌, arith}
use Rattle.std.proofs.lemmas.List.{length-map, map-append}
use Rattle.kex_machine.specs.Nodes.{Graph}
use Rattle.kex_compile.specs.declared.lowered.LoweredStage.{LoweredStage}
use Rattle.kex_compile.specs.Stages.{Machines, StandAtNumbers, stage_of}
use Rattle.kex_compile.proofs.ItemNumbers.{stand-own}
use Rattle.kex_compile.proofs.lowered.Lowered.push.Goals as goal

pub invariant_of-self-2 : goal.invariant_of-self-2
invariant_of-self-2 c =
    let old : List LoweredStage = c.self.inside.stages.items in
    let made : LoweredStage = record { machine = c.args.machine; places = c.args.places } in
    let items = c.in_ok-push.ensures.items in
    let ms : List Graph = map (λ s. s.machine) old in
    let long : length ms ≡ length old = length-map old (λ s. s.machine) in
    let view : length ms ≡ length c.args.self.now.machines = ap (λ (z : Machines). length z.machines) c.self.view_is in
    let more = ap (λ (z : List LoweredStage). length z) items in
    let same = ap (λ (z : List LoweredStage). let gs : List Graph = map (λ s. s.machine) z in gs) items ∙ map-append (λ s. s.machine) old (made ∷ []) in (
      omega (arith, more, length-append old (made ∷ []), long, view, c.requires.few),
      omega (arith, more, length-append old (made ∷ []), c.self.invariant.1, c.from.ensures, c.ranges.places.fits),
      subst (λ z. StandAtNumbers stage_of z) (sym same) (stand-own stage_of ms c.args.machine (c.requires.number ∙ (let e : length c.args.self.now.machines + 1 ≡ length ms + 1 = omega (arith, view) in e)) c.self.invariant.2),
    )
