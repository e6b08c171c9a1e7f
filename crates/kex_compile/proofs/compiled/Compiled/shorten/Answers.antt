use Rattle.std.proofs.Common.{◌≡◌, ◌<◌, ◌^◌, ◌++◌, ◌∷◌, [], List, length, map, sym, ap, ap₂, subst, ◌∙◌, append_assoc}
use Rattle.kex_code.specs.Codes.{HasNumber}
use Rattle.kex_plan.specs.Plans.{AllTell, Planned, machine_of}
use Rattle.kex_compile.specs.Stages.{StandAtNumbers, stage_in, table_of}
use Rattle.kex_compile.proofs.ItemNumbers.{stand-at}
use Rattle.kex_compile.proofs.compiled.Compiled.shorten.Goals as goal

pub shorten_as-requires : goal.shorten_as-requires
shorten_as-requires c =
    let l = c.plans in
    let p = c.in-Some.plan in
    let s = stand-at stage_in (l.yielded ++ l.plan-iterator.rest.items) l.yielded c.next.new.self.rest.items p (ap (λ (z : List Planned). l.yielded ++ z) c.in-Some.ensures.steps.0) l.invariant.stand in
    record { first = (s.0, s.1, subst (λ (z : List Planned). s.0 < length z → HasNumber z p s.0) (sym (c.deref.ensures.value ∙ l.invariant.same)) s.3) }

pub plans-preserved : goal.plans-preserved
plans-preserved c =
    let l = c.plans in
    let p = c.in-Some.plan in
    let rest = c.next.new.self.rest.items in
    let whole : l.yielded ++ l.plan-iterator.rest.items ≡ (l.yielded ++ p ∷ []) ++ rest = ap (λ (z : List Planned). l.yielded ++ z) c.in-Some.ensures.steps.0 ∙ sym (append_assoc l.yielded (p ∷ []) rest) in
    record {
      machines = l.invariant.machines ∙ ap (λ (z : List Planned). map machine_of z) whole;
      tables = l.invariant.tables ∙ ap (λ (z : List Planned). map table_of z) whole;
      told = subst (λ (z : List Planned). AllTell c.args.self.telling z) whole l.invariant.told;
      few = subst (λ (z : List Planned). length z < 2 ^ 32) whole l.invariant.few;
      stand = subst (λ (z : List Planned). StandAtNumbers stage_in z) whole l.invariant.stand;
      same = c.in_ok-push.ensures.items ∙ ap₂ (λ (x : List Planned) (y : Planned). x ++ y ∷ []) l.invariant.same c.in_ok-short.ensures;
    }
