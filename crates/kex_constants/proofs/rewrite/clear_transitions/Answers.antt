use Rattle.std.proofs.Common.{◌≡◌, IfOk, Option, length, map, sym, ap, ap₂, subst, ◌∙◌, arith}
use Rattle.std.proofs.lemmas.List.{length-map}
use Rattle.kex_sst.specs.declared.table.Transition.{Transition}
use Rattle.kex_sst.specs.Fans.{IsFan, fan}
use Rattle.kex_sst.proofs.Fans.{fan_map}
use Rattle.kex_constants.specs.Clearing.{cleared_transition}
use Rattle.kex_constants.proofs.rewrite.clear_transitions.Goals as goal
use Rattle.kex_constants.proofs.rewrite.clear_transitions.Goals.{In_ok-cleared}

module _ (c : In_ok-cleared) where
  abbrev clear : Option Transition → Option Transition
  clear r = cleared_transition c.args.constants.now c.args.from.now r

  many : length c.in_ok-cleared.cleared.items ≡ length c.parts.result.1.now
  many = ap length c.in_ok-cleared.ensures ∙ length-map c.parts.result.1.now clear

pub from_parts-requires : goal.from_parts-requires
from_parts-requires c =
    let top = (goal.at.from_parts-requires c).In_ok-cleared in
    let h = c.parts.ensures.fan in
    let numbers = c.parts.result.0.now in
    let cleared = c.in_ok-cleared.cleared.items in
    let made : IsFan (length c.args.go.now) numbers cleared = record {
      few = h.few;
      short = h.short;
      many = omega (arith, many top, h.many);
      each = λ class lt. omega (arith, many top, h.each class lt);
    } in
    subst (λ n. IsFan n numbers cleared) (sym c.len.ensures.long) made

pub returns : goal.returns
returns c =
    let top = (goal.at.returns c).In_ok-cleared in
    let go = c.args.go.now in
    let numbers = c.parts.result.0.now in
    subst (λ z. IfOk c.from_parts.result (λ f. f ≡ z))
    (ap₂ (λ n x. fan n numbers x) c.len.ensures.long c.in_ok-cleared.ensures
    ∙ sym (fan_map (clear top) c.parts.ensures.fan)
    ∙ ap (λ z. map (clear top) z) (sym c.parts.ensures.same))
    c.from_parts.ensures
