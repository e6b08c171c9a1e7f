use Rattle.std.proofs.Common.{◌≡◌, [], Some, length, refl, sym, ap, subst, ◌∙◌, arith}
use Rattle.std.specs.Prelude.{slice_get}
use Rattle.std.proofs.lemmas.Bool.{ltb-true, ltb-false}
use Rattle.std.proofs.lemmas.Option.{slice_get_read}
use Rattle.std.proofs.lemmas.List.{get_or_past}
use Rattle.kex_script.specs.Scripts.{Sheet, list_at, AreTails}
use Rattle.kex_script.proofs.ScriptReads.{empty_list}
use Rattle.kex_script.proofs.script.Script.tail.Goals as goal

pub returns-then-list-eq0-clause-tail : goal.returns-then-list-eq0-clause-tail
returns-then-list-eq0-clause-tail c =
    let h = subst (λ (z : Sheet). AreTails z.words z.lists z.tails) c.self.view_is c.self.invariant.0 in
    ap (λ z. list_at c.args.self.now z) c.if-list-eq0.true ∙ empty_list c.args.self.now h

pub returns-in-Some-clause-tail : goal.returns-in-Some-clause-tail
returns-in-Some-clause-tail c =
    let s = c.args.self.now in
    let h = subst (λ (z : Sheet). AreTails z.words z.lists z.tails) c.self.view_is c.self.invariant.0 in
    let tails = c.as_slice-tails.ensures.value ∙ ap (λ (z : Sheet). z.tails) c.self.view_is in
    let at = slice_get_read c.as_slice-tails.result.now (length c.as_slice-tails.result.now) c.args.list c.in-Some.tail.now refl (ltb-true c.args.list (length c.as_slice-tails.result.now) (sym c.in-Some.ensures.lookup.0)) c.in-Some.ensures.lookup.1 in
    h.each c.args.list c.in-Some.tail.now (omega (arith, c.if-list-eq0.false)) (subst (λ z. slice_get z c.args.list ≡ Some c.in-Some.tail.now) tails at)

pub returns-in-None-clause-tail : goal.returns-in-None-clause-tail
returns-in-None-clause-tail c =
    let s = c.args.self.now in
    let h = subst (λ (z : Sheet). AreTails z.words z.lists z.tails) c.self.view_is c.self.invariant.0 in
    let tails = c.as_slice-tails.ensures.value ∙ ap (λ (z : Sheet). z.tails) c.self.view_is in
    let past = ltb-false c.args.list (length c.as_slice-tails.result.now) (sym c.in-None.ensures.lookup.0) in
    get_or_past s.lists c.args.list [] (omega (arith, past, ap length tails, h.as_many))

pub returns-then-list-eq0-clause-empty : goal.returns-then-list-eq0-clause-empty
returns-then-list-eq0-clause-empty c = empty_list c.args.self.now (subst (λ (z : Sheet). AreTails z.words z.lists z.tails) c.self.view_is c.self.invariant.0)

pub returns-in-Some-clause-empty : goal.returns-in-Some-clause-empty
returns-in-Some-clause-empty c = empty_list c.args.self.now (subst (λ (z : Sheet). AreTails z.words z.lists z.tails) c.self.view_is c.self.invariant.0)

pub returns-in-None-clause-empty : goal.returns-in-None-clause-empty
returns-in-None-clause-empty c = empty_list c.args.self.now (subst (λ (z : Sheet). AreTails z.words z.lists z.tails) c.self.view_is c.self.invariant.0)
