use Rattle.std.proofs.Common.{◌≡◌, suc, ◌+◌, [], get_or, sym, ap, subst, ◌∙◌, arith}
use Rattle.kex_script.specs.Scripts.{Sheet, list_at, AreTails}
use Rattle.kex_script.proofs.ScriptReads.{given_at, given_past, empty_list}
use Rattle.kex_script.proofs.script.Script.given.Goals as goal

pub returns-then-register-number_at : goal.returns-then-register-number_at
returns-then-register-number_at c =
    let s = c.args.self.now in
    let empty : list_at s 0 ≡ [] = empty_list s (subst (λ (z : Sheet). AreTails z.words z.lists z.tails) c.self.view_is c.self.invariant.0) in
    let count : c.number_at.result ≡ get_or s.rows c.args.update 0 = c.number_at.ensures ∙ ap (λ z. get_or z c.args.update 0) (c.deref.ensures.value ∙ ap (λ (z : Sheet). z.rows) c.self.view_is) in
    empty ∙ sym (given_past s (suc (suc c.args.update)) (get_or s.rows c.args.update 0) c.args.register (omega (arith, c.if-register-number_at.true, count)))

pub returns : goal.returns
returns c =
    let s = c.args.self.now in
    let count : c.number_at.result ≡ get_or s.rows c.args.update 0 = c.number_at.ensures ∙ ap (λ z. get_or z c.args.update 0) (c.deref.ensures.value ∙ ap (λ (z : Sheet). z.rows) c.self.view_is) in
    let at : c.args.update + 2 + c.args.register ≡ suc (suc c.args.update) + c.args.register = omega arith in
    let number : c.number_at-2.result ≡ get_or s.rows (suc (suc c.args.update) + c.args.register) 0 = c.number_at-2.ensures ∙ ap (λ z. get_or z (c.args.update + 2 + c.args.register) 0) (c.deref-2.ensures.value ∙ ap (λ (z : Sheet). z.rows) c.self.view_is) ∙ ap (λ z. get_or s.rows z 0) at in
    ap (λ z. list_at s z) number ∙ sym (given_at s (suc (suc c.args.update)) (get_or s.rows c.args.update 0) c.args.register (omega (arith, c.if-register-number_at.false, count)))
