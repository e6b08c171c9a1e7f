use Rattle.std.proofs.Common.{◌≡◌, refl, subst, sym}
use Rattle.std.proofs.lemmas.Result.{err_from_is_err_and}
use Rattle.kex_ports.specs.Shelf.{told_of}
use Rattle.kex_compile.specs.Compiled.{IsCompiled, IsRefused}
use Rattle.kex_compile.specs.declared.refusal.CompileRefusal.{CompileRefusal}
use Rattle.kex_words.specs.Words.Asked.{ToCompile}
use Rattle.kex_top.specs.Commands.{Filed}
use Rattle.kex_top.specs.Modes.{limits_to_check}
use Rattle.kex_top.specs.Refusals.{IsStartOf}
use Rattle.kex_top.proofs.CallAnswers.{unbegun, unplanned}
use Rattle.kex_top.proofs.TableCommands.{filed}
use Rattle.kex_top.proofs.call.compile.answer_compile.Goals as goal

pub returns-in_err-file-clause-answers : goal.returns-in_err-file-clause-answers
returns-in_err-file-clause-answers g c = λ reads source left.
    let e = c.in_err-file.field-0.0 in
    let texts = g.H.Shelf.texts c.args.shelf.now in
    let read = c.in_ok-text.text.items in
    let text : c.deref.result.now ≡ read = c.deref.ensures.value in
    let p = err_from_is_err_and c.from_residual-in_err-file.result c.from_residual-in_err-file.ensures.1 in
    rw (p.1, p.2) (unbegun (ToCompile c.args.program.now c.args.states.most) texts reads source _ e
    (unplanned (limits_to_check c.args.states.most) (told_of texts c.args.program.now) read e c.in_ok-text.ensures.found
    (subst (λ l. (rule : CompileRefusal) × IsRefused l read rule × IsStartOf read rule e) c.limits_to_check-asked.ensures (subst (λ t. (rule : CompileRefusal) × IsRefused c.limits_to_check-asked.result t rule × IsStartOf t rule e) text c.in_err-file.ensures.none)))
    (λ is. refl) (left, (refl, refl)))

pub returns-clause-answers : goal.returns-clause-answers
returns-clause-answers g c = λ reads source left.
    let h = c.in_ok-file.ensures.file in
    let text : c.deref.result.now ≡ c.in_ok-text.text.items = c.deref.ensures.value in
    let file : c.deref-2.result.now ≡ c.in_ok-file.file.items = c.deref-2.ensures.value in
    filed c.args.program.now c.args.states.most _ reads c.in_ok-text.text.items h.0 source _ _ c.in_ok-text.ensures.found
    (subst (λ l. IsCompiled l c.in_ok-text.text.items h.0) c.limits_to_check-asked.ensures (subst (λ t. IsCompiled c.limits_to_check-asked.result t h.0) text h.1)) left c.deref-2.result.now
    (subst (λ z. Filed c.in_ok-text.text.items (λ bytes. bytes ≡ z)) (sym file) (subst (λ t. Filed t (λ bytes. bytes ≡ c.in_ok-file.file.items)) text h.2)) c.tell_file.ensures.told
