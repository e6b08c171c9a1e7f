use Rattle.std.proofs.Common.{◌≡◌, ℕ, ◌++◌, Option, Some, None, length, refl, sym, ap, subst, ◌∙◌}
use Rattle.kex_code.specs.Codes.{Begins}
use Rattle.kex_tabfile.specs.Lines.{name_line, size_line, line_behind}
use Rattle.std.specs.Prelude.{codes}
use Rattle.kex_model.proofs.Tables.{some_same}
use Rattle.kex_tabfile.specs.TableFiles.{IsBadHead, IsBadFront, bad_name, bad_text}
use Rattle.kex_tabfile.proofs.ResultParts.{if_err}
use Rattle.kex_tabfile.proofs.HeadParts.{head_rest, size_found}
use Rattle.kex_tabfile.proofs.head.take_head.Goals as goal

clash : (n : ℕ) (o : Option ℕ) → o ≡ None → o ≡ Some n → ⊥
clash n o e f = cc

pub returns-in_err-take-clause-bad : goal.returns-in_err-take-clause-bad
returns-in_err-take-clause-bad c =
    let file = c.args.reader.now.rest in
    let bad = c.in_err-take.ensures.bad in
    if_err c.from_residual.result c.in_err-take.field-0.0 (λ e. IsBadHead file e) c.from_residual.ensures.1
    (subst (λ z. IsBadHead file z) (sym bad.0) (subst (λ z. IsBadFront file (line_behind z)) (sym c.requires) (bad_name bad.1)))

pub returns-in_default-clause-bad : goal.returns-in_default-clause-bad
returns-in_default-clause-bad c =
    let file = c.args.reader.now.rest in
    let rest = c.take.new.self.rest in
    let read = c.in_ok-take.ensures.read in
    let before : c.take.new.self.before ≡ name_line = read.before ∙ ap (λ z. z ++ name_line) c.requires in
    subst (λ z. IsBadHead file z) (sym c.bad_line.ensures) (subst (λ z. IsBadFront file (line_behind z)) (sym before)
    (bad_text (rest, read.came) (λ text b. clash (length text) None refl (size_found rest text None c.in_default.ensures.number c.number.ensures.short (head_rest file rest text read.came b)))))

pub returns-clause-bad : goal.returns-clause-bad
returns-clause-bad c =
    let file = c.args.reader.now.rest in
    let rest = c.take.new.self.rest in
    let read = c.in_ok-take.ensures.read in
    let before : c.take.new.self.before ≡ name_line = read.before ∙ ap (λ z. z ++ name_line) c.requires in
    let kept : c.take_text.new.self.before ≡ name_line = ap (λ z. z.before) c.in-None.ensures.kept ∙ before in
    let line : c.deref.result.now ≡ size_line c.in-Some.size = c.deref.ensures.value ∙ c.in_ok-push_size_line.ensures ∙ ap (λ z. z ++ size_line c.in-Some.size) c.new-line.ensures.items in
    subst (λ z. IsBadHead file z) (sym c.bad_line-in-None.ensures) (subst (λ z. IsBadFront file (line_behind z)) (sym kept)
    (bad_text (rest, read.came) (λ text b.
    let b' = head_rest file rest text read.came b in
    let e = some_same c.in-Some.size (length text) (size_found rest text (Some c.in-Some.size) c.in-Some.ensures.number c.number.ensures.short b') in
    c.in-None.ensures.none text (sym e) (subst (λ z. Begins rest (z ++ (text ++ codes "\n"))) (ap size_line (sym e) ∙ sym line) b'))))
