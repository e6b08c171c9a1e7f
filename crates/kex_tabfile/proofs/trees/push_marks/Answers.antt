use Rattle.std.proofs.Common.{◌≡◌, ◌∷◌, ◌++◌, [], inl, subst, ap, ◌∙◌, arith}
use Rattle.kex_model.proofs.OpenAnswers.{empty_list}
use Rattle.kex_tabfile.specs.declared.trees.TreeMark.TheVariants.{Comma, Close}
use Rattle.kex_tabfile.specs.TreeMarks.{IsTailLeft}
use Rattle.kex_tabfile.proofs.TreeTails.{at_none, at_close, at_comma, left_closed, goes_on_comma}
use Rattle.kex_tabfile.proofs.trees.push_marks.Goals as goal

pub returns-in-Comma : goal.returns-in-Comma
returns-in-Comma c = λ numbers tail h.
    let o = c.loop-mark.invariant numbers tail h in
    let split : c.loop-mark.pending.items ≡ c.pop.new.self.items ++ Comma ∷ [] = c.in-Some.ensures.items ∙ ap (λ z. c.pop.new.self.items ++ z ∷ []) c.in-Comma.is in
    let k = at_comma c.loop-mark.pending.items c.pop.new.self.items o.0 split o.1 in
    goes_on_comma numbers tail c.args.line.now.items o.0 k.1 k.0 c.loop-mark.line.items c.push.new.self.items c.pop.new.self.items k.2 c.in_ok-push-in-Comma.ensures.items k.3 o.2

pub loop-mark-preserved : goal.loop-mark-preserved
loop-mark-preserved c = λ numbers tail h.
    let o = c.loop-mark.invariant numbers tail h in
    let split : c.loop-mark.pending.items ≡ c.pop.new.self.items ++ Close ∷ [] = c.in-Some.ensures.items ∙ ap (λ z. c.pop.new.self.items ++ z ∷ []) c.in-Close.is in
    let k = at_close c.loop-mark.pending.items c.pop.new.self.items o.0 split o.1 in
    (k.0, k.2, left_closed numbers tail c.args.line.now.items o.0 k.0 c.loop-mark.line.items c.push-in-Close.new.self.items k.1 c.in_ok-push-in-Close.ensures.items o.2)

pub returns : goal.returns
returns c = λ numbers tail h.
    let o = c.loop-mark.invariant numbers tail h in
    let before : c.loop-mark.pending.items ≡ [] = empty_list c.loop-mark.pending.items (omega (arith, c.loop-mark.pending.ok.0, c.in_default.ensures.cases.0)) in
    let now : c.pop.new.self.items ≡ [] = empty_list c.pop.new.self.items (omega (arith, c.pop.new.self.ok.0, c.in_default.ensures.cases.1)) in
    inl (now, subst (λ z. IsTailLeft numbers tail c.args.line.now.items z c.loop-mark.line.items) (at_none c.loop-mark.pending.items o.0 before o.1) o.2)
