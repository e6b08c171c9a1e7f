use Rattle.std.proofs.Common.{◌≡◌, ◌+◌, ◌<◌, ◌∙◌, ap, sym, subst, length}
use Rattle.kex_held.specs.Slices.{AreKept, marks_by}
use Rattle.kex_held.specs.Windows.{MarkedText, points_at}
use Rattle.kex_held.proofs.MarkedTexts.{stepped}
use Rattle.kex_held.proofs.window.Window.step.Goals as goal

pub invariant_of-self-2 : goal.invariant_of-self-2
invariant_of-self-2 c =
    let keep = c.args.keep.now in
    let at = c.self.inside.at in
    let lt : at < length c.self.inside.bytes.items = subst (λ (s : MarkedText). s.at < length s.bytes) (sym c.self.view_is) c.requires.more in
    let kept : AreKept (length c.self.inside.marks.items + 2) keep = subst (λ (s : MarkedText). AreKept (length s.marks + 2) keep) (sym c.self.view_is) c.requires.kept in
    let is : c.swap.new.x.items ≡ marks_by (points_at at c.self.inside.marks.items) keep = ap (λ v. v.items) c.swap.ensures.x_after ∙ c.in_ok-put_points.ensures ∙ ap (λ l. marks_by (points_at at l) keep) c.deref.ensures.value in
    stepped c.self.inside.bytes.items at c.self.inside.marks.items keep c.swap.new.x.items c.self.invariant.rising lt kept is
