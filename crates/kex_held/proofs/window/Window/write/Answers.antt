use Rattle.std.proofs.Common.{◌≡◌, ◌+◌, ◌<◌, ◌++◌, ◌∙◌, get_or, ap, ap₂, sym, subst, length}
use Rattle.kex_held.specs.Slices.{slice_between}
use Rattle.kex_held.specs.Windows.{MarkedText, points_at, text_with_next}
use Rattle.kex_held.proofs.MarkedTexts.{read_slice}
use Rattle.kex_held.proofs.window.Window.write.Goals as goal

pub returns : goal.returns
returns c =
    let bytes = c.self.inside.bytes.items in
    let at = c.self.inside.at in
    let marks = c.self.inside.marks.items in
    let s : MarkedText = record { bytes = bytes; at = at; marks = marks } in
    let i = c.args.from in
    let j = c.args.to in
    let more : at < length bytes = subst (λ (s : MarkedText). s.at < length s.bytes) (sym c.self.view_is) c.requires.more in
    let lt : j < length marks + 2 = subst (λ (s : MarkedText). j < length s.marks + 2) (sym c.self.view_is) c.requires.within.1 in
    let from : c.point_of-start.result ≡ get_or (points_at at marks) i 0 = c.point_of-start.ensures ∙ ap (λ l. get_or (points_at at l) i 0) c.deref.ensures.value in
    let to : c.point_of-end.result ≡ get_or (points_at at marks) j 0 = c.point_of-end.ensures ∙ ap (λ l. get_or (points_at at l) j 0) c.deref-2.ensures.value in
    let all : slice_between c.deref-3.result.now c.point_of-start.result c.point_of-end.result ≡ slice_between (text_with_next s) (get_or (points_at at marks) i 0) (get_or (points_at at marks) j 0) =
    ap (λ l. slice_between l c.point_of-start.result c.point_of-end.result) c.deref-3.ensures.value
    ∙ ap₂ (λ a b. slice_between bytes a b) from to
    ∙ read_slice s i j c.self.invariant more c.requires.within.0 lt in
    subst (λ (s : MarkedText). c.extend_from_slice.new.self.items ≡ c.args.out.now.items ++ slice_between (text_with_next s) (get_or (points_at s.at s.marks) i 0) (get_or (points_at s.at s.marks) j 0)) c.self.view_is (c.in_ok-extend_from_slice.ensures.items ∙ ap (λ l. c.args.out.now.items ++ l) all)
