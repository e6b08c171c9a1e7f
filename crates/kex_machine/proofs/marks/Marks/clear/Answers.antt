use Rattle.std.proofs.Common.{◌==◌, map, length, replicate, false, ap, sym, ◌∙◌}
use Rattle.std.proofs.lemmas.List.{length-map}
use Rattle.kex_machine.proofs.Stamps.{none_first, none_later}
use Rattle.kex_machine.proofs.marks.Marks.clear.Goals as goal

pub returns-then-self : goal.returns-then-self
returns-then-self c =
    ap (λ z. map (λ s. s == 1) z) (c.fill.ensures.items (λ y h. h))
    ∙ ap (λ z. map (λ s. s == 1) (replicate z 0)) c.self.inside.stamps.ok.0
    ∙ none_first (length c.self.inside.stamps.items)
    ∙ ap (λ z. replicate z false) (sym (length-map c.self.inside.stamps.items (λ s. s == c.self.inside.current)))
    ∙ ap (λ z. replicate (length z) false) c.self.view_is

pub returns : goal.returns
returns c = none_later c.self.inside.stamps.items c.self.inside.current c.self.invariant ∙ ap (λ z. replicate (length z) false) c.self.view_is
