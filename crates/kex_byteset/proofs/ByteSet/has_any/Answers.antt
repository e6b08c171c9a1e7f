use Rattle.std.proofs.Common.{rules, tests, ap, sym, ◌∙◌}
use Rattle.std.proofs.lemmas.Iterator.{YieldsList-from_slice}
use Rattle.std.proofs.lemmas.Iterator.Search.{any_from_yields_List}
use Rattle.std.specs.List.{list_any}
use Rattle.std.specs.Prelude.{not, ◌==◌}
use Rattle.kex_byteset.proofs.Words.{any_words}
use Rattle.kex_byteset.proofs.ByteSet.has_any.Goals as goal

pub returns : goal.returns
returns c =
    let words = c.self.inside.words in
    any_from_yields_List (λ w. not (w == 0)) _ _ _ c.any.ensures.ran (YieldsList-from_slice words cc) (λ x b q k. search (rules, tests))
    ∙ sym (any_words words c.self.invariant.1)
    ∙ ap (list_any (λ b. b)) c.self.view_is
