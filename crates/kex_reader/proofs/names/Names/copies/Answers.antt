use Rattle.std.proofs.Common.{ℕ, List, ◌∷◌, [], ◌++◌, sym, ap, ◌∙◌}
use Rattle.std.specs.Prelude.{map}
use Rattle.kex_reader.proofs.NumberedNames.{get_mapped, take_get}
use Rattle.kex_reader.proofs.names.Names.copies.Goals as goal

pub loop-i-preserved : goal.loop-i-preserved
loop-i-preserved c =
    let t = take_get (map (λ k. k.now) c.self.inside.all.keys) c.loop-i.i _ (get_mapped (λ k. k.now) c.self.inside.all.keys c.loop-i.i _ c.index.ensures) in
    c.in_ok-push.ensures.items ∙ ap (λ xs. xs ++ c.new.result ∷ []) c.loop-i.invariant ∙ ap (λ (x : List ℕ). Rattle.std.specs.Prelude.take c.loop-i.i (map (λ k. k.now) c.self.inside.all.keys) ++ x ∷ []) (c.new.ensures ∙ c.in_ok-bytes.ensures.items) ∙ sym t
