use Rattle.std.proofs.Common.{ℕ, ◌≡◌, refl}
use Rattle.std.specs.Prelude.{nat_eq}
use Rattle.std.specs.Global.{Vec}
use Rattle.std.specs.Bool.{Decides}
use Rattle.std.proofs.lemmas.Slice.Eq.{slice_eq-Decides}
use Rattle.std.proofs.lemmas.Bool.Decides.{Decides-eqb}
use Rattle.std.specs.Cmp.Lexicographic.{pointwise}
use Rattle.kex_determine.proofs.ShapeKeys.{added_key, stored_key}
use Rattle.kex_determine.proofs.states.number.Goals as goal

same : (x y : Vec ℕ) → Decides (pointwise nat_eq x.items y.items) (x.items ≡ y.items)
same x y = slice_eq-Decides Decides-eqb x.items y.items (pointwise nat_eq x.items y.items) refl

pub returns-clause-added : goal.returns-clause-added
returns-clause-added c = added_key (λ x y. pointwise nat_eq x.items y.items) same c.args.keys.now.keys c.insert_full.new.self.keys c.args.key c.in_ok-index.ensures.keys

pub returns-clause-at : goal.returns-clause-at
returns-clause-at c = let s = c.in_ok-index.ensures.stored in stored_key (λ x y. pointwise nat_eq x.items y.items) same c.insert_full.new.self.keys c.in_ok-index.index c.args.key s.0 s.1 s.2
