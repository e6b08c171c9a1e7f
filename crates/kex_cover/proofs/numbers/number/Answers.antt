use Rattle.std.proofs.Common.{◌≡◌, ℕ, refl}
use Rattle.std.specs.Prelude.{nat_eq}
use Rattle.std.specs.Global.{Vec}
use Rattle.std.specs.Bool.{Decides}
use Rattle.std.proofs.lemmas.Slice.Eq.{slice_eq-Decides}
use Rattle.std.proofs.lemmas.Bool.Decides.{Decides-eqb}
use Rattle.std.specs.Cmp.Lexicographic.{pointwise}
use Rattle.kex_cover.proofs.AskedQuestions.{stored_question}
use Rattle.kex_cover.proofs.Keys.{IsPut, added}
use Rattle.kex_cover.proofs.numbers.number.Goals as goal
use Rattle.kex_cover.proofs.numbers.number.Goals.{In_ok-index}

same : (x y : Vec ℕ) → Decides (pointwise nat_eq x.items y.items) (x.items ≡ y.items)
same x y = slice_eq-Decides Decides-eqb x.items y.items (pointwise nat_eq x.items y.items) refl

put : (c : In_ok-index) → IsPut (λ v. v.items) (λ x y. pointwise nat_eq x.items y.items) same c.args.lists.now.keys c.args.list c.insert_full.new.self.keys c.in_ok-index.new
put c = added (λ v. v.items) (λ x y. pointwise nat_eq x.items y.items) same c.args.lists.now.keys c.insert_full.new.self.keys c.args.list c.in_ok-index.new c.in_ok-index.ensures.added c.in_ok-index.ensures.keys

pub returns-clause-added : goal.returns-clause-added
returns-clause-added c = (put (goal.at.returns-clause-added c).In_ok-index).0

pub returns-clause-new : goal.returns-clause-new
returns-clause-new c = (put (goal.at.returns-clause-new c).In_ok-index).1

pub returns-clause-at : goal.returns-clause-at
returns-clause-at c = let s = c.in_ok-index.ensures.stored in stored_question (λ x y. pointwise nat_eq x.items y.items) same c.insert_full.new.self.keys c.in_ok-index.index c.args.list s.0 s.1 s.2
