use Rattle.std.proofs.Common.{◌≡◌, ℕ, [], ◌∷◌, ◌++◌, Some, length, refl, ap, sym, subst, ◌∙◌, arith}
use Rattle.std.specs.Prelude.{slice_get}
use Rattle.kex_model.specs.Labelled.{Shape}
use Rattle.kex_machine.specs.Nodes.{Graph}
use Rattle.kex_paths.specs.Spellings.{key_of}
use Rattle.kex_determine.specs.Numbering.{texts, IsAdded, IsMet, IsWith}
use Rattle.kex_determine.proofs.ShapeKeys.{enter_known, enter_next, enter_full}
use Rattle.kex_determine.proofs.states.States.enter.Goals as goal
use Rattle.kex_determine.proofs.states.States.enter.Goals.{In_ok-index}

module _ (c : In_ok-index) (g : Graph) (s : Shape ℕ) (met : IsMet g c.args.tree s) where
  was_added : IsAdded (texts c.args.self.now.keys.keys) (key_of s) (texts c.number.new.keys.keys)
  was_added = subst (λ z. IsAdded (texts c.args.self.now.keys.keys) z (texts c.number.new.keys.keys)) (c.in_ok-key.ensures.key s met.shape) c.in_ok-index.ensures.added

  is_at : slice_get (texts c.number.new.keys.keys) c.in_ok-index.index ≡ Some (key_of s)
  is_at = c.in_ok-index.ensures.at ∙ ap (λ z. Some z) (c.in_ok-key.ensures.key s met.shape)

pub returns-then-index-count-clause-ok : goal.returns-then-index-count-clause-ok
returns-then-index-count-clause-ok c = λ g xs s n met.
    let top = (goal.at.returns-then-index-count-clause-ok c).In_ok-index in
    (xs, enter_known g c.args.self.now.keys.keys c.number.new.keys.keys c.args.self.now.trees.items xs c.args.tree s c.in_ok-index.index n met (was_added top g s met) (is_at top g s met) (omega arith))

pub returns-then-count-self-clause-err : goal.returns-then-count-self-clause-err
returns-then-count-self-clause-err c = (
  refl,
  (λ g xs s n met.
      let top = (goal.at.returns-then-count-self-clause-err c).In_ok-index in
      enter_full g c.args.self.now.keys.keys c.number.new.keys.keys c.args.self.now.trees.items xs c.args.tree s c.in_ok-index.index n met (was_added top g s met) (is_at top g s met) c.args.self.now.most (omega arith) (omega arith)),
)

pub returns-clause-ok : goal.returns-clause-ok
returns-clause-ok c = λ g xs s n met.
    let top = (goal.at.returns-clause-ok c).In_ok-index in
    let count : c.len-count.result ≡ length c.args.self.now.trees.items = omega arith in
    let new = enter_next g c.args.self.now.keys.keys c.number.new.keys.keys c.args.self.now.trees.items xs c.args.tree s c.in_ok-index.index n met (was_added top g s met) (is_at top g s met) (omega arith) in
    (xs ++ s ∷ [], subst (λ z. IsWith g c.number.new.keys.keys c.push.new.self.items xs s z (xs ++ s ∷ [])) (sym count) (subst (λ z. IsWith g c.number.new.keys.keys z xs s (length c.args.self.now.trees.items) (xs ++ s ∷ [])) (sym c.in_ok-push.ensures.items) new))
