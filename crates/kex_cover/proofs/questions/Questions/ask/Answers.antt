use Rattle.std.proofs.Common.{◌≡◌, ◌∷◌, Some, ap, sym, subst, ◌∙◌, arith}
use Rattle.std.specs.Prelude.{slice_get}
use Rattle.std.proofs.lemmas.Option.{slice_get-get_or}
use Rattle.kex_determine.specs.Numbering.{texts, IsAdded}
use Rattle.kex_cover.specs.Keeping.{AreAnswered, HasPairsUpTo, IsAnswered}
use Rattle.kex_cover.proofs.AskedQuestions.{known_question, new_question}
use Rattle.kex_cover.proofs.questions.Questions.ask.Goals as goal
use Rattle.kex_cover.proofs.questions.Questions.ask.Goals.{In_ok-index}

module _ (c : In_ok-index) where
  added : IsAdded (texts c.bound.new.self.asked.keys) (c.args.leaf ∷ c.args.before.now) (texts c.number.new.lists.keys)
  added = subst (λ z. IsAdded (texts c.bound.new.self.asked.keys) z (texts c.number.new.lists.keys)) c.in_ok-question.ensures c.in_ok-index.ensures.added

  at : slice_get (texts c.number.new.lists.keys) c.in_ok-index.index ≡ Some (c.args.leaf ∷ c.args.before.now)
  at = c.in_ok-index.ensures.at ∙ ap (λ z. Some z) c.in_ok-question.ensures

pub returns-then-index-len-clause-count : goal.returns-then-index-len-clause-count
returns-then-index-len-clause-count c =
    let top = (goal.at.returns-then-index-len-clause-count c).In_ok-index in
    let q = c.bound.new.self in
    let known = known_question c.args.machine.now q.pairs.most q.asked.keys c.number.new.lists.keys q.answers.items c.args.leaf c.args.before.now c.in_ok-index.index c.bound.ensures.kept.answered (added top) (at top) (omega arith) in
    subst (λ z. HasPairsUpTo c.args.machine.now z.most c.args.leaf c.args.before.now) c.bound.ensures.most
    (known.1 c.index.result.now (slice_get-get_or q.answers.items c.in_ok-index.index c.index.result.now (omega arith) ∙ ap (λ z. Some z) (sym c.index.ensures))).count

pub returns-then-index-len-clause-kept : goal.returns-then-index-len-clause-kept
returns-then-index-len-clause-kept c =
    let top = (goal.at.returns-then-index-len-clause-kept c).In_ok-index in
    let q = c.bound.new.self in
    let known = known_question c.args.machine.now q.pairs.most q.asked.keys c.number.new.lists.keys q.answers.items c.args.leaf c.args.before.now c.in_ok-index.index c.bound.ensures.kept.answered (added top) (at top) (omega arith) in
    record { met = c.bound-2.ensures; answered = known.0 }

pub returns-clause-kept : goal.returns-clause-kept
returns-clause-kept c =
    let top = (goal.at.returns-clause-kept c).In_ok-index in
    let g = c.args.machine.now in
    let q = c.bound.new.self in
    let told : IsAnswered g q.pairs.most c.args.leaf c.args.before.now c.in_ok-yes.yes = record { tells = c.in_ok-yes.ensures.tells; count = c.in_ok-yes.ensures.count } in
    record {
      met = c.in_ok-yes.ensures.met;
      answered = subst (λ m. AreAnswered g m c.number.new.lists.keys c.push.new.self.items) (sym c.search.ensures.most)
          (subst (λ z. AreAnswered g q.pairs.most c.number.new.lists.keys z) (sym c.in_ok-push.ensures.items)
          (new_question g q.pairs.most q.asked.keys c.number.new.lists.keys q.answers.items c.args.leaf c.args.before.now c.in_ok-index.index c.bound.ensures.kept.answered (added top) (at top) (omega arith) c.in_ok-yes.yes told));
    }
