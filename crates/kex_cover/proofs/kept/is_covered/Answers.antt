use Rattle.std.proofs.Common.{false, get_or, take, ⊎_elim, sym, subst, arith}
use Rattle.std.specs.Prelude.{MatchBool}
use Rattle.kex_code.specs.Codes.{IsAmong}
use Rattle.kex_cover.specs.Keeping.{ToldAt}
use Rattle.kex_cover.specs.Pairs.{IsCoveredBy, IsUncoveredBy}
use Rattle.kex_cover.proofs.LeafMarks.{first_told, more_here, take_among, told_here}
use Rattle.kex_cover.proofs.MarkedPlaces.{get_among, onward}
use Rattle.kex_cover.proofs.PairSteps.{refuses}
use Rattle.kex_cover.proofs.kept.is_covered.Goals as goal

pub returns-then-at-eq0-clause-told : goal.returns-then-at-eq0-clause-told
returns-then-at-eq0-clause-told c = subst (λ z. ToldAt c.args.machine.now c.args.leaves.now z false) (sym c.if-at-eq0.true) (first_told c.args.machine.now c.args.leaves.now (λ p i. c.nodes-nodes.ensures.trimmed.ends p (c.requires.waiting p i).0))

pub ask-requires-clause-leaf : goal.ask-requires-clause-leaf
ask-requires-clause-leaf c = λ p i. ⊎_elim (λ e. c.requires.waiting p (subst (λ z. IsAmong c.args.leaves.now z) e (get_among c.args.leaves.now c.args.at c.requires.there))) (λ j. absurd j) i

pub ask-requires-clause-before : goal.ask-requires-clause-before
ask-requires-clause-before c = λ p i. c.requires.waiting p (take_among c.args.at c.args.leaves.now p i)

pub returns-clause-told : goal.returns-clause-told
returns-clause-told c =
    let g = c.args.machine.now in
    let leaves = c.args.leaves.now in
    onward (λ told. MatchBool told (IsCoveredBy g (get_or leaves c.args.at 0) (take c.args.at leaves)) (IsUncoveredBy g (get_or leaves c.args.at 0) (take c.args.at leaves))) (λ told. ToldAt g leaves c.args.at told) c.ask.result (λ told h. told_here g leaves c.args.at 0 told h) c.ask.ensures.tells

pub returns-clause-refused : goal.returns-clause-refused
returns-clause-refused c =
    let most = c.args.questions.now.pairs.most in
    refuses most c.ask.result (λ h. more_here c.args.machine.now most c.args.leaves.now c.args.at 0 (omega (arith, c.if-at-eq0.false)) h) c.ask.ensures.refused
