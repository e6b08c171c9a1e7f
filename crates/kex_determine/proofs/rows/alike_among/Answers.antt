use Rattle.std.proofs.Common.{sym, subst, ◌∙◌, arith, true≢false}
use Rattle.std.specs.Prelude.{All}
use Rattle.std.proofs.lemmas.List.{take_all}
use Rattle.std.proofs.lemmas.List.Elements.{All-more, Contains-get_or}
use Rattle.kex_determine.specs.Rows.{LeadsApart}
use Rattle.kex_determine.proofs.rows.alike_among.Goals as goal

pub returns-then-goes_on_alike-clause-some : goal.returns-then-goes_on_alike-clause-some
returns-then-goes_on_alike-clause-some c = (Contains-get_or c.args.classes.now c.loop-earlier.earlier-index 0 c.loop-earlier-test.true, c.goes_on_alike.ensures.next c.if-goes_on_alike.true)

pub loop-earlier-preserved : goal.loop-earlier-preserved
loop-earlier-preserved c = All-more (λ earlier. LeadsApart c.args.tree.now earlier c.args.class) c.args.classes.now c.loop-earlier.earlier-index 0 c.loop-earlier-test.true c.loop-earlier.invariant (λ b x has has_other alike. true≢false (sym ((c.goes_on_alike.ensures.alike b x has has_other).1 alike) ∙ c.if-goes_on_alike.false))

pub returns-clause-none : goal.returns-clause-none
returns-clause-none c = subst (λ z. All (λ earlier. LeadsApart c.args.tree.now earlier c.args.class) z) (take_all c.loop-earlier.earlier-index c.args.classes.now (omega arith)) c.loop-earlier.invariant
