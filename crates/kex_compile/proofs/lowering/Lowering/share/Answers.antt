use Rattle.std.proofs.Common.{◌++◌, ◌∷◌, [], length-append, sym, ap, ◌∙◌, arith}
use Rattle.std.specs.Prelude.{is_some}
use Rattle.kex_compile.specs.Stages.{AreLowered, HasEachMachine, least}
use Rattle.kex_compile.proofs.FirstStages.{again-more, among-at, not-none, not-some, one-behind, one-shared}
use Rattle.kex_compile.proofs.StageTables.{on_ok}
use Rattle.kex_compile.proofs.lowering.Lowering.share.Goals as goal

pub returns-then-is_some-clause-each : goal.returns-then-is_some-clause-each
returns-then-is_some-clause-each c = λ root k.
    absurd (not-none (least c.args.self.now.firsts) (ap is_some (sym c.least.ensures) ∙ sym c.is_some.ensures ∙ c.if-is_some.true) k)

pub returns-then-is_some-clause-lowered : goal.returns-then-is_some-clause-lowered
returns-then-is_some-clause-lowered c = λ P root at so_far.
    let now = c.args.self.now in
    one-behind P now.roots.items now.firsts now.lowered root so_far
    (again-more P now.roots.items now.firsts root (among-at now.roots.items c.args.earlier root at) so_far.firsts)
    (not-none (least now.firsts) (ap is_some (sym c.least.ensures) ∙ sym c.is_some.ensures ∙ c.if-is_some.true))

pub push_again-requires-clause-few : goal.push_again-requires-clause-few
push_again-requires-clause-few c =
    let now = c.args.self.now in
    let long = c.requires.each (not-some (least now.firsts) (ap is_some (sym c.least.ensures) ∙ sym c.is_some.ensures ∙ c.if-is_some.false)) in
    omega (arith, long, c.requires.few)

pub push_again-requires-clause-earlier : goal.push_again-requires-clause-earlier
push_again-requires-clause-earlier c =
    let now = c.args.self.now in
    let long = c.requires.each (not-some (least now.firsts) (ap is_some (sym c.least.ensures) ∙ sym c.is_some.ensures ∙ c.if-is_some.false)) in
    omega (arith, long, c.requires.earlier)

pub returns-clause-each : goal.returns-clause-each
returns-clause-each c = λ root.
    let now = c.args.self.now in
    on_ok c.push_again.result _ (HasEachMachine (now.roots.items ++ root ∷ []) now.firsts c.push_again.new.self)
    (λ more k. let long = c.requires.each k in omega (arith, more, long, length-append now.roots.items (root ∷ [])))
    c.push_again.ensures.long

pub returns-clause-lowered : goal.returns-clause-lowered
returns-clause-lowered c = λ P root at so_far.
    let now = c.args.self.now in
    let none = not-some (least now.firsts) (ap is_some (sym c.least.ensures) ∙ sym c.is_some.ensures ∙ c.if-is_some.false) in
    on_ok c.push_again.result _ (AreLowered P (now.roots.items ++ root ∷ []) now.firsts c.push_again.new.self)
    (λ pushed. one-shared P now.roots.items now.firsts now.lowered root so_far c.args.earlier c.push_again.new.self at none pushed)
    c.push_again.ensures.pushed
