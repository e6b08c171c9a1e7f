use Rattle.std.proofs.Common.{◌≡◌, ℕ, [], ◌∷◌, ◌++◌, refl, subst, ap, ◌∙◌}
use Rattle.kex_model.specs.Moves.{accept, Step, Allows, target_of, to_left, to_right, chose, went, goes_left, goes_right, goes, nothing}
use Rattle.kex_model.specs.Places.{Place, moves}
use Rattle.kex_model.specs.Alike.{Goes, accepts, reads_on, chooses, goes_on}
use Rattle.kex_machine.specs.Nodes.{effect_of}
use Rattle.kex_machine.specs.declared.MNode.TheVariants.{Read, Choice, Do, Skip}
use Rattle.kex_desugar.specs.declared.spot.Spot.TheVariants.{Empty, On}
use Rattle.kex_desugar.specs.declared.plan.NodePlan.{NodePlan}
use Rattle.kex_desugar.specs.declared.plan.NodePlan.TheVariants.{Take, Fork, Act, Pass}
use Rattle.kex_desugar.specs.declared.plan.Way.{Way}
use Rattle.kex_desugar.specs.Plans.{frames, plan_move}
use Rattle.kex_desugar.specs.Spots.{SpotIsPlace, IsAt, IsOnPlace, IsReal}
use Rattle.kex_desugar.proofs.PlaceNumbers.{not_empty}
use Rattle.kex_desugar.proofs.SpotWays.{at_later, begins_twice, err_as, had, node_by_plan, on_place, on_place_later}
use Rattle.kex_desugar.proofs.node.node_of.Goals as goal
use Rattle.kex_desugar.proofs.node.node_of.Goals.{In_ok-plan}

real : (c : In_ok-plan) (root : ℕ) → IsReal c.args.program.now root c.args.spots.now.keys c.args.spot → IsReal c.args.program.now root c.args.spots.now.keys (On c.in-On.frame c.in-On.rest)
real c root here = subst (λ s. IsReal c.args.program.now root c.args.spots.now.keys s) c.in-On.is here

-- what is on top does what the plan says
does : (c : In_ok-plan) (plan : NodePlan) → c.in_ok-plan.plan ≡ plan → (q : Place) → moves c.args.program.now (c.in-On.frame ∷ q) ≡ plan_move plan q
does c plan e q = c.in_ok-plan.ensures q ∙ ap (λ z. plan_move z q) e

-- where the plan leads is a place
leads : (c : In_ok-plan) (plan : NodePlan) (way : Way) (root : ℕ) → c.in_ok-plan.plan ≡ plan → ((q : Place) → (k : Step Place) × Allows (plan_move plan q) k × (target_of k ≡ frames way ++ q)) → IsReal c.args.program.now root c.args.spots.now.keys c.args.spot → IsOnPlace c.args.program.now root c.args.spots.now.keys way c.in-On.rest
leads c plan way root e step here = on_place c.args.program.now root c.args.spots.now.keys c.in-On.frame c.in-On.rest plan way (real c root here) (does c plan e) step

pub returns-in_default-clause-node : goal.returns-in_default-clause-node
returns-in_default-clause-node c = λ root here p h. empty p (subst (λ s. SpotIsPlace c.args.spots.now.keys s p) c.in_default.is h)
  where
    empty : (p : Place) → SpotIsPlace c.args.spots.now.keys Empty p → Goes (IsAt c.args.spots.now.keys) (moves c.args.program.now p) accept
    empty [] h = accepts
    empty (f ∷ q) (r, t, e, at, h) = absurd (not_empty f r e)

pub returns-in-Take-clause-node : goal.returns-in-Take-clause-node
returns-in-Take-clause-node c = λ root here p h.
    let top = (goal.at.returns-in-Take-clause-node c).In_ok-plan in
    node_by_plan c.args.program.now root c.args.spots.now.keys c.in-On.frame c.in-On.rest (Take c.in-Take.set) (Read c.in-Take.set c.in-On.rest) (does top _ c.in-Take.is) (λ q at. reads_on at) p (subst (λ s. SpotIsPlace c.args.spots.now.keys s p) c.in-On.is h)

pub returns-in_err-next-in-Act-clause-refused : goal.returns-in_err-next-in-Act-clause-refused
returns-in_err-next-in-Act-clause-refused c =
    let top = (goal.at.returns-in_err-next-in-Act-clause-refused c).In_ok-plan in
    err_as _ c.from_residual-in_err-next-in-Act.result c.in_err-next-in-Act.field-0.0 c.from_residual-in_err-next-in-Act.ensures.1 (λ u root all here. c.in_err-next-in-Act.ensures.refused u c.args.program.now root all (leads top (Act c.in-Act.effect c.in-Act.way) c.in-Act.way root c.in-Act.is (λ q. (went (effect_of c.in-Act.effect) (frames c.in-Act.way ++ q), goes, refl)) here))

pub returns-in_ok-next-in-Act-clause-real : goal.returns-in_ok-next-in-Act-clause-real
returns-in_ok-next-in-Act-clause-real c = λ root all here.
    let top = (goal.at.returns-in_ok-next-in-Act-clause-real c).In_ok-plan in
    c.in_ok-next-in-Act.ensures.real c.args.program.now root all (leads top (Act c.in-Act.effect c.in-Act.way) c.in-Act.way root c.in-Act.is (λ q. (went (effect_of c.in-Act.effect) (frames c.in-Act.way ++ q), goes, refl)) here)

pub returns-in_ok-next-in-Act-clause-node : goal.returns-in_ok-next-in-Act-clause-node
returns-in_ok-next-in-Act-clause-node c = λ root here p h.
    let top = (goal.at.returns-in_ok-next-in-Act-clause-node c).In_ok-plan in
    let new = c.reach.new.spots.keys in
    node_by_plan c.args.program.now root new c.in-On.frame c.in-On.rest (Act c.in-Act.effect c.in-Act.way) (Do c.in-Act.effect c.in_ok-next-in-Act.next) (does top _ c.in-Act.is)
    (λ q at. goes_on (c.in_ok-next-in-Act.ensures.number q (had c.args.program.now root c.args.spots.now.keys new c.in-On.frame c.in-On.rest (real top root here) c.in_ok-next-in-Act.ensures.grown q at)))
    p (subst (λ s. SpotIsPlace new s p) c.in-On.is h)

pub returns-in_err-next-in-Pass-clause-refused : goal.returns-in_err-next-in-Pass-clause-refused
returns-in_err-next-in-Pass-clause-refused c =
    let top = (goal.at.returns-in_err-next-in-Pass-clause-refused c).In_ok-plan in
    err_as _ c.from_residual-in_err-next-in-Pass.result c.in_err-next-in-Pass.field-0.0 c.from_residual-in_err-next-in-Pass.ensures.1 (λ u root all here. c.in_err-next-in-Pass.ensures.refused u c.args.program.now root all (leads top (Pass c.in-Pass.way) c.in-Pass.way root c.in-Pass.is (λ q. (went nothing (frames c.in-Pass.way ++ q), goes, refl)) here))

pub returns-in_ok-next-in-Pass-clause-real : goal.returns-in_ok-next-in-Pass-clause-real
returns-in_ok-next-in-Pass-clause-real c = λ root all here.
    let top = (goal.at.returns-in_ok-next-in-Pass-clause-real c).In_ok-plan in
    c.in_ok-next-in-Pass.ensures.real c.args.program.now root all (leads top (Pass c.in-Pass.way) c.in-Pass.way root c.in-Pass.is (λ q. (went nothing (frames c.in-Pass.way ++ q), goes, refl)) here)

pub returns-in_ok-next-in-Pass-clause-node : goal.returns-in_ok-next-in-Pass-clause-node
returns-in_ok-next-in-Pass-clause-node c = λ root here p h.
    let top = (goal.at.returns-in_ok-next-in-Pass-clause-node c).In_ok-plan in
    let new = c.reach-in-Pass.new.spots.keys in
    node_by_plan c.args.program.now root new c.in-On.frame c.in-On.rest (Pass c.in-Pass.way) (Skip c.in_ok-next-in-Pass.next) (does top _ c.in-Pass.is)
    (λ q at. goes_on (c.in_ok-next-in-Pass.ensures.number q (had c.args.program.now root c.args.spots.now.keys new c.in-On.frame c.in-On.rest (real top root here) c.in_ok-next-in-Pass.ensures.grown q at)))
    p (subst (λ s. SpotIsPlace new s p) c.in-On.is h)

pub returns-in_err-left-in-Fork-clause-refused : goal.returns-in_err-left-in-Fork-clause-refused
returns-in_err-left-in-Fork-clause-refused c =
    let top = (goal.at.returns-in_err-left-in-Fork-clause-refused c).In_ok-plan in
    err_as _ c.from_residual-in_err-left-in-Fork.result c.in_err-left-in-Fork.field-0.0 c.from_residual-in_err-left-in-Fork.ensures.1 (λ u root all here. c.in_err-left-in-Fork.ensures.refused u c.args.program.now root all (leads top (Fork c.in-Fork.left c.in-Fork.right) c.in-Fork.left root c.in-Fork.is (λ q. (chose to_left (frames c.in-Fork.left ++ q), goes_left, refl)) here))

pub returns-in_err-right-in-Fork-clause-refused : goal.returns-in_err-right-in-Fork-clause-refused
returns-in_err-right-in-Fork-clause-refused c =
    let top = (goal.at.returns-in_err-right-in-Fork-clause-refused c).In_ok-plan in
    err_as _ c.from_residual-in_err-right-in-Fork.result c.in_err-right-in-Fork.field-0.0 c.from_residual-in_err-right-in-Fork.ensures.1
    (λ u root all here.
    c.in_err-right-in-Fork.ensures.refused u c.args.program.now root
    (c.in_ok-left-in-Fork.ensures.real c.args.program.now root all (leads top (Fork c.in-Fork.left c.in-Fork.right) c.in-Fork.left root c.in-Fork.is (λ q. (chose to_left (frames c.in-Fork.left ++ q), goes_left, refl)) here))
    (on_place_later c.args.program.now root c.args.spots.now.keys c.reach-in-Fork.new.spots.keys c.in-Fork.right c.in-On.rest c.in_ok-left-in-Fork.ensures.grown (leads top (Fork c.in-Fork.left c.in-Fork.right) c.in-Fork.right root c.in-Fork.is (λ q. (chose to_right (frames c.in-Fork.right ++ q), goes_right, refl)) here)))

pub returns-in_ok-right-in-Fork-clause-real : goal.returns-in_ok-right-in-Fork-clause-real
returns-in_ok-right-in-Fork-clause-real c = λ root all here.
    let top = (goal.at.returns-in_ok-right-in-Fork-clause-real c).In_ok-plan in
    c.in_ok-right-in-Fork.ensures.real c.args.program.now root
    (c.in_ok-left-in-Fork.ensures.real c.args.program.now root all (leads top (Fork c.in-Fork.left c.in-Fork.right) c.in-Fork.left root c.in-Fork.is (λ q. (chose to_left (frames c.in-Fork.left ++ q), goes_left, refl)) here))
    (on_place_later c.args.program.now root c.args.spots.now.keys c.reach-in-Fork.new.spots.keys c.in-Fork.right c.in-On.rest c.in_ok-left-in-Fork.ensures.grown (leads top (Fork c.in-Fork.left c.in-Fork.right) c.in-Fork.right root c.in-Fork.is (λ q. (chose to_right (frames c.in-Fork.right ++ q), goes_right, refl)) here))

pub returns-in_ok-right-in-Fork-clause-node : goal.returns-in_ok-right-in-Fork-clause-node
returns-in_ok-right-in-Fork-clause-node c = λ root here p h.
    let top = (goal.at.returns-in_ok-right-in-Fork-clause-node c).In_ok-plan in
    let old = c.args.spots.now.keys in
    let mid = c.reach-in-Fork.new.spots.keys in
    let new = c.reach-in-Fork-2.new.spots.keys in
    let grown = begins_twice old mid new c.in_ok-left-in-Fork.ensures.grown c.in_ok-right-in-Fork.ensures.grown in
    node_by_plan c.args.program.now root new c.in-On.frame c.in-On.rest (Fork c.in-Fork.left c.in-Fork.right) (Choice c.in_ok-left-in-Fork.left c.in_ok-right-in-Fork.right) (does top _ c.in-Fork.is)
    (λ q at.
    let before = had c.args.program.now root old new c.in-On.frame c.in-On.rest (real top root here) grown q at in
    chooses
    (at_later mid new c.in_ok-right-in-Fork.ensures.grown (frames c.in-Fork.left ++ q) c.in_ok-left-in-Fork.left (c.in_ok-left-in-Fork.ensures.number q before))
    (c.in_ok-right-in-Fork.ensures.number q (at_later old mid c.in_ok-left-in-Fork.ensures.grown q c.in-On.rest before)))
    p (subst (λ s. SpotIsPlace new s p) c.in-On.is h)
