use Rattle.std.proofs.Common.{List, [], take, refl, subst}
use Rattle.kex_code.specs.declared.symbol.Symbol.{Symbol}
use Rattle.kex_script.specs.Pieces.{code_over}
use Rattle.kex_moves.specs.Speech.{PerformsSaid, RefusesCode}
use Rattle.kex_stage.specs.declared.oracle.Oracle.TheVariants.{Table}
use Rattle.kex_stage.specs.declared.speak.StageFault.TheVariants as faults
use Rattle.kex_stage.proofs.NoRefusals.{if_fault, past_none, told_none}
use Rattle.kex_stage.proofs.PerformedSteps.{steps_on, steps_out}
use Rattle.kex_stage.specs.Works.{RefusesNone}
use Rattle.kex_stage.proofs.follower.Follower.step.Goals as goal

pub returns-then-heard-clause-gone : goal.returns-then-heard-clause-gone
returns-then-heard-clause-gone c =
    let h = c.in_ok-heard.heard in
    let said : List Symbol = code_over c.args.self.now.phrases.words c.hear.new.self.pieces.items in
    let performs : PerformsSaid c.args.actor.now c.say.new.actor said c.args.out.now.items c.say.new.out.items =
    subst (λ ps. PerformsSaid c.args.actor.now c.say.new.actor (code_over c.args.self.now.phrases.words ps) c.args.out.now.items c.say.new.out.items) c.deref.ensures.value
    (subst (λ p. PerformsSaid c.args.actor.now c.say.new.actor (code_over p.words c.deref.result.now) c.args.out.now.items c.say.new.out.items) c.in_ok-heard.ensures.moves.1 (c.in_ok-say.ensures.performs c.if-not-branch.false)) in
    steps_out (Table c.args.self.now) c.hear.new.self _ c.args.actor.now c.say.new.actor c.args.piece.now h.taken h.good said c.args.out.now.items c.say.new.out.items refl refl c.in_ok-say.ensures.machine c.in_ok-heard.ensures.taken c.in_ok-heard.ensures.good c.in_ok-heard.ensures.tells performs c.speak.new.actor c.speak.new.out.items c.if-heard.true c.in_ok-speak.ensures.machine c.in_ok-speak.ensures.took

pub returns-clause-gone : goal.returns-clause-gone
returns-clause-gone c =
    let h = c.in_ok-heard.heard in
    let said : List Symbol = code_over c.args.self.now.phrases.words c.hear.new.self.pieces.items in
    let performs : PerformsSaid c.args.actor.now c.say.new.actor said c.args.out.now.items c.say.new.out.items =
    subst (λ ps. PerformsSaid c.args.actor.now c.say.new.actor (code_over c.args.self.now.phrases.words ps) c.args.out.now.items c.say.new.out.items) c.deref.ensures.value
    (subst (λ p. PerformsSaid c.args.actor.now c.say.new.actor (code_over p.words c.deref.result.now) c.args.out.now.items c.say.new.out.items) c.in_ok-heard.ensures.moves.1 (c.in_ok-say.ensures.performs c.if-not-branch.false)) in
    steps_on (Table c.args.self.now) c.hear.new.self _ c.args.actor.now c.say.new.actor c.args.piece.now h.taken h.good said c.args.out.now.items c.say.new.out.items refl refl c.in_ok-say.ensures.machine c.in_ok-heard.ensures.taken c.in_ok-heard.ensures.good c.in_ok-heard.ensures.tells performs c.if-heard.false

pub returns-then-not-branch-clause-refuses : goal.returns-then-not-branch-clause-refuses
returns-then-not-branch-clause-refuses c =
    let h = c.in_ok-heard.heard in
    let words = c.args.self.now.phrases.words in
    let said : List Symbol = code_over words c.hear.new.self.pieces.items in
    let refuses : RefusesCode c.args.actor.now said =
    subst (λ ps. RefusesCode c.args.actor.now (code_over words ps)) c.deref.ensures.value
    (subst (λ p. RefusesCode c.args.actor.now (code_over p.words c.deref.result.now)) c.in_ok-heard.ensures.moves.1 (c.in_ok-say.ensures.refused c.if-not-branch.true)) in
    told_none (Table c.args.self.now) (Table c.hear.new.self) c.args.actor.now (take h.taken c.args.piece.now) h.good [] said said faults.Refused refl refl c.in_ok-heard.ensures.tells (λ _. refuses)

pub returns-in_err-speak-clause-refuses : goal.returns-in_err-speak-clause-refuses
returns-in_err-speak-clause-refuses c =
    let h = c.in_ok-heard.heard in
    let old = c.args.actor.now in
    let new = c.say.new.actor in
    let x = c.args.out.now.items in
    let y = c.say.new.out.items in
    let fault = c.in_err-speak.field-0.0 in
    let words = c.args.self.now.phrases.words in
    let said : List Symbol = code_over words c.hear.new.self.pieces.items in
    let performs : PerformsSaid old new said x y =
    subst (λ ps. PerformsSaid old new (code_over words ps) x y) c.deref.ensures.value
    (subst (λ p. PerformsSaid old new (code_over p.words c.deref.result.now) x y) c.in_ok-heard.ensures.moves.1 (c.in_ok-say.ensures.performs c.if-not-branch.false)) in
    if_fault c.from_residual-in_err-speak.result fault (λ e. RefusesNone (Table c.args.self.now) old e) c.from_residual-in_err-speak.ensures.1
    (past_none (Table c.args.self.now) (Table c.hear.new.self) old new (take h.taken c.args.piece.now) h.good said x y fault c.in_ok-say.ensures.machine c.in_ok-heard.ensures.tells performs c.in_err-speak.ensures.refused)
