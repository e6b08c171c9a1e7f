use Rattle.std.proofs.Common.{◌≡◌, ◌+◌, ◌-◌, [], List, ℕ, length, take, drop, ap, subst, ◌∙◌, arith, length-drop}
use Rattle.std.proofs.lemmas.List.{length-take-le, take_all, take_rest}
use Rattle.kex_stage.specs.declared.oracle.Oracle.TheVariants.{Table}
use Rattle.kex_stage.specs.Strides.{HasStrode, strode}
use Rattle.kex_stage.specs.Works.{RefusesNone, StageGoes, StageWorks}
use Rattle.kex_stage.proofs.Followers.{cut_at, goes_more, front_works, none_gone, rests, settles, taken_both, works_more}
use Rattle.kex_stage.proofs.NoRefusals.{if_fault, none_on, rest_none}
use Rattle.kex_stage.proofs.follower.Follower.go_along.Goals as goal

pub returns-in_err-speak-clause-refuses : goal.returns-in_err-speak-clause-refuses
returns-in_err-speak-clause-refuses c =
    let fault = c.in_err-speak.field-0.0 in
    if_fault c.from_residual.result fault (λ e. RefusesNone (Table c.args.self.now) c.args.actor.now e) c.from_residual.ensures.1
    (rest_none c.args.self.now c.args.actor.now fault c.in_err-speak.ensures.refused)

pub returns-in_err-_none-clause-refuses : goal.returns-in_err-_none-clause-refuses
returns-in_err-_none-clause-refuses c =
    let fault = c.in_err-_none.field-0.0 in
    let old = c.args.actor.now in
    let new = c.speak.new.actor in
    let x = c.args.out.now.items in
    let y = c.speak.new.out.items in
    let o = Table c.args.self.now in
    if_fault c.from_residual-in_err-_none.result fault (λ e. RefusesNone o old e) c.from_residual-in_err-_none.ensures.1
    (none_on o o old new [] x y fault (rests o old new x y c.in_ok-speak.ensures.took c.in_ok-speak.ensures.machine) c.in_err-_none.ensures.refuses)

pub strides-init : goal.strides-init
strides-init c =
    let n = c.in_ok-_none.ensures in
    let o = Table c.args.self.now in
    let new = Table c.step.new.self in
    let x = c.speak.new.out.items in
    let y = c.step.new.out.items in
    let said = none_gone c.in_ok-_none._none o new c.speak.new.actor c.step.new.actor x y n.none n.gone in
    let first = rests o c.args.actor.now c.speak.new.actor c.args.out.now.items x c.in_ok-speak.ensures.took c.in_ok-speak.ensures.machine in
    record {
      at = omega arith;
      goes = goes_more o o new c.args.actor.now c.speak.new.actor c.step.new.actor [] [] c.args.out.now.items x y first said.0;
      told = n.told;
      moves = n.moves;
      machine = n.machine ∙ c.in_ok-speak.ensures.machine;
      usable = n.usable;
      open_ = n.open;
      read = omega (arith, n.read, said.1);
    }

pub returns-in_err-count-clause-refuses : goal.returns-in_err-count-clause-refuses
returns-in_err-count-clause-refuses c =
    let fault = c.in_err-count.field-0.0 in
    let i = c.strides.invariant in
    if_fault c.from_residual-in_err-count.result fault (λ e. RefusesNone (Table c.args.self.now) c.args.actor.now e) c.from_residual-in_err-count.ensures.1
    (none_on (Table c.args.self.now) (Table c.strides.self) c.args.actor.now c.strides.actor (take c.strides.at c.args.piece.now) c.args.out.now.items c.strides.out.items fault i.goes c.in_err-count.ensures.refuses)

pub strides-preserved : goal.strides-preserved
strides-preserved c =
    let i = c.strides.invariant in
    let e = c.in_ok-count.ensures in
    let o = Table c.args.self.now in
    let m = Table c.strides.self in
    let n = Table c.stride.new.self in
    let piece = c.args.piece.now in
    let at = c.strides.at in
    let count = c.in-On.count in
    let rest : List ℕ = take (length piece - at) (drop at piece) in
    let x = c.args.out.now.items in
    let y = c.strides.out.items in
    let z = c.stride.new.out.items in
    let long = ap length (take_rest piece at) ∙ length-drop at piece in
    let gone = subst (λ s. HasStrode s m n c.strides.actor c.stride.new.actor rest y z) c.in-On.is e.gone in
    let read : c.stride.new.self.runner.read ≡ c.strides.self.runner.read + count = subst (λ s. c.stride.new.self.runner.read ≡ c.strides.self.runner.read + strode s) c.in-On.is e.read in
    record {
      at = omega (arith, gone.0, long, i.at);
      goes = subst (λ p. StageGoes o n c.args.actor.now c.stride.new.actor p x z) (taken_both piece at count i.at) (goes_more o m n c.args.actor.now c.strides.actor c.stride.new.actor (take at piece) (take count rest) x y z i.goes gone.1);
      told = e.told;
      moves = e.moves ∙ i.moves;
      machine = e.machine ∙ i.machine;
      usable = e.usable;
      open_ = e.open;
      read = omega (arith, read, i.read);
    }

pub returns-in-Refused-clause-works : goal.returns-in-Refused-clause-works
returns-in-Refused-clause-works c =
    let i = c.strides.invariant in
    let o = Table c.args.self.now in
    let m = Table c.strides.self in
    let n = Table c.stride.new.self in
    let a = c.args.actor.now in
    let b = c.strides.actor in
    let d = c.stride.new.actor in
    let piece = c.args.piece.now in
    let at = c.strides.at in
    let count = c.in-Refused.count in
    let rest : List ℕ = take (length piece - at) (drop at piece) in
    let x = c.args.out.now.items in
    let y = c.strides.out.items in
    let z = c.stride.new.out.items in
    let gone = subst (λ s. HasStrode s m n b d rest y z) c.in-Refused.is c.in_ok-count.ensures.gone in
    let done = works_more o m n a b d (take at piece) rest count x y z i.goes gone.1 gone.0 in
    subst (λ k. StageWorks o n a d piece (k + count) x z) (length-take-le at piece i.at) (subst (λ p. StageWorks o n a d p (length (take at piece) + count) x z) (cut_at piece at) done)

pub returns-in-PutOff-clause-works : goal.returns-in-PutOff-clause-works
returns-in-PutOff-clause-works c =
    let i = c.strides.invariant in
    let o = Table c.args.self.now in
    let m = Table c.strides.self in
    let n = Table c.stride.new.self in
    let a = c.args.actor.now in
    let b = c.strides.actor in
    let d = c.stride.new.actor in
    let piece = c.args.piece.now in
    let at = c.strides.at in
    let count = c.in-PutOff.count in
    let rest : List ℕ = take (length piece - at) (drop at piece) in
    let x = c.args.out.now.items in
    let y = c.strides.out.items in
    let z = c.stride.new.out.items in
    let long = ap length (take_rest piece at) ∙ length-drop at piece in
    let gone = subst (λ s. HasStrode s m n b d rest y z) c.in-PutOff.is c.in_ok-count.ensures.gone in
    let goes = goes_more o m n a b d (take at piece) (take count rest) x y z i.goes gone.0.1 in
    front_works o c.stride.new.self a d piece (at + count) x z (omega (arith, gone.0.0, long, i.at)) c.in_ok-count.ensures.told gone.1 (subst (λ p. StageGoes o n a d p x z) (taken_both piece at count i.at) goes)

pub returns-in_err-speak-2-clause-refuses : goal.returns-in_err-speak-2-clause-refuses
returns-in_err-speak-2-clause-refuses c =
    let fault = c.in_err-speak-2.field-0.0 in
    if_fault c.from_residual-in_err-speak-2.result fault (λ e. RefusesNone (Table c.args.self.now) c.args.actor.now e) c.from_residual-in_err-speak-2.ensures.1
    (none_on (Table c.args.self.now) (Table c.strides.self) c.args.actor.now c.strides.actor (take c.strides.at c.args.piece.now) c.args.out.now.items c.strides.out.items fault c.strides.invariant.goes (rest_none c.strides.self c.strides.actor fault c.in_err-speak-2.ensures.refused))

pub returns-clause-works : goal.returns-clause-works
returns-clause-works c =
    let i = c.strides.invariant in
    let piece = c.args.piece.now in
    let all = take_all c.strides.at piece c.strides-test.false in
    settles (Table c.args.self.now) c.strides.self c.args.actor.now c.strides.actor c.speak-2.new.actor piece c.args.out.now.items c.strides.out.items c.speak-2.new.out.items i.told
    (subst (λ p. StageGoes (Table c.args.self.now) (Table c.strides.self) c.args.actor.now c.strides.actor p c.args.out.now.items c.strides.out.items) all i.goes)
    c.in_ok-speak-2.ensures.took c.in_ok-speak-2.ensures.machine
