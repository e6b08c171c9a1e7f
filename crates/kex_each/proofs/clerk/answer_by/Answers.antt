use Rattle.std.proofs.Common.{◌≡◌, ◌++◌, ◌∙◌, ℕ, Bool, List, true, false, refl, sym, ap, subst}
use Rattle.std.specs.Prelude.{Some, None}
use Rattle.kex_pipe.specs.Histories.{StageFed}
use Rattle.kex_stage.specs.Stages.{StagePlan, Gives}
use Rattle.kex_stage.specs.contracts.stage.StageTurn.TheImpl.{ghosts}
use Rattle.kex_stage.specs.declared.stage.Stage.{Stage}
use Rattle.kex_each.proofs.clerk.answer_by.Goals as goal
use Rattle.kex_each.proofs.clerk.answer_by.Goals.{then-ended+in_ok-end, else-ended}

pub returns-clause-answers : goal.returns-clause-answers
returns-clause-answers c =
    let p : StagePlan = ghosts.plan c.args.stage.now in
    let input : List ℕ = c.args.input.now in
    let fed = c.in_ok-feed.ensures.feeds None c.in_ok-begin_anew.ensures.stands refl in
    let f : StageFed = record { bytes = input; ended = false; answer = fed.answer } in
    let text : c.feed.new.out.items ≡ fed.answer.text = fed.appended ∙ ap (λ (z : List ℕ). z ++ fed.added) c.clear.ensures.items ∙ sym fed.whole in
    elim c.if-ended.branch [
      | then-ended+in_ok-end w ↦ (
          let e = w.in_ok-end.ensures.feeds (Some f) fed.stands refl in
          let g : StageFed = record { bytes = input; ended = true; answer = e.answer } in
          record {
            answer = e.answer;
            gives = subst (λ (d : Bool). Gives p input d e.answer) (sym w.if-ended.true) (subst (λ (q : StagePlan). Gives q input true e.answer) (c.feed.ensures.same ∙ c.begin_anew.ensures.plan) e.gives);
            same_text = ap (λ v. v.items) w.out-is ∙ e.appended ∙ ap (λ (z : List ℕ). z ++ e.added) text ∙ sym e.whole;
            same_stop = c.stop.ensures (Some g) (subst (λ (s : Stage). ghosts.stands s (Some g)) (sym w.stage-is) e.stands);
          }
          )
      | else-ended w ↦ record {
        answer = fed.answer;
        gives = subst (λ (d : Bool). Gives p input d fed.answer) (sym w.if-ended.false) (subst (λ (q : StagePlan). Gives q input false fed.answer) c.begin_anew.ensures.plan fed.gives);
        same_text = ap (λ v. v.items) w.out-is ∙ text;
        same_stop = c.stop.ensures (Some f) (subst (λ (s : Stage). ghosts.stands s (Some f)) (sym w.stage-is) fed.stands);
      }
    ]
