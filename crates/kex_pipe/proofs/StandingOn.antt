-- A line in which one stage stands for what it stood for before.
use Rattle.std.proofs.Common.{◌≡◌, ◌<◌, ℕ, zero, suc, Bool, List, [], ◌∷◌, ◌++◌, Option, Some, None, length, get_or, refl, sym, ap, subst, ◌∙◌, arith}
use Rattle.std.specs.Prelude.{IsTrue}
use Rattle.std.proofs.Math.ListN.{set}
use Rattle.kex_model.specs.Answers.{Answer}
use Rattle.kex_model.specs.Schedules.{StreamItem, Progress}
use Rattle.kex_pipe.specs.Bounds.{StandsAs}
use Rattle.kex_pipe.specs.Histories.{StageFed}
use Rattle.kex_pipe.specs.Parting.{SeatStays}
use Rattle.kex_pipe.specs.Rounds.{waits_at}
use Rattle.kex_pipe.specs.Seats.{Sits}
use Rattle.kex_pipe.specs.Standing.{Line}
use Rattle.kex_pipe.specs.Waiting.{waiting_items}
use Rattle.kex_pipe.specs.declared.inbox.Inbox.{Inbox}
use Rattle.kex_pipe.specs.declared.seat.Seat.{Seat as Seated}
use Rattle.kex_pipe.specs.declared.turn.Stop.{Stop}
use Rattle.kex_pipe.specs.declared.turn.Turn.{Ghosts}
use Rattle.kex_pipe.proofs.Transfers.{AllUsable, all-set}

-- a bounded worker stands for what another stands for, if it answers and follows as that one does
pub stands-on : (Gives Gives' : List ℕ → Bool → Answer → Type 0) (Open Open' : List ℕ → List ℕ → Type 0) (stop : Option Stop) (over : Bool) (h : Option StageFed) → ((w : List ℕ) (e : Bool) (a : Answer) → Gives w e a → Gives' w e a) → ((w text : List ℕ) → Open w text → Open' w text) → StandsAs Gives Open stop over h → StandsAs Gives' Open' stop over h
stands-on Gives Gives' Open Open' stop over None gives opens s = (opens [] [] s.0, s.1, s.2)
stands-on Gives Gives' Open Open' stop over (Some h) gives opens s = (gives h.bytes h.ended h.answer s.0, s.1, s.2, λ e n. opens h.bytes h.answer.text (s.3 e n))

module _ {T : Type 0} (t : Ghosts T) where
  sits-on : (p : t.Plan) (x : Progress) (out : List StreamItem) (s s' : Seated T t) → SeatStays t s s' → Sits t p s.staged x out → Sits t p s'.staged x out
  sits-on p x out s s' k h = record {
    same_plan = k.plan ∙ h.same_plan;
    same_turned = k.turned ∙ h.same_turned;
    history = h.history;
    fed = h.fed;
    stands_for = k.stands h.history h.stands_for;
    wrote = h.wrote;
  }

  pub line-stays : (i : ℕ) (came : List StreamItem) (ps : List t.Plan) (ss : List (Seated T t)) (xs : List Progress) (b : Inbox) (taken : List ℕ) (s s' d : Seated T t) → i < length ss → s ≡ get_or ss i d → SeatStays t s s' → Line t came ps ss xs b taken → Line t came ps (set ss i s') xs b taken
  line-stays i came [] [] [] b taken s s' d lt is k h = absurd (omega arith)
  line-stays zero came (p ∷ ps) (a ∷ ss) (x ∷ xs) b taken s s' d lt is k h =
      let k' : SeatStays t a s' = subst (λ z. SeatStays t z s') is k in (
        h.0 ∙ ap (λ z. x.taken ++ waiting_items z) (sym k'.inbox),
        h.1,
        sits-on p x h.1 a s' k' h.2,
        h.3,
        ap waiting_items k'.outbox ∙ h.4,
      )
  line-stays (suc i) came (p ∷ ps) (a ∷ ss) (x ∷ xs) b taken s s' d lt is k h = (h.0, h.1, h.2, line-stays i h.1 ps ss xs b taken s s' d (omega arith) is k h.3, h.4)
  line-stays i came ps ss xs b taken s s' d lt is k h = absurd h

  pub usable-stays : (i : ℕ) (ss : List (Seated T t)) (s s' d : Seated T t) → i < length ss → s ≡ get_or ss i d → SeatStays t s s' → AllUsable t ss → AllUsable t (set ss i s')
  usable-stays i ss s s' d lt is k all = all-set (λ z. IsTrue z.usable) ss i s' all (subst IsTrue (sym k.usable) (subst (λ z. IsTrue z.usable) (sym is) (all i d lt)))

  -- how many items wait before the stage at a place
  pub waits-there : (ss : List (Seated T t)) (k : ℕ) (d : Seated T t) → k < length ss → length (waiting_items (get_or ss k d).inbox) ≡ waits_at t ss k
  waits-there [] k d lt = absurd (omega arith)
  waits-there (s ∷ ss) zero d lt = refl
  waits-there (s ∷ ss) (suc k) d lt = waits-there ss k d (omega arith)

  pub seat-stays : (old new : Seated T t) → t.plan new.staged.stage ≡ t.plan old.staged.stage → ((h : Option StageFed) → t.stands old.staged.stage h → t.stands new.staged.stage h) → new.staged.turned ≡ old.staged.turned → new.inbox ≡ old.inbox → new.outbox ≡ old.outbox → new.usable ≡ old.usable → SeatStays t old new
  seat-stays old new plan stands turned inbox outbox usable = record { plan = plan; stands = stands; turned = turned; inbox = inbox; outbox = outbox; usable = usable }
