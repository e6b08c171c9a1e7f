-- What a pipe of stages says of what it was fed.
use Rattle.std.proofs.Common.{◌≡◌, ℕ, ◌<◌, Bool, true, false, List, [], ◌∷◌, ◌++◌, ◌||◌, Option, Some, None, length, map, refl, sym, ap, ap₂, subst, ◌∙◌, append-nil}
use Rattle.kex_model.specs.Answers.{Answer, Pipeline}
use Rattle.kex_model.specs.Schedules.{StreamItem, Progress, has_end, Event, give, give_end, After, Settled}
use Rattle.kex_pipe.specs.Events.{bytes_given, end_given}
use Rattle.kex_pipe.specs.Reports.{report_as}
use Rattle.kex_pipe.specs.Standing as by_rounds
use Rattle.kex_pipe.specs.Waiting.{waiting_items}
use Rattle.kex_pipe.specs.declared.inbox.Inbox.{Inbox}
use Rattle.kex_pipe.specs.declared.seat.Seat.{Seat as Seated}
use Rattle.kex_pipe.specs.declared.report.Rejected.{Rejected}
use Rattle.kex_pipe.specs.declared.turn.Fate.{Fate}
use Rattle.kex_pipe.specs.declared.turn.Turn.{Ghosts}
use Rattle.kex_pipe.proofs.Items.{end-items}
use Rattle.kex_model.proofs.Pipelines.{one_answer}
use Rattle.kex_pipe.proofs.Schedule.{came-given, bytes_given-append, end_given-append}
use Rattle.kex_rings.specs.Lines as by_rings
use Rattle.kex_rings.specs.declared.ring_seat.RingSeat.{RingSeat}
use Rattle.kex_pipeline.specs.declared.any_pipe.AnyPipe.{AnyPipe}
use Rattle.kex_pipeline.specs.declared.any_pipe.AnyPipe.TheVariants.{Rounds, Turns, Rings}
use Rattle.kex_pipeline.specs.Sayings.{Said, StagesSay}
use Rattle.kex_pipeline.specs.History.{StagesFed, History, bytes_passed, history_text, is_history_ended, IsFateOfStages, FeedsStages}
use Rattle.kex_pipeline.specs.Piped as piped
use Rattle.kex_pipeline.specs.Piped.{plans_of, any_in_hand, is_any_in_round, is_any_spent, AnyPipeStands, IsPipeSettled, IsWorkedOff, HasSaid, PipeStands}
use Rattle.kex_pipeline.specs.PipelineLaws.{report-same}
use Rattle.kex_pipeline.proofs.Schedules.{same-came, same-seats}

pub or-not : (a : Bool) → (a || false) ≡ a
or-not true = refl
or-not false = refl

or-yes : (a : Bool) → (a || true) ≡ true
or-yes true = refl
or-yes false = refl

module _ {T : Type 0} (t : Ghosts T) where
  line-plans : (came : List StreamItem) (ps : List t.Plan) (ss : List (Seated T t)) (xs : List Progress) (b : Inbox) (taken : List ℕ) → by_rounds.Line t came ps ss xs b taken → map t.plan (map (λ s. s.staged.stage) ss) ≡ ps
  line-plans came [] [] [] b taken h = refl
  line-plans came (p ∷ ps) (s ∷ ss) (x ∷ xs) b taken h = ap₂ (λ q qs. q ∷ qs) h.2.same_plan (line-plans h.1 ps ss xs b taken h.3)
  line-plans came ps ss xs b taken h = absurd h

  ring-plans : (came ahead : List StreamItem) (ps : List t.Plan) (ss : List (RingSeat T t)) (xs : List Progress) (b : Inbox) (taken : List ℕ) → by_rings.RingLine t came ahead ps ss xs b taken → map t.plan (map (λ s. s.seat.staged.stage) ss) ≡ ps
  ring-plans came ahead [] [] [] b taken h = refl
  ring-plans came ahead (p ∷ ps) (s ∷ ss) (x ∷ xs) b taken h = ap₂ (λ q qs. q ∷ qs) h.2.same_plan (ring-plans h.1 (waiting_items s.seat.outbox) ps ss xs b taken h.3)
  ring-plans came ahead ps ss xs b taken h = absurd h

  pub same-plans : (ps : List t.Plan) (pipe : AnyPipe T t) (h : List Event) (taken : List ℕ) → AnyPipeStands t ps pipe h taken → plans_of t pipe ≡ ps
  same-plans ps (Rounds pipe length) h taken s = line-plans s.came ps pipe.seats.items s.seats pipe.output taken s.line
  same-plans ps (Turns pipe sharing) h taken s = line-plans s.came ps pipe.seats.items s.seats pipe.output taken s.line
  same-plans ps (Rings pipe work) h taken s = ring-plans s.came [] ps pipe.seats.items s.seats pipe.output taken s.line

  pub is-closed : (ps : List t.Plan) (pipe : AnyPipe T t) (h : List Event) (taken : List ℕ) → AnyPipeStands t ps pipe h taken → is_any_in_round t pipe ≡ false
  is-closed ps (Rounds pipe length) h taken s = s.closed
  is-closed ps (Turns pipe sharing) h taken s = s.closed
  is-closed ps (Rings pipe work) h taken s = refl

  is-going : (ps : List t.Plan) (pipe : AnyPipe T t) (h : List Event) (taken : List ℕ) → AnyPipeStands t ps pipe h taken → is_any_spent t pipe ≡ false
  is-going ps (Rounds pipe length) h taken s = s.going
  is-going ps (Turns pipe sharing) h taken s = s.going
  is-going ps (Rings pipe work) h taken s = s.going

  end-as-given : (ps : List t.Plan) (pipe : AnyPipe T t) (h : List Event) (taken : List ℕ) → AnyPipeStands t ps pipe h taken → piped.is_any_ended t pipe ≡ end_given h
  end-as-given ps (Rounds pipe length) h taken s = s.same_end ∙ ap has_end (came-given t.gives s.after) ∙ end-items (bytes_given h) (end_given h)
  end-as-given ps (Turns pipe sharing) h taken s = s.same_end ∙ ap has_end (came-given t.gives s.after) ∙ end-items (bytes_given h) (end_given h)
  end-as-given ps (Rings pipe work) h taken s = s.same_end ∙ ap has_end (came-given t.gives s.after) ∙ end-items (bytes_given h) (end_given h)

  -- a pipe of some stages that has come by nothing
  pub fresh-pipe : (ps : List t.Plan) (pipe : AnyPipe T t) → 0 < length ps → AnyPipeStands t ps pipe [] [] → PipeStands t pipe None
  fresh-pipe ps pipe some s =
      let same = same-plans ps pipe [] [] s in
      (subst (λ z. 0 < length z) (sym same) some, subst (λ z. AnyPipeStands t z pipe [] []) (sym same) s)

  -- what the pipe was given, by what it was fed
  pub record Standing (pipe : AnyPipe T t) (h : History) : Type 0 where
    pub events : List Event
    pub some : 0 < length (plans_of t pipe)
    pub stands : AnyPipeStands t (plans_of t pipe) pipe events (history_text h)
    pub bytes : bytes_given events ≡ bytes_passed h
    pub end : end_given events ≡ is_history_ended h

  pub standing : (pipe : AnyPipe T t) (h : History) → PipeStands t pipe h → Standing pipe h
  standing pipe None s = record { events = []; some = s.0; stands = s.1; bytes = refl; end = refl }
  standing pipe (Some f) s = record { events = s.worked_off.events; some = s.says.0; stands = s.worked_off.stands_for; bytes = s.worked_off.same_bytes ∙ s.bytes; end = s.worked_off.same_end ∙ s.end }

  -- the end wasn't given
  pub still-open : (pipe : AnyPipe T t) (h : History) → PipeStands t pipe h → is_history_ended h ≡ false → piped.is_any_ended t pipe ≡ false
  still-open pipe h s e =
      let x = standing pipe h s in
      end-as-given (plans_of t pipe) pipe x.events (history_text h) x.stands ∙ x.end ∙ e

  pub not-in-round : (pipe : AnyPipe T t) (h : History) → PipeStands t pipe h → is_any_in_round t pipe ≡ false
  not-in-round pipe h s =
      let x = standing pipe h s in
      is-closed (plans_of t pipe) pipe x.events (history_text h) x.stands

  pub not-spent : (pipe : AnyPipe T t) (h : History) → PipeStands t pipe h → is_any_spent t pipe ≡ false
  not-spent pipe h s =
      let x = standing pipe h s in
      is-going (plans_of t pipe) pipe x.events (history_text h) x.stands

  module _ (one : (p : t.Plan) (w : List ℕ) (e : Bool) (a b : Answer) → t.gives p w e a → t.gives p w e b → a ≡ b) where
    -- what is settled is so with whatever came and whatever seats that leaves
    pub settled-here : (ps : List t.Plan) (h : List Event) (came : List StreamItem) (seats : List Progress) → After t.gives ps h came seats → IsPipeSettled t.gives ps h → Settled t.gives came ps seats
    settled-here ps h came seats after s = subst (λ z. Settled t.gives came ps z) (same-seats t.gives one ps s.after after) (subst (λ z. Settled t.gives z ps s.seats) (same-came t.gives ps s.after after) s.settled)

  -- what the report says of all that is worked off
  abbrev pub Reports : AnyPipe T t → List t.Plan → Option Rejected → Type 0
  Reports pipe ps r = (k : List Event) (text : List ℕ) → AnyPipeStands t ps pipe k text → IsPipeSettled t.gives ps k → Pipeline t.gives 1 ps (bytes_given k) (end_given k) (text ++ any_in_hand t pipe) (report_as r)

  module _ (ps : List t.Plan) (old pipe : AnyPipe T t) (given : List Event) (taken out : List ℕ) (r : Option Rejected) where
    -- what was worked off stays so when the output is taken
    taken-off : IsWorkedOff t.gives ps (λ k. AnyPipeStands t ps old k taken) given → ((h : List Event) → AnyPipeStands t ps old h taken → AnyPipeStands t ps pipe h (taken ++ out)) → IsWorkedOff t.gives ps (λ k. AnyPipeStands t ps pipe k (taken ++ out)) given
    taken-off w takes = record { events = w.events; same_bytes = w.same_bytes; same_end = w.same_end; stands_for = takes w.events w.stands_for; settled = w.settled }

    answered : IsWorkedOff t.gives ps (λ k. AnyPipeStands t ps pipe k (taken ++ out)) given → any_in_hand t pipe ≡ [] → Reports pipe ps r → Pipeline t.gives 1 ps (bytes_given given) (end_given given) (taken ++ out) (report_as r)
    answered w none reports =
        let all = reports w.events (taken ++ out) w.stands_for w.settled in
        subst (λ z. Pipeline t.gives 1 ps z (end_given given) (taken ++ out) (report_as r)) w.same_bytes
        (subst (λ z. Pipeline t.gives 1 ps (bytes_given w.events) z (taken ++ out) (report_as r)) w.same_end
        (subst (λ z. Pipeline t.gives 1 ps (bytes_given w.events) (end_given w.events) z (report_as r)) (ap (λ z. (taken ++ out) ++ z) none ∙ append-nil (taken ++ out)) all))

    -- the pipe has said all that there is to say on what it was given
    pub said-all : (h : History) (w : List ℕ) (e : Bool) (fate : Fate) → 0 < length ps → taken ≡ history_text h → bytes_given given ≡ w → end_given given ≡ e
        → IsWorkedOff t.gives ps (λ k. AnyPipeStands t ps old k taken) given → ((k : List Event) → AnyPipeStands t ps old k taken → AnyPipeStands t ps pipe k (taken ++ out)) → any_in_hand t pipe ≡ []
        → Reports pipe ps r → IsFateOfStages r fate → FeedsStages (λ v d said. StagesSay t.gives ps v d said) (λ k. PipeStands t pipe k) h w e out fate
    said-all h w e fate some text bytes end worked takes none reports is_fate =
        let said : Said = record { text = taken ++ out; report = r } in
        let off = taken-off worked takes in
        let says : StagesSay t.gives ps w e said = (some, subst (λ z. Pipeline t.gives 1 ps z e (taken ++ out) (report_as r)) bytes (subst (λ z. Pipeline t.gives 1 ps (bytes_given given) z (taken ++ out) (report_as r)) end (answered off none reports))) in
        let fed : StagesFed = record { bytes = w; ended = e; said = said } in
        let has : HasSaid t ps pipe fed = record { given = given; bytes = bytes; end = end; worked_off = off; says = says } in
        record {
          said = said;
          is_said = says;
          stands_for = subst (λ z. HasSaid t z pipe fed) (sym (same-plans ps pipe off.events (taken ++ out) off.stands_for)) has;
          whole = ap (λ z. z ++ out) text;
          is_fate = is_fate;
        }

  pub rejected-is : (one : (p : t.Plan) (w : List ℕ) (e : Bool) (a b : Answer) → t.gives p w e a → t.gives p w e b → a ≡ b) (pipe : AnyPipe T t) (f : StagesFed) (r : Option Rejected) → Reports pipe (plans_of t pipe) r → PipeStands t pipe (Some f) → r ≡ f.said.report
  rejected-is one pipe f r reports s =
      let ps = plans_of t pipe in
      let w = s.worked_off in
      let all = reports w.events f.said.text w.stands_for w.settled in
      let here : Pipeline t.gives 1 ps f.bytes f.ended (f.said.text ++ any_in_hand t pipe) (report_as r) =
      subst (λ z. Pipeline t.gives 1 ps z f.ended (f.said.text ++ any_in_hand t pipe) (report_as r)) (w.same_bytes ∙ s.bytes)
      (subst (λ z. Pipeline t.gives 1 ps (bytes_given w.events) z (f.said.text ++ any_in_hand t pipe) (report_as r)) (w.same_end ∙ s.end) all) in
      report-same r f.said.report ((one_answer t.gives one ps 1 f.bytes f.said.text (f.said.text ++ any_in_hand t pipe) f.ended (report_as f.said.report) (report_as r) s.says.1 here).1)

-- more was given
pub bytes-more : (h : List Event) (w : List ℕ) → bytes_given (h ++ give w ∷ []) ≡ bytes_given h ++ w
bytes-more h w = bytes_given-append h (give w ∷ []) ∙ ap (λ z. bytes_given h ++ z) (append-nil w)

pub end-open : (h : List Event) (w : List ℕ) → end_given (h ++ give w ∷ []) ≡ end_given h
end-open h w = end_given-append h (give w ∷ []) ∙ or-not (end_given h)

pub bytes-same : (h : List Event) → bytes_given (h ++ give_end ∷ []) ≡ bytes_given h
bytes-same h = bytes_given-append h (give_end ∷ []) ∙ append-nil (bytes_given h)

pub end-now : (h : List Event) → end_given (h ++ give_end ∷ []) ≡ true
end-now h = end_given-append h (give_end ∷ []) ∙ or-yes (end_given h)
