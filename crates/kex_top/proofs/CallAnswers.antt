-- From a run over nodes to what a call answers.
use Rattle.std.proofs.lemmas.List.{length-map}
use Rattle.kex_model.specs.Trees.{root_of}
use Rattle.kex_pipe.specs.Reports.{report_as}
use Rattle.std.proofs.Common.{◌≡◌, ◌<◌, ℕ, suc, arith, List, [], ◌∷◌, Bool, true, false, refl, sym, ◌∙◌, subst, ap, inl, inr, ⊎_elim, length, map}
use Rattle.std.specs.Prelude.{◌↔◌, Option, Some, None, IsSome}
use Rattle.kex_ports.specs.Named.{Texts}
use Rattle.kex_ports.specs.Reads.{Reads, last_given}
use Rattle.kex_ports.specs.Shelf.{ShelfText, IsTold, told_of}
use Rattle.kex_machine.specs.Nodes.{Graph}
use Rattle.kex_code.specs.Codes.{IsAmong}
use Rattle.kex_model.specs.Answers.{Answer, Pipeline, bad_byte, too_long, cut_off, whole, still_open}
use Rattle.kex_model.specs.Answers as model
use Rattle.kex_machine.specs.Answers as nodes
use Rattle.kex_code.specs.declared.symbol.Symbol.{Symbol}
use Rattle.kex_action.specs.Actors.{BeginsRun, IsWholeCode}
use Rattle.kex_single.specs.Plays as plays
use Rattle.kex_single.specs.Singles as single
use Rattle.kex_lowering.specs.Stages.{Carries}
use Rattle.kex_words.specs.Words.{Asked, Mode, Reach, most_input}
use Rattle.kex_words.specs.Words.Asked.{ToCheck, ToStream, ToTry}
use Rattle.kex_words.specs.Words.Mode.{running, coding, acting, testing}
use Rattle.kex_model.specs.Programs.{Grammar}
use Rattle.kex_lowering.proofs.BestCodes.{carries_best}
use Rattle.kex_plan.specs.Plans.{Teller, teller}
use Rattle.kex_stage.specs.Stages.{Gives, StagePlan, TellerAnswers}
use Rattle.kex_plan.specs.declared.plan.Telling.{Telling}
use Rattle.kex_compile.specs.Stages.{AreStages, Plans, asked_telling, roots_of}
use Rattle.kex_compile.specs.Compiled.{Accepts, IsCompiled, IsRefused}
use Rattle.kex_compile.specs.declared.limits.Limits.{Limits}
use Rattle.kex_compile.specs.declared.refusal.CompileRefusal.{CompileRefusal}
use Rattle.kex_words.specs.Gains.{StreamChange}
use Rattle.kex_words.specs.Lines.{counts_line, trial_line}
use Rattle.kex_words.specs.declared.counts.TrialCounts.{TrialCounts}
use Rattle.kex_top.specs.Commands.{Counted, TellsBytes, calls_of, taken_for, told_text}
use Rattle.kex_top.specs.Refusals.{HasNone, HasPlans, IsStartOf}
use Rattle.kex_top.specs.Taken.{a_text}
use Rattle.kex_top.specs.Starts.{status_of}
use Rattle.kex_top.specs.Trials.{AreTrialCounts, made_lines, trial_text, usual_states}
use Rattle.kex_top.specs.declared.start.StartError.{StartError}
use Rattle.kex_top.specs.declared.start.StartError.TheVariants as start
use Rattle.kex_pipeline.specs.Sayings.{Said, StagesSay, first_limit}
use Rattle.kex_pipeline.specs.Piped.{limit_of, plans_of, stages_of}
use Rattle.kex_pipeline.specs.declared.any_pipe.AnyPipe.{AnyPipe}
use Rattle.kex_pipe.specs.declared.turn.Turn.{Ghosts}
use Rattle.kex_top.specs.Pipelines.{Answered, NodesSay, agreed_plans, stage_plans, told_plans}
use Rattle.kex_top.specs.Run.{IsAsBefore, Left, Ran, EndsAs, WritesAll}
use Rattle.kex_top.specs.Kex.{CommandAnswers, CommandWorks}
use Rattle.kex_top.proofs.CommandCases.{laws_of}
use Rattle.kex_top.specs.Modes.{BeginsTreeCode, HasParseAlone, IsTreeCode, WritesPart, MachineGives, MachinesSay, MeansCode, SaysCode, SaysNothing, SaysBy, StageGives, limits_of, limits_to_check}
use Rattle.kex_pipe.specs.declared.report.Rejected.{Rejected as Report}
use Rattle.kex_top.specs.declared.status.Status.{Status}
use Rattle.kex_top.specs.declared.status.Status.TheVariants.{Done, Rejected, Usage, Refused, ReadFault, WriteFault, ShelfFault, Memory, TooLong, InputTooLong}

-- there are as many plans as machines
pub as-many-plans : (k : Telling) (limit : ℕ) (ms : List Graph) → length (told_plans k limit ms) ≡ length ms
as-many-plans k limit [] = refl
as-many-plans k limit (m ∷ ms) = ap (λ n. suc n) (as-many-plans k limit ms)

-- one saying in place of another that says the same
module _ (says says' : List ℕ → Bool → Said → Type 0) (to : (w : List ℕ) (e : Bool) (s : Said) → says w e s → says' w e s) (from : (w : List ℕ) (e : Bool) (s : Said) → says' w e s → says w e s) where
  pub all_alike : (w : List ℕ) (e : Bool) (r : Option Report) (sink : StreamChange) → WritesAll says w e r sink → WritesAll says' w e r sink
  all_alike w e r sink a = record { said = a.said; is_said = to w e a.said a.is_said; reports = a.reports; appended = a.appended }

  pub ends_alike : (n : ℕ) (w : List ℕ) (e : Bool) (source sink : StreamChange) (s : Status) → EndsAs says n w e source sink s → EndsAs says' n w e source sink s
  ends_alike n w e source sink Done t = (t.0, all_alike w e None sink t.1, t.2, t.3)
  ends_alike n w e source sink (Rejected r) t = (t.0, all_alike w e (Some r) sink t.1, t.2, t.3)
  ends_alike n w e source sink (TooLong r) t = (t.0, all_alike w e (Some r) sink t.1, t.2, t.3)
  ends_alike n w e source sink InputTooLong t = t
  ends_alike n w e source sink ReadFault t = (t.0, all_alike w e None sink t.1, t.2, t.3)
  ends_alike n w e source sink WriteFault t =
      let b = t.0 in (
        record {
          said = b.said;
          is_said = to w e b.said b.is_said;
          added = b.added;
          appended = b.appended;
          front = b.front;
          begun = λ more. let x = b.begun more in (x.0, x.1, x.2, x.3, x.4, to x.0 false x.2 x.5, x.6);
        },
        t.1,
        t.2,
      )
  ends_alike n w e source sink Memory t =
      let b = t.0 in (
        record {
          added = b.added;
          appended = b.appended;
          from = ⊎_elim (λ x. inl x) (λ x. inr (x.0, x.1, x.2, to x.0 false x.1 x.3, x.4)) b.from;
          front = λ said h. b.front said (from w e said h);
        },
        t.1,
        t.2,
      )
  ends_alike n w e source sink Usage t = t
  ends_alike n w e source sink (Refused r) t = t
  ends_alike n w e source sink ShelfFault t = t

  pub ran_alike : (n : ℕ) (source sink : StreamChange) (s : Status) → Ran says n source sink s → Ran says' n source sink s
  ran_alike n source sink s r = record { w = r.w; e = r.e; read = r.read; ended = r.ended; ends = ends_alike n r.w r.e source sink s r.ends }

-- a stage's answer by one sort of what is said in place of another
module _ (Good Good' : List ℕ → Type 0) (Says Says' : List ℕ → List ℕ → Type 0) (Parsed Parsed' : List ℕ → Type 0) (Means Means' : List ℕ → List ℕ → Type 0) (good : (w : List ℕ) → Good w ↔ Good' w) (says : (w s : List ℕ) → Says w s → Says' w s) (parsed : (w : List ℕ) → Parsed' w → Parsed w) (means : (w s : List ℕ) → Means w s → Means' w s) (n : ℕ) where
  sayings : {w : List ℕ} {e : Bool} {a : Answer} → model.Answers Good Says Parsed Means n w e a → model.Answers Good' Says' Parsed' Means' n w e a
  sayings (bad_byte {text = s} v bad l h) = bad_byte v (λ g. bad ((good _).1 g)) (record { front = l.front; good = (good v).0 l.good; longest = λ u b g. l.longest u b ((good u).1 g) }) (says v s h)
  sayings (too_long {text = s} lt g h) = too_long lt ((good _).0 g) (says _ s h)
  sayings (cut_off {w = w} {text = s} le g none h) = cut_off le ((good w).0 g) (λ p. none (parsed w p)) (says w s h)
  sayings (whole {w = w} {text = s} le m) = whole le (means w s m)
  sayings (still_open {w = w} {text = s} le g h) = still_open le ((good w).0 g) (says w s h)

-- the same of what a code's text means
module _ (B B' W W' : List Symbol → Type 0) (S S' : List Symbol → List ℕ → Type 0) (b : (c : List Symbol) → B c ↔ B' c) (w : (c : List Symbol) → W c ↔ W' c) (says : (c : List Symbol) (s : List ℕ) → S c s → S' c s) (n : ℕ) where
  plays_on : (u : List ℕ) (c : List Symbol) (stop : Option ℕ) → plays.PlaysOn B W S u c stop → plays.PlaysOn B' W' S' u c stop
  plays_on u c stop on = record {
    longest = record {
      code = on.longest.code;
      front = on.longest.front;
      begins = (b c).0 on.longest.begins;
      longest = λ d k p x. on.longest.longest d k p ((b d).1 x);
    };
    stops = by stop on.stops;
  }
    where
      by : (stop : Option ℕ) → plays.StopsIn B W S u c stop → plays.StopsIn B' W' S' u c stop
      by None x = x
      by (Some k) x = x

  playings : {v : List ℕ} {e : Bool} {a : Answer} → plays.Plays B W S n v e a → plays.Plays B' W' S' n v e a
  playings (plays.bad_byte {text = s} c k on h) = plays.bad_byte c k (plays_on _ c (Some k) on) (says c s h)
  playings (plays.too_long {text = s} c lt on h) = plays.too_long c lt (plays_on _ c None on) (says c s h)
  playings (plays.cut_off {text = s} c le on never h) = plays.cut_off c le (plays_on _ c None on) (λ is p. never is ((w c).1 p)) (says c s h)
  playings (plays.whole {text = s} c le on is p h) = plays.whole c le (plays_on _ c None on) is ((w c).0 p) (says c s h)
  playings (plays.still_open {text = s} c le on h) = plays.still_open c le (plays_on _ c None on) (says c s h)

turned : {A B : Type 0} → A ↔ B → B ↔ A
turned h = (h.1, h.0)

-- a machine answers as its stage does
module _ (P : Grammar) (limit root : ℕ) (m : Graph) (c : Carries P root m) where
  begun_alike : (d : List Symbol) → BeginsRun m d ↔ BeginsTreeCode P root d
  begun_alike d = (
    λ x. let t = c.trees x.0 x.1 in (t.0, t.1, (x.2.0, sym t.2.codes ∙ x.2.1)),
    λ x. let r = c.runs x.0 x.1 in (r.0, r.1, (x.2.0, r.2.codes ∙ x.2.1)),
  )

  whole_alike : (d : List Symbol) → IsWholeCode m d ↔ IsTreeCode P root d
  whole_alike d = (
    λ x. let t = c.trees x.0 x.1 in (t.0, t.1, sym t.2.codes ∙ x.2),
    λ x. let r = c.runs x.0 x.1 in (r.0, r.1, r.2.codes ∙ x.2),
  )

  part_of_run : (d : List Symbol) (s : List ℕ) → plays.WritesRun m d s → WritesPart P root d s
  part_of_run d s x = let t = c.trees x.0 x.1 in (t.0, t.1, (x.2.0, sym t.2.codes ∙ x.2.1), x.3 ∙ t.2.written d)

  run_of_part : (d : List Symbol) (s : List ℕ) → WritesPart P root d s → plays.WritesRun m d s
  run_of_part d s x = let r = c.runs x.0 x.1 in (r.0, r.1, (x.2.0, r.2.codes ∙ x.2.1), x.3 ∙ sym (r.2.written d))

  pub to_stage : (mode : Mode) (w : List ℕ) (e : Bool) (a : Answer) → MachineGives mode limit m w e a → StageGives mode P limit root w e a
  to_stage (running n false) w e a h = (c.answers limit w e a).1 h
  to_stage (running n true) w e a h = ((carries_best P root m c).answers limit w e a).1 h
  to_stage coding w e a h =
      sayings (nodes.IsViableFor m) (model.Viable P root) (single.SaysSharedCode m) (SaysCode P root) (nodes.HasRun m) (model.HasParse P root) (single.MeansRunCode m) (MeansCode P root)
      (λ v. turned (c.viable v)) (λ v s x. (x.0, (c.agreed v x.0).1 x.1, x.2)) (λ v p. (c.parsed v).0 p)
      (λ v s x. (x.0, record { parse = (c.parsed v).1 x.1.parse; greedy = (c.greedy v x.0).1 x.1.greedy; least = λ d g. x.1.least d ((c.greedy v d).0 g) }, x.2)) limit h
  to_stage acting w e a h = playings (BeginsRun m) (BeginsTreeCode P root) (IsWholeCode m) (IsTreeCode P root) (plays.WritesRun m) (WritesPart P root) begun_alike whole_alike part_of_run limit h
  to_stage testing w e a h =
      sayings (nodes.IsViableFor m) (model.Viable P root) (single.SaysNoText m) (SaysNothing P root) (nodes.HasRun m) (model.HasParse P root) (single.HasRunAlone m) (HasParseAlone P root)
      (λ v. turned (c.viable v)) (λ v s x. x) (λ v p. (c.parsed v).0 p) (λ v s x. ((c.viable v).1 x.0, (c.parsed v).1 x.1, x.2)) limit h

  pub to_machine : (mode : Mode) (w : List ℕ) (e : Bool) (a : Answer) → StageGives mode P limit root w e a → MachineGives mode limit m w e a
  to_machine (running n false) w e a h = (c.answers limit w e a).0 h
  to_machine (running n true) w e a h = ((carries_best P root m c).answers limit w e a).0 h
  to_machine coding w e a h =
      sayings (model.Viable P root) (nodes.IsViableFor m) (SaysCode P root) (single.SaysSharedCode m) (model.HasParse P root) (nodes.HasRun m) (MeansCode P root) (single.MeansRunCode m)
      (λ v. c.viable v) (λ v s x. (x.0, (c.agreed v x.0).0 x.1, x.2)) (λ v p. (c.parsed v).1 p)
      (λ v s x. (x.0, record { parse = (c.parsed v).0 x.1.parse; greedy = (c.greedy v x.0).0 x.1.greedy; least = λ d g. x.1.least d ((c.greedy v d).1 g) }, x.2)) limit h
  to_machine acting w e a h = playings (BeginsTreeCode P root) (BeginsRun m) (IsTreeCode P root) (IsWholeCode m) (WritesPart P root) (plays.WritesRun m) (λ d. turned (begun_alike d)) (λ d. turned (whole_alike d)) run_of_part limit h
  to_machine testing w e a h =
      sayings (model.Viable P root) (nodes.IsViableFor m) (SaysNothing P root) (single.SaysNoText m) (model.HasParse P root) (nodes.HasRun m) (HasParseAlone P root) (single.HasRunAlone m)
      (λ v. c.viable v) (λ v s x. x) (λ v p. (c.parsed v).1 p) (λ v s x. ((c.viable v).0 x.0, (c.parsed v).0 x.1, x.2)) limit h

-- the machines of a program's stages answer as its stages do
module _ (P : Grammar) (mode : Mode) (limit : ℕ) where
  pub carried : (i : ℕ) (rs : List ℕ) (ms : List Graph) (w : List ℕ) (e : Bool) (text : List ℕ) (r : Option model.Report) → AreStages P rs ms → Pipeline (λ m v d a. MachineGives mode limit m v d a) i ms w e text r → Pipeline (λ root v d a. StageGives mode P limit root v d a) i rs w e text r
  carried i [] [] w e text r h x = x
  carried i (root ∷ rs) (m ∷ ms) w e text r h (a, rest, gives, others, is) = (a, rest, to_stage P limit root m h.0.carries mode w e a gives, carried (suc i) rs ms a.text a.ended text rest h.1 others, is)
  carried i [] (m ∷ ms) w e text r h x = absurd h
  carried i (root ∷ rs) [] w e text r h x = absurd h

  pub carried-back : (i : ℕ) (rs : List ℕ) (ms : List Graph) (w : List ℕ) (e : Bool) (text : List ℕ) (r : Option model.Report) → AreStages P rs ms → Pipeline (λ root v d a. StageGives mode P limit root v d a) i rs w e text r → Pipeline (λ m v d a. MachineGives mode limit m v d a) i ms w e text r
  carried-back i [] [] w e text r h x = x
  carried-back i (root ∷ rs) (m ∷ ms) w e text r h (a, rest, gives, others, is) = (a, rest, to_machine P limit root m h.0.carries mode w e a gives, carried-back (suc i) rs ms a.text a.ended text rest h.1 others, is)
  carried-back i [] (m ∷ ms) w e text r h x = absurd h
  carried-back i (root ∷ rs) [] w e text r h x = absurd h

-- a run of stages that work by the same
pub ran_as : (limit : ℕ) (ts us : List Teller) (block : ℕ) (source sink : StreamChange) (s : Status) → ts ≡ us → Ran (NodesSay (stage_plans limit ts)) block source sink s → Ran (NodesSay (stage_plans limit us)) block source sink s
ran_as limit ts us block source sink s e r = subst (λ z. Ran (NodesSay (stage_plans limit z)) block source sink s) e r

-- plans of machines that tell what a run asks for give what the machines do
module _ (states : ℕ) (optimal : Bool) (limit : ℕ) where
  abbrev Plans_for : List Graph → List StagePlan
  Plans_for ms = told_plans (asked_telling (limits_of (running states optimal))) limit ms

  by_machine : (best : Bool) (m : Graph) (w : List ℕ) (e : Bool) (a : Answer) → TellerAnswers (teller (asked_telling (limits_of (running states best))) m) limit w e a → MachineGives (running states best) limit m w e a
  by_machine false m w e a h = h
  by_machine true m w e a h = h

  by_plan : (best : Bool) (m : Graph) (w : List ℕ) (e : Bool) (a : Answer) → MachineGives (running states best) limit m w e a → TellerAnswers (teller (asked_telling (limits_of (running states best))) m) limit w e a
  by_plan false m w e a h = h
  by_plan true m w e a h = h

  pub by_machines : (i : ℕ) (ms : List Graph) (w : List ℕ) (e : Bool) (text : List ℕ) (r : Option model.Report) → Pipeline (λ p v d a. Gives p v d a) i (Plans_for ms) w e text r → Pipeline (λ m v d a. MachineGives (running states optimal) limit m v d a) i ms w e text r
  by_machines i [] w e text r x = x
  by_machines i (m ∷ ms) w e text r (a, rest, gives, others, is) = (a, rest, by_machine optimal m w e a gives, by_machines (suc i) ms a.text a.ended text rest others, is)

  pub by_plans : (i : ℕ) (ms : List Graph) (w : List ℕ) (e : Bool) (text : List ℕ) (r : Option model.Report) → Pipeline (λ m v d a. MachineGives (running states optimal) limit m v d a) i ms w e text r → Pipeline (λ p v d a. Gives p v d a) i (Plans_for ms) w e text r
  by_plans i [] w e text r x = x
  by_plans i (m ∷ ms) w e text r (a, rest, gives, others, is) = (a, rest, by_plan optimal m w e a gives, by_plans (suc i) ms a.text a.ended text rest others, is)

  pub run_by_machines : (ms : List Graph) (block : ℕ) (source sink : StreamChange) (s : Status) → 0 < length ms → Ran (NodesSay (Plans_for ms)) block source sink s → Ran (MachinesSay (running states optimal) limit ms) block source sink s
  run_by_machines ms block source sink s some r =
      ran_alike _ _
      (λ w e said h. (some, by_machines 1 ms w e said.text (report_as said.report) h.1))
      (λ w e said h. ((let n = as-many-plans (asked_telling (limits_of (running states optimal))) limit ms in omega (arith, n, some)), by_plans 1 ms w e said.text (report_as said.report) h.1))
      block source sink s r

as-many : (P : Grammar) (rs : List ℕ) (ms : List Graph) → AreStages P rs ms → length ms ≡ length rs
as-many P [] [] h = refl
as-many P (root ∷ rs) (m ∷ ms) h = ap (λ n. suc n) (as-many P rs ms h.1)
as-many P [] (m ∷ ms) h = absurd h
as-many P (root ∷ rs) [] h = absurd h

not-empty : {A : Type 0} (xs : List A) (x : A) → IsAmong xs x → 0 < length xs
not-empty [] x h = absurd h
not-empty (y ∷ xs) x h = omega arith

-- a program has a stage
pub some-stage : (limits : Limits) (text : List ℕ) (P : Grammar) (ms : List Graph) → Accepts limits text P → AreStages P (roots_of P) ms → 0 < length ms
some-stage limits text P ms accepts stages =
    let n = as-many P (roots_of P) ms stages in
    let m = length-map P.stages (λ s. root_of P s.name) in
    let some = not-empty P.stages accepts.ruled.begins.0 accepts.ruled.begins.1 in
    omega arith

pub some-machine : (limits : Limits) (text : List ℕ) (plans : Plans) → IsCompiled limits text plans → 0 < length plans.stages
some-machine limits text plans p = some-stage limits text p.program plans.stages p.accepts p.plans_of.stages

-- a program of one stage has one machine
pub one-machine : (limits : Limits) (text : List ℕ) (plans : Plans) → IsCompiled limits text plans → limits.one_stage ≡ true → length plans.stages ≡ 1
one-machine limits text plans p asked =
    let n = as-many p.program (roots_of p.program) plans.stages p.plans_of.stages in
    let m = length-map p.program.stages (λ s. root_of p.program s.name) in
    let some = some-machine limits text plans p in
    let few = p.accepts.one_stage asked in
    omega arith

pub first-limit : (limit : ℕ) (stages : List Teller) → 0 < length stages → first_limit (λ p. p.limit) (stage_plans limit stages) ≡ limit
first-limit limit [] lt = absurd (omega arith)
first-limit limit (t ∷ stages) lt = refl

pub first-of : {S P : Type 0} (plan : S → P) (limit : P → ℕ) (ss : List S) → first_limit (λ s. limit (plan s)) ss ≡ first_limit limit (map plan ss)
first-of plan limit [] = refl
first-of plan limit (s ∷ ss) = refl

pub pipe-limit : {T : Type 0} {t : Ghosts T} (limit : t.Plan → ℕ) (pipe : AnyPipe T t) → limit_of t (λ s. limit (t.plan s)) pipe ≡ first_limit limit (plans_of t pipe)
pipe-limit {t = t} limit pipe = first-of t.plan limit (stages_of t pipe)

module _ (mode : Mode) (limit : ℕ) (ms : List Graph) (block : ℕ) (source sink : StreamChange) (s : Status) where
  pub ran_by : (states : ℕ) (optimal : Bool) → mode ≡ running states optimal → 0 < length ms → Ran (NodesSay (told_plans (asked_telling (limits_of mode)) limit ms)) block source sink s → Ran (MachinesSay mode limit ms) block source sink s
  ran_by states optimal is some r =
      let run = subst (λ m. Ran (NodesSay (told_plans (asked_telling (limits_of m)) limit ms)) block source sink s) is r in
      subst (λ m. Ran (MachinesSay m limit ms) block source sink s) (sym is) (run_by_machines states optimal limit ms block source sink s some run)

-- one stage by itself
module _ {A : Type 0} (F : A → List ℕ → Bool → Answer → Type 0) (x : A) (mode : Mode) (limit : ℕ) (m : Graph) (block : ℕ) (source sink : StreamChange) where
  pub ran_single : ((w : List ℕ) (e : Bool) (a : Answer) → F x w e a → MachineGives mode limit m w e a) → ((w : List ℕ) (e : Bool) (a : Answer) → MachineGives mode limit m w e a → F x w e a) → (s : Status) → Ran (StagesSay (λ p w e a. F p w e a) (x ∷ [])) block source sink s → Ran (MachinesSay mode limit (m ∷ [])) block source sink s
  ran_single to from s r =
      ran_alike (StagesSay (λ p w e a. F p w e a) (x ∷ [])) (MachinesSay mode limit (m ∷ []))
      (λ w e said h. (h.0, let (a, rest, gives, others, is) = h.1 in (a, rest, to w e a gives, others, is)))
      (λ w e said h. (h.0, let (a, rest, gives, others, is) = h.1 in (a, rest, from w e a gives, others, is)))
      block source sink s r

-- ---- a command that doesn't begin

-- a text that has no plans
pub unplanned : (limits : Limits) (told : ShelfText) (text : List ℕ) (why : StartError) → IsTold told text → ((rule : CompileRefusal) × IsRefused limits text rule × IsStartOf text rule why) → HasNone (a_text limits) told why
unplanned limits told text start.Memory t x = tt
unplanned limits told text (start.Refused r) t (rule, refused, shown) = inr (record { text = text; is_told = t; rule = rule; is_refused = refused; is_shown = shown })
unplanned limits told text start.Usage t x = x.2
unplanned limits told text start.Shelf t x = absurd x.2

pub unbegun : (asked : Asked) (texts : Option Texts) (reads : Option Reads) (source sink : StreamChange) (why : StartError) → HasNone (taken_for asked) (told_text texts asked) why → (why ≡ start.Shelf → IsSome (calls_of (Some asked)).takes) → Left source sink → CommandAnswers asked texts reads source sink (status_of why)
unbegun asked texts reads source sink start.Usage h t l = h
unbegun asked texts reads source sink start.Shelf h t l = (t refl, l)
unbegun asked texts reads source sink (start.Refused r) h t l = (l, h)
unbegun asked texts reads source sink start.Memory h t l = inl l

-- ---- a command that has begun

pub begun : (asked : Asked) (texts : Option Texts) (reads : Option Reads) (source sink : StreamChange) (s : Status) → CommandWorks asked texts reads source sink s → CommandAnswers asked texts reads source sink s
begun asked texts reads source sink Done w = w
begun asked texts reads source sink (Rejected x) w = w
begun asked texts reads source sink (TooLong x) w = w
begun asked texts reads source sink InputTooLong w = w
begun asked texts reads source sink ReadFault w = w
begun asked texts reads source sink WriteFault w = w
begun asked texts reads source sink Memory w = inr w
begun asked texts reads source sink Usage w = (laws_of texts reads source sink asked).no_usage w.text w.program w.performs
begun asked texts reads source sink (Refused x) w = absurd ((laws_of texts reads source sink asked).no_refusal w.text w.program x w.performs)
begun asked texts reads source sink ShelfFault w = absurd ((laws_of texts reads source sink asked).no_shelf_fault w.text w.program w.performs)

pub served : (mode : Mode) (name : List ℕ) (reach : Reach) (texts : Option Texts) (reads : Option Reads) (plans : Plans) (source sink : StreamChange) (s : Status) → HasPlans (limits_of mode) (told_of texts name) plans → Ran (MachinesSay mode reach.max_input plans.stages) (last_given reach.block reads) source sink s → CommandAnswers (ToStream mode name reach) texts reads source sink s
served mode name reach texts reads plans source sink s h r =
    let p = h.compiled in
    let limit = reach.max_input in
    begun (ToStream mode name reach) texts reads source sink s (
    record {
      text = h.text;
      is_told = h.is_told;
      program = p.program;
      works = p.accepts;
      performs = ran_alike (MachinesSay mode limit plans.stages) (SaysBy mode p.program limit)
          (λ w e said k. carried p.program mode limit 1 (roots_of p.program) plans.stages w e said.text (report_as said.report) p.plans_of.stages k.1)
          (λ w e said k. (some-machine (limits_of mode) h.text plans p, carried-back p.program mode limit 1 (roots_of p.program) plans.stages w e said.text (report_as said.report) p.plans_of.stages k))
          (last_given reach.block reads) source sink s r;
    }
    )

-- the counts of the plans are those of the program
counted : (limits : Limits) (text : List ℕ) (plans : Plans) (p : IsCompiled limits text plans) (Q : List ℕ → Type 0) → limits.tables ≡ true → Q (counts_line (record { stages = length plans.stages; places = plans.places; states = plans.states })) → Counted p.program Q
counted limits text plans p Q asked q =
    let n = as-many p.program (roots_of p.program) plans.stages p.plans_of.stages in
    let m = length-map p.program.stages (λ s. root_of p.program s.name) in
    let same : length plans.stages ≡ length p.program.stages = n ∙ m in
    record {
      places = plans.places;
      states = plans.states;
      in_all = p.plans_of.places;
      states_in_all = p.plans_of.states asked;
      told = subst (λ k. Q (counts_line (record { stages = k; places = plans.places; states = plans.states }))) same q;
    }

pub checked : (name : List ℕ) (states : ℕ) (texts : Option Texts) (reads : Option Reads) (plans : Plans) (source sink : StreamChange) (s : Status) → HasPlans (limits_to_check states) (told_of texts name) plans → IsAsBefore source → TellsBytes (counts_line (record { stages = length plans.stages; places = plans.places; states = plans.states })) sink s → CommandAnswers (ToCheck name states) texts reads source sink s
checked name states texts reads plans source sink s h l q =
    begun (ToCheck name states) texts reads source sink s (
    record {
      text = h.text;
      is_told = h.is_told;
      program = h.compiled.program;
      works = h.compiled.accepts;
      performs = (l, counted (limits_to_check states) h.text plans h.compiled (λ line. TellsBytes line sink s) refl q);
    }
    )

pub tried : (lines block : ℕ) (rings : Option ℕ) (workers : ℕ) (texts : Option Texts) (reads : Option Reads) (plans : Plans) (counts : TrialCounts) (source sink : StreamChange) (s : Status) → IsCompiled (limits_to_check usual_states) trial_text plans → AreTrialCounts (NodesSay (agreed_plans most_input plans.stages)) lines counts → IsAsBefore source → TellsBytes (trial_line counts) sink s → CommandAnswers (ToTry lines block rings workers) texts reads source sink s
tried lines block rings workers texts reads plans counts source sink s p sums l q =
    begun (ToTry lines block rings workers) texts reads source sink s (
    record {
      text = trial_text;
      is_told = refl;
      program = p.program;
      works = p.accepts;
      performs = (l, record { counts = counts; sums = summed; told = q });
    }
    )
  where
    summed : AreTrialCounts (Answered p.program most_input) lines counts
    summed = record {
      said = sums.said;
      is_said = carried p.program (running 4096 false) most_input 1 (roots_of p.program) plans.stages (made_lines lines) true sums.said.text (report_as sums.said.report) p.plans_of.stages
          (by_machines 4096 false most_input 1 plans.stages (made_lines lines) true sums.said.text (report_as sums.said.report) sums.is_said.1);
      lines_of = sums.lines_of;
      made = sums.made;
      written = sums.written;
      roll = sums.roll;
    }
