-- What holds of each command, case by case.
use Rattle.std.proofs.Common.{◌≡◌, ℕ, Bool, List, false, arith, refl, subst}
use Rattle.std.specs.Prelude.{Option, Some, None, IsSome}
use Rattle.std.proofs.lemmas.Bool.{false≢true}
use Rattle.kex_ports.specs.Named.{Texts}
use Rattle.kex_ports.specs.Reads.{Reads, last_given}
use Rattle.kex_ports.specs.Shelf.{ShelfText, present, told_of}
use Rattle.kex_model.specs.Programs.{Grammar}
use Rattle.kex_reader.specs.Spelling.{Spells}
use Rattle.kex_words.specs.Gains.{StreamChange}
use Rattle.kex_words.specs.Words.{Asked, Mode, Reach}
use Rattle.kex_words.specs.Words.Asked.{ToCheck, ToCompile, ToEach, ToExec, ToStream, ToTry}
use Rattle.kex_words.specs.Words.Mode.{running, coding, acting, testing}
use Rattle.kex_words.specs.declared.refusals.Refusal.{Refusal}
use Rattle.kex_pipeline.specs.Sayings.{Said}
use Rattle.kex_top.specs.ByLines.{IsShort, RanByLines, SaysLines, line_block}
use Rattle.kex_top.specs.Commands.{InputIsGood, Performs, StreamParses, TellsBytes, calls_of, runs_within, taken_for, told_text}
use Rattle.kex_top.specs.Kex.{BreaksNoRule, CommandWorks, Headline, WorksWith}
use Rattle.kex_top.specs.Modes.{SaysBy}
use Rattle.kex_top.specs.Refusals.{HoldsProgram}
use Rattle.kex_top.specs.Run.{Ran}
use Rattle.kex_top.specs.Shelves.{ShelfChange, ShelfServes}
use Rattle.kex_pipe.specs.declared.report.Rejected.{Rejected as Report}
use Rattle.kex_top.specs.declared.status.Status.{Status}
use Rattle.kex_top.specs.declared.status.Status.TheVariants.{Done, Rejected, Usage, Refused, ReadFault, WriteFault, ShelfFault, TooLong, InputTooLong}
use Rattle.kex_top.proofs.GoodRuns.{as-meant, no-limit, ran-good, read-within, same-limit, told-same, unbroken}

module _ (texts : Option Texts) (reads : Option Reads) (source sink : StreamChange) where
  -- What a command does with its program is never one of the answers that come before it begins. With
  -- nothing in its way it is Done or Memory. Where it runs stages, Done has written what they mean.
  pub record CommandLaws (asked : Asked) : Type 0 where
    pub no_usage : (text : List ℕ) (P : Grammar) → Performs asked text P reads source sink Usage → ⊥
    pub no_refusal : (text : List ℕ) (P : Grammar) (r : Refusal) → Performs asked text P reads source sink (Refused r) → ⊥
    pub no_shelf_fault : (text : List ℕ) (P : Grammar) → Performs asked text P reads source sink ShelfFault → ⊥
    pub unfailed : (shelf : ShelfChange) → BreaksNoRule asked texts shelf source sink → IsSome (calls_of (Some asked)).takes
        → ShelfServes (calls_of (Some asked)).takes texts shelf ShelfFault → ⊥
    pub unrejected : (shelf : ShelfChange) (r : Report) → BreaksNoRule asked texts shelf source sink → CommandWorks asked texts reads source sink (Rejected r) → ⊥
    pub unlimited : (shelf : ShelfChange) (r : Report) → BreaksNoRule asked texts shelf source sink → CommandWorks asked texts reads source sink (TooLong r) → ⊥
    pub unbounded : (shelf : ShelfChange) → BreaksNoRule asked texts shelf source sink → CommandWorks asked texts reads source sink InputTooLong → ⊥
    pub unstopped : (shelf : ShelfChange) → BreaksNoRule asked texts shelf source sink → CommandWorks asked texts reads source sink ReadFault → ⊥
    pub unspoilt : (shelf : ShelfChange) → BreaksNoRule asked texts shelf source sink → CommandWorks asked texts reads source sink WriteFault → ⊥
    pub meant : (limit : ℕ) (text input before : List ℕ) → runs_within asked ≡ Some limit → told_text texts asked ≡ present text → source.old ≡ Some input → sink.old ≡ Some before
        → CommandWorks asked texts reads source sink Done → Headline (taken_for asked) text limit input before source.new sink.new

  -- A text that is shown, and whose shelf doesn't break, is taken.
  on-shelf : (name : List ℕ) (asked : Asked) → (calls_of (Some asked)).takes ≡ Some name → told_text texts asked ≡ told_of texts name → (shelf : ShelfChange)
      → BreaksNoRule asked texts shelf source sink → IsSome (calls_of (Some asked)).takes → ShelfServes (calls_of (Some asked)).takes texts shelf ShelfFault → ⊥
  on-shelf name asked takes told shelf g some h =
      let served = subst (λ (t : Option (List ℕ)). ShelfServes t texts shelf ShelfFault) takes h in
      let is = subst (λ (t : ShelfText). t ≡ present g.text) told g.is_told in
      unbroken (told_of texts name) g.text shelf is (g.on_shelf some) served.2

  -- A command that reads nothing, and tells some bytes.
  module _ (asked : Asked) (runs : runs_within asked ≡ None)
      (tells : (text : List ℕ) (P : Grammar) (s : Status) → Performs asked text P reads source sink s → (bytes : List ℕ) × TellsBytes bytes sink s)
      (taken : (shelf : ShelfChange) → BreaksNoRule asked texts shelf source sink → IsSome (calls_of (Some asked)).takes
      → ShelfServes (calls_of (Some asked)).takes texts shelf ShelfFault → ⊥) where
    teller : CommandLaws asked
    teller = record {
      no_usage = λ text P h. (tells text P Usage h).1;
      no_refusal = λ text P r h. (tells text P (Refused r) h).1;
      no_shelf_fault = λ text P h. (tells text P ShelfFault h).1;
      unfailed = taken;
      unrejected = λ shelf r g w. (tells w.text w.program (Rejected r) w.performs).1;
      unlimited = λ shelf r g w. (tells w.text w.program (TooLong r) w.performs).1;
      unbounded = λ shelf g w. (tells w.text w.program InputTooLong w.performs).1;
      unstopped = λ shelf g w. (tells w.text w.program ReadFault w.performs).1;
      unspoilt = λ shelf g w. let rose = (tells w.text w.program WriteFault w.performs).1.1 in let quiet = g.writable in omega arith;
      meant = λ limit text input before within is rest held w. absurd (no-limit limit (subst (λ (z : Option ℕ). z ≡ Some limit) runs within));
    }

  -- A command that runs what it has taken over the source.
  module _ (asked : Asked) (mode : Mode) (limit last : ℕ) (IsProgram : List ℕ → Grammar → Type 0)
      (ran : (text : List ℕ) (P : Grammar) (s : Status) → Performs asked text P reads source sink s → Ran (SaysBy mode P limit) last source sink s)
      (works : (text : List ℕ) (P : Grammar) → WorksWith (taken_for asked) text P → IsProgram text P)
      (parses : (text : List ℕ) → InputIsGood asked text source → StreamParses (λ P. IsProgram text P) (λ P. SaysBy mode P limit) source)
      (block : IsSome (calls_of (Some asked)).block)
      (taken : (shelf : ShelfChange) → BreaksNoRule asked texts shelf source sink → IsSome (calls_of (Some asked)).takes
      → ShelfServes (calls_of (Some asked)).takes texts shelf ShelfFault → ⊥)
      (means : (limit : ℕ) (text input before : List ℕ) → runs_within asked ≡ Some limit → told_text texts asked ≡ present text → source.old ≡ Some input → sink.old ≡ Some before
      → CommandWorks asked texts reads source sink Done → Headline (taken_for asked) text limit input before source.new sink.new) where
    of-told : (shelf : ShelfChange) (s : Status) (g : BreaksNoRule asked texts shelf source sink) (w : CommandWorks asked texts reads source sink s) → IsProgram g.text w.program
    of-told shelf s g w = subst (λ t. IsProgram t w.program) (told-same (told_text texts asked) g.text w.text g.is_told w.is_told) (works w.text w.program w.works)

    runner : CommandLaws asked
    runner = record {
      no_usage = λ text P h. (ran text P Usage h).ends;
      no_refusal = λ text P r h. (ran text P (Refused r) h).ends;
      no_shelf_fault = λ text P h. (ran text P ShelfFault h).ends;
      unfailed = taken;
      unrejected = λ shelf r g w.
          let x = ran w.text w.program (Rejected r) w.performs in
          ran-good mode limit last (λ P. IsProgram g.text P) w.program source sink (Rejected r) r (of-told shelf (Rejected r) g w) (parses g.text g.input_is_good) x x.ends.1;
      unlimited = λ shelf r g w.
          let x = ran w.text w.program (TooLong r) w.performs in
          ran-good mode limit last (λ P. IsProgram g.text P) w.program source sink (TooLong r) r (of-told shelf (TooLong r) g w) (parses g.text g.input_is_good) x x.ends.1;
      unbounded = λ shelf g w. (ran w.text w.program InputTooLong w.performs).ends;
      unstopped = λ shelf g w. let rose = (ran w.text w.program ReadFault w.performs).ends.2.1 in let quiet = g.readable block in omega arith;
      unspoilt = λ shelf g w. let rose = (ran w.text w.program WriteFault w.performs).ends.2.1 in let quiet = g.writable in omega arith;
      meant = means;
    }

  -- A command that answers the lines of the source one by one.
  module _ (asked : Asked) (runs : runs_within asked ≡ None) (says : Grammar → List ℕ → Bool → Said → Type 0) (last : ℕ)
      (ran : (text : List ℕ) (P : Grammar) (s : Status) → Performs asked text P reads source sink s → RanByLines (says P) last source sink s)
      (short : (text : List ℕ) → InputIsGood asked text source → IsShort source)
      (block : IsSome (calls_of (Some asked)).block)
      (taken : (shelf : ShelfChange) → BreaksNoRule asked texts shelf source sink → IsSome (calls_of (Some asked)).takes
      → ShelfServes (calls_of (Some asked)).takes texts shelf ShelfFault → ⊥) where
    by-lines : CommandLaws asked
    by-lines = record {
      no_usage = λ text P h. (ran text P Usage h).ends;
      no_refusal = λ text P r h. (ran text P (Refused r) h).ends;
      no_shelf_fault = λ text P h. (ran text P ShelfFault h).ends;
      unfailed = taken;
      unrejected = λ shelf r g w. (ran w.text w.program (Rejected r) w.performs).ends;
      unlimited = λ shelf r g w. (ran w.text w.program (TooLong r) w.performs).ends;
      unbounded = λ shelf g w.
          let x = ran w.text w.program InputTooLong w.performs in
          let good = short g.text g.input_is_good in
          let within = read-within source.old source.new good.input x.w good.rest x.read in
          let few = good.short in
          let long = x.ends.0.0 in omega arith;
      unstopped = λ shelf g w. let rose = (ran w.text w.program ReadFault w.performs).ends.1.2.1 in let quiet = g.readable block in omega arith;
      unspoilt = λ shelf g w. let rose = (ran w.text w.program WriteFault w.performs).ends.2.1 in let quiet = g.writable in omega arith;
      meant = λ limit text input before within is rest held w. absurd (no-limit limit (subst (λ (z : Option ℕ). z ≡ Some limit) runs within));
    }

  run-meant : (mode : Mode) (name : List ℕ) (reach : Reach) (limit : ℕ) (text input before : List ℕ) → runs_within (ToStream mode name reach) ≡ Some limit → told_of texts name ≡ present text → source.old ≡ Some input → sink.old ≡ Some before
      → CommandWorks (ToStream mode name reach) texts reads source sink Done → Headline (taken_for (ToStream mode name reach)) text limit input before source.new sink.new
  run-meant (running states optimal) name reach limit text input before runs is rest held w =
      as-meant (ToStream (running states optimal) name reach) states optimal limit (last_given reach.block reads) texts source sink text w.text input before w.program is rest held w.is_told w.works
      (subst (λ n. Ran (SaysBy (running states optimal) w.program n) (last_given reach.block reads) source sink Done) (same-limit reach.max_input limit runs) w.performs)
  run-meant coding name reach limit text input before runs is rest held w = absurd (no-limit limit runs)
  run-meant acting name reach limit text input before runs is rest held w = absurd (no-limit limit runs)
  run-meant testing name reach limit text input before runs is rest held w = absurd (no-limit limit runs)

  exec-meant : (name : List ℕ) (reach : Reach) (limit : ℕ) (text input before : List ℕ) → runs_within (ToExec name reach) ≡ Some limit → told_of texts name ≡ present text → source.old ≡ Some input → sink.old ≡ Some before
      → CommandWorks (ToExec name reach) texts reads source sink Done → Headline (taken_for (ToExec name reach)) text limit input before source.new sink.new
  exec-meant name reach limit text input before runs is rest held w =
      as-meant (ToExec name reach) 0 false limit (last_given reach.block reads) texts source sink text w.text input before w.program is rest held w.is_told w.works
      (subst (λ n. Ran (SaysBy (running 0 false) w.program n) (last_given reach.block reads) source sink Done) (same-limit reach.max_input limit runs) w.performs)

  -- The cases.
  pub laws_of : (asked : Asked) → CommandLaws asked
  laws_of (ToStream mode name reach) = runner (ToStream mode name reach) mode reach.max_input (last_given reach.block reads) (λ text P. Spells text P)
      (λ text P s h. h) (λ text P w. w.spells) (λ text g. g) refl (on-shelf name (ToStream mode name reach) refl refl) (run-meant mode name reach)
  laws_of (ToCheck name states) = teller (ToCheck name states) refl (λ text P s h. (_, h.1.told)) (on-shelf name (ToCheck name states) refl refl)
  laws_of (ToEach name states most workers) = by-lines (ToEach name states most workers) refl (λ P w e said. SaysLines P most w e said) (last_given line_block reads)
      (λ text P s h. h) (λ text g. g) refl (on-shelf name (ToEach name states most workers) refl refl)
  laws_of (ToTry lines block rings workers) = teller (ToTry lines block rings workers) refl (λ text P s h. (_, h.1.told)) (λ shelf g some h. false≢true some)
  laws_of (ToCompile name states) = teller (ToCompile name states) refl (λ text P s h. (_, h.1.told)) (on-shelf name (ToCompile name states) refl refl)
  laws_of (ToExec name reach) = runner (ToExec name reach) (running 0 false) reach.max_input (last_given reach.block reads) (λ file P. HoldsProgram file P)
      (λ file P s h. h) (λ file P w. w) (λ file g. g) refl (on-shelf name (ToExec name reach) refl refl) (exec-meant name reach)
