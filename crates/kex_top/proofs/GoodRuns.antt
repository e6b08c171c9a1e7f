-- A run on a good input has no report, and what is done is what the program means.
use Rattle.std.proofs.Common.{◌≡◌, ◌++◌, ◌≤◌, ℕ, suc, List, [], ◌∷◌, Bool, true, false, refl, sym, ◌∙◌, ap, subst, append_assoc, append-nil as append-nil', arith, length, length-append}
use Rattle.std.specs.Prelude.{Option, Some, None}
use Rattle.std.specs.Io.KnownBytes.{Appends, Consumes, IsAtEnd}
use Rattle.kex_code.specs.Codes.{Begins}
use Rattle.kex_ports.specs.Named.{Texts}
use Rattle.kex_ports.specs.Shelf.{ShelfText, untold, absent, present, IsTold}
use Rattle.kex_ports.proofs.Known.{append-nil}
use Rattle.kex_model.specs.Programs.{Grammar}
use Rattle.kex_model.specs.Places.{moves, start_of, steps_of}
use Rattle.kex_model.specs.Survivors.{Agreed, Greedy}
use Rattle.kex_model.proofs.AgreedFronts.{agreed_grows, agreed_greedy}
use Rattle.kex_lowering.proofs.BestCodes.{best_stands}
use Rattle.kex_model.specs.Answers.{Answer, Stop, later_report, Pipeline, Viable, Says, HasParse, Means, bad_byte, too_long, cut_off, whole, still_open, code_at, empty}
use Rattle.kex_model.specs.Answers as model
use Rattle.kex_model.specs.Trees.{kind_at, meaning, part_meaning}
use Rattle.kex_model.proofs.Correspondence.{one_to_one}
use Rattle.kex_model.proofs.Orders.{at_most_both}
use Rattle.kex_model.proofs.SaidTexts.{grows, means_good}
use Rattle.kex_model.proofs.OpenAnswers.{Orderly, stays, one_answer}
use Rattle.kex_pipe.specs.Reports.{report_as}
use Rattle.kex_model.proofs.Pipelines.{one_answer as one_pipeline, pipelines_stand}
use Rattle.kex_compile.specs.Stages.{roots_of}
use Rattle.kex_code.specs.Texts.{text_of}
use Rattle.kex_code.specs.declared.symbol.Symbol.{Symbol}
use Rattle.kex_model.specs.Acting.{ActingState, after_steps}
use Rattle.kex_model.proofs.Effects.{done_all}
use Rattle.kex_model.proofs.Parts.{same_part}
use Rattle.kex_machine.proofs.Outputs.{acted_grows}
use Rattle.kex_single.specs.PlayLaws as plays
use Rattle.kex_single.specs.CodeLaws.{text_grows}
use Rattle.kex_single.specs.TestLaws.{both_nothing}
use Rattle.kex_words.specs.Words.{Asked, Mode}
use Rattle.kex_words.specs.Words.Mode.{running, coding, acting, testing}
use Rattle.kex_words.specs.Gains.{StreamChange}
use Rattle.kex_pipeline.specs.Sayings.{Said}
use Rattle.kex_top.specs.Modes.{BeginsTreeCode, HasParseAlone, IsTreeCode, WritesPart, MeansCode, SaysBy, SaysCode, SaysNothing, StageGives}
use Rattle.kex_top.specs.Pipelines.{MeansInTurn}
use Rattle.kex_top.specs.Run.{Ran, WritesAll}
use Rattle.kex_top.specs.Commands.{StreamParses, taken_for, told_text}
use Rattle.kex_top.specs.Shelves.{Broke, ShelfChange}
use Rattle.kex_top.specs.Kex.{Headline, HasNotRisen, WorksWith}
use Rattle.kex_pipe.specs.declared.report.Rejected.{Rejected as Report}
use Rattle.kex_top.specs.declared.status.Status.{Status}
use Rattle.kex_top.specs.declared.status.Status.TheVariants.{Done}

orderly : (P : Grammar) (root : ℕ) → Orderly (Viable P root) (Says P root) (HasParse P root) (Means P root)
orderly P root = record {
  front = λ w x p g. (grows P root w p.0).viable (subst (λ z. Viable P root z) p.1 g);
  said = λ w x s t p h h'. (grows P root w p.0).said s t h (subst (λ z. Says P root z t) p.1 h');
  meant = λ w x s t p h h'. (grows P root w p.0).meant s t h (subst (λ z. Means P root z t) p.1 h');
  good = λ w s h. means_good P root w s h;
}

orderly_code : (P : Grammar) (root : ℕ) → Orderly (Viable P root) (SaysCode P root) (HasParse P root) (MeansCode P root)
orderly_code P root = record {
  front = (orderly P root).front;
  said = λ w x s t p h k. text_grows h.0 k.0 s t
      (agreed_grows (moves P) (start_of P root) w p.0 h.0 k.0 h.1 (subst (λ z. Agreed (moves P) (start_of P root) z k.0) p.1 k.1)) h.2 k.2;
  meant = λ w x s t p h k. text_grows h.0 k.0 s t
      (agreed_greedy (moves P) (start_of P root) w p.0 h.0 k.0 h.1 (subst (λ z. Greedy (moves P) (start_of P root) z k.0) p.1 k.1.greedy)) h.2 k.2;
  good = λ w s m. let k = m.1.greedy in (k.0, (m.0, k.2.reached, k.2.alive));
}

orderly_test : (P : Grammar) (root : ℕ) → Orderly (Viable P root) (SaysNothing P root) (HasParse P root) (HasParseAlone P root)
orderly_test P root = record {
  front = (orderly P root).front;
  said = λ w x s t p h k. both_nothing s t h k;
  meant = λ w x s t p h k. both_nothing s t h k.2;
  good = λ w s m. m.0;
}

some_none : (r : Report) → report_as (Some r) ≡ None → ⊥
some_none r e = cc

no_report : (r : Option Report) → r ≡ None → report_as r ≡ None
no_report r e = ap report_as e

one_meaning : (P : Grammar) (x : ℕ) (w s t : List ℕ) → Means P x w s → Means P x w t → s ≡ t
one_meaning P x w s t (a, h, e) (b, k, f) =
    let codes = at_most_both (code_at P x a) (code_at P x b) (h.least b k.parses) (k.least a h.parses) in
    let same : a ≡ b = (one_to_one P x w).one_tree a b h.parses.derives k.parses.derives codes in
    e ∙ ap (λ z. (meaning P (kind_at P x) z (empty P)).bytes) same ∙ sym f

one_code : (P : Grammar) (root : ℕ) (w s t : List ℕ) → MeansCode P root w s → MeansCode P root w t → s ≡ t
one_code P root w s t h k =
    let same : h.0 ≡ k.0 = at_most_both h.0 k.0 (h.1.least k.0 k.1.greedy) (k.1.least h.0 h.1.greedy) in
    h.2 ∙ ap text_of same ∙ sym k.2

-- what a part begins, and what more of a code adds
module _ (P : Grammar) (root : ℕ) where
  begins_front : (c d : List Symbol) → Begins d c → BeginsTreeCode P root d → BeginsTreeCode P root c
  begins_front c d (m, e) (t, is, q) = (t, is, (m ++ q.0, q.1 ∙ ap (λ z. z ++ q.0) e ∙ append_assoc c m q.0))

  more_part : (c d : List Symbol) (s t : List ℕ) → Begins d c → WritesPart P root c s → WritesPart P root d t → Begins t s
  more_part c d s t (m, e) (x, is, b, f) (y, it, q, g) =
      let begins : Begins (code_at P root y) c = (m ++ q.0, q.1 ∙ ap (λ z. z ++ q.0) e ∙ append_assoc c m q.0) in
      let same : part_meaning P (kind_at P root) x c (empty P) ≡ part_meaning P (kind_at P root) y c (empty P) =
      same_part P c [] [] b.0 begins.0 (empty P) is it (append-nil' (code_at P root x) ∙ b.1) (append-nil' (code_at P root y) ∙ begins.1) in
      let st : ActingState = record { out = []; buffers = []; registers = empty P } in
      let steps = steps_of P root (kind_at P root) y [] in
      let grown : Begins (after_steps steps (c ++ m) st).out (after_steps steps c st).out = acted_grows steps c m st in
      let whole : t ≡ (after_steps steps (c ++ m) st).out = g ∙ sym (done_all P root y d (empty P) [] it).written ∙ ap (λ z. (after_steps steps z st).out) e in
      let front : s ≡ (after_steps steps c st).out = f ∙ ap (λ z. z.bytes) same ∙ sym (done_all P root y c (empty P) [] it).written in
      (grown.0, whole ∙ grown.1 ∙ ap (λ z. z ++ grown.0) (sym front))

module _ (P : Grammar) (limit : ℕ) where
  one : (mode : Mode) (x : ℕ) (w : List ℕ) (e : Bool) (a b : Answer) → StageGives mode P limit x w e a → StageGives mode P limit x w e b → a ≡ b
  one (running n true) x w e a b h k = (best_stands P x limit).one w e a b h k
  one (running n false) x w e a b h k = one_answer (Viable P x) (Says P x) (HasParse P x) (Means P x) (orderly P x) limit (λ u s m. (m.0, m.1.parses)) (one_meaning P x) h k
  one coding x w e a b h k = one_answer (Viable P x) (SaysCode P x) (HasParse P x) (MeansCode P x) (orderly_code P x) limit (λ u s m. m.1.parse) (one_code P x) h k
  one acting x w e a b h k = plays.one_answer (BeginsTreeCode P x) (IsTreeCode P x) (WritesPart P x) (begins_front P x) (more_part P x) limit h k
  one testing x w e a b h k = one_answer (Viable P x) (SaysNothing P x) (HasParse P x) (HasParseAlone P x) (orderly_test P x) limit (λ u s m. m.1) (λ u s t m m'. m.2 ∙ sym m'.2) h k

  stands : (mode : Mode) (x : ℕ) (w v : List ℕ) (e : Bool) (a b : Answer) → StageGives mode P limit x w false a → StageGives mode P limit x (w ++ v) e b → Begins b.text a.text × ((a.stop ≡ None → ⊥) → b ≡ a)
  stands (running n true) x w v e a b h k = ((best_stands P x limit).grows w v e a b h k, (best_stands P x limit).stays w v e a b h k)
  stands (running n false) x w v e a b h k = stays (Viable P x) (Says P x) (HasParse P x) (Means P x) (orderly P x) limit (v, refl) h k
  stands coding x w v e a b h k = stays (Viable P x) (SaysCode P x) (HasParse P x) (MeansCode P x) (orderly_code P x) limit (v, refl) h k
  stands acting x w v e a b h k = plays.stays (BeginsTreeCode P x) (IsTreeCode P x) (WritesPart P x) (begins_front P x) (more_part P x) limit (v, refl) h k
  stands testing x w v e a b h k = stays (Viable P x) (SaysNothing P x) (HasParse P x) (HasParseAlone P x) (orderly_test P x) limit (v, refl) h k

  -- open input isn't handed on ended
  answer_open : {G : List ℕ → Type 0} {S : List ℕ → List ℕ → Type 0} {Q : List ℕ → Type 0} {M : List ℕ → List ℕ → Type 0} {w : List ℕ} {a : Answer} → model.Answers G S Q M limit w false a → a.ended ≡ false
  answer_open (bad_byte v bad l s) = refl
  answer_open (too_long lt g s) = refl
  answer_open (still_open le g s) = refl

  stays_open : (mode : Mode) (x : ℕ) (w : List ℕ) (a : Answer) → StageGives mode P limit x w false a → a.ended ≡ false
  stays_open (running n false) x w a h = answer_open h
  stays_open (running n true) x w a h = answer_open h
  stays_open coding x w a h = answer_open h
  stays_open acting x w a h = plays.ends (BeginsTreeCode P x) (IsTreeCode P x) (WritesPart P x) (begins_front P x) (more_part P x) limit h
  stays_open testing x w a h = answer_open h

  module _ (mode : Mode) where
    abbrev Gives : ℕ → List ℕ → Bool → Answer → Type 0
    Gives x w e a = StageGives mode P limit x w e a

    -- what parses whole isn't rejected, also not before its end
    unrejected : (w rest input : List ℕ) (e : Bool) (said done : Said) (r : Report) → input ≡ w ++ rest → (e ≡ true → rest ≡ []) → SaysBy mode P limit w e said → said.report ≡ Some r → SaysBy mode P limit input true done → done.report ≡ None → ⊥
    unrejected w rest input e said done r is end h rep k none = cases e (λ y. end y) h k
      where
        cases : (e : Bool) → (e ≡ true → rest ≡ []) → Pipeline Gives 1 (roots_of P) w e said.text (report_as said.report) → Pipeline Gives 1 (roots_of P) input true done.text (report_as done.report) → ⊥
        cases true end h k =
            let all : input ≡ w = is ∙ ap (λ (s : List ℕ). w ++ s) (end refl) ∙ sym (append-nil w) in
            let k' : Pipeline Gives 1 (roots_of P) w true done.text (report_as done.report) = subst (λ z. Pipeline Gives 1 (roots_of P) z true done.text (report_as done.report)) all k in
            let same = (one_pipeline Gives (one mode) (roots_of P) 1 w done.text said.text true (report_as done.report) (report_as said.report) k' h).1 in
            some_none r (sym (ap report_as rep) ∙ same ∙ ap report_as none)
        cases false end h k =
            let k' : Pipeline Gives 1 (roots_of P) (w ++ rest) true done.text (report_as done.report) = subst (λ z. Pipeline Gives 1 (roots_of P) z true done.text (report_as done.report)) is k in
            let x = pipelines_stand Gives (one mode) (λ y u v d a b g g'. (stands mode y u v d a b g g').0) (λ y u v d a b g g' some. (stands mode y u v d a b g g').1 some) (stays_open mode) (roots_of P) 1 w rest said.text done.text true (report_as said.report) (report_as done.report) h k' in
            let same = (x.1 (λ n. some_none r (sym (ap report_as rep) ∙ n))).1 in
            some_none r (sym (ap report_as rep) ∙ sym same ∙ ap report_as none)

unrejected_by : (P : Grammar) (mode : Mode) (limit : ℕ) (old new : Option (List ℕ)) (w input : List ℕ) (e : Bool) (said done : Said) (r : Report) → old ≡ Some input → Consumes old new w → (e ≡ true → IsAtEnd new) → SaysBy mode P limit w e said → said.report ≡ Some r → SaysBy mode P limit input true done → done.report ≡ None → ⊥
unrejected_by P mode limit None new w input e said done r is read end h rep k n = cc
unrejected_by P mode limit (Some xs) None w input e said done r is read end h rep k n = read
unrejected_by P mode limit (Some xs) (Some ys) w input e said done r is read end h rep k n =
    let same : input ≡ xs = cc in
    unrejected P limit mode w ys input e said done r (same ∙ read) end h rep k n

-- no more is read than there is
pub read-within : (old new : Option (List ℕ)) (input w : List ℕ) → old ≡ Some input → Consumes old new w → length w ≤ length input
read-within None new input w is read = cc
read-within (Some xs) None input w is read = absurd read
read-within (Some xs) (Some ys) input w is read =
    let same : xs ≡ input = cc in
    let all = ap length read in
    let sum = length-append w ys in
    let e = ap length same in omega (arith, all, sum, e)

pub told-same : (told : ShelfText) (text other : List ℕ) → told ≡ present text → IsTold told other → other ≡ text
told-same untold text other is t = cc
told-same absent text other is t = cc
told-same (present x) text other is t = cc

pub unbroken : (told : ShelfText) (text : List ℕ) (s : ShelfChange) → told ≡ present text → HasNotRisen s.breaks_before s.breaks_now → Broke told s → ⊥
unbroken told text s is quiet broke =
    let P : ShelfText → Type 0 = λ t. Broke t s in
    let b = subst P is broke in
    let rose = b.1 in omega arith

-- a run on an input that is good has no report
pub ran-good : (mode : Mode) (limit last : ℕ) (IsProgram : Grammar → Type 0) (P : Grammar) (source sink : StreamChange) (s : Status) (r : Report) → IsProgram P → StreamParses IsProgram (λ Q. SaysBy mode Q limit) source → (ran : Ran (SaysBy mode P limit) last source sink s) → WritesAll (SaysBy mode P limit) ran.w ran.e (Some r) sink → ⊥
ran-good mode limit last IsProgram P source sink s r is g ran all =
    let goes = g.parses P is in
    unrejected_by P mode limit source.old source.new ran.w g.input ran.e all.said goes.0 r g.rest ran.read ran.ended all.is_said all.reports goes.1 goes.2

-- ---- what is done, with all told

at-end : (new : Option (List ℕ)) (old input w : List ℕ) → old ≡ input → Consumes (Some old) new w → IsAtEnd new → (new ≡ Some []) × (w ≡ input)
at-end None old input w same read end = absurd read
at-end (Some rest) old input w same read end =
    let all : old ≡ w = read ∙ ap (λ (s : List ℕ). w ++ s) end ∙ sym (append-nil w) in
    (ap (λ (s : List ℕ). Some s) end, sym all ∙ same)

holds-all : (old new : Option (List ℕ)) (before x : List ℕ) → old ≡ Some before → Appends old new x → new ≡ Some (before ++ x)
holds-all None new before x is p = cc
holds-all (Some h) None before x is p = absurd p
holds-all (Some h) (Some y) before x is p =
    let same : h ≡ before = cc in
    ap (λ (s : List ℕ). Some s) (p ∙ ap (λ (s : List ℕ). s ++ x) same)

reads-all : (old new : Option (List ℕ)) (input w : List ℕ) → old ≡ Some input → Consumes old new w → IsAtEnd new → (new ≡ Some []) × (w ≡ input)
reads-all None new input w is read end = cc
reads-all (Some xs) new input w is read end = let same : xs ≡ input = cc in at-end new xs input w same read end

-- an ended answer without a stop is the meaning
whole_of : {G : List ℕ → Type 0} {S : List ℕ → List ℕ → Type 0} {Q : List ℕ → Type 0} {M : List ℕ → List ℕ → Type 0} {limit : ℕ} {w : List ℕ} {a : Answer} → model.Answers G S Q M limit w true a → a.stop ≡ None → (length w ≤ limit) × M w a.text × (a.ended ≡ true)
whole_of (bad_byte v bad l s) n = cc
whole_of (too_long lt g s) n = cc
whole_of (cut_off le g h s) n = cc
whole_of (whole le m) n = (le, m, refl)

-- so it is for a run, also where it tells what is best
run_whole : (P : Grammar) (states : ℕ) (optimal : Bool) (root limit : ℕ) (w : List ℕ) (a : Answer) → StageGives (running states optimal) P limit root w true a → a.stop ≡ None → (length w ≤ limit) × Means P root w a.text × (a.ended ≡ true)
run_whole P states false root limit w a h n = whole_of h n
run_whole P states true root limit w a h n = whole_of h n

none-later : (i : ℕ) (own : Option Stop) (rest : Option model.Report) → later_report i own rest ≡ None → (own ≡ None) × (rest ≡ None)
none-later i own (Some r) e = cc
none-later i None None e = (refl, refl)
none-later i (Some s) None e = cc

-- without a report each stage has meant what the next reads
all-meant : (P : Grammar) (states : ℕ) (optimal : Bool) (limit i : ℕ) (rs w text : List ℕ) (r : Option model.Report) → Pipeline (λ root v d a. StageGives (running states optimal) P limit root v d a) i rs w true text r → r ≡ None → MeansInTurn P limit rs w text
all-meant P states optimal limit i [] w text r h none = h.0
all-meant P states optimal limit i (root ∷ rs) w text r (a, rest, gives, others, is) none =
    let n = none-later i a.stop rest (sym is ∙ none) in
    let m = run_whole P states optimal root limit w a gives n.0 in
    (m.0, a.text, m.1, all-meant P states optimal limit (suc i) rs a.text text rest (subst (λ z. Pipeline (λ root v d b. StageGives (running states optimal) P limit root v d b) (suc i) rs a.text z text rest) m.2 others) n.1)

-- what was done within the limit is what a program of the text means
pub as-meant : (asked : Asked) (states : ℕ) (optimal : Bool) (limit last : ℕ) (texts : Option Texts) (source sink : StreamChange) (text t input before : List ℕ) (P : Grammar) → told_text texts asked ≡ present text → source.old ≡ Some input → sink.old ≡ Some before → IsTold (told_text texts asked) t → WorksWith (taken_for asked) t P → Ran (SaysBy (running states optimal) P limit) last source sink Done → Headline (taken_for asked) text limit input before source.new sink.new
as-meant asked states optimal limit last texts source sink text t input before P is rest held told works ran =
    let ended : ran.e ≡ true = ran.ends.0 in
    let all = reads-all source.old source.new input ran.w rest ran.read (ran.ended ended) in
    let x = ran.ends.1 in
    let answer : SaysBy (running states optimal) P limit ran.w true x.said = subst (λ e. SaysBy (running states optimal) P limit ran.w e x.said) ended x.is_said in
    let m = all-meant P states optimal limit 1 (roots_of P) ran.w x.said.text (report_as x.said.report) answer (no_report x.said.report x.reports) in
    record {
      program = P;
      works = subst (λ z. WorksWith (taken_for asked) z P) (told-same (told_text texts asked) text t is told) works;
      meant = x.said.text;
      means = subst (λ z. MeansInTurn P limit (roots_of P) z x.said.text) all.1 m;
      written = holds-all sink.old sink.new before x.said.text held x.appended;
      read = all.0;
    }

-- the limit of a command that runs
pub same-limit : (m n : ℕ) → Some m ≡ Some n → m ≡ n
same-limit m n e = cc

pub no-limit : (n : ℕ) → None ≡ Some n → ⊥
no-limit n e = cc
