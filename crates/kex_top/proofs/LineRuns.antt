-- From the answers to some lines to a whole run by lines.
use Rattle.std.proofs.Common.{◌≡◌, ◌++◌, ◌≤◌, ℕ, List, [], ◌∷◌, Bool, true, false, Option, Some, None, refl, sym, ◌∙◌, subst, ap, ap₂, arith, append_assoc, append-nil, length, inl, inr}
use Rattle.std.specs.Prelude.{Err, option_map}
use Rattle.std.specs.Io.KnownBytes.{Appends, Consumes, IsAtEnd, Keeps}
use Rattle.std.specs.List.{concat}
use Rattle.kex_ports.specs.Bytes.{IsPrefix}
use Rattle.kex_ports.specs.Calls.{next_count}
use Rattle.kex_ports.specs.Causes.{Rose}
use Rattle.kex_ports.specs.Endings.{Ending, after_finish, counts_of}
use Rattle.kex_ports.specs.Reads.{Asks, Reads}
use Rattle.kex_ports.proofs.Known.{appends-kept, appends-then, appends-same, prefix-whole}
use Rattle.kex_ports.proofs.Known as known
use Rattle.kex_model.specs.Answers.{Answer}
use Rattle.kex_model.proofs.Pipelines.{one_answer}
use Rattle.kex_pipe.specs.Rounds.{Each}
use Rattle.kex_stage.specs.StageLaws.{answering}
use Rattle.kex_stage.specs.Stages.{StagePlan, Gives}
use Rattle.kex_each.specs.Answers.{AnswersLine, AnswersLines, PlansAnswerLines, answer_text}
use Rattle.kex_each.specs.Lines.{begun_behind, lines_behind, lines_of, line_if_some}
use Rattle.kex_each.proofs.LineLists.{begins_lines, by_pieces}
use Rattle.kex_words.specs.Words.{most_input}
use Rattle.kex_words.specs.Gains.{StreamChange, change}
use Rattle.kex_pipeline.specs.Sayings.{Said}
use Rattle.kex_top.specs.ByLines.{EndsByLines, GoesPast, NodesSayLines, LinesSay, PumpedByLines, RanByLines}
use Rattle.kex_top.specs.LineWrites.{PassesLines, WritesTexts, WritesTextsFront}
use Rattle.kex_top.specs.Outside.{Closes, IsSinkOpen, ReadsBlocks}
use Rattle.kex_pipeline.specs.Troubles.{TroubleCause}
use Rattle.kex_top.specs.Run.{WritesAll, WritesBegun, WritesEarlier, is_whole, status_after}
use Rattle.kex_pipeline.specs.declared.pass.Trouble.{Trouble}
use Rattle.kex_pipeline.specs.declared.pass.Trouble.TheVariants as trouble
use Rattle.kex_top.specs.declared.status.Status.{Status}
use Rattle.kex_top.specs.declared.status.Status.TheVariants.{Done, Rejected, Usage, Refused, TooLong, InputTooLong, ReadFault, WriteFault, ShelfFault, Memory}

concat_both : (xs ys : List (List ℕ)) → concat (xs ++ ys) ≡ concat xs ++ concat ys
concat_both [] ys = refl
concat_both (x ∷ xs) ys = ap (λ z. x ++ z) (concat_both xs ys) ∙ sym (append_assoc x (concat xs) (concat ys))

each_both : {A B : Type 0} (R : A → B → Type 0) (xs us : List A) (ys vs : List B) → Each R xs ys → Each R us vs → Each R (xs ++ us) (ys ++ vs)
each_both R [] us [] vs h k = k
each_both R (x ∷ xs) us (y ∷ ys) vs h k = (h.0, each_both R xs us ys vs h.1 k)
each_both R [] us (y ∷ ys) vs h k = absurd h
each_both R (x ∷ xs) us [] vs h k = absurd h

record Cut {A B : Type 0} (R : A → B → Type 0) (xs us : List A) (all : List B) : Type 0 where
  front : List B
  back : List B
  is : all ≡ front ++ back
  fronts : Each R xs front

cut_each : {A B : Type 0} (R : A → B → Type 0) (xs us : List A) (all : List B) → Each R (xs ++ us) all → Cut R xs us all
cut_each R [] us all h = record { front = []; back = all; is = refl; fronts = tt }
cut_each R (x ∷ xs) us [] h = absurd h
cut_each R (x ∷ xs) us (y ∷ all) h =
    let c = cut_each R xs us all h.1 in
    record { front = y ∷ c.front; back = c.back; is = ap (λ z. y ∷ z) c.is; fronts = (h.0, c.fronts) }

module _ {T : Type 0} (Gives' : T → List ℕ → Bool → Answer → Type 0) (one : (p : T) (w : List ℕ) (e : Bool) (a b : Answer) → Gives' p w e a → Gives' p w e b → a ≡ b) (ps : List T) where
  one_text : (l t u : List ℕ) → AnswersLine Gives' ps l t → AnswersLine Gives' ps l u → t ≡ u
  one_text l t u h k =
      let same = one_answer Gives' one ps 1 l h.said k.said true h.report k.report h.says k.says in
      h.answer ∙ ap₂ (λ x y. answer_text x y) (sym same.0) (sym same.1) ∙ sym k.answer

  one_texts : (ls ts us : List (List ℕ)) → AnswersLines Gives' ps ls ts → AnswersLines Gives' ps ls us → ts ≡ us
  one_texts [] [] [] h k = refl
  one_texts [] (t ∷ ts) us h k = absurd h
  one_texts [] [] (u ∷ us) h k = absurd k
  one_texts (l ∷ ls) [] us h k = absurd h
  one_texts (l ∷ ls) (t ∷ ts) [] h k = absurd k
  one_texts (l ∷ ls) (t ∷ ts) (u ∷ us) h k = ap₂ (λ x xs. x ∷ xs) (one_text l t u h.0 k.0) (one_texts ls ts us h.1 k.1)

  -- the answers to the whole lines of a front come first
  pub lines_grow : (v u : List ℕ) (e : Bool) (a b : Said) → LinesSay Gives' ps v false a → LinesSay Gives' ps (v ++ u) e b → IsPrefix a.text b.text
  lines_grow v u e a b h k =
      let front = begins_lines v u e in
      let c = cut_each _ (lines_of v false) front.more k.texts (subst (λ z. AnswersLines Gives' ps z k.texts) front.front k.answers) in
      let same : h.texts ≡ c.front = one_texts (lines_of v false) h.texts c.front h.answers c.fronts in
      record { rest = concat c.back; joined = k.text ∙ ap concat c.is ∙ concat_both c.front c.back ∙ ap (λ z. z ++ concat c.back) (ap concat (sym same) ∙ sym h.text) }

  -- more lines were answered
  pub said_more : (w v : List ℕ) (a : Said) (texts : List (List ℕ)) → LinesSay Gives' ps w false a → AnswersLines Gives' ps (lines_behind (begun_behind [] w) v) texts → LinesSay Gives' ps (w ++ v) false (record { text = a.text ++ concat texts; report = None })
  said_more w v a texts h k = record {
    texts = h.texts ++ texts;
    answers = subst (λ z. AnswersLines Gives' ps z (h.texts ++ texts)) (sym (by_pieces [] w v).lines) (each_both _ (lines_of w false) (lines_behind (begun_behind [] w) v) h.texts texts h.answers k);
    text = ap (λ z. z ++ concat texts) h.text ∙ sym (concat_both h.texts texts);
    unreported = refl;
  }

  pub said_end : (w : List ℕ) (a : Said) (texts : List (List ℕ)) → LinesSay Gives' ps w false a → AnswersLines Gives' ps (line_if_some (begun_behind [] w)) texts → LinesSay Gives' ps w true (record { text = a.text ++ concat texts; report = None })
  said_end w a texts h k = record {
    texts = h.texts ++ texts;
    answers = each_both _ (lines_of w false) (line_if_some (begun_behind [] w)) h.texts texts h.answers k;
    text = ap (λ z. z ++ concat texts) h.text ∙ sym (concat_both h.texts texts);
    unreported = refl;
  }

pub said_none : (ps : List StagePlan) → LinesSay (λ p v d a. Gives p v d a) ps [] false (record { text = []; report = None })
said_none ps = record { texts = []; answers = tt; text = refl; unreported = refl }

one_gives : (p : StagePlan) (w : List ℕ) (e : Bool) (a b : Answer) → Gives p w e a → Gives p w e b → a ≡ b
one_gives p w e a b h k = (answering p.machine).one p.limit w e a b h k

grown : (ps : List StagePlan) (v u : List ℕ) (e : Bool) (a b : Said) → NodesSayLines ps v false a → NodesSayLines ps (v ++ u) e b → IsPrefix a.text b.text
grown ps v u e a b h k = lines_grow (λ p v d a. Gives p v d a) one_gives ps v u e a b h k

-- the answers to more lines, and to the last of them
pub says_more : (ps : List StagePlan) (w v : List ℕ) (a : Said) (texts : List (List ℕ)) → NodesSayLines ps w false a → PlansAnswerLines ps (lines_behind (begun_behind [] w) v) texts → NodesSayLines ps (w ++ v) false (record { text = a.text ++ concat texts; report = None })
says_more ps w v a texts h k = said_more (λ p v d x. Gives p v d x) one_gives ps w v a texts h k

pub says_end : (ps : List StagePlan) (w : List ℕ) (a : Said) (texts : List (List ℕ)) → NodesSayLines ps w false a → PlansAnswerLines ps (line_if_some (begun_behind [] w)) texts → NodesSayLines ps (w ++ []) true (record { text = a.text ++ concat texts; report = None })
says_end ps w a texts h k = subst (λ z. NodesSayLines ps z true (record { text = a.text ++ concat texts; report = None })) (sym (append-nil w)) (said_end (λ p v d x. Gives p v d x) one_gives ps w a texts h k)

-- whole lines of w were answered, and their answers written
pub record Answered (ps : List StagePlan) (w : List ℕ) (old now : Option (List ℕ)) : Type 0 where
  pub said : Said
  pub says : NodesSayLines ps w false said
  pub appended : Appends old now said.text

pub answered_none : (ps : List StagePlan) (old : Option (List ℕ)) → Answered ps [] old old
answered_none ps old = record { said = record { text = []; report = None }; says = said_none ps; appended = known.appends-nothing old }

pub answered_more : (ps : List StagePlan) (w v : List ℕ) (old mid now : Option (List ℕ)) → Answered ps w old mid → WritesTexts ps (lines_behind (begun_behind [] w) v) mid now → Answered ps (w ++ v) old now
answered_more ps w v old mid now h k = record {
  said = record { text = h.said.text ++ concat k.texts; report = None };
  says = said_more (λ p v d a. Gives p v d a) one_gives ps w v h.said k.texts h.says k.answers;
  appended = appends-then _ _ _ _ _ h.appended k.appended;
}

module _ (ps : List StagePlan) (n : ℕ) (source sink : StreamChange) (w : List ℕ) (mid : Option (List ℕ)) (h : Answered ps w sink.old mid) where
  -- all lines were answered, also an unfinished one at the end
  pub done_all : WritesTexts ps (line_if_some (begun_behind [] w)) mid sink.new → Consumes source.old source.new w → IsAtEnd source.new → length w ≤ most_input → source.now ≡ source.before → sink.now ≡ sink.before → PumpedByLines (NodesSayLines ps) n source sink Done
  done_all k read end few a b = (
    record {
      w = w;
      e = true;
      read = read;
      ended = λ e. end;
      ends = (
        few,
        (
          refl,
          record {
            said = record { text = h.said.text ++ concat k.texts; report = None };
            is_said = said_end (λ p v d x. Gives p v d x) one_gives ps w h.said k.texts h.says k.answers;
            reports = refl;
            appended = appends-then _ _ _ _ _ h.appended k.appended;
          },
          a,
          b,
        ),
      );
    },
    λ whole. (h.said, h.says),
  )

  -- the source failed
  pub read_fails : mid ≡ sink.new → Consumes source.old source.new w → length w ≤ most_input → source.before ≤ source.now → Rose source.before source.now → sink.now ≡ sink.before → PumpedByLines (NodesSayLines ps) n source sink ReadFault
  read_fails same read few later rose b = (
    record {
      w = w;
      e = false;
      read = read;
      ended = λ e. let bad : false ≡ true = e in cc;
      ends = (few, (refl, record { said = h.said; is_said = h.says; reports = h.says.unreported; appended = subst (λ z. Appends sink.old z h.said.text) same h.appended }, (later, rose), b));
    },
    λ whole. (h.said, h.says),
  )

  -- there were too many bytes
  pub past_most : mid ≡ sink.new → Consumes source.old source.new w → GoesPast n w → source.now ≡ source.before → sink.now ≡ sink.before → PumpedByLines (NodesSayLines ps) n source sink InputTooLong
  past_most same read many a b = (
    record {
      w = w;
      e = false;
      read = read;
      ended = λ e. let bad : false ≡ true = e in cc;
      ends = (many, refl, record { said = h.said; is_said = h.says; reports = h.says.unreported; appended = subst (λ z. Appends sink.old z h.said.text) same h.appended }, a, b);
    },
    λ whole. (h.said, h.says),
  )

not_whole : (t : Trouble) → is_whole (status_after t) ≡ true → ⊥
not_whole trouble.Memory y = let bad : false ≡ true = y in cc
not_whole trouble.Write y = let bad : false ≡ true = y in cc

-- a piece, or the end, in trouble
module _ (ps : List StagePlan) (n : ℕ) (source sink : StreamChange) (w v : List ℕ) (e : Bool) (lines : List (List ℕ)) (mid : Option (List ℕ)) (h : Answered ps w sink.old mid) (says : (texts : List (List ℕ)) → PlansAnswerLines ps lines texts → NodesSayLines ps (w ++ v) e (record { text = h.said.text ++ concat texts; report = None })) where
  wanted : Appends mid sink.new [] → WritesEarlier (NodesSayLines ps) (w ++ v) e sink
  wanted none = record {
    added = h.said.text;
    appended = appends-same _ _ _ _ (append-nil h.said.text) (appends-then _ _ _ _ _ h.appended none);
    from = inr (w, h.said, record { rest = v; joined = refl }, h.says, refl);
    front = λ said k. grown ps w v e h.said said h.says k;
  }

  failed : length v ≤ n → WritesTextsFront ps lines mid sink.new → WritesBegun (NodesSayLines ps) n (w ++ v) e sink
  failed short k = record {
    said = record { text = h.said.text ++ concat k.texts; report = None };
    is_said = says k.texts k.answers;
    added = h.said.text ++ k.appended.added;
    appended = appends-then _ _ _ _ _ h.appended k.appended.grown;
    front = record {
      rest = k.appended.front.rest;
      joined = ap (λ (z : List ℕ). h.said.text ++ z) k.appended.front.joined ∙ sym (append_assoc h.said.text k.appended.added k.appended.front.rest);
    };
    begun = λ more. (w, v, h.said, refl, short, h.says, record { rest = k.appended.added; joined = refl });
  }

  pub broken_by_lines : (count : ℕ) (t : Trouble) (s : Status) → length v ≤ n → PassesLines {T = Unit {0}} ps lines mid sink.new (Err t) → Consumes source.old source.new (w ++ v) → (e ≡ true → IsAtEnd source.new) → source.now ≡ source.before → count ≡ sink.before → TroubleCause {T = Unit {0}} count sink.now (Err t) → s ≡ status_after t → PumpedByLines (NodesSayLines ps) n source sink s
  broken_by_lines count t s short x read ended a kept cause status = (
    record {
      w = w ++ v;
      e = e;
      read = read;
      ended = ended;
      ends = subst (λ z. EndsByLines (NodesSayLines ps) n (w ++ v) e source sink z) (sym status) (by_trouble t x (subst (λ k. TroubleCause {T = Unit {0}} k sink.now (Err t)) kept cause));
    },
    λ whole. absurd (not_whole t (ap is_whole (sym status) ∙ whole)),
  )
    where
      by_trouble : (t : Trouble) → PassesLines {T = Unit {0}} ps lines mid sink.new (Err t) → TroubleCause {T = Unit {0}} sink.before sink.now (Err t) → EndsByLines (NodesSayLines ps) n (w ++ v) e source sink (status_after t)
      by_trouble trouble.Memory y c = (wanted y, a, c)
      by_trouble trouble.Write y c = (failed short y, omega (arith, a), c)

-- ---- the end of the output

kept_on : (says : List ℕ → Bool → Said → Type 0) (w : List ℕ) (e : Bool) (old mid new : Option (List ℕ)) (before count now : ℕ) → WritesAll says w e None (change old mid before count) → Keeps mid new → WritesAll says w e None (change old new before now)
kept_on says w e old mid new before count now all kept = record {
  said = all.said;
  is_said = all.is_said;
  reports = all.reports;
  appended = appends-same _ _ _ _ (append-nil all.said.text) (appends-then _ _ _ _ _ all.appended (appends-kept mid new kept));
}

pub closed_by_lines : (says : List ℕ → Bool → Said → Type 0) (n : ℕ) (source : StreamChange) (old mid new : Option (List ℕ)) (before count now : ℕ) (s : Status) → is_whole s ≡ true → RanByLines says n source (change old mid before count) s → Keeps mid new → now ≡ count → RanByLines says n source (change old new before now) s
closed_by_lines says n source old mid new before count now s whole ran kept same = record { w = ran.w; e = ran.e; read = ran.read; ended = ran.ended; ends = by s whole ran.ends }
  where
    by : (s : Status) → is_whole s ≡ true → EndsByLines says n ran.w ran.e source (change old mid before count) s → EndsByLines says n ran.w ran.e source (change old new before now) s
    by Done h t = (t.0, (t.1.0, kept_on says _ _ _ _ _ _ count _ t.1.1 kept, t.1.2, same ∙ t.1.3))
    by ReadFault h t = (t.0, (t.1.0, kept_on says _ _ _ _ _ _ count _ t.1.1 kept, t.1.2, same ∙ t.1.3))
    by InputTooLong h t = (t.0, t.1, kept_on says _ _ _ _ _ _ count _ t.2 kept, t.3, same ∙ t.4)
    by (Rejected r) h t = absurd t
    by (TooLong r) h t = absurd t
    by _ h t = let bad : false ≡ true = h in cc

late_by_lines : (ps : List StagePlan) (n : ℕ) (w : List ℕ) (e : Bool) (old mid new : Option (List ℕ)) (before count now : ℕ) → (earlier : Said) × NodesSayLines ps w false earlier → WritesAll (NodesSayLines ps) w e None (change old mid before count) → Keeps mid new → WritesBegun (NodesSayLines ps) n w e (change old new before now)
late_by_lines ps n w e old mid new before count now (earlier, h) all kept = record {
  said = all.said;
  is_said = all.is_said;
  added = all.said.text;
  appended = appends-same _ _ _ _ (append-nil all.said.text) (appends-then _ _ _ _ _ all.appended (appends-kept mid new kept));
  front = prefix-whole all.said.text;
  begun = λ more. (w, [], earlier, sym (append-nil w), omega arith, h, grown ps w [] e earlier all.said h (subst (λ z. NodesSayLines ps z e all.said) (sym (append-nil w)) all.is_said));
}

pub close_fails_by_lines : (ps : List StagePlan) (n : ℕ) (source : StreamChange) (old mid new : Option (List ℕ)) (before count now : ℕ) (s : Status) → is_whole s ≡ true → PumpedByLines (NodesSayLines ps) n source (change old mid before count) s → Keeps mid new → count ≤ now → Rose count now → RanByLines (NodesSayLines ps) n source (change old new before now) WriteFault
close_fails_by_lines ps n source old mid new before count now s whole (ran, opened) kept later rose = record { w = ran.w; e = ran.e; read = ran.read; ended = ran.ended; ends = by s whole (opened whole) ran.ends }
  where
    by : (s : Status) → is_whole s ≡ true → (earlier : Said) × NodesSayLines ps ran.w false earlier → EndsByLines (NodesSayLines ps) n ran.w ran.e source (change old mid before count) s → EndsByLines (NodesSayLines ps) n ran.w ran.e source (change old new before now) WriteFault
    by Done h o t = (late_by_lines ps n _ _ _ _ _ _ count _ o t.1.1 kept, omega (arith, t.1.2), (omega (arith, t.1.3, later), omega (arith, t.1.3, rose)))
    by ReadFault h o t = (late_by_lines ps n _ _ _ _ _ _ count _ o t.1.1 kept, omega (arith, t.1.2), (omega (arith, t.1.3, later), omega (arith, t.1.3, rose)))
    by InputTooLong h o t = (late_by_lines ps n _ _ _ _ _ _ count _ o t.2 kept, omega (arith, t.3), (omega (arith, t.4, later), omega (arith, t.4, rose)))
    by (Rejected r) h o t = absurd t
    by (TooLong r) h o t = absurd t
    by _ h o t = let bad : false ≡ true = h in cc

-- ---- the calls to the source and the sink

pub reads_by_lines : (says : List ℕ → Bool → Said → Type 0) (n : ℕ) (source sink : StreamChange) (s : Status) (block : ℕ) (before now : Option Reads) → RanByLines says n source sink s → Asks block before now → ReadsBlocks block before now s
reads_by_lines says n source sink s block before now ran asks = by s ran.ends
  where
    by : (s : Status) → EndsByLines says n ran.w ran.e source sink s → ReadsBlocks block before now s
    by Usage t = absurd t
    by (Refused r) t = absurd t
    by ShelfFault t = absurd t
    by Done t = asks
    by (Rejected r) t = asks
    by (TooLong r) t = asks
    by InputTooLong t = asks
    by ReadFault t = asks
    by WriteFault t = asks
    by Memory t = asks

pub stays_open_by_lines : (says : List ℕ → Bool → Said → Type 0) (n : ℕ) (source sink : StreamChange) (s : Status) (before now : Option Ending) → RanByLines says n source sink s → is_whole s ≡ false → IsSinkOpen before now s → Closes before now s
stays_open_by_lines says n source sink s before now ran broke unfinished = by s broke ran.ends unfinished
  where
    by : (s : Status) → is_whole s ≡ false → EndsByLines says n ran.w ran.e source sink s → IsSinkOpen before now s → Closes before now s
    by Usage h t o = absurd t
    by (Refused r) h t o = absurd t
    by ShelfFault h t o = absurd t
    by WriteFault h t o = inl o.0
    by Memory h t o = o.0
    by _ h t o = let bad : true ≡ false = h in cc

abbrev closing : ℕ × ℕ → Ending
closing c = record { finishes = next_count c.0; failed_writes = c.1; is_closed = true }

closed_counts : (e : Option Ending) → after_finish e ≡ option_map closing (counts_of e)
closed_counts None = refl
closed_counts (Some x) = refl

pub finish_alike : (a b : Option Ending) → counts_of a ≡ counts_of b → after_finish a ≡ after_finish b
finish_alike a b same = closed_counts a ∙ ap (option_map closing) same ∙ sym (closed_counts b)

pub closes_by_lines : (before mid now : Option Ending) (s : Status) → is_whole s ≡ true → IsSinkOpen before mid s → now ≡ after_finish mid → Closes before now s
closes_by_lines before mid now s whole unfinished is = by s whole (is ∙ finish_alike mid before (unfinished.1 whole))
  where
    by : (s : Status) → is_whole s ≡ true → now ≡ after_finish before → Closes before now s
    by Done h t = t
    by (Rejected r) h t = t
    by (TooLong r) h t = t
    by InputTooLong h t = t
    by ReadFault h t = t
    by _ h t = let bad : false ≡ true = h in cc
