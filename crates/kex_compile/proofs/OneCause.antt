-- A text that is accepted isn't refused, and one that is refused is refused for one cause.
use Rattle.std.proofs.Common.{◌≡◌, ℕ, true, ◌<◌, ◌≤◌, List, ◌⊎◌, inl, inr, ⊎_elim, length, refl, ap, arith}
use Rattle.kex_model.specs.Programs.{Grammar}
use Rattle.kex_reader.specs.Spelling.{Spells, IsRefusedAs}
use Rattle.kex_reader.specs.declared.refusal.ReadRefusal.{ReadRefusal}
use Rattle.kex_reader.specs.declared.refusal.ReadRefusal.TheVariants as read
use Rattle.kex_rules.specs.Rules.{IsTwice, IsUnknown, IsNotTail, IsRuled, IsLowest, IsRuleCause}
use Rattle.kex_rules.specs.declared.refusal.RuleRefusal.{RuleRefusal}
use Rattle.kex_rules.specs.declared.refusal.RuleRefusal.TheVariants as rule
use Rattle.kex_lowering.specs.declared.refusal.StageRefusal.{StageRefusal}
use Rattle.kex_lowering.specs.declared.refusal.StageRefusal.TheVariants as why
use Rattle.kex_compile.specs.Stages.{AllRun, CanRun, IsFirst, IsStageRefused, IsUnplanned, KeepsToOneStage, KeepsToPairs, KeepsToStates, most_pairs, roots_of}
use Rattle.kex_compile.specs.declared.limits.Limits.{Limits}
use Rattle.kex_compile.specs.Compiled.{Accepts, IsRefused, of_read, of_rule, of_plan}
use Rattle.kex_compile.specs.declared.refusal.PlanRefusal.{PlanRefusal}
use Rattle.kex_compile.specs.declared.refusal.PlanRefusal.TheVariants as plan
use Rattle.kex_compile.specs.declared.refusal.CompileRefusal.{CompileRefusal}
use Rattle.kex_compile.specs.declared.refusal.CompileRefusal.TheVariants.{TextTooLong, BadToken, Unexpected, BadRegex, BadCount, BadSet, OverLimit, TwiceDefined, Unknown, NoStart, NotTail, TooManyPlaces, NoText, OneStage, TooManyStates, TooManyPairs, Memory}
use Rattle.kex_compile.proofs.Terms.{SameName}
use Rattle.kex_compile.proofs.Alike.{Alike, SameStages}
use Rattle.kex_compile.proofs.SameRules.{begins_on, none_on, not_tail_on, twice_on, unknown_on}
use Rattle.kex_compile.proofs.PairCounts.{one_pairs, pairs_first_on}
use Rattle.kex_compile.proofs.StagePairs.{Known, one_stage, refused_on, same_count}
use Rattle.kex_compile.proofs.States.{one_states, states_first_on}
use Rattle.kex_model.specs.declared.program.Start.{Start}

-- ---- one program that keeps the rules, and one that doesn't

not_ruled : (P Q : Grammar) (e : RuleRefusal) → Alike Q P → Alike P Q → IsRuled P → (e ≡ rule.Memory → ⊥) → IsRuleCause Q e → ⊥
not_ruled P Q (rule.TwiceDefined at) a b r n c =
    let t = twice_on Q P a at c.breaks in
    let lt : t.0 < t.1 = t.4 in
    let same : t.0 ≡ t.1 = r.once t.0 t.1 t.2 t.3 t.5 t.6 t.7 in
    omega (arith, lt, same)
not_ruled P Q (rule.Unknown at) a b r n c = let u = unknown_on Q P a at c.1.breaks in u.2 (r.known u.0 at u.1)
not_ruled P Q rule.NoStart a b r n c = begins_on P Q b r.begins.0 r.begins.1 c.2
not_ruled P Q (rule.NotTail at) a b r n c = r.tail at (not_tail_on Q P a at c.3.breaks)
not_ruled P Q rule.Memory a b r n c = n refl

not_planned : (limits : Limits) (P Q : Grammar) (e : PlanRefusal) → Alike Q P → Alike P Q → Known P → Known Q → AllRun P → KeepsToOneStage limits P → KeepsToStates limits P → KeepsToPairs limits P → (e ≡ plan.Memory → ⊥) → IsUnplanned limits Q e → ⊥
not_planned limits P Q (plan.TooManyPlaces k) a b known known' run one few pairs n u = let f = refused_on Q P a b known' known why.TooManyPlaces k u in (run f.0 f.1).few f.2
not_planned limits P Q (plan.NoText k) a b known known' run one few pairs n u = let f = refused_on Q P a b known' known why.NoText k u.1 in f.2.1 (run f.0 f.1).some_text
not_planned limits P Q plan.OneStage a b known known' run one few pairs n u =
    let le : length P.stages ≤ 1 = one u.1 in
    let more : 1 < length Q.stages = u.2 in
    omega (arith, same_count (SameName Q.names P.names) Q.stages P.stages a.stages)
not_planned limits P Q (plan.TooManyStates k) a b known known' run one few pairs n u =
    let f = states_first_on Q P limits a b known' known u.0 run k u.3 in
    few u.2 f.0 f.1 f.2
not_planned limits P Q (plan.TooManyPairs k) a b known known' run one few pairs n u =
    let f = pairs_first_on Q P a b known' known most_pairs k u.4 in
    pairs u.3 f.0 f.1 f.2
not_planned limits P Q plan.Memory a b known known' run one few pairs n u = n refl

-- ---- one cause

less_or_not : (i j : ℕ) → (i < j) ⊎ ((j < i) ⊎ (i ≡ j))
less_or_not i j = grind arith

one_lowest : (A B : ℕ → Type 0) (i j : ℕ) → ((k : ℕ) → A k → B k) → ((k : ℕ) → B k → A k) → IsLowest A i → IsLowest B j → i ≡ j
one_lowest A B i j f g h k = ⊎_elim (λ l. absurd (k.lowest i l (f i h.breaks))) (λ c. ⊎_elim (λ l. absurd (h.lowest j l (g j k.breaks))) (λ e. e) c) (less_or_not i j)

one_rule : (P Q : Grammar) → Alike P Q → Alike Q P → (d e : RuleRefusal) → (d ≡ rule.Memory → ⊥) → (e ≡ rule.Memory → ⊥) → IsRuleCause P d → IsRuleCause Q e → d ≡ e
one_rule P Q a b rule.Memory e n m h k = absurd (n refl)
one_rule P Q a b (rule.TwiceDefined i) rule.Memory n m h k = absurd (m refl)
one_rule P Q a b (rule.Unknown i) rule.Memory n m h k = absurd (m refl)
one_rule P Q a b rule.NoStart rule.Memory n m h k = absurd (m refl)
one_rule P Q a b (rule.NotTail i) rule.Memory n m h k = absurd (m refl)
one_rule P Q a b (rule.TwiceDefined i) (rule.TwiceDefined j) n m h k = ap rule.TwiceDefined (one_lowest (IsTwice P.definitions) (IsTwice Q.definitions) i j (twice_on P Q a) (twice_on Q P b) h k)
one_rule P Q a b (rule.TwiceDefined i) (rule.Unknown j) n m h k = absurd (k.0 i (twice_on P Q a i h.breaks))
one_rule P Q a b (rule.TwiceDefined i) rule.NoStart n m h k = absurd (k.0 i (twice_on P Q a i h.breaks))
one_rule P Q a b (rule.TwiceDefined i) (rule.NotTail j) n m h k = absurd (k.0 i (twice_on P Q a i h.breaks))
one_rule P Q a b (rule.Unknown i) (rule.TwiceDefined j) n m h k = absurd (h.0 j (twice_on Q P b j k.breaks))
one_rule P Q a b (rule.Unknown i) (rule.Unknown j) n m h k = ap rule.Unknown (one_lowest (IsUnknown P) (IsUnknown Q) i j (unknown_on P Q a) (unknown_on Q P b) h.1 k.1)
one_rule P Q a b (rule.Unknown i) rule.NoStart n m h k = absurd (k.1 i (unknown_on P Q a i h.1.breaks))
one_rule P Q a b (rule.Unknown i) (rule.NotTail j) n m h k = absurd (k.1 i (unknown_on P Q a i h.1.breaks))
one_rule P Q a b rule.NoStart (rule.TwiceDefined j) n m h k = absurd (h.0 j (twice_on Q P b j k.breaks))
one_rule P Q a b rule.NoStart (rule.Unknown j) n m h k = absurd (h.1 j (unknown_on Q P b j k.1.breaks))
one_rule P Q a b rule.NoStart rule.NoStart n m h k = refl
one_rule P Q a b rule.NoStart (rule.NotTail j) n m h k = absurd (k.2 (none_on P Q a h.2))
one_rule P Q a b (rule.NotTail i) (rule.TwiceDefined j) n m h k = absurd (h.0 j (twice_on Q P b j k.breaks))
one_rule P Q a b (rule.NotTail i) (rule.Unknown j) n m h k = absurd (h.1 j (unknown_on Q P b j k.1.breaks))
one_rule P Q a b (rule.NotTail i) rule.NoStart n m h k = absurd (h.2 (none_on Q P b k.2))
one_rule P Q a b (rule.NotTail i) (rule.NotTail j) n m h k = ap rule.NotTail (one_lowest (IsNotTail P) (IsNotTail Q) i j (not_tail_on P Q a) (not_tail_on Q P b) h.3 k.3)

-- a stage that can run isn't refused
runs : (P : Grammar) (root : ℕ) (e : StageRefusal) → (e ≡ why.Memory → ⊥) → CanRun P root → IsStageRefused P e root → ⊥
runs P root why.TooManyPlaces n r h = r.few h
runs P root why.NoText n r h = h.1 r.some_text
runs P root why.Memory n r h = n refl

module _ (limits : Limits) (P Q : Grammar) (a : Alike P Q) (b : Alike Q P) (known : Known P) (known' : Known Q) where
  -- of one program a stage is refused, and of the other all can run
  refused_here : (e : StageRefusal) (i : ℕ) → (e ≡ why.Memory → ⊥) → IsFirst (IsStageRefused P e) (roots_of P) i → AllRun Q → ⊥
  refused_here e i n h run = let f = refused_on P Q a b known known' e i h in runs Q f.0 e n (run f.0 f.1) f.2

  refused_there : (e : StageRefusal) (i : ℕ) → (e ≡ why.Memory → ⊥) → IsFirst (IsStageRefused Q e) (roots_of Q) i → AllRun P → ⊥
  refused_there e i n h run = let f = refused_on Q P b a known' known e i h in runs P f.0 e n (run f.0 f.1) f.2

  -- one stage is asked for, and there is and there isn't one more
  one_too_many : (R : ℕ → ℕ → Type 0) (ss ts : List Start) → SameStages R ss ts → limits.one_stage ≡ true → 1 < length ss → (limits.one_stage ≡ true → length ts ≤ 1) → ⊥
  one_too_many R ss ts same on more one = let le : length ts ≤ 1 = one on in omega (arith, same_count R ss ts same)

  one_plan : (d e : PlanRefusal) → (d ≡ plan.Memory → ⊥) → (e ≡ plan.Memory → ⊥) → IsUnplanned limits P d → IsUnplanned limits Q e → d ≡ e
  one_plan plan.Memory e n m h k = absurd (n refl)
  one_plan (plan.TooManyPlaces i) plan.Memory n m h k = absurd (m refl)
  one_plan (plan.NoText i) plan.Memory n m h k = absurd (m refl)
  one_plan plan.OneStage plan.Memory n m h k = absurd (m refl)
  one_plan (plan.TooManyStates i) plan.Memory n m h k = absurd (m refl)
  one_plan (plan.TooManyPairs i) plan.Memory n m h k = absurd (m refl)
  one_plan (plan.TooManyPlaces i) (plan.TooManyPlaces j) n m h k = ap plan.TooManyPlaces (one_stage P Q a b known known' why.TooManyPlaces i j h k)
  one_plan (plan.TooManyPlaces i) (plan.NoText j) n m h k = let f = refused_on P Q a b known known' why.TooManyPlaces i h in absurd (k.0 f.0 f.1 f.2)
  one_plan (plan.TooManyPlaces i) plan.OneStage n m h k = absurd (refused_here why.TooManyPlaces i (λ q. cc) h k.0)
  one_plan (plan.TooManyPlaces i) (plan.TooManyStates j) n m h k = absurd (refused_here why.TooManyPlaces i (λ q. cc) h k.0)
  one_plan (plan.TooManyPlaces i) (plan.TooManyPairs j) n m h k = absurd (refused_here why.TooManyPlaces i (λ q. cc) h k.0)
  one_plan (plan.NoText i) (plan.TooManyPlaces j) n m h k = let f = refused_on Q P b a known' known why.TooManyPlaces j k in absurd (h.0 f.0 f.1 f.2)
  one_plan (plan.NoText i) (plan.NoText j) n m h k = ap plan.NoText (one_stage P Q a b known known' why.NoText i j h.1 k.1)
  one_plan (plan.NoText i) plan.OneStage n m h k = absurd (refused_here why.NoText i (λ q. cc) h.1 k.0)
  one_plan (plan.NoText i) (plan.TooManyStates j) n m h k = absurd (refused_here why.NoText i (λ q. cc) h.1 k.0)
  one_plan (plan.NoText i) (plan.TooManyPairs j) n m h k = absurd (refused_here why.NoText i (λ q. cc) h.1 k.0)
  one_plan plan.OneStage (plan.TooManyPlaces j) n m h k = absurd (refused_there why.TooManyPlaces j (λ q. cc) k h.0)
  one_plan plan.OneStage (plan.NoText j) n m h k = absurd (refused_there why.NoText j (λ q. cc) k.1 h.0)
  one_plan plan.OneStage plan.OneStage n m h k = refl
  one_plan plan.OneStage (plan.TooManyStates j) n m h k = absurd (one_too_many (SameName P.names Q.names) P.stages Q.stages a.stages h.1 h.2 k.1)
  one_plan plan.OneStage (plan.TooManyPairs j) n m h k = absurd (one_too_many (SameName P.names Q.names) P.stages Q.stages a.stages h.1 h.2 k.1)
  one_plan (plan.TooManyStates i) (plan.TooManyPlaces j) n m h k = absurd (refused_there why.TooManyPlaces j (λ q. cc) k h.0)
  one_plan (plan.TooManyStates i) (plan.NoText j) n m h k = absurd (refused_there why.NoText j (λ q. cc) k.1 h.0)
  one_plan (plan.TooManyStates i) plan.OneStage n m h k = absurd (one_too_many (SameName Q.names P.names) Q.stages P.stages b.stages k.1 k.2 h.1)
  one_plan (plan.TooManyStates i) (plan.TooManyStates j) n m h k = ap plan.TooManyStates (one_states P Q limits a b known known' h.0 k.0 i j h.3 k.3)
  one_plan (plan.TooManyStates i) (plan.TooManyPairs j) n m h k = let f = states_first_on P Q limits a b known known' h.0 k.0 i h.3 in absurd (k.2 h.2 f.0 f.1 f.2)
  one_plan (plan.TooManyPairs i) (plan.TooManyPlaces j) n m h k = absurd (refused_there why.TooManyPlaces j (λ q. cc) k h.0)
  one_plan (plan.TooManyPairs i) (plan.NoText j) n m h k = absurd (refused_there why.NoText j (λ q. cc) k.1 h.0)
  one_plan (plan.TooManyPairs i) plan.OneStage n m h k = absurd (one_too_many (SameName Q.names P.names) Q.stages P.stages b.stages k.1 k.2 h.1)
  one_plan (plan.TooManyPairs i) (plan.TooManyStates j) n m h k = let f = states_first_on Q P limits b a known' known k.0 h.0 j k.3 in absurd (h.2 k.2 f.0 f.1 f.2)
  one_plan (plan.TooManyPairs i) (plan.TooManyPairs j) n m h k = ap plan.TooManyPairs (one_pairs P Q a b known known' most_pairs i j h.4 k.4)

-- ---- texts

-- a cause other than want of memory, by the pass that finds it
data Cause (limits : Limits) (text : List ℕ) : CompileRefusal → Type 0 where
  unread : (e : ReadRefusal) → (e ≡ read.Memory → ⊥) → IsRefusedAs text e → Cause limits text (of_read e)
  unruled : (P : Grammar) (e : RuleRefusal) → (e ≡ rule.Memory → ⊥) → Spells text P → IsRuleCause P e → Cause limits text (of_rule e)
  unplanned : (P : Grammar) (e : PlanRefusal) → (e ≡ plan.Memory → ⊥) → Spells text P → IsRuled P → IsUnplanned limits P e → Cause limits text (of_plan e)

cause : (limits : Limits) (text : List ℕ) (e : CompileRefusal) → (e ≡ Memory → ⊥) → IsRefused limits text e → Cause limits text e
cause limits text TextTooLong n h = unread read.TextTooLong (λ q. cc) h
cause limits text (BadToken at) n h = unread (read.BadToken at) (λ q. cc) h
cause limits text (Unexpected at) n h = unread (read.Unexpected at) (λ q. cc) h
cause limits text (BadRegex at) n h = unread (read.BadRegex at) (λ q. cc) h
cause limits text (BadCount at) n h = unread (read.BadCount at) (λ q. cc) h
cause limits text (BadSet at) n h = unread (read.BadSet at) (λ q. cc) h
cause limits text (OverLimit at) n h = unread (read.OverLimit at) (λ q. cc) h
cause limits text (TwiceDefined at) n h = unruled h.0 (rule.TwiceDefined at) (λ q. cc) h.1 h.2
cause limits text (Unknown at) n h = unruled h.0 (rule.Unknown at) (λ q. cc) h.1 h.2
cause limits text NoStart n h = unruled h.0 rule.NoStart (λ q. cc) h.1 h.2
cause limits text (NotTail at) n h = unruled h.0 (rule.NotTail at) (λ q. cc) h.1 h.2
cause limits text (TooManyPlaces k) n h = unplanned h.0 (plan.TooManyPlaces k) (λ q. cc) h.1 h.2 h.3
cause limits text (NoText k) n h = unplanned h.0 (plan.NoText k) (λ q. cc) h.1 h.2 h.3
cause limits text OneStage n h = unplanned h.0 plan.OneStage (λ q. cc) h.1 h.2 h.3
cause limits text (TooManyStates k) n h = unplanned h.0 (plan.TooManyStates k) (λ q. cc) h.1 h.2 h.3
cause limits text (TooManyPairs k) n h = unplanned h.0 (plan.TooManyPairs k) (λ q. cc) h.1 h.2 h.3
cause limits text Memory n h = absurd (n refl)

memory_or_not : (e : CompileRefusal) → (e ≡ Memory) ⊎ (e ≡ Memory → ⊥)
memory_or_not Memory = inl refl
memory_or_not _ = inr (λ q. cc)

module _ (limits : Limits) (text : List ℕ) (alike : (P Q : Grammar) → Spells text P → Spells text Q → Alike P Q) (spelled : (P : Grammar) (e : ReadRefusal) → (e ≡ read.Memory → ⊥) → Spells text P → IsRefusedAs text e → ⊥) where
  not_caused : (P : Grammar) (e : CompileRefusal) → Accepts limits text P → Cause limits text e → ⊥
  not_caused P _ ok (unread e n h) = spelled P e n ok.spells h
  not_caused P _ ok (unruled Q e n s h) = not_ruled P Q e (alike Q P s ok.spells) (alike P Q ok.spells s) ok.ruled n h
  not_caused P _ ok (unplanned Q e n s r h) = not_planned limits P Q e (alike Q P s ok.spells) (alike P Q ok.spells s) ok.ruled.known r.known ok.stages ok.one_stage ok.states ok.pairs n h

  pub accepted : (P : Grammar) (e : CompileRefusal) → Accepts limits text P → IsRefused limits text e → e ≡ Memory
  accepted P e ok h = ⊎_elim (λ q. q) (λ n. absurd (not_caused P e ok (cause limits text e n h))) (memory_or_not e)

  module _ (one_read : (d e : ReadRefusal) → (d ≡ read.Memory → ⊥) → (e ≡ read.Memory → ⊥) → IsRefusedAs text d → IsRefusedAs text e → d ≡ e) where
    same_cause : (d e : CompileRefusal) → Cause limits text d → Cause limits text e → d ≡ e
    same_cause _ _ (unread d n h) (unread e m k) = ap of_read (one_read d e n m h k)
    same_cause _ _ (unread d n h) (unruled Q e m s k) = absurd (spelled Q d n s h)
    same_cause _ _ (unread d n h) (unplanned Q e m s r k) = absurd (spelled Q d n s h)
    same_cause _ _ (unruled P d n s h) (unread e m k) = absurd (spelled P e m s k)
    same_cause _ _ (unruled P d n s h) (unruled Q e m t k) = ap of_rule (one_rule P Q (alike P Q s t) (alike Q P t s) d e n m h k)
    same_cause _ _ (unruled P d n s h) (unplanned Q e m t r k) = absurd (not_ruled Q P d (alike P Q s t) (alike Q P t s) r n h)
    same_cause _ _ (unplanned P d n s r h) (unread e m k) = absurd (spelled P e m s k)
    same_cause _ _ (unplanned P d n s r h) (unruled Q e m t k) = absurd (not_ruled P Q e (alike Q P t s) (alike P Q s t) r m k)
    same_cause _ _ (unplanned P d n s r h) (unplanned Q e m t q k) = ap of_plan (one_plan limits P Q (alike P Q s t) (alike Q P t s) r.known q.known d e n m h k)

    pub one_cause : (d e : CompileRefusal) → (d ≡ Memory → ⊥) → (e ≡ Memory → ⊥) → IsRefused limits text d → IsRefused limits text e → d ≡ e
    one_cause d e n m h k = same_cause d e (cause limits text d n h) (cause limits text e m k)
