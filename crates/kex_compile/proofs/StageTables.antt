-- From the tables of machines to what they say of stages.
use Rattle.std.proofs.Common.{◌≡◌, ◌+◌, ◌≤◌, ℕ, zero, suc, true, false, arith, List, [], ◌∷◌, ◌++◌, inl, inr, length, refl, sym, ap, ◌∙◌, subst}
use Rattle.std.proofs.lemmas.List.{length-map}
use Rattle.std.specs.Prelude.{Option, Some, None, Result, Ok, Err, OnOk, is_some}
use Rattle.kex_code.specs.Codes.{Different, HasNumber, IsAmong}
use Rattle.kex_model.specs.Moves.{Move}
use Rattle.kex_model.specs.States.{AllDifferent, HasMoreStates, HasStates}
use Rattle.kex_model.proofs.Tables.{some_same}
use Rattle.kex_model.proofs.DistinctItems.{different_fits}
use Rattle.kex_model.specs.Programs.{Grammar}
use Rattle.kex_machine.specs.Nodes.{Graph, node_moves}
use Rattle.kex_sst.specs.Tables.{Transducer}
use Rattle.kex_lowering.proofs.States.{same_states}
use Rattle.kex_plan.specs.declared.plan.Telling.{Telling}
use Rattle.kex_plan.specs.declared.plan.Telling.TheVariants as telling
use Rattle.kex_cover.specs.Optimal.{RefusesOptimal, wholes}
use Rattle.kex_cover.specs.declared.refusal.CoverRefusal.{CoverRefusal}
use Rattle.kex_cover.specs.declared.refusal.CoverRefusal.TheVariants as cover
use Rattle.kex_alike.specs.StageTests.{HasTooManyPairs}
use Rattle.kex_alike.proofs.StageMachines.{machines_ask_as_stage}
use Rattle.kex_compile.specs.declared.limits.Limits.{Limits}
use Rattle.kex_compile.specs.Stages.{AllRun, AreStages, AreTabled, HasMoreNodePairs, HasMoreNodes, HasStatesIf, HasTable, HasTableIf, HasTooManyStates, HaveTheirPlans, HavePlansOrFirst, HaveStatesInAll, IsFirst, IsStage, IsTableTelling, IsUnplanned, IsUntabled, IsUntabledAs, IsUntabledBy, KeepsToOneStage, NodeStates, NoneIs, Plans, asked_telling, most_pairs, roots_of, states_if}
use Rattle.kex_compile.specs.declared.refusal.PlanRefusal.{PlanRefusal}
use Rattle.kex_compile.specs.declared.refusal.PlanRefusal.TheVariants.{TooManyPlaces, NoText, OneStage, TooManyStates, TooManyPairs, Memory}
use Rattle.kex_compile.proofs.FirstStages.{among-at, first-again, first-now, first-stays, first-then}

different_of : {A : Type 0} (xs : List A) → AllDifferent xs → Different xs
different_of [] d = tt
different_of (x ∷ xs) d = (d.0, different_of xs d.1)

-- with at most `max` states there are no more than that
pub not_more : {S : Type 0} (moves : S → Move S) (start : S) (n max : ℕ) → HasStates moves start n → n ≤ max → HasMoreStates moves start max → ⊥
not_more moves start n max h le (xs, long, different, each) =
    let fits = different_fits xs h.states (different_of xs different) (λ s i. h.all s (each s i)) in
    omega (arith, fits, long, le, h.count)

-- what an answer says, it says where that says more
pub on_ok : {A B : Type 0} (r : Result A B) (P Q : Type 0) → (P → Q) → OnOk r P → OnOk r Q
on_ok (Ok x) P Q f p = f p
on_ok (Err e) P Q f p = p

-- why a machine has no table that tells what is best
pub unoptimal : (limits : Limits) (m : Graph) (e : CoverRefusal) → limits.tables ≡ true → limits.optimal ≡ true → RefusesOptimal m limits.states most_pairs e → IsUntabledBy limits m e
unoptimal limits m (cover.TooManyStates seen) tables on h = (tables, h.1)
unoptimal limits m (cover.TooManyPairs seen) tables on h = (not_more (λ k. node_moves m.nodes k) m.start h.1.0 limits.states h.1.2 h.1.1, (on, h.2))
unoptimal limits m cover.Memory tables on h = tt

module _ (limits : Limits) where
  -- one machine more
  pub states_more : (ms : List Graph) (m : Graph) (total own : ℕ) → NodeStates limits ms total → HasStates (node_moves m.nodes) m.start own → (HasMoreNodes limits m → ⊥) → NodeStates limits (ms ++ m ∷ []) (total + own)
  states_more [] m total own h has few = (own, 0, has, few, refl, let z : total ≡ 0 = h in omega arith)
  states_more (x ∷ ms) m total own (mine, rest, mines, fews, more, e) has few = (mine, rest + own, mines, fews, states_more ms m rest own more has few, let f : total ≡ mine + rest = e in omega arith)

  none_among : (total : ℕ) (ms : List Graph) → NodeStates limits ms total → (m : Graph) → IsAmong ms m → HasMoreNodes limits m → ⊥
  none_among total [] h m i q = i
  none_among total (x ∷ ms) (own, rest, has, few, more, e) m (inl i) q = few (subst (λ z. HasMoreNodes limits z) (sym i) q)
  none_among total (x ∷ ms) (own, rest, has, few, more, e) m (inr i) q = none_among rest ms more m i q

  none_so_far : (ms : List Graph) (first : Option ℕ) (plans : Plans) → limits.tables ≡ true → HavePlansOrFirst limits ms first plans → NoneIs (HasMoreNodes limits) ms
  none_so_far ms None plans on h = λ m i q. none_among plans.states ms (h.states on) m i q
  none_so_far ms (Some n) plans on h = h.0

  -- tables and one more
  pub tabled_more : (ms : List Graph) (os : List (Option Transducer)) (m : Graph) (o : Option Transducer) → AreTabled limits ms os → HasTable limits m o → AreTabled limits (ms ++ m ∷ []) (os ++ o ∷ [])
  tabled_more [] [] m o h k = (k, tt)
  tabled_more (x ∷ ms) (y ∷ os) m o h k = (h.0, tabled_more ms os m o h.1 k)
  tabled_more [] (y ∷ os) m o h k = absurd h
  tabled_more (x ∷ ms) [] m o h k = absurd h

  -- one machine more, which has its plan
  plan_more : (ms : List Graph) (m : Graph) (old new : Plans) (own : ℕ) (o : Option Transducer) → new.stages ≡ old.stages ++ m ∷ [] → new.tables ≡ old.tables ++ o ∷ [] → new.states ≡ old.states + own → HasTable limits m o → HasStatesIf limits m own → (HasMoreNodePairs limits m → ⊥) → HaveTheirPlans limits ms old → HaveTheirPlans limits (ms ++ m ∷ []) new
  plan_more ms m old new own o stages tables states has count few h = record {
    machines = stages ∙ ap (λ z. z ++ m ∷ []) h.machines;
    tables = subst (λ z. AreTabled limits (ms ++ m ∷ []) z) (sym tables) (tabled_more ms old.tables m o h.tables has);
    states = λ on. let k = count on in subst (λ z. NodeStates limits (ms ++ m ∷ []) z) (sym states) (states_more ms m old.states own (h.states on) k.0 k.1);
    pairs = first-then (HasMoreNodePairs limits) ms None m few h.pairs;
  }

  pub planned_more : (ms : List Graph) (m : Graph) (first : Option ℕ) (old new : Plans) (own : ℕ) (o : Option Transducer) → is_some first ≡ false → new.stages ≡ old.stages ++ m ∷ [] → new.tables ≡ old.tables ++ o ∷ [] → new.states ≡ old.states + own → HasTable limits m o → HasStatesIf limits m own → (HasMoreNodePairs limits m → ⊥) → HavePlansOrFirst limits ms first old → HavePlansOrFirst limits (ms ++ m ∷ []) first new
  planned_more ms m None old new own o none stages tables states has count few h = plan_more ms m old new own o stages tables states has count few h
  planned_more ms m (Some n) old new own o none stages tables states has count few h = cc

  -- the table of a machine among others
  tabled_at : (ms : List Graph) (os : List (Option Transducer)) (i : ℕ) (m : Graph) → HasNumber ms m i → AreTabled limits ms os → (o : Option Transducer) × HasNumber os o i × HasTable limits m o
  tabled_at [] os i m k h = cc
  tabled_at (x ∷ ms) [] i m k h = absurd h
  tabled_at (x ∷ ms) (y ∷ os) zero m k h = (y, refl, subst (λ z. HasTable limits z y) (some_same x m k) h.0)
  tabled_at (x ∷ ms) (y ∷ os) (suc i) m k h = tabled_at ms os i m k h.1

  -- a table has as many states as its machine
  table_states : (k : Telling) (m : Graph) (t : Transducer) → IsTableTelling k m t → HasStates (node_moves m.nodes) m.start (length t.states)
  table_states telling.Agreed m t h = record { states = h.1.shapes; count = h.1.rows.count; different = h.1.different; each = h.1.each; all = h.1.all }
  table_states telling.Best m t h = record { states = wholes h.1.states; count = h.1.rows.count ∙ sym (length-map h.1.states (λ s. s.whole)); different = h.1.different; each = h.1.each; all = h.1.all }

  counted_states : (m : Graph) (o : Option Transducer) → (limits.tables ≡ true → HasMoreNodes limits m → ⊥) → HasTable limits m o → HasStatesIf limits m (states_if o)
  counted_states m o few h = λ on. (by o (subst (λ b. HasTableIf b (asked_telling limits) m o) on h), few on)
    where
      by : (o : Option Transducer) → HasTableIf true (asked_telling limits) m o → HasStates (node_moves m.nodes) m.start (states_if o)
      by None h = absurd h
      by (Some t) h = table_states (asked_telling limits) m t h

  -- one machine more, which is there already and has its plan
  pub planned_again : (ms : List Graph) (i : ℕ) (m : Graph) (first : Option ℕ) (old new : Plans) → is_some first ≡ false → HasNumber ms m i → ((o : Option Transducer) → HasNumber old.stages m i → HasNumber old.tables o i → new ≡ record { stages = old.stages ++ m ∷ []; tables = old.tables ++ o ∷ []; telling = old.telling; places = old.places; states = old.states + states_if o }) → HavePlansOrFirst limits ms first old → HavePlansOrFirst limits (ms ++ m ∷ []) first new
  planned_again ms i m None old new none at pushed h =
      let t = tabled_at ms old.tables i m at h.tables in
      let is = pushed t.0 (subst (λ z. HasNumber z m i) (sym h.machines) at) t.1 in
      let among = among-at ms i m at in
      plan_more ms m old new (states_if t.0) t.0 (ap (λ (z : Plans). z.stages) is) (ap (λ (z : Plans). z.tables) is) (ap (λ (z : Plans). z.states) is) t.2
      (counted_states m t.0 (λ on. none_among old.states ms (h.states on) m among) t.2)
      (h.pairs m among) h
  planned_again ms i m (Some n) old new none at pushed h = cc

  -- which is the first that has too many pairs
  pub first_more : (ms : List Graph) (m : Graph) (first : Option ℕ) (n : ℕ) (plans : Plans) → n ≡ suc (length ms) → is_some first ≡ false → limits.tables ≡ true → (HasMoreNodes limits m → ⊥) → HasMoreNodePairs limits m → HavePlansOrFirst limits ms first plans → HavePlansOrFirst limits (ms ++ m ∷ []) (Some n) plans
  first_more ms m None n plans number none on few more h = (first-then (HasMoreNodes limits) ms None m few (none_so_far ms None plans on h), first-now (HasMoreNodePairs limits) ms None m n number more h.pairs)
  first_more ms m (Some k) n plans number none on few more h = cc

  -- or which comes after the first
  pub known_more : (ms : List Graph) (m : Graph) (first : Option ℕ) (plans : Plans) → is_some first ≡ true → (HasMoreNodes limits m → ⊥) → HavePlansOrFirst limits ms first plans → HavePlansOrFirst limits (ms ++ m ∷ []) first plans
  known_more ms m None plans some few h = cc
  known_more ms m (Some n) plans some few h = (first-then (HasMoreNodes limits) ms None m few h.0, first-stays (HasMoreNodePairs limits) ms n m h.1)

  -- or is there already
  pub known_again : (ms : List Graph) (i : ℕ) (m : Graph) (first : Option ℕ) (plans : Plans) → is_some first ≡ true → HasNumber ms m i → HavePlansOrFirst limits ms first plans → HavePlansOrFirst limits (ms ++ m ∷ []) first plans
  known_again ms i m None plans some at h = cc
  known_again ms i m (Some n) plans some at h = (first-again (HasMoreNodes limits) ms None m (among-at ms i m at) h.0, first-stays (HasMoreNodePairs limits) ms n m h.1)

  pub tables_where_first : (ms : List Graph) (first : Option ℕ) (plans : Plans) → is_some first ≡ true → (limits.optimal ≡ true → limits.tables ≡ true) → HavePlansOrFirst limits ms first plans → limits.tables ≡ true
  tables_where_first ms None plans some on h = cc
  tables_where_first ms (Some n) plans some on h = on h.1.is_so.0

  -- plans end at the first machine that has too many states
  pub untabled : (front : List Graph) (m : Graph) (rest : List Graph) (ms : List Graph) (stage : ℕ) (first : Option ℕ) (plans : Plans) (e : PlanRefusal) → ms ≡ front ++ m ∷ rest → stage ≡ suc (length front) → HavePlansOrFirst limits front first plans → IsUntabledAs limits m stage e → IsUntabled limits ms e
  untabled front m rest ms stage first plans (TooManyStates n) split number so_far (on, same, more) = (
    on,
    record {
      before = front;
      at = m;
      behind = rest;
      split = split;
      number_is = same ∙ number;
      is_so = more;
      none_before = none_so_far front first plans on so_far;
    },
  )
  untabled front m rest ms stage first plans Memory split number so_far h = tt
  untabled front m rest ms stage first plans (TooManyPlaces n) split number so_far h = absurd h
  untabled front m rest ms stage first plans (NoText n) split number so_far h = absurd h
  untabled front m rest ms stage first plans OneStage split number so_far h = absurd h
  untabled front m rest ms stage first plans (TooManyPairs n) split number so_far h = absurd h

-- a stage and its machine have as many states
module _ (limits : Limits) (P : Grammar) where
  more_places : (r : ℕ) (m : Graph) → IsStage P r m → HasMoreNodes limits m → HasTooManyStates limits P r
  more_places r m s h = (same_states P r m s.kept limits.states).more.1 h

  more_nodes : (r : ℕ) (m : Graph) → IsStage P r m → HasTooManyStates limits P r → HasMoreNodes limits m
  more_nodes r m s h = (same_states P r m s.kept limits.states).more.0 h

  -- none of the machines has too many states
  pub none_more : (total : ℕ) (rs : List ℕ) (ms : List Graph) → AreStages P rs ms → NodeStates limits ms total → (r : ℕ) → IsAmong rs r → HasTooManyStates limits P r → ⊥
  none_more total [] [] s h r a q = a
  none_more total (x ∷ rs) (m ∷ ms) s (own, rest, has, few, more, e) r (inl a) q = few (more_nodes x m s.0 (subst (λ z. HasTooManyStates limits P z) (sym a) q))
  none_more total (x ∷ rs) (m ∷ ms) s (own, rest, has, few, more, e) r (inr a) q = none_more rest rs ms s.1 more r a q
  none_more total [] (m ∷ ms) s h r a q = s
  none_more total (x ∷ rs) [] s h r a q = s

  -- they have `total` states in all
  pub states_of_stages : (total : ℕ) (rs : List ℕ) (ms : List Graph) → AreStages P rs ms → NodeStates limits ms total → HaveStatesInAll P rs total
  states_of_stages total [] [] s h = h
  states_of_stages total (x ∷ rs) (m ∷ ms) s (own, rest, has, few, more, e) = (own, rest, (same_states P x m s.0.kept own).count.1 has, states_of_stages rest rs ms s.1 more, e)
  states_of_stages total [] (m ∷ ms) s h = absurd s
  states_of_stages total (x ∷ rs) [] s h = absurd s

  -- the stages before a machine, and its own
  record SplitAt (rs : List ℕ) (ms : List Graph) (at : Graph) : Type 0 where
    before : List ℕ
    root : ℕ
    behind : List ℕ
    split : rs ≡ before ++ root ∷ behind
    long : length before ≡ length ms
    stages : AreStages P before ms
    is : IsStage P root at

  split_at : (rs : List ℕ) (ms : List Graph) (at : Graph) (more : List Graph) → AreStages P rs (ms ++ at ∷ more) → SplitAt rs ms at
  split_at [] [] at more s = absurd s
  split_at [] (m ∷ ms) at more s = absurd s
  split_at (r ∷ rs) [] at more s = record { before = []; root = r; behind = rs; split = refl; long = refl; stages = tt; is = s.0 }
  split_at (r ∷ rs) (m ∷ ms) at more s =
      let x = split_at rs ms at more s.1 in
      record { before = r ∷ x.before; root = x.root; behind = x.behind; split = ap (λ z. r ∷ z) x.split; long = ap suc x.long; stages = (s.0, x.stages); is = x.is }

  -- the machine of a stage
  machine_among : (rs : List ℕ) (ms : List Graph) → AreStages P rs ms → (r : ℕ) → IsAmong rs r → (m : Graph) × IsAmong ms m × IsStage P r m
  machine_among [] [] s r a = absurd a
  machine_among [] (m ∷ ms) s r a = absurd s
  machine_among (x ∷ rs) [] s r a = absurd s
  machine_among (x ∷ rs) (m ∷ ms) s r (inl a) = (m, inl refl, subst (λ z. IsStage P z m) a s.0)
  machine_among (x ∷ rs) (m ∷ ms) s r (inr a) = let y = machine_among rs ms s.1 r a in (y.0, inr y.1, y.2)

  -- the first machine that is so is that of the first stage that is so
  first_of_stages : (A : Graph → Type 0) (B : ℕ → Type 0) → ((r : ℕ) (m : Graph) → IsStage P r m → A m → B r) → ((r : ℕ) (m : Graph) → IsStage P r m → B r → A m) → (n : ℕ) (rs : List ℕ) (ms : List Graph) → AreStages P rs ms → IsFirst A ms n → IsFirst B rs n
  first_of_stages A B on back n rs ms s h =
      let x = split_at rs h.before h.at h.behind (subst (λ z. AreStages P rs z) h.split s) in
      record {
        before = x.before;
        at = x.root;
        behind = x.behind;
        split = x.split;
        number_is = h.number_is ∙ ap suc (sym x.long);
        is_so = on x.root h.at x.is h.is_so;
        none_before = λ r a q. let y = machine_among x.before h.before x.stages r a in h.none_before y.0 y.1 (back r y.0 y.2 q);
      }

  abbrev Many : ℕ → Type 0
  Many r = HasTooManyPairs P r most_pairs

  pairs_of_stage : (r : ℕ) (m : Graph) → IsStage P r m → HasMoreNodePairs limits m → Many r
  pairs_of_stage r m s h = (machines_ask_as_stage P r m most_pairs s.kept).more.1 h.1

  pairs_of_machine : limits.optimal ≡ true → (r : ℕ) (m : Graph) → IsStage P r m → Many r → HasMoreNodePairs limits m
  pairs_of_machine on r m s h = (on, (machines_ask_as_stage P r m most_pairs s.kept).more.0 h)

  -- no stage is so where no machine is
  none_of_stages : (A : Graph → Type 0) (B : ℕ → Type 0) → ((r : ℕ) (m : Graph) → IsStage P r m → B r → A m) → (rs : List ℕ) (ms : List Graph) → AreStages P rs ms → NoneIs A ms → NoneIs B rs
  none_of_stages A B back rs ms s none r a q = let y = machine_among rs ms s r a in none y.0 y.1 (back r y.0 y.2 q)

  pub keeps_to_pairs : (rs : List ℕ) (ms : List Graph) → AreStages P rs ms → NoneIs (HasMoreNodePairs limits) ms → limits.optimal ≡ true → NoneIs (λ r. Many r) rs
  keeps_to_pairs rs ms s none on = none_of_stages (HasMoreNodePairs limits) (λ r. Many r) (pairs_of_machine on) rs ms s none

  -- why stages have no plans
  pub unplanned_by : (ms : List Graph) (e : PlanRefusal) → AllRun P → KeepsToOneStage limits P → AreStages P (roots_of P) ms → IsUntabled limits ms e → IsUnplanned limits P e
  unplanned_by ms (TooManyStates n) run one s (on, first) = (run, one, on, first_of_stages (HasMoreNodes limits) (HasTooManyStates limits P) more_places more_nodes n (roots_of P) ms s first)
  unplanned_by ms (TooManyPairs n) run one s (few, first) =
      let on = first.is_so.0 in
      (run, one, λ tables. none_of_stages (HasMoreNodes limits) (HasTooManyStates limits P) more_nodes (roots_of P) ms s few, on, first_of_stages (HasMoreNodePairs limits) (λ r. Many r) pairs_of_stage (pairs_of_machine on) n (roots_of P) ms s first)
  unplanned_by ms Memory run one s h = tt
  unplanned_by ms (TooManyPlaces n) run one s h = absurd h
  unplanned_by ms (NoText n) run one s h = absurd h
  unplanned_by ms OneStage run one s h = absurd h
