-- Two programs that one text spells answer alike: their stages, and so their pipelines.
use Rattle.std.proofs.Common.{◌≡◌, ◌↔◌, ◌≤◌, ℕ, suc, Bool, List, [], ◌∷◌, ◌⊎◌, inl, inr, Option, length, refl, sym, ◌∙◌, subst, arith}
use Rattle.kex_code.specs.Codes.{Before, IsAmong, HasNumber}
use Rattle.kex_model.specs.Programs.{Grammar}
use Rattle.kex_model.specs.Trees.{Tree, Parses, kind_at}
use Rattle.kex_model.specs.Moves.{code_of}
use Rattle.kex_model.specs.Places.{Place, moves, start_of, steps_of}
use Rattle.kex_model.specs.Survivors.{IsPath}
use Rattle.kex_model.specs.Answers.{code_at, IsParse, HasParse, Means, Says, Viable, Answer, Report, Pipeline}
use Rattle.kex_model.specs.Laws.{StageAnswers, StagesAnswer}
use Rattle.kex_model.proofs.DistinctItems.{among_get}
use Rattle.kex_model.proofs.Derivations.{steps-code}
use Rattle.kex_model.proofs.Correspondence.{one_to_one, to_parse}
use Rattle.kex_rules.specs.Rules.{IsRuled}
use Rattle.kex_reader.specs.Spelling.{Spells}
use Rattle.kex_lowering.proofs.SameAnswers.{Serves, answers_so}
use Rattle.kex_compile.specs.declared.limits.Limits.{Limits}
use Rattle.kex_compile.specs.Stages.{AllRun, CanRun, HaveInAll, HaveStatesInAll, most_pairs, most_places, roots_of}
use Rattle.kex_compile.specs.Compiled.{Accepts, AnswersAlike, MeansAlike}
use Rattle.kex_compile.proofs.Terms.{SameName}
use Rattle.kex_compile.proofs.Alike.{Alike, name_back}
use Rattle.kex_compile.proofs.SameRules.{defined_on, not_tail_on, once_back, stage_on as start_on, use_on}
use Rattle.kex_compile.proofs.PlacePairs.{SamePlace, empty, Partners, partners_on, end_ahead, more_on}
use Rattle.kex_compile.proofs.PairCounts.{pairs_there}
use Rattle.kex_compile.proofs.StagePairs.{Known, Pairwise, pair_on, pair_at, Both, roots, same_count}
use Rattle.kex_compile.proofs.PlaceCounts.{as_many_in_all}
use Rattle.kex_compile.proofs.SurvivorPairs.{agreed_on, reach_on, viable_back, viable_on}
use Rattle.kex_compile.proofs.States.{all_states, states_there}
use Rattle.kex_compile.proofs.SameMeanings.{Same, same_empty, tree_on, code_on, part_on, meaning_on}

-- ---- trees

module _ (P Q : Grammar) (a : Alike P Q) (known : Known P) (root root' : ℕ) (same : Partners P Q a known root root') where
  same_kind : Same P Q a known (kind_at P root) (kind_at Q root')
  same_kind = partners_on P Q a known root root' same

  parses_on : (t : Tree) (w : List ℕ) → Parses P root t w → Parses Q root' t w
  parses_on t w h = record { tree = tree_on P Q a known same_kind h.tree; text = h.text }

  codes_on : (t : Tree) (w : List ℕ) → Parses P root t w → code_at P root t ≡ code_at Q root' t
  codes_on t w h = code_on P Q a known same_kind h.tree

  empty_on : {S : ℕ → ℕ → Type 0} {q : Place} → SamePlace S [] q → q ≡ []
  empty_on empty = refl

  -- a parse in one is a parse in the other: its steps are paired with those of the only tree of its code
  parse_on : (t : Tree) (w : List ℕ) → IsParse P root t w → IsParse Q root' t w
  parse_on t w h =
      let steps = steps_of P root (kind_at P root) t [] in
      let r = reach_on P Q a known root root' same w [] (code_of steps) (steps, h.path, refl) in
      let path : IsPath (moves Q) (start_of Q root') w [] r.2.0 = subst (λ z. IsPath (moves Q) (start_of Q root') w z r.2.0) (empty_on r.1) r.2.1 in
      let s = to_parse Q root' w r.2.0 path in
      let codes : code_at Q root' s.0 ≡ code_at Q root' t = s.2 ∙ r.2.2 ∙ steps-code P root [] h.derives.tree ∙ codes_on t w h.derives in
      let one : s.0 ≡ t = (one_to_one Q root' w).one_tree s.0 t s.1.derives (parses_on t w h.derives) codes in
      subst (λ z. IsParse Q root' z w) one s.1

-- ---- answers

module _ (P Q : Grammar) (a : Alike P Q) (known : Known P) (root root' : ℕ) (same : Partners P Q a known root root') where
  says_on : (w text : List ℕ) → Says P root w text → Says Q root' w text
  says_on w text h = record {
    agreed = h.agreed;
    is_agreed = agreed_on P Q a known root root' same w h.agreed h.is_agreed;
    tree = h.tree;
    more = h.more;
    parses = parses_on P Q a known root root' same h.tree _ h.parses;
    begins = (h.begins.0, sym (codes_on P Q a known root root' same h.tree _ h.parses) ∙ h.begins.1);
    said = h.said ∙ (part_on P Q a known (same_kind P Q a known root root' same) h.parses.tree h.agreed _ _ (same_empty P Q a)).bytes;
  }

  module _ (parses_back : (t : Tree) (w : List ℕ) → IsParse Q root' t w → IsParse P root t w) where
    means_on : (w text : List ℕ) → Means P root w text → Means Q root' w text
    means_on w text (t, g, e) = (
      t,
      record {
        parses = parse_on P Q a known root root' same t w g.parses;
        least = λ s h.
            let k = parses_back s w h in
            subst (λ z. (z ≡ code_at Q root' s) ⊎ Before z (code_at Q root' s)) (codes_on P Q a known root root' same t w g.parses.derives) (subst (λ z. (code_at P root t ≡ z) ⊎ Before (code_at P root t) z) (codes_on P Q a known root root' same s w k.derives) (g.least s k));
      },
      e ∙ meaning_on P Q a known (same_kind P Q a known root root' same) g.parses.derives.tree,
    )

    serves : Serves (Viable P root) (Viable Q root') (Says P root) (Says Q root') (HasParse P root) (HasParse Q root') (Means P root) (Means Q root')
    serves = record { good = viable_on P Q a known root root' same; good_back = viable_back P Q a known root root' same; says = says_on; parsed_back = λ w h. (h.0, parses_back h.0 w h.1); means = means_on }

    stage_on : (limit : ℕ) (w : List ℕ) (e : Bool) (x : Answer) → StageAnswers P root limit w e x → StageAnswers Q root' limit w e x
    stage_on limit w e x h = answers_so (Viable P root) (Viable Q root') (Says P root) (Says Q root') (HasParse P root) (HasParse Q root') (Means P root) (Means Q root') serves limit h

-- ---- programs

-- two alike programs in which each name that is used is defined
record BothRun (P Q : Grammar) : Type 0 where
  to : Alike P Q
  fro : Alike Q P
  known : Known P
  known' : Known Q

module _ (P Q : Grammar) (h : BothRun P Q) where
  -- the roots of a stage
  abbrev Roots : ℕ → ℕ → Type 0
  Roots = Both P Q h.to h.fro h.known h.known'

  all_roots : Pairwise Roots (roots_of P) (roots_of Q)
  all_roots = roots P Q h.to h.fro h.known h.known'

  one_means : (r q : ℕ) → Roots r q → IsAmong (roots_of P) r → IsAmong (roots_of Q) q → (w text : List ℕ) → Means P r w text → Means Q q w text
  one_means r q p i j w text m = means_on P Q h.to h.known r q p.0 (λ t v k. parse_on Q P h.fro h.known' q r p.1 t v k) w text m

  one_answers : (r q : ℕ) → Roots r q → IsAmong (roots_of P) r → IsAmong (roots_of Q) q → (limit : ℕ) (w : List ℕ) (e : Bool) (x : Answer) → StageAnswers P r limit w e x → StageAnswers Q q limit w e x
  one_answers r q p i j limit w e x m = stage_on P Q h.to h.known r q p.0 (λ t v k. parse_on Q P h.fro h.known' q r p.1 t v k) limit w e x m

  stages_mean : (i r q : ℕ) (w text : List ℕ) → HasNumber (roots_of P) r i → HasNumber (roots_of Q) q i → Means P r w text → Means Q q w text
  stages_mean i r q w text k l m = one_means r q (pair_at Roots (roots_of P) (roots_of Q) all_roots i r q k l) (among_get (roots_of P) i r k) (among_get (roots_of Q) i q l) w text m

  stages_answer : (limit i : ℕ) (rs qs : List ℕ) (w : List ℕ) (e : Bool) (said : List ℕ) (report : Option Report) → Pairwise Roots rs qs → ((r : ℕ) → IsAmong rs r → IsAmong (roots_of P) r) → ((q : ℕ) → IsAmong qs q → IsAmong (roots_of Q) q) → Pipeline (λ root v f x. StageAnswers P root limit v f x) i rs w e said report → Pipeline (λ root v f x. StageAnswers Q root limit v f x) i qs w e said report
  unfolding Pairwise
  stages_answer limit i [] [] w e said report p f g m = m
  stages_answer limit i [] (q ∷ qs) w e said report p f g m = absurd p
  stages_answer limit i (r ∷ rs) [] w e said report p f g m = absurd p
  stages_answer limit i (r ∷ rs) (q ∷ qs) w e said report p f g (x, rest, gives, more, is) = (
    x,
    rest,
    one_answers r q p.0 (f r (inl refl)) (g q (inl refl)) limit w e x gives,
    stages_answer limit (suc i) rs qs x.text x.ended said rest p.1 (λ y j. f y (inr j)) (λ y j. g y (inr j)) more,
    is,
  )

  pipeline_answers : (limit : ℕ) (w : List ℕ) (e : Bool) (said : List ℕ) (report : Option Report) → StagesAnswer P limit (roots_of P) w e said report → StagesAnswer Q limit (roots_of Q) w e said report
  pipeline_answers limit w e said report m = stages_answer limit 1 (roots_of P) (roots_of Q) w e said report all_roots (λ r i. i) (λ q i. i) m

-- ---- texts

-- a name that is used is defined, where it is so in the other program
known_on : (P Q : Grammar) → Alike P Q → Alike Q P → Known P → Known Q
known_on P Q a b known name at u =
    let x = use_on Q P b name at u in
    defined_on P Q a x.0 name (name_back Q.names P.names name x.0 x.1) (known x.0 at x.2)

ruled_on : (P Q : Grammar) → Alike P Q → Alike Q P → IsRuled P → IsRuled Q
ruled_on P Q a b r = record {
  once = once_back Q P b r.once;
  known = known_on P Q a b r.known;
  begins = let t = start_on (SameName P.names Q.names) P.stages Q.stages a.stages r.begins.0 r.begins.1 in (t.0, t.1);
  tail = λ at n. r.tail at (not_tail_on Q P b at n);
}

can_run_on : (P Q : Grammar) (a : Alike P Q) (b : Alike Q P) (known : Known P) (known' : Known Q) (r q : ℕ) → Both P Q a b known known' r q → CanRun P r → CanRun Q q
can_run_on P Q a b known known' r q p h = record {
  few = λ m. h.few (more_on Q P b known' q r p.1 most_places m);
  some_text = end_ahead P Q a known r q p.0 h.some_text;
}

all_run_on : (P Q : Grammar) (a : Alike P Q) (b : Alike Q P) (known : Known P) (known' : Known Q) → AllRun P → AllRun Q
all_run_on P Q a b known known' run q i =
    let x = pair_on (Both Q P b a known' known) (roots_of Q) (roots_of P) (roots Q P b a known' known) q i in
    can_run_on P Q a b known known' x.0 q (x.2.1, x.2.0) (run x.0 x.1)

module _ (limits : Limits) (text : List ℕ) (alike : (P Q : Grammar) → Spells text P → Spells text Q → Alike P Q) where
  -- if one program of the text is accepted, all are
  pub accepts : (P Q : Grammar) → Accepts limits text P → Spells text Q → Accepts limits text Q
  accepts P Q ok s =
      let a = alike P Q ok.spells s in
      let b = alike Q P s ok.spells in
      let ruled = ruled_on P Q a b ok.ruled in
      let run = all_run_on P Q a b ok.ruled.known ruled.known ok.stages in
      record {
        spells = s;
        ruled = ruled;
        stages = run;
        states = λ asked q i many.
            let x = states_there P Q limits a b ok.ruled.known ruled.known ok.stages run q i many in
            ok.states asked x.0 x.1 x.2;
        pairs = λ asked q i many.
            let x = pairs_there P Q a b ok.ruled.known ruled.known most_pairs q i many in
            ok.pairs asked x.0 x.1 x.2;
        one_stage = λ on. let le : length P.stages ≤ 1 = ok.one_stage on in omega (arith, same_count (SameName P.names Q.names) P.stages Q.stages a.stages);
      }

  both_run : (P Q : Grammar) → Accepts limits text P → Accepts limits text Q → BothRun P Q
  both_run P Q h k = record {
    to = alike P Q h.spells k.spells;
    fro = alike Q P k.spells h.spells;
    known = h.ruled.known;
    known' = k.ruled.known;
  }

  as_many : (P Q : Grammar) (total : ℕ) → BothRun P Q → HaveInAll P (roots_of P) total → HaveInAll Q (roots_of Q) total
  as_many P Q total h m = as_many_in_all P Q h.to h.fro h.known h.known' (roots_of P) (roots_of Q) total (all_roots P Q h) m

  pub counted : (P Q : Grammar) (total : ℕ) → Accepts limits text P → Spells text Q → HaveInAll P (roots_of P) total ↔ HaveInAll Q (roots_of Q) total
  counted P Q total ok s =
      let also = accepts P Q ok s in
      (as_many P Q total (both_run P Q ok also), as_many Q P total (both_run Q P also ok))

  pub states_counted : (P Q : Grammar) (total : ℕ) → Accepts limits text P → Spells text Q → HaveStatesInAll P (roots_of P) total ↔ HaveStatesInAll Q (roots_of Q) total
  states_counted P Q total ok s =
      let also = accepts P Q ok s in
      let a = alike P Q ok.spells s in
      let b = alike Q P s ok.spells in
      (all_states P Q limits a b ok.ruled.known also.ruled.known ok.stages also.stages total, all_states Q P limits b a also.ruled.known ok.ruled.known also.stages ok.stages total)

  pub meant : (P Q : Grammar) → Accepts limits text P → Spells text Q → MeansAlike P Q
  meant P Q ok s = λ i r q input said k l.
      let also = accepts P Q ok s in
      (stages_mean P Q (both_run P Q ok also) i r q input said k l, stages_mean Q P (both_run Q P also ok) i q r input said l k)

  pub answered : (P Q : Grammar) → Accepts limits text P → Spells text Q → AnswersAlike P Q
  answered P Q ok s = λ limit input ended said report.
      let also = accepts P Q ok s in
      (pipeline_answers P Q (both_run P Q ok also) limit input ended said report, pipeline_answers Q P (both_run Q P also ok) limit input ended said report)
