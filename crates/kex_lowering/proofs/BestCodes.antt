-- What is best of a text over places is what is best of it over nodes, and what is said of it grows.
use Rattle.std.proofs.Common.{◌≡◌, ℕ, List, [], ◌++◌, length, refl, sym, ap, subst, ◌∙◌, append-nil, append_assoc, length-append, arith}
use Rattle.kex_code.specs.declared.symbol.Symbol.{Symbol}
use Rattle.kex_code.specs.Codes.{bytes_of, AtMost, Begins}
use Rattle.kex_model.specs.Programs.{Grammar}
use Rattle.kex_model.specs.Trees.{Tree, kind_at, meaning, part_meaning}
use Rattle.kex_model.specs.Answers.{GreedyParse, HasParse, Means, Viable, code_at, empty}
use Rattle.kex_model.proofs.Derivations.{code-bytes}
use Rattle.kex_model.proofs.Orders.{at_most_both, begins_trans}
use Rattle.kex_model.proofs.Correspondence.{one_to_one}
use Rattle.kex_model.proofs.PartialMeanings.{part_whole}
use Rattle.kex_model.proofs.SaidTexts.{more_written, survivor_of, parse_of_survivor, means_good, grows}
use Rattle.kex_model.proofs.OpenAnswers.{Orderly, stays, one_answer}
use Rattle.kex_machine.specs.Nodes.{Graph}
use Rattle.kex_machine.specs.Answers.{HasRun, IsGreedy, IsViableFor, MeansByRun}
use Rattle.kex_machine.specs.Covering.{Best, SaysBest, cut_behind}
use Rattle.kex_machine.proofs.BestAnswers.{cut_later, cut_front}
use Rattle.kex_lowering.specs.Best.{BestCode, SaysBestCode, CarriesBest, BestStageStands}
use Rattle.kex_lowering.specs.Stages.{Carries}
use Rattle.kex_lowering.proofs.SameAnswers.{Serves, answers_so}

module _ (P : Grammar) (root : ℕ) (m : Graph) (same : Carries P root m) where
  -- the greedy parses are the same
  greedy_on : (w : List ℕ) (t : Tree) → GreedyParse P root w t → IsGreedy m w (code_at P root t)
  greedy_on w t g = record {
    parse = (same.parsed w).0 (t, g.parses);
    greedy = (same.greedy w (code_at P root t)).0 (survivor_of P root w t g);
    least = λ d h. let u = parse_of_survivor P root w d ((same.greedy w d).1 h) in subst (λ z. AtMost (code_at P root t) z) u.2 (g.least u.0 u.1.parses);
  }

  greedy_back : (w : List ℕ) (d : List Symbol) → IsGreedy m w d → (t : Tree) × GreedyParse P root w t × (code_at P root t ≡ d)
  greedy_back w d g = parse_of_survivor P root w d ((same.greedy w d).1 g.greedy)

  best_on : (w : List ℕ) (c : List Symbol) → BestCode P root w c → Best m w c
  best_on w c h = record {
    viable = (same.viable w).0 h.viable;
    common = λ x d g. let t = greedy_back (w ++ x) d g in subst (λ z. Begins (cut_behind (length w) z) c) t.2 (h.common x t.0 t.1);
    longest = λ c' all. h.longest c' (λ x t g. all x (code_at P root t) (greedy_on (w ++ x) t g));
  }

  best_back : (w : List ℕ) (c : List Symbol) → Best m w c → BestCode P root w c
  best_back w c h = record {
    viable = (same.viable w).1 h.viable;
    common = λ x t g. h.common x (code_at P root t) (greedy_on (w ++ x) t g);
    longest = λ c' all. h.longest c' (λ x d g. let t = greedy_back (w ++ x) d g in subst (λ z. Begins (cut_behind (length w) z) c') t.2 (all x t.0 t.1));
  }

  -- what is said
  says_on : (w text : List ℕ) → SaysBestCode P root w text → SaysBest m w text
  says_on w text h =
      let x = same.runs h.tree h.parses.tree in record {
        agreed = h.best;
        is_agreed = best_on w h.best h.is_best;
        run = x.0;
        runs = x.1;
        reads = (h.more, ap bytes_of x.2.codes ∙ code-bytes P h.parses.tree ∙ h.parses.text);
        begins = (h.begins.0, x.2.codes ∙ h.begins.1);
        said = h.said ∙ sym (x.2.written h.best);
      }

  says_back : (w text : List ℕ) → SaysBest m w text → SaysBestCode P root w text
  says_back w text h =
      let x = same.trees h.run h.runs in record {
        best = h.agreed;
        is_best = best_back w h.agreed h.is_agreed;
        tree = x.0;
        more = h.reads.0;
        parses = record { tree = x.1; text = sym (code-bytes P x.1) ∙ ap bytes_of (sym x.2.codes) ∙ h.reads.1 };
        begins = (h.begins.0, sym x.2.codes ∙ h.begins.1);
        said = h.said ∙ x.2.written h.agreed;
      }

  on_nodes : Serves (Viable P root) (IsViableFor m) (SaysBestCode P root) (SaysBest m) (HasParse P root) (HasRun m) (Means P root) (MeansByRun m)
  on_nodes = record {
    good = λ w. (same.viable w).0;
    good_back = λ w. (same.viable w).1;
    says = says_on;
    parsed_back = λ w. (same.parsed w).1;
    means = λ w s. (same.means w s).0;
  }

  on_places : Serves (IsViableFor m) (Viable P root) (SaysBest m) (SaysBestCode P root) (HasRun m) (HasParse P root) (MeansByRun m) (Means P root)
  on_places = record {
    good = λ w. (same.viable w).1;
    good_back = λ w. (same.viable w).0;
    says = says_back;
    parsed_back = λ w. (same.parsed w).0;
    means = λ w s. (same.means w s).1;
  }

  pub carries_best : CarriesBest P root m
  carries_best = record {
    best = λ w c. (best_on w c, best_back w c);
    says = λ w text. (says_on w text, says_back w text);
    answers = λ limit w e a. (
      (λ h. answers_so (Viable P root) (IsViableFor m) (SaysBestCode P root) (SaysBest m) (HasParse P root) (HasRun m) (Means P root) (MeansByRun m) on_nodes limit h),
      (λ h. answers_so (IsViableFor m) (Viable P root) (SaysBest m) (SaysBestCode P root) (HasRun m) (HasParse P root) (MeansByRun m) (Means P root) on_places limit h),
    );
  }

module _ (P : Grammar) (root : ℕ) where
  -- a text's best code begins with that of its front
  best_grows : (w v : List ℕ) (c d : List Symbol) → BestCode P root w c → BestCode P root (w ++ v) d → Begins d c
  best_grows w v c d h k = k.longest c (λ x t g.
      let code = code_at P root t in
      begins_trans c (cut_behind (length w) code) (cut_behind (length (w ++ v)) code)
      (cut_later (length w) (length (w ++ v)) code (omega (arith, length-append w v)))
      (h.common (v ++ x) t (subst (λ z. GreedyParse P root z t) (append_assoc w v x) g)))

  -- and so does the code of its greedy parse
  best_greedy : (w v : List ℕ) (c : List Symbol) (t : Tree) → BestCode P root w c → GreedyParse P root (w ++ v) t → Begins (code_at P root t) c
  best_greedy w v c t h g = begins_trans c (cut_behind (length w) (code_at P root t)) (code_at P root t) (cut_front (length w) (code_at P root t)) (h.common v t g)

  said_grows : (w x s t : List ℕ) → Begins x w → SaysBestCode P root w s → SaysBestCode P root x t → Begins t s
  said_grows w x s t p h k =
      let more = best_grows w p.0 h.best k.best h.is_best (subst (λ z. BestCode P root z k.best) p.1 k.is_best) in
      let b = more_written P root h.tree k.tree h.best k.best h.parses.tree k.parses.tree h.begins k.begins more in
      (b.0, k.said ∙ b.1 ∙ ap (λ z. z ++ b.0) (sym h.said))

  meant_grows : (w x s t : List ℕ) → Begins x w → SaysBestCode P root w s → Means P root x t → Begins t s
  meant_grows w x s t p h (u, g, e) =
      let k = kind_at P root in
      let code = code_at P root u in
      let more = best_greedy w p.0 h.best u h.is_best (subst (λ z. GreedyParse P root z u) p.1 g) in
      let b = more_written P root h.tree u h.best code h.parses.tree g.parses.derives.tree h.begins ([], sym (append-nil code)) more in
      let all : (part_meaning P k u code (empty P)).bytes ≡ (meaning P k u (empty P)).bytes = ap (λ z. (part_meaning P k u z (empty P)).bytes) (sym (append-nil code)) ∙ ap (λ z. z.bytes) (part_whole P [] (empty P) g.parses.derives.tree) in
      (b.0, e ∙ sym all ∙ b.1 ∙ ap (λ z. z ++ b.0) (sym h.said))

  pub best_orderly : Orderly (Viable P root) (SaysBestCode P root) (HasParse P root) (Means P root)
  best_orderly = record {
    front = λ w x p g. (grows P root w p.0).viable (subst (λ z. Viable P root z) p.1 g);
    said = said_grows;
    meant = meant_grows;
    good = λ w s h. means_good P root w s h;
  }

  one_meaning : (w s t : List ℕ) → Means P root w s → Means P root w t → s ≡ t
  one_meaning w s t h k =
      let codes : code_at P root h.0 ≡ code_at P root k.0 = at_most_both (code_at P root h.0) (code_at P root k.0) (h.1.least k.0 k.1.parses) (k.1.least h.0 h.1.parses) in
      let trees : h.0 ≡ k.0 = (one_to_one P root w).one_tree h.0 k.0 h.1.parses.derives k.1.parses.derives codes in
      h.2 ∙ ap (λ (z : Tree). (meaning P (kind_at P root) z (empty P)).bytes) trees ∙ sym k.2

  pub best_stands : (limit : ℕ) → BestStageStands P root limit
  best_stands limit = record {
    one = λ w e a b h k. one_answer (Viable P root) (SaysBestCode P root) (HasParse P root) (Means P root) best_orderly limit (λ u s x. (x.0, x.1.parses)) one_meaning h k;
    grows = λ w v e a b h k. (stays (Viable P root) (SaysBestCode P root) (HasParse P root) (Means P root) best_orderly limit (v, refl) h k).0;
    stays = λ w v e a b h k. (stays (Viable P root) (SaysBestCode P root) (HasParse P root) (Means P root) best_orderly limit (v, refl) h k).1;
  }
