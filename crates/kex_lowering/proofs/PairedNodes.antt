-- What holds of a stage's places holds of the nodes that are paired with them, and back.
use Rattle.std.proofs.Common.{◌≡◌, ℕ, List, [], ◌∷◌, ◌++◌, length, refl, sym, ap, ap₂, subst, ◌∙◌, append-nil, le_refl}
use Rattle.kex_code.specs.declared.symbol.Symbol.{Symbol}
use Rattle.kex_code.specs.Codes.{bytes_of, AtMost, HasNumber}
use Rattle.kex_model.specs.Programs.{Grammar}
use Rattle.kex_model.specs.Trees.{Tree, IsTree, kind_at, yield_of, meaning, part_meaning}
use Rattle.kex_model.specs.Moves.{Move, Step, took, chose, went, code_of, Walk}
use Rattle.kex_model.specs.Acting.{ActingState, after_append, after_effect, after_steps}
use Rattle.kex_model.specs.Places.{Place, moves, start_of, steps_of}
use Rattle.kex_model.specs.Survivors.{LeadsToEnd, Reaches, Survives, IsViable, Agreed, Greedy}
use Rattle.kex_model.specs.Alike.{Alike}
use Rattle.kex_model.specs.Answers.{empty, code_at}
use Rattle.kex_model.specs.Answers as places
use Rattle.kex_model.proofs.Derivations.{itself, tree_walk, steps-code, code-bytes, same_tree, walk_tree}
use Rattle.kex_model.proofs.Effects.{done_all}
use Rattle.kex_model.proofs.PartialMeanings.{part_whole}
use Rattle.kex_model.proofs.Correspondence.{from_tree}
use Rattle.kex_model.proofs.SaidTexts.{survivor_of, end_is_empty, parse_of_survivor}
use Rattle.kex_model.proofs.Tables.{some_same}
use Rattle.kex_model.proofs.Transfer.{Paired, paired_code, walk_ahead, walk_back, reach_back, survives_ahead, survives_back, viable_ahead, agreed_ahead}
use Rattle.kex_machine.specs.Nodes.{Graph, node_moves}
use Rattle.kex_machine.specs.Answers as nodes
use Rattle.kex_desugar.specs.Machines.{IsMachineOf}
use Rattle.kex_trim.specs.Trim.{IsTrimOf}
use Rattle.kex_trim.proofs.KeptNodes.{alike_kept}
use Rattle.kex_lowering.specs.Stages.{Carries, SameRun}
use Rattle.kex_lowering.specs.Shapes.{SameShapes, MachineAnswersAsPlaces, WasPlaceOf}
use Rattle.kex_lowering.proofs.Pairs.{Through, alike_through, end_back}
use Rattle.kex_lowering.proofs.PlaceNodes.{Numbered, alike, alike_back}
use Rattle.kex_lowering.proofs.SameShapes.{same_shapes, same_paths}
use Rattle.kex_lowering.proofs.SameAnswers.{Serves, answers_so}

-- paired steps do the same
same_done : {S T : Type 0} (f : S → Move S) (g : T → Move T) (R : S → T → Type 0) (ks : List (Step S)) (js : List (Step T)) (c : List Symbol) (st : ActingState) → Paired f g R ks js → after_steps ks c st ≡ after_steps js c st
same_done f g R [] [] c st p = refl
same_done f g R (went d s ∷ ks) (went e t ∷ js) c st p = ap (λ z. after_steps ks c (after_effect z st)) p.0 ∙ same_done f g R ks js c (after_effect e st) p.2
same_done f g R (chose x s ∷ ks) (chose y t ∷ js) [] st p = refl
same_done f g R (chose x s ∷ ks) (chose y t ∷ js) (z ∷ c) st p = same_done f g R ks js c st p.2
same_done f g R (took a s ∷ ks) (took b t ∷ js) [] st p = refl
same_done f g R (took a s ∷ ks) (took b t ∷ js) (z ∷ c) st p = ap (λ q. after_steps ks c (after_append (q ∷ []) st.out st.buffers st.registers)) p.0 ∙ same_done f g R ks js c (after_append (b ∷ []) st.out st.buffers st.registers) p.2
same_done f g R [] (j ∷ js) c st p = absurd p
same_done f g R (took a s ∷ ks) [] c st p = absurd p
same_done f g R (chose x s ∷ ks) [] c st p = absurd p
same_done f g R (went d s ∷ ks) [] c st p = absurd p
same_done f g R (took a s ∷ ks) (chose y t ∷ js) c st p = absurd p.0
same_done f g R (took a s ∷ ks) (went e t ∷ js) c st p = absurd p.0
same_done f g R (chose x s ∷ ks) (took b t ∷ js) c st p = absurd p.0
same_done f g R (chose x s ∷ ks) (went e t ∷ js) c st p = absurd p.0
same_done f g R (went d s ∷ ks) (took b t ∷ js) c st p = absurd p.0
same_done f g R (went d s ∷ ks) (chose y t ∷ js) c st p = absurd p.0

module _ (P : Grammar) (root : ℕ) (m : Graph) (R : Place → ℕ → Type 0) (a : Alike (λ p. moves P p) (λ n. node_moves m.nodes n) R) (start : R (start_of P root) m.start) (same : m.registers ≡ P.registers) where
  abbrev f : Place → Move Place
  f p = moves P p

  abbrev g : ℕ → Move ℕ
  g n = node_moves m.nodes n

  abbrev s₀ : Place
  s₀ = start_of P root

  -- survivors, and what they agree on

  path_back : (w : List ℕ) (n : ℕ) (c : List Symbol) → Reaches g m.start w n c → (p : Place) × R p n × Reaches f s₀ w p c
  path_back w n c r = reach_back f g R a s₀ m.start start w n c r

  to_node : (w : List ℕ) (p : Place) (c : List Symbol) → Survives f s₀ w p c → (n : ℕ) × R p n × Survives g m.start w n c
  to_node w p c s = survives_ahead f g R a s₀ m.start start w p c s

  to_place : (w : List ℕ) (n : ℕ) (c : List Symbol) → Survives g m.start w n c → (p : Place) × R p n × Survives f s₀ w p c
  to_place w n c s = survives_back f g R a s₀ m.start start w n c s

  viable_on : (w : List ℕ) → IsViable f s₀ w → IsViable g m.start w
  viable_on w v = viable_ahead f g R a s₀ m.start start w v

  viable_back : (w : List ℕ) → IsViable g m.start w → IsViable f s₀ w
  viable_back w (n, (c, reached, end)) = let x = path_back w n c reached in (x.0, (c, x.2, end_back f g R a x.0 n x.1 end))

  agreed_back : (w : List ℕ) (c : List Symbol) → Agreed g m.start w c → Agreed f s₀ w c
  agreed_back w c h = record {
    viable = viable_back w h.viable;
    common = λ p d s. let x = to_node w p d s in h.common x.0 d x.2;
    longest = λ c' all. h.longest c' (λ n d s. let x = to_place w n d s in all x.0 d x.2);
  }

  agreed_on : (w : List ℕ) (c : List Symbol) → Agreed f s₀ w c → Agreed g m.start w c
  agreed_on w c h = agreed_ahead f g R a s₀ m.start start w c h

  greedy_on : (w : List ℕ) (c : List Symbol) → Greedy f s₀ w c → Greedy g m.start w c
  greedy_on w c (p, acc, s) = let x = to_node w p c s in (x.0, a.ends p x.0 x.1 acc, x.2)

  greedy_back : (w : List ℕ) (c : List Symbol) → Greedy g m.start w c → Greedy f s₀ w c
  greedy_back w c (n, acc, s) = let x = to_place w n c s in (x.0, a.ends_back x.0 n x.1 acc, x.2)

  -- runs and trees

  abbrev steps_at : Tree → List (Step Place)
  steps_at t = steps_of P root (kind_at P root) t []

  -- the run takes the tree's steps
  record Follows (t : Tree) (js : List (Step ℕ)) : Type 0 where
    is_tree : IsTree P (kind_at P root) t
    runs : nodes.IsRun m js
    paired : Paired f g R (steps_at t) js

  run_of_tree : (t : Tree) → IsTree P (kind_at P root) t → (js : List (Step ℕ)) × Follows t js
  run_of_tree t it =
      let x = walk_ahead f g R a (steps_at t) s₀ [] m.start (tree_walk P root [] (itself P root) it) ([], [], refl, refl) start in
      (x.0, record { is_tree = it; runs = (x.1, x.2, a.ends [] x.1 x.3 refl); paired = x.4 })

  tree_of_run : (js : List (Step ℕ)) → nodes.IsRun m js → (t : Tree) × Follows t js
  tree_of_run js (e, w, acc) =
      let x = walk_back f g R a js s₀ m.start e w start in
      let at_end : x.1 ≡ [] = end_is_empty P root x.1 (a.ends_back x.1 e x.3 acc) in
      let s = walk_tree P (length x.0) root (kind_at P root) [] x.0 (le_refl (length x.0)) (itself P root) (subst (λ z. Walk f s₀ x.0 z) at_end x.2) in
      whole x.0 x.4 s.tree s.tail s.is_tree s.same s.goes_on
    where
      whole : (ks : List (Step Place)) → Paired f g R ks js → (t : Tree) (tail : List (Step Place)) → IsTree P (kind_at P root) t → ks ≡ steps_at t ++ tail → Walk f [] tail [] → (t : Tree) × Follows t js
      whole ks p t [] it is goes = (t, record { is_tree = it; runs = (e, w, acc); paired = subst (λ z. Paired f g R z js) (is ∙ append-nil (steps_at t)) p })
      whole ks p t (k ∷ tail) it is goes = elim goes.0 [ ]

  codes_of : (t : Tree) (js : List (Step ℕ)) → Follows t js → code_of js ≡ code_at P root t
  codes_of t js h = sym (paired_code f g R (steps_at t) js h.paired) ∙ steps-code P root [] h.is_tree

  text_read : (t : Tree) (js : List (Step ℕ)) → Follows t js → bytes_of (code_of js) ≡ yield_of t
  text_read t js h = ap bytes_of (codes_of t js h) ∙ code-bytes P h.is_tree

  -- what the run leaves is the tree's part
  part_left : (t : Tree) (js : List (Step ℕ)) (c : List Symbol) → Follows t js → (nodes.left_by m js c).out ≡ (part_meaning P (kind_at P root) t c (empty P)).bytes
  part_left t js c h =
      ap (λ z. (after_steps js c (nodes.start_state z)).out) same
      ∙ ap (λ z. z.out) (sym (same_done f g R (steps_at t) js c (nodes.start_state P.registers) h.paired))
      ∙ (done_all P root t c (empty P) [] h.is_tree).written

  registers_left : (t : Tree) (js : List (Step ℕ)) (c : List Symbol) → Follows t js → (nodes.left_by m js c).registers ≡ (part_meaning P (kind_at P root) t c (empty P)).registers
  registers_left t js c h =
      ap (λ z. (after_steps js c (nodes.start_state z)).registers) same
      ∙ ap (λ z. z.registers) (sym (same_done f g R (steps_at t) js c (nodes.start_state P.registers) h.paired))
      ∙ (done_all P root t c (empty P) [] h.is_tree).held

  same_run : (t : Tree) (js : List (Step ℕ)) → Follows t js → SameRun P root m t js
  same_run t js h = record { codes = codes_of t js h; written = λ c. part_left t js c h; registers = λ c. registers_left t js c h }

  whole_part : (t : Tree) → IsTree P (kind_at P root) t → (part_meaning P (kind_at P root) t (code_at P root t) (empty P)).bytes ≡ (meaning P (kind_at P root) t (empty P)).bytes
  whole_part t it = ap (λ z. (part_meaning P (kind_at P root) t z (empty P)).bytes) (sym (append-nil (code_at P root t))) ∙ ap (λ z. z.bytes) (part_whole P [] (empty P) it)

  -- all paths to the end lead to the empty place, so the least of one is the least of all
  least_at_end : (w : List ℕ) (c d : List Symbol) → Greedy f s₀ w c → Greedy f s₀ w d → AtMost c d
  least_at_end w c d (p, acc, s) (q, acc', u) = s.least d (subst (λ z. Reaches f s₀ w z d) (end_is_empty P root q acc' ∙ sym (end_is_empty P root p acc)) u.reached)

  -- what is said, parsed and meant

  says_on : (w text : List ℕ) → places.Says P root w text → nodes.SaysByRun m w text
  says_on w text h =
      let x = run_of_tree h.tree h.parses.tree in record {
        agreed = h.agreed;
        is_agreed = agreed_on w h.agreed h.is_agreed;
        run = x.0;
        runs = x.1.runs;
        reads = (h.more, text_read h.tree x.0 x.1 ∙ h.parses.text);
        begins = (h.begins.0, codes_of h.tree x.0 x.1 ∙ h.begins.1);
        said = h.said ∙ sym (part_left h.tree x.0 h.agreed x.1);
      }

  says_back : (w text : List ℕ) → nodes.SaysByRun m w text → places.Says P root w text
  says_back w text h =
      let x = tree_of_run h.run h.runs in record {
        agreed = h.agreed;
        is_agreed = agreed_back w h.agreed h.is_agreed;
        tree = x.0;
        more = h.reads.0;
        parses = record { tree = x.1.is_tree; text = sym (text_read x.0 h.run x.1) ∙ h.reads.1 };
        begins = (h.begins.0, sym (codes_of x.0 h.run x.1) ∙ h.begins.1);
        said = h.said ∙ part_left x.0 h.run h.agreed x.1;
      }

  parsed_on : (w : List ℕ) → places.HasParse P root w → nodes.HasRun m w
  parsed_on w (t, h) = let x = run_of_tree t h.derives.tree in (x.0, x.1.runs, text_read t x.0 x.1 ∙ h.derives.text)

  parsed_back : (w : List ℕ) → nodes.HasRun m w → places.HasParse P root w
  parsed_back w (js, runs, e) = let x = tree_of_run js runs in from_tree P root w x.0 (record { tree = x.1.is_tree; text = sym (text_read x.0 js x.1) ∙ e })

  means_on : (w text : List ℕ) → places.Means P root w text → nodes.MeansByRun m w text
  means_on w text (t, parse, e) =
      let x = run_of_tree t parse.parses.derives.tree in record {
        greedy = code_at P root t;
        is_greedy = greedy_on w (code_at P root t) (survivor_of P root w t parse);
        least = λ d h. least_at_end w (code_at P root t) d (survivor_of P root w t parse) (greedy_back w d h);
        run = x.0;
        runs = x.1.runs;
        codes = codes_of t x.0 x.1;
        meant = e ∙ sym (whole_part t parse.parses.derives.tree) ∙ sym (part_left t x.0 (code_at P root t) x.1);
      }

  means_back : (w text : List ℕ) → nodes.MeansByRun m w text → places.Means P root w text
  means_back w text h =
      let parse = parse_of_survivor P root w h.greedy (greedy_back w h.greedy h.is_greedy) in
      let x = tree_of_run h.run h.runs in
      let code_is : code_at P root x.0 ≡ code_at P root parse.0 = sym (codes_of x.0 h.run x.1) ∙ h.codes ∙ sym parse.2 in
      let tree_is : x.0 ≡ parse.0 = (same_tree P [] [] x.1.is_tree parse.1.parses.derives.tree (append-nil (code_at P root x.0) ∙ code_is ∙ sym (append-nil (code_at P root parse.0)))).0 in
      (parse.0, parse.1, h.meant ∙ part_left x.0 h.run h.greedy x.1 ∙ ap₂ (λ t c. (part_meaning P (kind_at P root) t c (empty P)).bytes) tree_is (sym parse.2) ∙ whole_part parse.0 parse.1.parses.derives.tree)

  -- the answers

  on_nodes : Serves (places.Viable P root) (nodes.IsViableFor m) (places.Says P root) (nodes.SaysByRun m) (places.HasParse P root) (nodes.HasRun m) (places.Means P root) (nodes.MeansByRun m)
  on_nodes = record { good = viable_on; good_back = viable_back; says = says_on; parsed_back = parsed_back; means = means_on }

  on_places : Serves (nodes.IsViableFor m) (places.Viable P root) (nodes.SaysByRun m) (places.Says P root) (nodes.HasRun m) (places.HasParse P root) (nodes.MeansByRun m) (places.Means P root)
  on_places = record { good = viable_back; good_back = viable_on; says = says_back; parsed_back = parsed_on; means = means_back }

  pub carried : LeadsToEnd f s₀ → Carries P root m
  carried some = record {
    some_text = some;
    survivors = λ w. record { to_node = λ p c s. let x = to_node w p c s in (x.0, x.2); to_place = λ n c s. let x = to_place w n c s in (x.0, x.2) };
    viable = λ w. (viable_on w, viable_back w);
    agreed = λ w c. (agreed_on w c, agreed_back w c);
    greedy = λ w c. (greedy_on w c, greedy_back w c);
    parsed = λ w. (parsed_on w, parsed_back w);
    says = λ w text. (says_on w text, says_back w text);
    means = λ w text. (means_on w text, means_back w text);
    answers = λ limit w e a. (
      (λ h. answers_so (places.Viable P root) (nodes.IsViableFor m) (places.Says P root) (nodes.SaysByRun m) (places.HasParse P root) (nodes.HasRun m) (places.Means P root) (nodes.MeansByRun m) on_nodes limit h),
      (λ h. answers_so (nodes.IsViableFor m) (places.Viable P root) (nodes.SaysByRun m) (places.Says P root) (nodes.HasRun m) (places.HasParse P root) (nodes.MeansByRun m) (places.Means P root) on_places limit h),
    );
    registers = same;
    runs = λ t it. let x = run_of_tree t it in (x.0, x.1.runs, same_run t x.0 x.1);
    trees = λ ks r. let x = tree_of_run ks r in (x.0, x.1.is_tree, same_run x.0 ks x.1);
  }

-- the nodes that are left of a stage's machine
module _ (P : Grammar) (root : ℕ) (m t : Graph) (is : IsMachineOf P root m) (trim : IsTrimOf m t) where
  abbrev placed : Place → Move Place
  placed p = moves P p

  abbrev numbered : ℕ → Move ℕ
  numbered n = node_moves m.nodes n

  abbrev left : ℕ → Move ℕ
  left n = node_moves t.nodes n

  abbrev Kept : ℕ → ℕ → Type 0
  Kept s u = HasNumber trim.kept s u

  abbrev Pairs : Place → ℕ → Type 0
  Pairs p u = Through (Numbered P root m is) Kept p u

  pairs_alike : Alike placed left Pairs
  pairs_alike = alike_through placed numbered left (Numbered P root m is) Kept (alike P root m is) (alike_kept numbered left Kept trim.keeps trim.once (λ s s' n p q. some_same s s' (sym p ∙ q)))

  pub carries : Carries P root t
  carries = carried P root t Pairs pairs_alike (m.start, is.start, trim.start) (trim.registers ∙ is.registers) (end_back placed numbered (Numbered P root m is) (alike P root m is) (start_of P root) m.start is.start (trim.each m.start t.start trim.start).0)

  pub shaped : SameShapes P root t (λ p n. WasPlaceOf is trim p n)
  shaped = same_shapes P root t Pairs pairs_alike (m.start, is.start, trim.start)

-- all nodes of a stage's machine
pub machine_answers : (P : Grammar) (root : ℕ) (m : Graph) (is : IsMachineOf P root m) → MachineAnswersAsPlaces P root m is
machine_answers P root m is = record {
  paths = same_paths P root m (Numbered P root m is) (alike P root m is) is.start (alike_back P root m is);
  shapes = same_shapes P root m (Numbered P root m is) (alike P root m is) is.start;
  carries = λ some. carried P root m (Numbered P root m is) (alike P root m is) is.start is.registers some;
}
