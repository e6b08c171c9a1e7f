-- Two programs that one text spells are alike: their definitions, nodes and stages correspond one to one, whatever their numbers.
use Rattle.std.proofs.Common.{◌≡◌, ℕ, zero, suc, ◌+◌, ◌*◌, Bool, true, false, List, [], ◌∷◌, ◌++◌, inl, inr, length, Some, None, get_or, refl, sym, ap, ◌∙◌, subst, arith, length-append}
use Rattle.std.specs.Prelude.{slice_get, bytes_eq, codes, if◌then◌else◌}
use Rattle.std.proofs.lemmas.Option.{get_or_from_slice_get}
use Rattle.kex_code.specs.Codes.{Different}
use Rattle.kex_model.specs.Programs.{Grammar}
use Rattle.kex_model.specs.declared.program.Definition.{Definition as Root}
use Rattle.kex_model.specs.declared.program.Start.{Start}
use Rattle.kex_model.proofs.DistinctItems.{among_get, among-append}
use Rattle.kex_model.proofs.Tables.{some_same}
use Rattle.kex_tokens.specs.declared.token.Token.{Token}
use Rattle.kex_tokens.specs.Texts.{AreTokens}
use Rattle.kex_tokens.specs.Values.{StandsFor}
use Rattle.kex_regexp.specs.Bodies.{SpellsRegex as SpellsBody}
use Rattle.kex_regexp.specs.Grammar.{Regex as Body}
use Rattle.kex_reader.specs.Syntax.{Name, Define, Definition, Header, NoStart, Stages, Program, term, definitions, header, program}
use Rattle.kex_reader.specs.Shown.{Made, ShowsDefinitions, ShowsStages}
use Rattle.kex_reader.specs.Spelling.{words, offset, main_stage, ShowsHeader, ShowsProgram, Spells}
use Rattle.kex_compile.proofs.NodePairs.{Pair, Joins, AllMatch, Rising, match_both, rising_from, rising_to, rising_both}
use Rattle.kex_compile.proofs.WordOffsets.{Spaced, spaced, spaced_front, spaced_rest, rises}
use Rattle.kex_compile.proofs.Terms.{SameName, term_of}

-- definitions of the same names, at the same offsets, whose roots R pairs
unfoldable pub SameDefinitions : (R N : ℕ → ℕ → Type 0) → List Root → List Root → Type 0
SameDefinitions R N [] [] = Unit {0}
SameDefinitions R N (d ∷ ds) (e ∷ es) = N d.name e.name × (d.at ≡ e.at) × R d.root e.root × SameDefinitions R N ds es
SameDefinitions R N _ _ = ⊥

-- stages of the same names, at the same offsets
unfoldable pub SameStages : (N : ℕ → ℕ → Type 0) → List Start → List Start → Type 0
SameStages N [] [] = Unit {0}
SameStages N (s ∷ ss) (t ∷ ts) = N s.name t.name × (s.at ≡ t.at) × SameStages N ss ts
SameStages N _ _ = ⊥

-- ---- names

one_place : (xs : List (List ℕ)) (x : List ℕ) (i j : ℕ) → Different xs → slice_get xs i ≡ Some x → slice_get xs j ≡ Some x → i ≡ j
one_place [] x i j d e f = cc
one_place (y ∷ xs) x zero zero d e f = refl
one_place (y ∷ xs) x zero (suc j) d e f = absurd (d.0 (among_get xs j y (f ∙ ap Some (sym (some_same y x e)))))
one_place (y ∷ xs) x (suc i) zero d e f = absurd (d.0 (among_get xs i y (e ∙ ap Some (sym (some_same y x f)))))
one_place (y ∷ xs) x (suc i) (suc j) d e f = ap suc (one_place xs x i j d.1 e f)

-- a name has one partner
pub one_name : (names names' : List (List ℕ)) → Different names' → (k l l' : ℕ) → SameName names names' k l → SameName names names' k l' → l ≡ l'
one_name names names' d k l l' (x, a, b) (y, e, f) =
    let q : y ≡ x = some_same y x (sym e ∙ a) in
    one_place names' x l l' d b (f ∙ ap Some q)

pub name_back : (names names' : List (List ℕ)) (k l : ℕ) → SameName names names' k l → SameName names' names l k
name_back names names' k l (x, a, b) = (x, b, a)

-- ---- definitions

pub definitions_more : (R S N : ℕ → ℕ → Type 0) → ((n m : ℕ) → R n m → S n m) → (ds es : List Root) → SameDefinitions R N ds es → SameDefinitions S N ds es
unfolding SameDefinitions
definitions_more R S N f [] [] h = tt
definitions_more R S N f (d ∷ ds) (e ∷ es) h = (h.0, h.1, f _ _ h.2, definitions_more R S N f ds es h.3)
definitions_more R S N f [] (e ∷ es) h = absurd h
definitions_more R S N f (d ∷ ds) [] h = absurd h

module _ (one_body : (bytes : List ℕ) (r q : Body) → SpellsBody r bytes → SpellsBody q bytes → r ≡ q) (one_literal : (spelling a b : List ℕ) → StandsFor spelling a → StandsFor spelling b → a ≡ b) (made made' : Made) (whole : made.broken ≡ None) (whole' : made'.broken ≡ None) (at : ℕ → ℕ) where
  abbrev N : ℕ → ℕ → Type 0
  N = SameName made.names made'.names

  abbrev G : ℕ → ℕ → Type 0
  G = SameName made.registers made'.registers

  -- definitions and their nodes, in pairs
  pub record PairsDefinitions (ds es : List Root) (low high : ℕ) : Type 0 where
    pub pairs : List Pair
    pub same : SameDefinitions (Joins pairs) N ds es
    pub match : AllMatch made.nodes made'.nodes N G pairs
    pub rising : Rising low pairs high

  pub definitions_of : (ts : List Definition) (ds es : List Root) (i : ℕ) → ShowsDefinitions ts made at ds i → ShowsDefinitions ts made' at es i → Spaced at i (definitions ts) → PairsDefinitions ds es (4 * at i) (4 * at (i + length (definitions ts)))
  unfolding ShowsDefinitions definitions SameDefinitions Rising
  definitions_of [] [] [] i h k s =
      let e : at i ≡ at (i + 0) = ap at (let f : i ≡ i + 0 = omega arith in f) in
      record { pairs = []; same = tt; match = λ p j. absurd j; rising = omega (arith, e) }
  definitions_of [] [] (e ∷ es) i h k s = absurd k
  definitions_of [] (d ∷ ds) es i h k s = absurd h
  definitions_of (t ∷ ts) [] es i h k s = absurd h
  definitions_of (t ∷ ts) (d ∷ ds) [] i h k s = absurd k
  definitions_of (t ∷ ts) (d ∷ ds) (e ∷ es) i (name, place, shows, more) (name', place', shows', more') s =
      let first = rises at i (Name t.name ∷ Define ∷ []) (spaced_front at i (Name t.name ∷ Define ∷ []) (term t.term ++ definitions ts) s) in
      let behind : Spaced at (i + 2) (term t.term ++ definitions ts) = spaced_rest at i (Name t.name ∷ Define ∷ []) (term t.term ++ definitions ts) s in
      let top = term_of one_body one_literal made made' whole whole' at t.term d.root e.root (i + 2) shows shows' (spaced_front at (i + 2) (term t.term) (definitions ts) behind) in
      let rest = definitions_of ts ds es (i + 2 + length (term t.term)) more more' (spaced_rest at (i + 2) (term t.term) (definitions ts) behind) in
      let long = length-append (term t.term) (definitions ts) in
      let to : at (i + 2 + length (term t.term) + length (definitions ts)) ≡ at (i + length (Name t.name ∷ Define ∷ (term t.term ++ definitions ts))) = ap at (omega (arith, long)) in
      record {
        pairs = top.pairs ++ rest.pairs;
        same = ((t.name, name, name'), place ∙ sym place', (top.top.0, among-append top.pairs rest.pairs _ (inl top.top.1)), definitions_more (Joins rest.pairs) (Joins (top.pairs ++ rest.pairs)) N (λ n m j. (j.0, among-append top.pairs rest.pairs _ (inr j.1))) ds es rest.same);
        match = match_both made.nodes made'.nodes N G top.pairs rest.pairs top.match rest.match;
        rising = rising_from (4 * at (i + 2)) (4 * at i) (top.pairs ++ rest.pairs) _ (omega (arith, first)) (rising_to (4 * at (i + 2)) (top.pairs ++ rest.pairs) (4 * at (i + 2 + length (term t.term) + length (definitions ts))) _ (omega (arith, to)) (rising_both (4 * at (i + 2)) top.pairs (4 * at (i + 2 + length (term t.term))) rest.pairs (4 * at (i + 2 + length (term t.term) + length (definitions ts))) top.rising rest.rising));
      }

stages_of : (made made' : Made) (at : ℕ → ℕ) (ns : List (List ℕ)) (ss ts : List Start) (i : ℕ) → ShowsStages ns made at ss i → ShowsStages ns made' at ts i → SameStages (SameName made.names made'.names) ss ts
unfolding ShowsStages SameStages
stages_of made made' at [] [] [] i h k = tt
stages_of made made' at [] [] (t ∷ ts) i h k = absurd k
stages_of made made' at [] (s ∷ ss) ts i h k = absurd h
stages_of made made' at (n ∷ ns) [] ts i h k = absurd h
stages_of made made' at (n ∷ ns) (s ∷ ss) [] i h k = absurd k
stages_of made made' at (n ∷ ns) (s ∷ ss) (t ∷ ts) i (name, place, more) (name', place', more') = ((n, name, name'), place ∙ sym place', stages_of made made' at ns ss ts (i + 2) more more')

header_of : (made made' : Made) (at : ℕ → ℕ) (h : Header) (P Q : Grammar) → SameStages (SameName made.names made'.names) (main_stage P.names P.definitions) (main_stage Q.names Q.definitions) → ShowsHeader h made at P → ShowsHeader h made' at Q → SameStages (SameName made.names made'.names) P.stages Q.stages
header_of made made' at NoStart P Q m a b = subst (λ z. SameStages (SameName made.names made'.names) z Q.stages) (sym a) (subst (λ z. SameStages (SameName made.names made'.names) (main_stage P.names P.definitions) z) (sym b) m)
header_of made made' at (Stages n ns) P Q m a b = stages_of made made' at (n ∷ ns) P.stages Q.stages 2 a b

main_of : (R : ℕ → ℕ → Type 0) (names names' : List (List ℕ)) (ds es : List Root) → SameDefinitions R (SameName names names') ds es → SameStages (SameName names names') (main_stage names ds) (main_stage names' es)
unfolding SameDefinitions SameStages
main_of R names names' [] [] h = tt
main_of R names names' [] (e ∷ es) h = absurd h
main_of R names names' (d ∷ ds) [] h = absurd h
main_of R names names' (d ∷ ds) (e ∷ es) (same, place, root, more) =
    let x : get_or names d.name [] ≡ same.0 = get_or_from_slice_get names d.name same.0 [] same.1 in
    let y : get_or names' e.name [] ≡ same.0 = get_or_from_slice_get names' e.name same.0 [] same.2 in
    by (bytes_eq (get_or names d.name []) (codes "main")) (bytes_eq (get_or names' e.name []) (codes "main")) (ap (λ (z : List ℕ). bytes_eq z (codes "main")) (x ∙ sym y)) (main_of R names names' ds es more)
  where
    by : (a b : Bool) → a ≡ b → SameStages (SameName names names') (main_stage names ds) (main_stage names' es) → SameStages (SameName names names') (if a then record { name = d.name; at = d.at } ∷ [] else main_stage names ds) (if b then record { name = e.name; at = e.at } ∷ [] else main_stage names' es)
    by true true q rest = (same, place, tt)
    by true false q rest = cc
    by false true q rest = cc
    by false false q rest = rest

-- definitions, nodes and stages of two programs in pairs, one to one
pub record Alike (P Q : Grammar) : Type 0 where
  pub low : ℕ
  pub high : ℕ
  pub registers : List (List ℕ)
  pub registers' : List (List ℕ)
  pub pairs : List Pair
  pub match : AllMatch P.nodes Q.nodes (SameName P.names Q.names) (SameName registers registers') pairs
  pub rising : Rising low pairs high
  pub definitions : SameDefinitions (Joins pairs) (SameName P.names Q.names) P.definitions Q.definitions
  pub stages : SameStages (SameName P.names Q.names) P.stages Q.stages
  pub one_name : Different P.names
  pub one_name' : Different Q.names
  pub one_register : Different registers
  pub one_register' : Different registers'
  pub counted : P.registers ≡ length registers
  pub counted' : Q.registers ≡ length registers'

module _ (one_tokens : (text : List ℕ) (ts us : List Token) → AreTokens text ts → AreTokens text us → ts ≡ us) (one_tree : (p q : Program) → program p ≡ program q → p ≡ q) (one_body : (bytes : List ℕ) (r q : Body) → SpellsBody r bytes → SpellsBody q bytes → r ≡ q) (one_literal : (spelling a b : List ℕ) → StandsFor spelling a → StandsFor spelling b → a ≡ b) where
  alike_of : (P Q : Grammar) (tree : Program) (at : ℕ → ℕ) (rs rs' : List (List ℕ)) → ShowsProgram tree (record { nodes = P.nodes; names = P.names; registers = rs; broken = None }) at P → ShowsProgram tree (record { nodes = Q.nodes; names = Q.names; registers = rs'; broken = None }) at Q → Spaced at 0 (program tree) → Different P.names → Different Q.names → Different rs → Different rs' → P.registers ≡ length rs → Q.registers ≡ length rs' → Alike P Q
  unfolding program
  alike_of P Q tree at rs rs' s t sp d e dr er c c' =
      let made : Made = record { nodes = P.nodes; names = P.names; registers = rs; broken = None } in
      let made' : Made = record { nodes = Q.nodes; names = Q.names; registers = rs'; broken = None } in
      let behind = subst (λ j. Spaced at j (definitions tree.definitions)) (let z : 0 + length (header tree.header) ≡ length (header tree.header) = omega arith in z) (spaced_rest at 0 (header tree.header) (definitions tree.definitions) sp) in
      let ds = definitions_of one_body one_literal made made' refl refl at tree.definitions P.definitions Q.definitions (length (header tree.header)) s.definitions t.definitions behind in
      record {
        low = _;
        high = _;
        registers = rs;
        registers' = rs';
        pairs = ds.pairs;
        match = ds.match;
        rising = ds.rising;
        definitions = ds.same;
        stages = header_of made made' at tree.header P Q (main_of (Joins ds.pairs) P.names Q.names P.definitions Q.definitions ds.same) s.stages t.stages;
        one_name = d;
        one_name' = e;
        one_register = dr;
        one_register' = er;
        counted = c;
        counted' = c';
      }

  pub alike : (text : List ℕ) (P Q : Grammar) → Spells text P → Spells text Q → Alike P Q
  alike text P Q s t =
      let ts : t.tokens ≡ s.tokens = one_tokens text t.tokens s.tokens t.cut s.cut in
      let tree : t.tree ≡ s.tree = one_tree t.tree s.tree (t.derived ∙ ap (words text) ts ∙ sym s.derived) in
      let at = offset text s.tokens in
      let shown = subst (λ (z : List Token). ShowsProgram s.tree (record { nodes = Q.nodes; names = Q.names; registers = t.registers; broken = None }) (offset text z) Q) ts (subst (λ (z : Program). ShowsProgram z (record { nodes = Q.nodes; names = Q.names; registers = t.registers; broken = None }) (offset text t.tokens) Q) tree t.shown) in
      alike_of P Q s.tree at s.registers t.registers s.shown shown (subst (Spaced at 0) (sym s.derived) (spaced text s.tokens s.cut)) s.names_differ t.names_differ s.registers_differ t.registers_differ s.counted t.counted
