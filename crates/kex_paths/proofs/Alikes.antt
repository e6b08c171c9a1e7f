-- A tree goes on alike with bytes that lead to the same places from its leaves.
use Rattle.std.proofs.Common.{◌≡◌, ℕ, ◌+◌, ◌<◌, ◌≤◌, Bool, true, false, List, [], ◌++◌, Option, Some, length, get_or, take, refl, sym, ap, subst, ◌∙◌}
use Rattle.std.specs.Prelude.{◌↔◌, All, IsTrue}
use Rattle.std.proofs.Math.Bool.{beq}
use Rattle.std.proofs.Math.Seq.{take-append_seam, drop-append_seam}
use Rattle.std.proofs.lemmas.List.{take_all}
use Rattle.std.proofs.lemmas.List.Elements.{All-nil, All-cons, All-append, All-take, All-drop, All-head, All-get_or, All-more, All-weaker}
use Rattle.kex_model.specs.Moves.{Move, read, took, Allows, reads}
use Rattle.kex_model.specs.Labelled.{Shape, place, parts, Grown}
use Rattle.kex_machine.specs.declared.MNode.{MNode}
use Rattle.kex_machine.specs.declared.MNode.TheVariants.{Read}
use Rattle.kex_machine.specs.Nodes.{Graph, node_moves, move_of}
use Rattle.kex_machine.specs.Advancing.{dies, reads_on, both, LeadAlike, EachPlace}
use Rattle.kex_sst.specs.declared.parts.Part.{Part}
use Rattle.kex_paths.specs.Nexts.{Outline, HasClass, places_of, TreeGoesOn}
use Rattle.kex_paths.specs.Alikes.{LeadAlikeAt, LeadAlikeFrom, GoesOnAlike}

-- ---- at one place

abbrev pub AllowsAlike : Move ℕ → ℕ → ℕ → Type 0
AllowsAlike m b c = (t : ℕ) → Allows m (took b t) ↔ Allows m (took c t)

read_there : {m : Move ℕ} {b t : ℕ} → Allows m (took b t) → (set : List Bool) × (m ≡ read set t) × IsTrue (get_or set b false)
read_there (reads {set = set} i) = (set, refl, i)

same_there : (m : Move ℕ) (set : List Bool) (n b t : ℕ) → m ≡ read set n → Allows m (took b t) → (n ≡ t) × IsTrue (get_or set b false)
same_there m set n b t e a =
    let r = read_there a in
    let f : read set n ≡ read r.0 t = sym e ∙ r.1 in
    let s : r.0 ≡ set = cc in
    (cc, subst (λ z. IsTrue (get_or z b false)) s r.2)

beq_same : (u v : Bool) → IsTrue (beq u v) → u ≡ v
beq_same true true i = refl
beq_same true false i = cc
beq_same false true i = cc
beq_same false false i = refl

beq_from : (u v : Bool) → (IsTrue u → IsTrue v) → (IsTrue v → IsTrue u) → IsTrue (beq u v)
beq_from true true f g = refl
beq_from true false f g = f refl
beq_from false true f g = g refl
beq_from false false f g = refl

-- a set has both bytes or neither
read_alike : (m : Move ℕ) (set : List Bool) (n b c : ℕ) → m ≡ read set n → IsTrue (beq (get_or set b false) (get_or set c false)) ↔ AllowsAlike m b c
read_alike m set n b c e = (
  (λ i t. let same = beq_same (get_or set b false) (get_or set c false) i in (over b c t same, over c b t (sym same))),
  (λ h. beq_from (get_or set b false) (get_or set c false) (has b c (λ a. (h n).0 a)) (has c b (λ a. (h n).1 a))),
)
  where
    over : (b c t : ℕ) → get_or set b false ≡ get_or set c false → Allows m (took b t) → Allows m (took c t)
    over b c t same a =
        let r = same_there m set n b t e a in
        subst (λ z. Allows z (took c t)) (sym (e ∙ ap (λ z. read set z) r.0)) (reads (sym same ∙ r.1))

    has : (b c : ℕ) → (Allows m (took b n) → Allows m (took c n)) → IsTrue (get_or set b false) → IsTrue (get_or set c false)
    has b c f i = (same_there m set n c n e (f (subst (λ z. Allows z (took b n)) (sym e) (reads i)))).1

pub set_alike : (node : MNode) (set : List Bool) (n b c : ℕ) (m : Move ℕ) (u v : Bool) → m ≡ move_of (Some node) → node ≡ Read set n → u ≡ get_or set b false → v ≡ get_or set c false → IsTrue (beq u v) ↔ AllowsAlike m b c
set_alike node set n b c m u v is e p q = subst (λ z. IsTrue (beq z v) ↔ AllowsAlike m b c) (sym p) (subst (λ z. IsTrue (beq (get_or set b false) z) ↔ AllowsAlike m b c) (sym q) (read_alike m set n b c (is ∙ ap (λ z. move_of (Some z)) e)))

-- ---- from the leaves of a tree

module _ (moves : ℕ → Move ℕ) where
  left_of : (b c : ℕ) (xs ys : List ℕ) → LeadAlikeFrom moves b c (xs ++ ys) → LeadAlikeFrom moves b c xs
  left_of b c xs ys h = subst (λ z. LeadAlikeFrom moves b c z) (take-append_seam xs ys) (All-take (λ p. LeadAlikeAt moves b c p) (length xs) (xs ++ ys) h)

  right_of : (b c : ℕ) (xs ys : List ℕ) → LeadAlikeFrom moves b c (xs ++ ys) → LeadAlikeFrom moves b c ys
  right_of b c xs ys h = subst (λ z. LeadAlikeFrom moves b c z) (drop-append_seam xs ys) (All-drop (λ p. LeadAlikeAt moves b c p) (length xs) (xs ++ ys) h)

  goes_alike : (b c : ℕ) (s : Shape ℕ) (k : ℕ) {f g : List Bool} {a : Option (Grown Part ℕ)} → LeadAlikeFrom moves b c (places_of s) → TreeGoesOn moves b k f s a g → TreeGoesOn moves c k f s a g
  goes_alike b c (place p) k same (dies d) = dies (λ t r. d t ((All-head (λ p. LeadAlikeAt moves b c p) p [] same t).1 r))
  goes_alike b c (place p) k same (reads_on {t = t} r v) = reads_on ((All-head (λ p. LeadAlikeAt moves b c p) p [] same t).0 r) v
  goes_alike b c (parts l r) k same (both vx vy) = both (goes_alike b c l _ (left_of b c (places_of l) (places_of r) same) vx) (goes_alike b c r _ (right_of b c (places_of l) (places_of r) same) vy)

  -- the same of bytes that lead to the same places from everywhere
  same_from : (a b c d : ℕ) (ps : List ℕ) → LeadAlike moves a b → LeadAlike moves c d → LeadAlikeFrom moves a c ps → LeadAlikeFrom moves b d ps
  same_from a b c d ps ab cd h = All-weaker (λ p. LeadAlikeAt moves a c p) (λ p. LeadAlikeAt moves b d p) (λ p at t. ((λ x. (cd p t).0 ((at t).0 ((ab p t).1 x))), (λ x. (ab p t).0 ((at t).1 ((cd p t).1 x))))) ps h

  -- one place tells the bytes apart
  pub told_apart : (b c : ℕ) (ps : List ℕ) (i : ℕ) (r : Bool) → i < length ps → IsTrue r ↔ LeadAlikeAt moves b c (get_or ps i 0) → r ≡ false → IsTrue false ↔ LeadAlikeFrom moves b c ps
  told_apart b c ps i r lt at told = (
    (λ f. cc),
    (λ all. no_more (at.1 (All-get_or (λ p. LeadAlikeAt moves b c p) ps i 0 lt all))),
  )
    where
      no_more : IsTrue r → IsTrue false
      no_more y = cc

  -- none of the places does
  pub told_alike : (b c : ℕ) (ps : List ℕ) (n : ℕ) → length ps ≤ n → LeadAlikeFrom moves b c (take n ps) → IsTrue true ↔ LeadAlikeFrom moves b c ps
  told_alike b c ps n le h = ((λ i. subst (λ z. LeadAlikeFrom moves b c z) (take_all n ps le) h), (λ k. refl))

  pub one_more_alike : (b c : ℕ) (ps : List ℕ) (i : ℕ) (r : Bool) → i < length ps → IsTrue r ↔ LeadAlikeAt moves b c (get_or ps i 0) → r ≡ true → LeadAlikeFrom moves b c (take i ps) → LeadAlikeFrom moves b c (take (i + 1) ps)
  one_more_alike b c ps i r lt at told h = All-more (λ p. LeadAlikeAt moves b c p) ps i 0 lt h (at.0 told)

-- whether the bytes of two classes lead to the same places from the leaves of a tree
abbrev pub TellsAlike : Outline → ℕ → ℕ → Bool → Type 0
TellsAlike tree class other r = (b c : ℕ) → HasClass tree.machine class b → HasClass tree.machine other c → IsTrue r ↔ LeadAlikeFrom (node_moves tree.machine.nodes) b c tree.leaves

-- the byte leads to the same places as all of the class
abbrev pub StandsFor : Graph → ℕ → ℕ → Type 0
StandsFor g byte class = (b : ℕ) → HasClass g class b → LeadAlike (node_moves g.nodes) byte b

-- what the samples say, the bytes of their classes say
module _ (tree : Outline) (class other byte twin : ℕ) where
  back : (a b : ℕ) → LeadAlike (node_moves tree.machine.nodes) a b → LeadAlike (node_moves tree.machine.nodes) b a
  back a b h p t = ((h p t).1, (h p t).0)

  for_classes : (r : Bool) → StandsFor tree.machine byte class → StandsFor tree.machine twin other → IsTrue r ↔ LeadAlikeFrom (node_moves tree.machine.nodes) byte twin tree.leaves → TellsAlike tree class other r
  for_classes r first second h b c hb hc = (
    (λ i. same_from (node_moves tree.machine.nodes) byte b twin c tree.leaves (first b hb) (second c hc) (h.0 i)),
    (λ k. h.1 (same_from (node_moves tree.machine.nodes) b byte c twin tree.leaves (back byte b (first b hb)) (back twin c (second c hc)) k)),
  )

  pub tells_alike : (g : Graph) (nodes : List MNode) (places : List ℕ) (r : Bool) → g ≡ tree.machine → nodes ≡ tree.machine.nodes → places ≡ tree.leaves → StandsFor g byte class → StandsFor g twin other → IsTrue r ↔ LeadAlikeFrom (node_moves nodes) byte twin places → TellsAlike tree class other r
  tells_alike g nodes places r e n p first second h =
      for_classes r (subst (λ z. StandsFor z byte class) e first) (subst (λ z. StandsFor z twin other) e second)
      (subst (λ z. IsTrue r ↔ LeadAlikeFrom (node_moves tree.machine.nodes) byte twin z) p
      (subst (λ z. IsTrue r ↔ LeadAlikeFrom (node_moves z) byte twin places) n h))

pub goes_on_alike : (tree : Outline) (class other : ℕ) (r : Bool) → TellsAlike tree class other r → IsTrue r → GoesOnAlike tree class other
goes_on_alike tree class other r h i = λ s b c a is hb hc (marks, v). (marks, goes_alike (node_moves tree.machine.nodes) b c s 0 (subst (λ z. LeadAlikeFrom (node_moves tree.machine.nodes) b c z) is.1 ((h b c hb hc).0 i)) v)

-- ---- the places of a tree

each_place : (m : ℕ) (s : Shape ℕ) → EachPlace m s → All (λ p. p < m) (places_of s)
each_place m (place p) h = All-cons (λ p. p < m) p [] h (All-nil (λ p. p < m))
each_place m (parts l r) h = All-append (λ p. p < m) (places_of l) (places_of r) (each_place m l h.0) (each_place m r h.1)

pub place_below : (m : ℕ) (s : Shape ℕ) (ps : List ℕ) (i : ℕ) → ps ≡ places_of s → EachPlace m s → i < length ps → get_or ps i 0 < m
place_below m s ps i e h lt = All-get_or (λ p. p < m) ps i 0 lt (subst (λ z. All (λ p. p < m) z) (sym e) (each_place m s h))
