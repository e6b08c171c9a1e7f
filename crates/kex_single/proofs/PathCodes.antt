-- What an oracle tells that goes by paths.
use Rattle.std.proofs.Common.{◌≡◌, ℕ, ◌≤◌, ◌+◌, Bool, List, [], ◌∷◌, ◌++◌, Option, Some, None, length, take, refl, sym, ap, subst, ◌∙◌, append-nil, arith, length-append, length-take, inl, inr}
use Rattle.kex_code.specs.declared.symbol.Symbol.{Symbol}
use Rattle.kex_code.specs.Codes.{Begins, IsAmong}
use Rattle.kex_code.specs.Texts.{text_of as code_text}
use Rattle.kex_model.specs.Labelled.{Leaf, Labelled, tip, fork, leaves_of}
use Rattle.kex_model.specs.Survivors.{Agreed, LongestViable}
use Rattle.kex_model.proofs.OpenAnswers.{same_front}
use Rattle.kex_machine.specs.Nodes.{Graph, node_moves}
use Rattle.kex_machine.specs.Answers.{IsViableFor, HasRun, IsSaid, IsGreedy}
use Rattle.kex_frontier.specs.Frontiers.{Front, IsFed, IsOver}
use Rattle.kex_frontier.specs.declared.frontier.Ended.{Ended}
use Rattle.kex_frontier.specs.declared.frontier.Ended.TheVariants.{Parsed, Cut}
use Rattle.kex_single.specs.Standing.{MachineGoesOn, given_of, is_parsed}
use Rattle.kex_single.specs.Told.{ShowsCode, TellsLast, TellsMore}
use Rattle.kex_single.specs.declared.code_oracle.CodeOracle.TheVariants.{Paths}
use Rattle.kex_single.proofs.Codings.{more_taken}

-- the longest front that can go on of a text that can is the text
whole_front : (g : Graph) (w of : List ℕ) → LongestViable (node_moves g.nodes) g.start w of → IsViableFor g w → of ≡ w
whole_front g w of l v =
    let more : length w ≤ length of = l.longest w ([], sym (append-nil w)) v in
    same_front w of w l.front ([], sym (append-nil w)) (omega (arith, more, ap length l.front.1, length-append of l.front.0))

-- what is said where a byte was refused is what was agreed before it
said_before : (g : Graph) (v next : List ℕ) (c : List Symbol) → Begins next v → length next ≡ length v + 1 → IsViableFor g v → (IsViableFor g next → ⊥) → IsSaid g next c → Agreed (node_moves g.nodes) g.start v c
said_before g v next c p n good bad s =
    let more : length v ≤ length s.of = s.longest.longest v p good in
    subst (λ z. Agreed (node_moves g.nodes) g.start z c) (same_front next s.of v s.longest.front p (by s.of s.longest.front.0 s.longest.front.1 s.longest.viable more)) s.agreed
  where
    by : (of m : List ℕ) → next ≡ of ++ m → IsViableFor g of → length v ≤ length of → length of ≡ length v
    by of [] f h le = absurd (bad (subst (λ z. IsViableFor g z) (sym (f ∙ append-nil of)) h))
    by of (y ∷ m) f h le = omega (arith, ap length f, length-append of (y ∷ m), n, le)

-- a tree has a leaf
leaf_in : {A S : Type 0} (t : Labelled A S) (c : List A) → (x : Leaf A S) × IsAmong (leaves_of t c) x
leaf_in (tip p) c = (record { at = p; code = c }, inl refl)
leaf_in (fork x l y r) c =
    let h = leaf_in l (c ++ x) in
    (h.0, among_front (leaves_of l (c ++ x)) (leaves_of r (c ++ y)) h.0 h.1)
  where
    among_front : {B : Type 0} (xs ys : List B) (z : B) → IsAmong xs z → IsAmong (xs ++ ys) z
    among_front [] ys z h = absurd h
    among_front (x ∷ xs) ys z (inl e) = inl e
    among_front (x ∷ xs) ys z (inr h) = inr (among_front xs ys z h)

-- the empty text can go on
pub begins_good : (f : Front) (g : Graph) → f.machine ≡ g → IsFed f [] [] → IsViableFor g []
begins_good f g e (inl (t, h, k)) =
    let x = leaf_in t ([] ++ f.untaken) in
    let s = h.lists.each x.0 x.1 in
    subst (λ z. IsViableFor z []) e (x.0.at, (x.0.code, s.reached, s.alive))
begins_good f g e (inr (dead, h, k)) = absurd (dead (subst (λ z. IsViableFor f.machine z) (empty h.of h.longest.front) h.longest.viable))
  where
    empty : (of : List ℕ) → Begins [] of → of ≡ []
    empty [] b = refl
    empty (x ∷ of) b = let bad : [] ≡ x ∷ (of ++ b.0) = b.1 in cc

-- a frontier was fed a piece, and the text of what is agreed was written
pub paths_tell : (f0 f1 f2 : Front) (g : Graph) (w piece : List ℕ) (bad : Option ℕ) (c : List Symbol) (before after : List ℕ) → f0.machine ≡ g → f1.machine ≡ f0.machine → f2.machine ≡ f1.machine → after ≡ before ++ code_text f1.untaken
    → ((w : List ℕ) (c : List Symbol) → IsFed f1 w c → IsFed f2 w (c ++ f1.untaken) × IsSaid f1.machine w (c ++ f1.untaken))
    → MachineGoesOn f0.machine w piece bad → IsFed f1 (given_of w piece bad) c → TellsMore g (Paths f2) w piece bad c before after
paths_tell f0 f1 f2 g w piece None c before after m0 m1 m2 written said good fed =
    let s = said (w ++ piece) c fed in
    let goes : IsViableFor g (w ++ piece) = subst (λ z. IsViableFor z (w ++ piece)) m0 good in
    let is : IsSaid g (w ++ piece) (c ++ f1.untaken) = subst (λ z. IsSaid z (w ++ piece) (c ++ f1.untaken)) (m1 ∙ m0) s.1 in
    record {
      more = f1.untaken;
      written = written;
      goes = goes;
      agreed = subst (λ z. Agreed (node_moves g.nodes) g.start z (c ++ f1.untaken)) (whole_front g (w ++ piece) is.of is.longest goes) is.agreed;
      told = λ e. (m2 ∙ m1 ∙ m0, s.0);
    }
paths_tell f0 f1 f2 g w piece (Some k) c before after m0 m1 m2 written said goes fed =
    let v = w ++ take k piece in
    let next = w ++ take (k + 1) piece in
    let is : IsSaid g next (c ++ f1.untaken) = subst (λ z. IsSaid z next (c ++ f1.untaken)) (m1 ∙ m0) (said next c fed).1 in
    let at : MachineGoesOn g w piece (Some k) = subst (λ z. MachineGoesOn z w piece (Some k)) m0 goes in
    let one : length next ≡ length v + 1 = omega (arith, at.0, length-append w (take k piece), length-append w (take (k + 1) piece), length-take k piece, length-take (k + 1) piece) in
    record {
      more = f1.untaken;
      written = written;
      goes = at;
      agreed = said_before g v next (c ++ f1.untaken) (more_taken k w piece) one at.1 at.2 is;
      told = λ e. let no : Some k ≡ None = e in cc;
    }

-- a frontier was given the end, and the text of the rest was written
pub paths_end : (f0 f1 : Front) (g : Graph) (w : List ℕ) (answer : Ended) (parsed : Bool) (c : List Symbol) (before after : List ℕ) → f0.machine ≡ g → f1.machine ≡ f0.machine → after ≡ before ++ code_text f1.untaken
    → parsed ≡ is_parsed answer → IsOver answer f1 w c → IsViableFor g w → TellsLast g w parsed c before after
paths_end f0 f1 g w Parsed parsed c before after m0 m1 written e over good = record {
  more = f1.untaken;
  written = written;
  shows = subst (λ (z : Bool). ShowsCode z g w (c ++ f1.untaken)) (sym e) (subst (λ z. IsGreedy z w (c ++ f1.untaken)) (m1 ∙ m0) over);
}
paths_end f0 f1 g w Cut parsed c before after m0 m1 written e over good =
    let is : IsSaid g w (c ++ f1.untaken) = subst (λ z. IsSaid z w (c ++ f1.untaken)) (m1 ∙ m0) over.1 in
    record {
      more = f1.untaken;
      written = written;
      shows = subst (λ (z : Bool). ShowsCode z g w (c ++ f1.untaken)) (sym e) (subst (λ z. HasRun z w → ⊥) (m1 ∙ m0) over.0, subst (λ z. Agreed (node_moves g.nodes) g.start z (c ++ f1.untaken)) (whole_front g w is.of is.longest good) is.agreed);
    }
