-- Trees that are written node by node.
use Rattle.std.proofs.Common.{◌≡◌, ℕ, zero, suc, ◌+◌, ◌<◌, ◌≤◌, Bool, true, false, List, [], ◌∷◌, ◌++◌, inl, inr, ⊎_elim, length, get_or, drop, refl, sym, ap, ap₂, subst, ◌∙◌, append_assoc, append-nil, arith}
use Rattle.std.specs.Prelude.{codes, decimal}
use Rattle.std.proofs.Math.Seq.{drop-cons}
use Rattle.kex_model.specs.Labelled.{Shape, place, parts}
use Rattle.kex_machine.specs.Advancing.{EachPlace}
use Rattle.kex_paths.specs.Nexts.{inner_of, places_of}
use Rattle.kex_tabfile.specs.Lines.{tree_text}
use Rattle.kex_tabfile.specs.declared.trees.TreeMark.{TreeMark}
use Rattle.kex_tabfile.specs.declared.trees.TreeMark.TheVariants.{Comma, Close}
use Rattle.kex_tabfile.specs.TreeMarks.{TailPart, right_side, closing, mark_of, tail_text, inner_in_tail, places_in_tail, AreTreeMarks, IsTailLeft, TailGoesOn, IsInTree, WritesTree}

-- ---- lists by their ends

pub no_last : {A : Type 0} (xs : List A) (a : A) → [] ≡ xs ++ a ∷ [] → ⊥
no_last [] a e = cc
no_last (x ∷ xs) a e = cc

pub last_of : {A : Type 0} (xs ys : List A) (a b : A) → xs ++ a ∷ [] ≡ ys ++ b ∷ [] → (xs ≡ ys) × (a ≡ b)
last_of [] [] a b e = (refl, cc)
last_of [] (y ∷ []) a b e = let bad : ⊥ = cc in absurd bad
last_of [] (y ∷ (z ∷ ys)) a b e = let bad : ⊥ = cc in absurd bad
last_of (x ∷ []) [] a b e = let bad : ⊥ = cc in absurd bad
last_of (x ∷ (z ∷ xs)) [] a b e = let bad : ⊥ = cc in absurd bad
last_of (x ∷ xs) (y ∷ ys) a b e = let f : xs ++ a ∷ [] ≡ ys ++ b ∷ [] = cc in let g : x ≡ y = cc in let r = last_of xs ys a b f in (ap₂ (λ u v. u ∷ v) g r.0, r.1)

head_of : {A : Type 0} (xs : List A) (k : ℕ) (d : A) → k < length xs → drop k xs ≡ get_or xs k d ∷ drop (k + 1) xs
head_of xs k d lt = let e : suc k ≡ k + 1 = omega arith in drop-cons xs k d lt ∙ ap (λ n. get_or xs k d ∷ drop n xs) e

longer : {A : Type 0} (xs : List A) (k : ℕ) (x : A) (ys : List A) → drop k xs ≡ x ∷ ys → k < length xs
longer [] zero x ys e = cc
longer [] (suc k) x ys e = cc
longer (z ∷ xs) zero x ys e = omega arith
longer (z ∷ xs) (suc k) x ys e = let h = longer xs k x ys e in omega arith

-- ---- marks

pub at_close : (marks more : List TreeMark) (tail : List TailPart) → marks ≡ more ++ Close ∷ [] → AreTreeMarks marks tail → (ys : List TailPart) × (tail ≡ closing ∷ ys) × AreTreeMarks more ys
at_close marks more [] e h = absurd (no_last more Close (sym h ∙ e))
at_close marks more (right_side s ∷ xs) e (m, f, d) = let r = last_of m more Comma Close (sym f ∙ e) in let bad : Comma ≡ Close = r.1 in absurd (clash bad)
  where
    clash : Comma ≡ Close → ⊥
    clash e = cc
at_close marks more (closing ∷ xs) e (m, f, d) = let r = last_of m more Close Close (sym f ∙ e) in (xs, refl, subst (λ z. AreTreeMarks z xs) r.0 d)

pub at_comma : (marks more : List TreeMark) (tail : List TailPart) → marks ≡ more ++ Comma ∷ [] → AreTreeMarks marks tail → (s : Shape ℕ) × (ys : List TailPart) × (tail ≡ right_side s ∷ ys) × AreTreeMarks more ys
at_comma marks more [] e h = absurd (no_last more Comma (sym h ∙ e))
at_comma marks more (closing ∷ xs) e (m, f, d) = let r = last_of m more Close Comma (sym f ∙ e) in let bad : Close ≡ Comma = r.1 in absurd (clash bad)
  where
    clash : Close ≡ Comma → ⊥
    clash e = cc
at_comma marks more (right_side s ∷ xs) e (m, f, d) = let r = last_of m more Comma Comma (sym f ∙ e) in (s, xs, refl, subst (λ z. AreTreeMarks z xs) r.0 d)

pub at_none : (marks : List TreeMark) (tail : List TailPart) → marks ≡ [] → AreTreeMarks marks tail → tail ≡ []
at_none marks [] e h = refl
at_none marks (x ∷ xs) e (m, f, d) = absurd (no_last m (mark_of x) (sym e ∙ f))

module _ (numbers : List ℕ) where
  pub left_all : (xs : List TailPart) (line : List ℕ) → IsTailLeft numbers xs line xs line
  left_all xs line = record { inner = refl; places = refl; text = refl; within = λ count h. h }

  -- an end is written
  pub left_closed : (xs : List TailPart) (line : List ℕ) (tail ys : List TailPart) (longer now : List ℕ) → tail ≡ closing ∷ ys → now ≡ longer ++ codes ")" → IsTailLeft numbers xs line tail longer → IsTailLeft numbers xs line ys now
  left_closed xs line tail ys longer now e f h =
      let g = subst (λ z. IsTailLeft numbers xs line z longer) e h in
      record {
        inner = g.inner;
        places = g.places;
        text = g.text ∙ sym (append_assoc longer (codes ")") (tail_text numbers ys)) ∙ ap (λ z. z ++ tail_text numbers ys) (sym f);
        within = g.within;
      }

  -- a comma is written
  pub goes_on_comma : (xs : List TailPart) (line : List ℕ) (tail ys : List TailPart) (s : Shape ℕ) (longer now : List ℕ) (marks : List TreeMark) → tail ≡ right_side s ∷ ys → now ≡ longer ++ codes "," → AreTreeMarks marks ys → IsTailLeft numbers xs line tail longer → TailGoesOn numbers xs line marks now
  goes_on_comma xs line tail ys s longer now marks e f m h = inr (s, ys, longer, m, sym f, subst (λ z. IsTailLeft numbers xs line z longer) e h)

  -- nothing is left
  pub goes_on_end : (xs : List TailPart) (line : List ℕ) (tail : List TailPart) (longer : List ℕ) (marks : List TreeMark) → marks ≡ [] → AreTreeMarks marks tail → IsTailLeft numbers xs line tail longer → TailGoesOn numbers xs line marks longer
  goes_on_end xs line tail longer marks e m h = inl (e, subst (λ z. IsTailLeft numbers xs line z longer) (at_none marks tail e m) h)

-- ---- nodes

-- a node that is a leaf: its place, and what comes after it
pub record IsTip (count : ℕ) (shape : List Bool) (leaves : List ℕ) (here : Shape ℕ) (inner : List Bool) (places : List ℕ) (i leaf : ℕ) : Type 0 where
  pub spot : ℕ
  pub is : here ≡ place spot
  pub inner_left : drop (i + 1) shape ≡ inner
  pub places_left : drop (leaf + 1) leaves ≡ places
  pub within : leaf < length leaves
  pub read_there : get_or leaves leaf 0 ≡ spot
  pub fits : spot < count

tip_there : (count : ℕ) (shape : List Bool) (leaves : List ℕ) (here : Shape ℕ) (inner : List Bool) (places : List ℕ) (i leaf : ℕ) → i < length shape → get_or shape i false ≡ false → drop i shape ≡ inner_of here ++ inner → drop leaf leaves ≡ places_of here ++ places → EachPlace count here → IsTip count shape leaves here inner places i leaf
tip_there count shape leaves (place p) inner places i leaf lt e f g below =
    let within : leaf < length leaves = longer leaves leaf p places g in
    let a = sym (head_of shape i false lt) ∙ f in
    let b = sym (head_of leaves leaf 0 within) ∙ g in
    record { spot = p; is = refl; inner_left = cc; places_left = cc; within = within; read_there = cc; fits = below }
tip_there count shape leaves (parts l r) inner places i leaf lt e f g below = let a = sym (head_of shape i false lt) ∙ f in let bad : true ≡ false = cc in absurd (clash bad)
  where
    clash : true ≡ false → ⊥
    clash e = cc

fork_there : (shape : List Bool) (here : Shape ℕ) (inner : List Bool) (i : ℕ) → i < length shape → get_or shape i false ≡ true → drop i shape ≡ inner_of here ++ inner → (l r : Shape ℕ) × (here ≡ parts l r) × (drop (i + 1) shape ≡ inner_of l ++ (inner_of r ++ inner))
fork_there shape (place p) inner i lt e f = let a = sym (head_of shape i false lt) ∙ f in let bad : true ≡ false = cc in absurd (clash bad)
  where
    clash : true ≡ false → ⊥
    clash e = cc
fork_there shape (parts l r) inner i lt e f =
    let a : get_or shape i false ∷ drop (i + 1) shape ≡ true ∷ ((inner_of l ++ inner_of r) ++ inner) = sym (head_of shape i false lt) ∙ f in
    let b : drop (i + 1) shape ≡ (inner_of l ++ inner_of r) ++ inner = cc in
    (l, r, refl, b ∙ append_assoc (inner_of l) (inner_of r) inner)

module _ (numbers : List ℕ) (count : ℕ) (shape : List Bool) (leaves whole : List ℕ) where
  abbrev In : ℕ → ℕ → List TreeMark → List ℕ → Type 0
  In i leaf marks line = IsInTree numbers count shape leaves whole i leaf marks line

  abbrev Writes : ℕ → ℕ → List TreeMark → List ℕ → Type 0
  Writes i leaf marks line = WritesTree numbers count shape leaves whole i leaf marks line

  -- where a node is left, the tree isn't whole
  pub still_in : (i leaf : ℕ) (marks : List TreeMark) (line : List ℕ) → i < length shape → Writes i leaf marks line → In i leaf marks line
  still_in i leaf marks line lt (inl o) = o
  still_in i leaf marks line lt (inr h) = let e : get_or shape i false ∷ drop (i + 1) shape ≡ [] = sym (head_of shape i false lt) ∙ h.0 in let bad : ⊥ = cc in absurd bad

  pub tip_of : (i leaf : ℕ) (marks : List TreeMark) (line : List ℕ) → i < length shape → get_or shape i false ≡ false → (o : In i leaf marks line) → IsTip count shape leaves o.here (inner_in_tail o.tail) (places_in_tail o.tail) i leaf
  tip_of i leaf marks line lt e o = tip_there count shape leaves o.here (inner_in_tail o.tail) (places_in_tail o.tail) i leaf lt e o.inner o.places o.below

  -- a leaf is written, and what comes after it
  pub past_tip : (i leaf : ℕ) (marks : List TreeMark) (line : List ℕ) (o : In i leaf marks line) → IsTip count shape leaves o.here (inner_in_tail o.tail) (places_in_tail o.tail) i leaf → (longer now : List ℕ) (left : List TreeMark) → longer ≡ line ++ decimal (get_or numbers (get_or leaves leaf 0) 0) → TailGoesOn numbers o.tail longer left now → Writes (i + 1) (leaf + 1) left now
  past_tip i leaf marks line o t longer now left e goes = ⊎_elim
      (λ h. inr (t.inner_left ∙ h.1.inner, text ∙ h.1.text ∙ append-nil now))
      (λ h. inl (record {
        here = h.0;
        tail = h.1;
        inner = t.inner_left ∙ h.5.inner;
        places = t.places_left ∙ h.5.places;
        below = (h.5.within count o.within).0;
        within = (h.5.within count o.within).1;
        marked = h.3;
        text = text ∙ h.5.text ∙ sym (append_assoc h.2 (codes ",") (tree_text numbers h.0 ++ tail_text numbers h.1)) ∙ ap (λ z. z ++ (tree_text numbers h.0 ++ tail_text numbers h.1)) h.4;
      }))
      goes
    where
      text : whole ≡ longer ++ tail_text numbers o.tail
      text = o.text ∙ ap (λ s. line ++ (tree_text numbers s ++ tail_text numbers o.tail)) t.is ∙ sym (append_assoc line (decimal (get_or numbers t.spot 0)) (tail_text numbers o.tail)) ∙ ap (λ p. (line ++ decimal (get_or numbers p 0)) ++ tail_text numbers o.tail) (sym t.read_there) ∙ ap (λ z. z ++ tail_text numbers o.tail) (sym e)

  -- an inner node is written
  pub into_fork : (i leaf : ℕ) (marks : List TreeMark) (line now : List ℕ) (more : List TreeMark) → i < length shape → get_or shape i false ≡ true → In i leaf marks line → now ≡ line ++ codes "(" → more ≡ (marks ++ Close ∷ []) ++ Comma ∷ [] → Writes (i + 1) leaf more now
  into_fork i leaf marks line now more lt e o f g =
      let k = fork_there shape o.here (inner_in_tail o.tail) i lt e o.inner in
      by k.0 k.1 k.2 k.3
    where
      by : (l r : Shape ℕ) → o.here ≡ parts l r → drop (i + 1) shape ≡ inner_of l ++ (inner_of r ++ inner_in_tail o.tail) → Writes (i + 1) leaf more now
      by l r is inner =
          let below : EachPlace count l × EachPlace count r = subst (λ z. EachPlace count z) is o.below in
          let tl = tree_text numbers l in
          let tr = tree_text numbers r in
          let rest = tail_text numbers o.tail in
          inl (record {
            here = l;
            tail = right_side r ∷ closing ∷ o.tail;
            inner = inner;
            places = o.places ∙ ap (λ s. places_of s ++ places_in_tail o.tail) is ∙ append_assoc (places_of l) (places_of r) (places_in_tail o.tail);
            below = below.0;
            within = (below.1, o.within);
            marked = (marks ++ Close ∷ [], g, (marks, refl, o.marked));
            text = o.text ∙ ap (λ s. line ++ (tree_text numbers s ++ rest)) is ∙ ap (λ z. line ++ z) (opened tl tr rest) ∙ sym (append_assoc line (codes "(") (tl ++ (codes "," ++ (tr ++ (codes ")" ++ rest))))) ∙ ap (λ z. z ++ (tl ++ (codes "," ++ (tr ++ (codes ")" ++ rest))))) (sym f);
          })
        where
          opened : (a b c : List ℕ) → (codes "(" ++ (a ++ (codes "," ++ (b ++ codes ")")))) ++ c ≡ codes "(" ++ (a ++ (codes "," ++ (b ++ (codes ")" ++ c))))
          opened a b c = ap (λ z. codes "(" ++ z) (append_assoc a (codes "," ++ (b ++ codes ")")) c ∙ ap (λ z. a ++ (codes "," ++ z)) (append_assoc b (codes ")") c))

  pub writes_as : (i leaf leaf' : ℕ) (marks marks' : List TreeMark) (line line' : List ℕ) → leaf' ≡ leaf → marks' ≡ marks → line' ≡ line → Writes i leaf marks line → Writes i leaf' marks' line'
  writes_as i leaf leaf' marks marks' line line' e f h o = subst (λ n. Writes i n marks' line') (sym e) (subst (λ z. Writes i leaf z line') (sym f) (subst (λ z. Writes i leaf marks z) (sym h) o))

  -- the tree is whole
  pub written : (i leaf : ℕ) (marks : List TreeMark) (line : List ℕ) → length shape ≤ i → Writes i leaf marks line → line ≡ whole
  written i leaf marks line le (inr h) = sym h.1
  written i leaf marks line le (inl o) = absurd (by o.here o.inner)
    where
      by : (s : Shape ℕ) → drop i shape ≡ inner_of s ++ inner_in_tail o.tail → ⊥
      by (place p) e = let lt = longer shape i false (inner_in_tail o.tail) e in omega (arith, lt, le)
      by (parts l r) e = let lt = longer shape i true ((inner_of l ++ inner_of r) ++ inner_in_tail o.tail) e in omega (arith, lt, le)

-- before the first node
pub begun : (numbers : List ℕ) (count : ℕ) (shape : List Bool) (leaves line : List ℕ) (s : Shape ℕ) → shape ≡ inner_of s → leaves ≡ places_of s → EachPlace count s → WritesTree numbers count shape leaves (line ++ tree_text numbers s) 0 0 [] line
begun numbers count shape leaves line s e f each = inl (record {
  here = s;
  tail = [];
  inner = e ∙ sym (append-nil (inner_of s));
  places = f ∙ sym (append-nil (places_of s));
  below = each;
  within = tt;
  marked = refl;
  text = ap (λ z. line ++ z) (sym (append-nil (tree_text numbers s)));
})
