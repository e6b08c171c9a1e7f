-- Trees and walks: each is read off the other.
use Rattle.std.proofs.Common.{◌≡◌, ℕ, zero, suc, ◌≤◌, Bool, true, false, List, [], ◌∷◌, ◌++◌, ◌⊎◌, inl, inr, ⊎_elim, length, Option, Some, None, IsTrue, get_or, refl, sym, ap, ap₂, ◌∙◌, append_assoc, append-nil, length-append, arith}
use Rattle.std.proofs.lemmas.List.{append_cancel_left}
use Rattle.kex_model.specs.Programs.{Grammar}
use Rattle.kex_model.specs.declared.program.Kind.{Kind}
use Rattle.kex_model.specs.declared.program.Kind.TheVariants.{One, Lit, Class, Call, Seq, Alt, Rep, Mute, At, Write, Set, Add}
use Rattle.kex_code.specs.declared.symbol.Symbol.{Symbol}
use Rattle.kex_code.specs.declared.symbol.Symbol.TheVariants.{L, R}
use Rattle.kex_code.specs.Codes.{bytes_of}
use Rattle.kex_model.specs.Moves.{Move, accept, read, choose, go, Effect, drop_buffer, into, Step, Side, to_left, to_right, symbol_of, turn_side, end_side, turn_or_end, took, chose, went, Allows, reads, goes_left, goes_right, goes, target_of, symbols_of, code_of, Walk}
use Rattle.kex_model.specs.declared.frame.Frame.TheVariants.{Pending, EndOf}
use Rattle.kex_model.specs.declared.frame.Frame.{Frame}
use Rattle.kex_model.specs.Places.{Place, fresh, enter, with_counts, moves_of, end_effect, moves, steps_of}
use Rattle.kex_model.specs.Trees.{kind_at, root_of, less, Tree, leaf, byte, pair, chose_left, chose_right, inner, turn, done, IsTree, one, lit, one_byte, call, seq, alt_left, alt_right, needed, again, end, mute, at_register, write_register, set_register, add_register, yield_of, end_mark, code}
use Rattle.kex_model.proofs.Walks.{bytes_of-append}

-- by plain variables, since `cc` reads all that a term computes to
pub tails : {A : Type 0} (x y : A) (xs ys : List A) → x ∷ xs ≡ y ∷ ys → xs ≡ ys
tails x y xs ys e = cc

heads : {A : Type 0} (x y : A) (xs ys : List A) → x ∷ xs ≡ y ∷ ys → x ≡ y
heads x y xs ys e = cc

-- a repetition's turn and its end lie on different sides
pub sides_differ : (lazy : Bool) → symbol_of (turn_side lazy) ≡ symbol_of (end_side lazy) → ⊥
sides_differ false e = cc
sides_differ true e = cc

turns : {S : Type 0} (lazy : Bool) (t e : S) → Allows (turn_or_end lazy t e) (chose (turn_side lazy) t)
turns false t e = goes_left
turns true t e = goes_right

ends : {S : Type 0} (lazy : Bool) (t e : S) → Allows (turn_or_end lazy t e) (chose (end_side lazy) e)
ends false t e = goes_right
ends true t e = goes_left

no_byte : (x : Side) (c : List Symbol) → bytes_of (symbol_of x ∷ c) ≡ bytes_of c
no_byte to_left c = refl
no_byte to_right c = refl

pub code_of-append : {S : Type 0} (js ks : List (Step S)) → code_of (js ++ ks) ≡ code_of js ++ code_of ks
code_of-append [] ks = refl
code_of-append (j ∷ js) ks = ap (λ c. symbols_of j ++ c) (code_of-append js ks) ∙ sym (append_assoc (symbols_of j) (code_of js) (code_of ks))

pub walk-append : {S : Type 0} (f : S → Move S) (js ks : List (Step S)) (s m t : S) → Walk f s js m → Walk f m ks t → Walk f s (js ++ ks) t
walk-append f [] ks s m t wj wk = rw (wj) wk
walk-append f (j ∷ js) ks s m t wj wk = (wj.0, walk-append f js ks (target_of j) m t wj.1 wk)

module _ (P : Grammar) where
  -- the kind is that of node n, but for the counts of a repetition
  abbrev pub IsVersion : ℕ → Kind → Type 0
  IsVersion n k = (need : ℕ) (left : Option ℕ) → with_counts (kind_at P n) need left ≡ with_counts k need left

  moves_fresh : (n : ℕ) (k : Kind) (rest : Place) → IsVersion n k → moves P (fresh n k ∷ rest) ≡ moves_of P n k rest
  moves_fresh n One rest v = ap (λ k. moves_of P n k rest) (v 0 None)
  moves_fresh n (Lit s) rest v = ap (λ k. moves_of P n k rest) (v 0 None)
  moves_fresh n (Class s) rest v = ap (λ k. moves_of P n k rest) (v 0 None)
  moves_fresh n (Call s) rest v = ap (λ k. moves_of P n k rest) (v 0 None)
  moves_fresh n (Seq l r) rest v = ap (λ k. moves_of P n k rest) (v 0 None)
  moves_fresh n (Alt l r) rest v = ap (λ k. moves_of P n k rest) (v 0 None)
  moves_fresh n (Rep body min max lazy) rest v = ap (λ k. moves_of P n k rest) (v min max)
  moves_fresh n (Mute s) rest v = ap (λ k. moves_of P n k rest) (v 0 None)
  moves_fresh n (At r s) rest v = ap (λ k. moves_of P n k rest) (v 0 None)
  moves_fresh n (Write s) rest v = ap (λ k. moves_of P n k rest) (v 0 None)
  moves_fresh n (Set r s) rest v = ap (λ k. moves_of P n k rest) (v 0 None)
  moves_fresh n (Add r s) rest v = ap (λ k. moves_of P n k rest) (v 0 None)

  pub itself : (n : ℕ) → IsVersion n (kind_at P n)
  itself n = λ need left. refl

  counted : (n body min : ℕ) (max : Option ℕ) (lazy : Bool) → IsVersion n (Rep body min max lazy) → (need : ℕ) (left : Option ℕ) → IsVersion n (Rep body need left lazy)
  counted n body min max lazy v need left = v

  -- the first step from a node that is begun
  first : (n : ℕ) (k : Kind) (rest : Place) (j : Step Place) → IsVersion n k → Allows (moves_of P n k rest) j → Allows (moves P (fresh n k ∷ rest)) j
  first n k rest j v a = rw (moves_fresh n k rest v) a

  -- a version of a node ends as the node
  ends_as : (n : ℕ) (k : Kind) → IsVersion n k → end_effect (kind_at P n) ≡ end_effect k
  ends_as n k v = sym (same_end (kind_at P n)) ∙ ap end_effect (v 0 None) ∙ same_end k
    where
      same_end : (k : Kind) → end_effect (with_counts k 0 None) ≡ end_effect k
      same_end One = refl
      same_end (Lit s) = refl
      same_end (Class s) = refl
      same_end (Call s) = refl
      same_end (Seq l r) = refl
      same_end (Alt l r) = refl
      same_end (Rep body min max lazy) = refl
      same_end (Mute s) = refl
      same_end (At r s) = refl
      same_end (Write s) = refl
      same_end (Set r s) = refl
      same_end (Add r s) = refl

  -- the step at a node's end
  end_step : (n : ℕ) (k : Kind) (rest : Place) {j : Step Place} → IsVersion n k → Allows (go (end_effect k) rest) j → Allows (moves P (EndOf n ∷ rest)) j
  end_step n k rest v a = rw (ends_as n k v) a

  pub tree_walk : {k : Kind} {t : Tree} (n : ℕ) (rest : Place) → IsVersion n k → IsTree P k t → Walk (moves P) (fresh n k ∷ rest) (steps_of P n k t rest) rest
  tree_walk n rest v one = (first n One rest _ v goes, refl)
  tree_walk n rest v (lit {s = s}) = (first n (Lit s) rest _ v goes, refl)
  tree_walk n rest v (one_byte {set = s} i) = (first n (Class s) rest _ v (reads i), refl)
  tree_walk n rest v (call {name = f} a) = (first n (Call f) rest _ v goes, tree_walk (root_of P f) rest (itself _) a)
  tree_walk n rest v (seq {l = l} {r = r} a b) = (first n (Seq l r) rest _ v goes, walk-append (moves P) _ _ _ (enter P r ∷ rest) _ (tree_walk l (enter P r ∷ rest) (itself l) a) (tree_walk r rest (itself r) b))
  tree_walk n rest v (alt_left {l = l} {r = r} a) = (first n (Alt l r) rest _ v goes_left, tree_walk l rest (itself l) a)
  tree_walk n rest v (alt_right {l = l} {r = r} a) = (first n (Alt l r) rest _ v goes_right, tree_walk r rest (itself r) a)
  tree_walk n rest v (needed {body = body} {min = min} {max = max} {lazy = lazy} a b) = (first n (Rep body (suc min) max lazy) rest _ v goes, walk-append (moves P) _ _ _ (Pending n min (less max) ∷ rest) _ (tree_walk body (Pending n min (less max) ∷ rest) (itself body) a) (tree_walk n rest (counted n body (suc min) max lazy v min (less max)) b))
  tree_walk n rest v (again {body = body} {max = None} {lazy = lazy} i a b) = (first n (Rep body zero None lazy) rest _ v (turns lazy _ _), walk-append (moves P) _ _ _ (Pending n zero None ∷ rest) _ (tree_walk body (Pending n zero None ∷ rest) (itself body) a) (tree_walk n rest (counted n body zero None lazy v zero None) b))
  tree_walk n rest v (again {max = Some zero} {lazy = lazy} i a b) = elim i [ ]
  tree_walk n rest v (again {body = body} {max = Some (suc m)} {lazy = lazy} i a b) = (first n (Rep body zero (Some (suc m)) lazy) rest _ v (turns lazy _ _), walk-append (moves P) _ _ _ (Pending n zero (less (Some (suc m))) ∷ rest) _ (tree_walk body (Pending n zero (less (Some (suc m))) ∷ rest) (itself body) a) (tree_walk n rest (counted n body zero (Some (suc m)) lazy v zero (less (Some (suc m)))) b))
  tree_walk n rest v (end {body = body} {max = None} {lazy = lazy}) = (first n (Rep body zero None lazy) rest _ v (ends lazy _ _), refl)
  tree_walk n rest v (end {body = body} {max = Some zero} {lazy = lazy}) = (first n (Rep body zero (Some zero) lazy) rest _ v goes, refl)
  tree_walk n rest v (end {body = body} {max = Some (suc m)} {lazy = lazy}) = (first n (Rep body zero (Some (suc m)) lazy) rest _ v (ends lazy _ _), refl)
  tree_walk n rest v (mute {n = m} a) = (first n (Mute m) rest _ v goes, walk-append (moves P) _ _ _ (EndOf n ∷ rest) _ (tree_walk m (EndOf n ∷ rest) (itself m) a) (end_step n (Mute m) rest v goes, refl))
  tree_walk n rest v (at_register {r = r} {n = m} a) = (first n (At r m) rest _ v goes, walk-append (moves P) _ _ _ (EndOf n ∷ rest) _ (tree_walk m (EndOf n ∷ rest) (itself m) a) (end_step n (At r m) rest v goes, refl))
  tree_walk n rest v (write_register {r = r}) = (first n (Write r) rest _ v goes, refl)
  tree_walk n rest v (set_register {r = r} {parts = s}) = (first n (Set r s) rest _ v goes, refl)
  tree_walk n rest v (add_register {r = r} {parts = s}) = (first n (Add r s) rest _ v goes, refl)

  -- the steps of a tree have its code
  pub steps-code : {k : Kind} {t : Tree} (n : ℕ) (rest : Place) → IsTree P k t → code_of (steps_of P n k t rest) ≡ code P k t
  steps-code n rest one = refl
  steps-code n rest lit = refl
  steps-code n rest (one_byte i) = refl
  steps-code n rest (call {name = f} a) = steps-code (root_of P f) rest a
  steps-code n rest (seq {l = l} {r = r} a b) = rw code_of-append (ap₂ (λ x y. x ++ y) (steps-code l (enter P r ∷ rest) a) (steps-code r rest b))
  steps-code n rest (alt_left {l = l} a) = ap (λ x. L ∷ x) (steps-code l rest a)
  steps-code n rest (alt_right {r = r} a) = ap (λ x. R ∷ x) (steps-code r rest a)
  steps-code n rest (needed {body = body} {min = min} {max = max} {lazy = lazy} a b) = rw code_of-append (ap₂ (λ x y. x ++ y) (steps-code body (Pending n min (less max) ∷ rest) a) (steps-code n rest b))
  steps-code n rest (again {body = body} {max = max} {lazy = lazy} i a b) = ap (λ x. symbol_of (turn_side lazy) ∷ x) (rw code_of-append (ap₂ (λ x y. x ++ y) (steps-code body (Pending n zero (less max) ∷ rest) a) (steps-code n rest b)))
  steps-code n rest (end {max = None} {lazy = lazy}) = refl
  steps-code n rest (end {max = Some zero} {lazy = lazy}) = refl
  steps-code n rest (end {max = Some (suc m)} {lazy = lazy}) = refl
  steps-code n rest (mute {n = m} a) = rw (code_of-append, append-nil) (steps-code m (EndOf n ∷ rest) a)
  steps-code n rest (at_register {r = r} {n = m} a) = rw (code_of-append, append-nil) (steps-code m (EndOf n ∷ rest) a)
  steps-code n rest write_register = refl
  steps-code n rest set_register = refl
  steps-code n rest add_register = refl

  -- a tree's code has the bytes of its text
  pub code-bytes : {k : Kind} {t : Tree} → IsTree P k t → bytes_of (code P k t) ≡ yield_of t
  code-bytes one = refl
  code-bytes lit = refl
  code-bytes (one_byte i) = refl
  code-bytes (call a) = code-bytes a
  code-bytes (seq a b) = rw bytes_of-append (ap₂ (λ x y. x ++ y) (code-bytes a) (code-bytes b))
  code-bytes (alt_left a) = code-bytes a
  code-bytes (alt_right a) = code-bytes a
  code-bytes (needed {body = n} {min = min} {max = max} {lazy = lazy} {a = s} {rest = t} a b) = bytes_of-append (code P (kind_at P n) s) (code P (Rep n min (less max) lazy) t) ∙ ap₂ (λ x y. x ++ y) (code-bytes a) (code-bytes b)
  code-bytes (again {body = n} {max = max} {lazy = lazy} {a = s} {rest = t} i a b) = no_byte (turn_side lazy) _ ∙ bytes_of-append (code P (kind_at P n) s) (code P (Rep n zero (less max) lazy) t) ∙ ap₂ (λ x y. x ++ y) (code-bytes a) (code-bytes b)
  code-bytes (end {max = None} {lazy = lazy}) = no_byte (end_side lazy) []
  code-bytes (end {max = Some zero} {lazy = lazy}) = refl
  code-bytes (end {max = Some (suc m)} {lazy = lazy}) = no_byte (end_side lazy) []
  code-bytes (mute a) = code-bytes a
  code-bytes (at_register a) = code-bytes a
  code-bytes write_register = refl
  code-bytes set_register = refl
  code-bytes add_register = refl

  -- no tree's code begins another's, and one code is of one tree
  pub same_tree : {k : Kind} {s t : Tree} (x y : List Symbol) → IsTree P k s → IsTree P k t → code P k s ++ x ≡ code P k t ++ y → (s ≡ t) × (x ≡ y)
  same_tree x y one one e = (refl, e)
  same_tree x y lit lit e = (refl, e)
  same_tree x y (one_byte {b = a} i) (one_byte {b = b} j) e =
      let same : a ≡ b = cc in (ap byte same, (cc))
  same_tree x y (call a) (call b) e = let q = same_tree x y a b e in (ap inner q.0, q.1)
  same_tree x y (seq {l = l} {r = r} {a = a} {b = b} ta tb) (seq {a = a'} {b = b'} ta' tb') e =
      let q = same_tree (code P (kind_at P r) b ++ x) (code P (kind_at P r) b' ++ y) ta ta' (sym (append_assoc _ _ x) ∙ e ∙ append_assoc _ _ y) in
      let q' = same_tree x y tb tb' q.1 in (ap₂ pair q.0 q'.0, q'.1)
  same_tree x y (alt_left a) (alt_left b) e = let q = same_tree x y a b (cc) in (ap chose_left q.0, q.1)
  same_tree x y (alt_left a) (alt_right b) e = cc
  same_tree x y (alt_right a) (alt_left b) e = cc
  same_tree x y (alt_right a) (alt_right b) e = let q = same_tree x y a b (cc) in (ap chose_right q.0, q.1)
  same_tree x y (needed {body = n} {min = min} {max = max} {lazy = lazy} {a = a} {rest = b} ta tb) (needed {a = a'} {rest = b'} ta' tb') e =
      let q = same_tree (code P (Rep n min (less max) lazy) b ++ x) (code P (Rep n min (less max) lazy) b' ++ y) ta ta' (sym (append_assoc _ _ x) ∙ e ∙ append_assoc _ _ y) in
      let q' = same_tree x y tb tb' q.1 in (ap₂ turn q.0 q'.0, q'.1)
  same_tree x y (again {body = n} {max = max} {lazy = lazy} {a = a} {rest = b} i ta tb) (again {a = a'} {rest = b'} i' ta' tb') e =
      let e' : (code P (kind_at P n) a ++ code P (Rep n zero (less max) lazy) b) ++ x ≡ (code P (kind_at P n) a' ++ code P (Rep n zero (less max) lazy) b') ++ y = tails (symbol_of (turn_side lazy)) (symbol_of (turn_side lazy)) _ _ e in
      let q = same_tree (code P (Rep n zero (less max) lazy) b ++ x) (code P (Rep n zero (less max) lazy) b' ++ y) ta ta' (sym (append_assoc _ _ x) ∙ e' ∙ append_assoc _ _ y) in
      let q' = same_tree x y tb tb' q.1 in (ap₂ turn q.0 q'.0, q'.1)
  same_tree x y (again {max = None} {lazy = lazy} i ta tb) end e = absurd (sides_differ lazy (heads _ _ _ _ e))
  same_tree x y (again {max = Some zero} {lazy = lazy} i ta tb) end e = elim i [ ]
  same_tree x y (again {max = Some (suc m)} {lazy = lazy} i ta tb) end e = absurd (sides_differ lazy (heads _ _ _ _ e))
  same_tree x y (end {max = None} {lazy = lazy}) (again i ta tb) e = absurd (sides_differ lazy (sym (heads _ _ _ _ e)))
  same_tree x y (end {max = Some zero} {lazy = lazy}) (again i ta tb) e = elim i [ ]
  same_tree x y (end {max = Some (suc m)} {lazy = lazy}) (again i ta tb) e = absurd (sides_differ lazy (sym (heads _ _ _ _ e)))
  same_tree x y (end {max = max} {lazy = lazy}) end e = (refl, append_cancel_left (end_mark lazy max) x y e)
  same_tree x y (mute a) (mute b) e = let q = same_tree x y a b e in (ap inner q.0, q.1)
  same_tree x y (at_register a) (at_register b) e = let q = same_tree x y a b e in (ap inner q.0, q.1)
  same_tree x y write_register write_register e = (refl, e)
  same_tree x y set_register set_register e = (refl, e)
  same_tree x y add_register add_register e = (refl, e)

-- the steps that a move allows
pub from_go : {S : Type 0} {e : Effect} {s : S} {k : Step S} → Allows (go e s) k → k ≡ went e s
from_go goes = refl

pub from_choose : {S : Type 0} {l r : S} {k : Step S} → Allows (choose l r) k → (k ≡ chose to_left l) ⊎ (k ≡ chose to_right r)
from_choose goes_left = inl refl
from_choose goes_right = inr refl

-- a turn or the end
pub from_turn : {S : Type 0} (lazy : Bool) {t e : S} {k : Step S} → Allows (turn_or_end lazy t e) k → (k ≡ chose (turn_side lazy) t) ⊎ (k ≡ chose (end_side lazy) e)
from_turn false goes_left = inl refl
from_turn false goes_right = inr refl
from_turn true goes_left = inr refl
from_turn true goes_right = inl refl

pub from_read : {S : Type 0} {set : List Bool} {s : S} {k : Step S} → Allows (read set s) k → (b : ℕ) × IsTrue (get_or set b false) × (k ≡ took b s)
from_read (reads {b = b} i) = (b, i, refl)

pub from_accept : {S : Type 0} {k : Step S} → Allows {S = S} accept k → ⊥
from_accept h = elim h [ ]

module _ (P : Grammar) where
  -- a walk from a node that is begun to the end is a tree's steps and then a walk from the place after it
  pub record Splits (n : ℕ) (k : Kind) (rest : Place) (ks : List (Step Place)) : Type 0 where
    pub tree : Tree
    pub tail : List (Step Place)
    pub is_tree : IsTree P k tree
    pub same : ks ≡ steps_of P n k tree rest ++ tail
    pub goes_on : Walk (moves P) rest tail []

  -- one step, and what it leaves
  one_step : (n : ℕ) (k : Kind) (rest : Place) (t : Tree) (j j' : Step Place) (ks : List (Step Place)) → IsTree P k t → j ≡ j' → steps_of P n k t rest ≡ j' ∷ [] → target_of j' ≡ rest → Walk (moves P) (target_of j) ks [] → Splits n k rest (j ∷ ks)
  one_step n k rest t j j' ks it e steps to w = record { tree = t; tail = ks; is_tree = it; same = rw (steps, e); goes_on = rw (← to, ← e) w }

  -- a step into a body of the same kind of tree
  into_one : (n : ℕ) (k : Kind) (rest : Place) (m : ℕ) (f : Tree → Tree) (j j' : Step Place) (ks : List (Step Place)) → ((t : Tree) → IsTree P (kind_at P m) t → IsTree P k (f t)) → ((t : Tree) → steps_of P n k (f t) rest ≡ j' ∷ steps_of P m (kind_at P m) t rest) → j ≡ j' → Splits m (kind_at P m) rest ks → Splits n k rest (j ∷ ks)
  into_one n k rest m f j j' ks it steps e s = record { tree = f s.tree; tail = s.tail; is_tree = it s.tree s.is_tree; same = rw (steps s.tree, e) (ap (λ z. j' ∷ z) s.same); goes_on = s.goes_on }

  tail_fits : (n : ℕ) (k : Kind) (rest : Place) (ks : List (Step Place)) (f : ℕ) → length ks ≤ f → (s : Splits n k rest ks) → length s.tail ≤ f
  tail_fits n k rest ks f le s = omega (arith, ap length s.same, length-append (steps_of P n k s.tree rest) s.tail)

  -- two trees, one after the other
  into_two : (n : ℕ) (k : Kind) (rest : Place) (a b : ℕ) (ka kb : Kind) (f : Tree → Tree → Tree) (j j' : Step Place) (ks : List (Step Place)) → ((s t : Tree) → IsTree P ka s → IsTree P kb t → IsTree P k (f s t)) → ((s t : Tree) → steps_of P n k (f s t) rest ≡ j' ∷ (steps_of P a ka s (fresh b kb ∷ rest) ++ steps_of P b kb t rest)) → j ≡ j' → (s : Splits a ka (fresh b kb ∷ rest) ks) → Splits b kb rest s.tail → Splits n k rest (j ∷ ks)
  into_two n k rest a b ka kb f j j' ks it steps e s t = record {
    tree = f s.tree t.tree;
    tail = t.tail;
    is_tree = it s.tree t.tree s.is_tree t.is_tree;
    same = rw (steps s.tree t.tree, e) (ap (λ z. j' ∷ z) (s.same ∙ ap (λ z. steps_of P a ka s.tree (fresh b kb ∷ rest) ++ z) t.same ∙ sym (append_assoc (steps_of P a ka s.tree (fresh b kb ∷ rest)) (steps_of P b kb t.tree rest) t.tail)));
    goes_on = t.goes_on;
  }

  -- a tree and then the end of a frame
  into_frame : (n : ℕ) (k : Kind) (rest : Place) (m : ℕ) (frame : Frame) (e : Effect) (f : Tree → Tree) (j j' : Step Place) (ks : List (Step Place)) → moves P (frame ∷ rest) ≡ go e rest → ((s : Tree) → IsTree P (kind_at P m) s → IsTree P k (f s)) → ((s : Tree) → steps_of P n k (f s) rest ≡ j' ∷ (steps_of P m (kind_at P m) s (frame ∷ rest) ++ went e rest ∷ [])) → j ≡ j' → (s : Splits m (kind_at P m) (frame ∷ rest) ks) → Splits n k rest (j ∷ ks)
  into_frame n k rest m frame e f j j' ks move it steps eq s = last s.tail s.same s.goes_on
    where
      body : List (Step Place)
      body = steps_of P m (kind_at P m) s.tree (frame ∷ rest)

      last : (tail : List (Step Place)) → ks ≡ body ++ tail → Walk (moves P) (frame ∷ rest) tail [] → Splits n k rest (j ∷ ks)
      last [] same w = cc
      last (i ∷ tail) same w =
          let is : i ≡ went e rest = from_go (rw move at w.0) in
          let cut : body ++ i ∷ tail ≡ (body ++ went e rest ∷ []) ++ tail = rw is (sym (append_assoc body (went e rest ∷ []) tail)) in
          record { tree = f s.tree; tail = tail; is_tree = it s.tree s.is_tree; same = rw (steps s.tree, eq) (ap (λ z. j' ∷ z) (same ∙ cut)); goes_on = rw is at w.1 }

  -- what is known of shorter walks
  abbrev pub Known : ℕ → Type 0
  Known f = (n : ℕ) (k : Kind) (rest : Place) (ks : List (Step Place)) → length ks ≤ f → IsVersion P n k → Walk (moves P) (fresh n k ∷ rest) ks [] → Splits n k rest ks

  by_kind : (f : ℕ) → Known f → (n : ℕ) (k : Kind) (rest : Place) (j : Step Place) (ks : List (Step Place)) → length ks ≤ f → IsVersion P n k → Allows (moves_of P n k rest) j → Walk (moves P) (target_of j) ks [] → Splits n k rest (j ∷ ks)
  by_kind f known n One rest j ks le v a w = one_step n One rest leaf j _ ks one (from_go a) refl refl w
  by_kind f known n (Lit s) rest j ks le v a w = one_step n (Lit s) rest leaf j _ ks lit (from_go a) refl refl w
  by_kind f known n (Class s) rest j ks le v a w = let r = from_read a in one_step n (Class s) rest (byte r.0) j _ ks (one_byte r.1) r.2 refl refl w
  by_kind f known n (Call name) rest j ks le v a w =
      let m = root_of P name in
      into_one n (Call name) rest m inner j _ ks (λ t. call) (λ t. refl) (from_go a) (known m (kind_at P m) rest ks le (itself P m) (rw (from_go a) at w))
  by_kind f known n (Seq l r) rest j ks le v a w =
      let s : Splits l (kind_at P l) (enter P r ∷ rest) ks = known l (kind_at P l) (enter P r ∷ rest) ks le (itself P l) (rw (from_go a) at w) in
      into_two n (Seq l r) rest l r (kind_at P l) (kind_at P r) pair j _ ks (λ x y. seq) (λ x y. refl) (from_go a) s (known r (kind_at P r) rest s.tail (tail_fits _ _ _ ks f le s) (itself P r) s.goes_on)
  by_kind f known n (Alt l r) rest j ks le v a w =
      ⊎_elim
      (λ e. into_one n (Alt l r) rest l chose_left j _ ks (λ t. alt_left) (λ t. refl) e (known l (kind_at P l) rest ks le (itself P l) (rw e at w)))
      (λ e. into_one n (Alt l r) rest r chose_right j _ ks (λ t. alt_right) (λ t. refl) e (known r (kind_at P r) rest ks le (itself P r) (rw e at w)))
      (from_choose a)
  by_kind f known n (Rep body (suc min) max lazy) rest j ks le v a w =
      let kb = Rep body min (less max) lazy in
      let s : Splits body (kind_at P body) (Pending n min (less max) ∷ rest) ks = known body (kind_at P body) (Pending n min (less max) ∷ rest) ks le (itself P body) (rw (from_go a) at w) in
      into_two n (Rep body (suc min) max lazy) rest body n (kind_at P body) kb turn j _ ks (λ x y. needed) (λ x y. refl) (from_go a) s (known n kb rest s.tail (tail_fits _ _ _ ks f le s) (counted P n body (suc min) max lazy v min (less max)) s.goes_on)
  by_kind f known n (Rep body zero None lazy) rest j ks le v a w =
      ⊎_elim
      (λ e.
      let kb = Rep body zero None lazy in
      let s : Splits body (kind_at P body) (Pending n zero None ∷ rest) ks = known body (kind_at P body) (Pending n zero None ∷ rest) ks le (itself P body) (rw e at w) in
      into_two n (Rep body zero None lazy) rest body n (kind_at P body) kb turn j _ ks (λ x y. again tt) (λ x y. refl) e s (known n kb rest s.tail (tail_fits _ _ _ ks f le s) (counted P n body zero None lazy v zero None) s.goes_on))
      (λ e. one_step n (Rep body zero None lazy) rest done j _ ks end e refl refl w)
      (from_turn lazy a)
  by_kind f known n (Rep body zero (Some zero) lazy) rest j ks le v a w = one_step n (Rep body zero (Some zero) lazy) rest done j _ ks end (from_go a) refl refl w
  by_kind f known n (Rep body zero (Some (suc m)) lazy) rest j ks le v a w =
      ⊎_elim
      (λ e.
      let kb = Rep body zero (less (Some (suc m))) lazy in
      let s : Splits body (kind_at P body) (Pending n zero (less (Some (suc m))) ∷ rest) ks = known body (kind_at P body) (Pending n zero (less (Some (suc m))) ∷ rest) ks le (itself P body) (rw e at w) in
      into_two n (Rep body zero (Some (suc m)) lazy) rest body n (kind_at P body) kb turn j _ ks (λ x y. again tt) (λ x y. refl) e s (known n kb rest s.tail (tail_fits _ _ _ ks f le s) (counted P n body zero (Some (suc m)) lazy v zero (less (Some (suc m)))) s.goes_on))
      (λ e. one_step n (Rep body zero (Some (suc m)) lazy) rest done j _ ks end e refl refl w)
      (from_turn lazy a)
  by_kind f known n (Mute m) rest j ks le v a w =
      into_frame n (Mute m) rest m (EndOf n) drop_buffer inner j _ ks (ap (λ e. go e rest) (ends_as P n (Mute m) v)) (λ t. mute) (λ t. refl) (from_go a) (known m (kind_at P m) (EndOf n ∷ rest) ks le (itself P m) (rw (from_go a) at w))
  by_kind f known n (At r m) rest j ks le v a w =
      into_frame n (At r m) rest m (EndOf n) (into r) inner j _ ks (ap (λ e. go e rest) (ends_as P n (At r m) v)) (λ t. at_register) (λ t. refl) (from_go a) (known m (kind_at P m) (EndOf n ∷ rest) ks le (itself P m) (rw (from_go a) at w))
  by_kind f known n (Write r) rest j ks le v a w = one_step n (Write r) rest leaf j _ ks write_register (from_go a) refl refl w
  by_kind f known n (Set r s) rest j ks le v a w = one_step n (Set r s) rest leaf j _ ks set_register (from_go a) refl refl w
  by_kind f known n (Add r s) rest j ks le v a w = one_step n (Add r s) rest leaf j _ ks add_register (from_go a) refl refl w

  pub walk_tree : (f : ℕ) → Known f
  walk_tree f n k rest [] le v w = cc
  walk_tree zero n k rest (j ∷ ks) le v w = absurd (omega arith)
  walk_tree (suc f) n k rest (j ∷ ks) le v w = by_kind f (walk_tree f) n k rest j ks (omega arith) v (rw (moves_fresh P n k rest v) at w.0) w.1
