-- What survives in one of two systems has the shape of what survives in the other.
use Rattle.std.proofs.Common.{◌≡◌, ℕ, List, [], ◌∷◌, ◌++◌, inl, inr, ⊎_elim, refl, subst}
use Rattle.kex_code.specs.declared.symbol.Symbol.{Symbol}
use Rattle.kex_code.specs.declared.symbol.Symbol.TheVariants as symbols
use Rattle.kex_code.specs.Codes.{Before, IsAmong}
use Rattle.kex_model.specs.Programs.{Grammar}
use Rattle.kex_model.specs.Labelled.{Labelled, tip, fork, leaves_of, Shape, place, parts, shape_of}
use Rattle.kex_model.specs.Moves.{Move}
use Rattle.kex_model.specs.Places.{Place, moves, start_of}
use Rattle.kex_model.specs.Survivors.{CodedPlace, Rising, IsParted, StartsWith, IsAlive, Survives, HasShape}
use Rattle.kex_model.specs.Alike.{Alike}
use Rattle.kex_model.proofs.Shapes.{among_left, among_right}
use Rattle.kex_model.proofs.Transfer.{reach_ahead, reach_back, end_ahead, end_back, survives_ahead, survives_back}
use Rattle.kex_machine.specs.Nodes.{Graph, node_moves}
use Rattle.kex_lowering.specs.Shapes.{SameShape, SameShapes, SamePaths}

module _ {S T : Type 0} (R : S → T → Type 0) where
  -- the same labels, at places that are paired
  abbrev SameTree : Labelled Symbol S → Labelled Symbol T → Type 0
  SameTree (tip p) (tip q) = R p q
  SameTree (fork x l y r) (fork x' l' y' r') = (x ≡ x') × SameTree l l' × (y ≡ y') × SameTree r r'
  SameTree (tip p) (fork x l y r) = ⊥
  SameTree (fork x l y r) (tip q) = ⊥

  abbrev SameItems : List (CodedPlace S) → List (CodedPlace T) → Type 0
  SameItems [] [] = Unit {0}
  SameItems (x ∷ xs) (y ∷ ys) = R x.at y.at × (x.code ≡ y.code) × SameItems xs ys
  SameItems [] (y ∷ ys) = ⊥
  SameItems (x ∷ xs) [] = ⊥

  paired_tree : (t : Labelled Symbol S) (c : List Symbol) → ((x : CodedPlace S) → IsAmong (leaves_of t c) x → (q : T) × R x.at q) → (u : Labelled Symbol T) × SameTree t u
  paired_tree (tip p) c h = let x = h (record { at = p; code = c }) (inl refl) in (tip x.0, x.1)
  paired_tree (fork x l y r) c h =
      let a = paired_tree l (c ++ x) (λ z i. h z (among_left (leaves_of l (c ++ x)) (leaves_of r (c ++ y)) z i)) in
      let b = paired_tree r (c ++ y) (λ z i. h z (among_right (leaves_of l (c ++ x)) (leaves_of r (c ++ y)) z i)) in
      (fork x a.0 y b.0, (refl, a.1, refl, b.1))

  items-append : (xs : List (CodedPlace S)) (ys : List (CodedPlace T)) (xs' : List (CodedPlace S)) (ys' : List (CodedPlace T)) → SameItems xs ys → SameItems xs' ys' → SameItems (xs ++ xs') (ys ++ ys')
  items-append [] [] xs' ys' h k = k
  items-append (x ∷ xs) (y ∷ ys) xs' ys' h k = (h.0, h.1, items-append xs ys xs' ys' h.2 k)
  items-append [] (y ∷ ys) xs' ys' h k = absurd h
  items-append (x ∷ xs) [] xs' ys' h k = absurd h

  same_leaves : (t : Labelled Symbol S) (u : Labelled Symbol T) (c : List Symbol) → SameTree t u → SameItems (leaves_of t c) (leaves_of u c)
  same_leaves (tip p) (tip q) c h = (h, refl, tt)
  same_leaves (fork x l y r) (fork x' l' y' r') c h =
      items-append (leaves_of l (c ++ x)) (leaves_of l' (c ++ x')) (leaves_of r (c ++ y)) (leaves_of r' (c ++ y'))
      (subst (λ z. SameItems (leaves_of l (c ++ x)) (leaves_of l' (c ++ z))) h.0 (same_leaves l l' (c ++ x) h.1))
      (subst (λ z. SameItems (leaves_of r (c ++ y)) (leaves_of r' (c ++ z))) h.2 (same_leaves r r' (c ++ y) h.3))
  same_leaves (tip p) (fork x l y r) c h = absurd h
  same_leaves (fork x l y r) (tip q) c h = absurd h

  item_ahead : (xs : List (CodedPlace S)) (ys : List (CodedPlace T)) → SameItems xs ys → (x : CodedPlace S) → IsAmong xs x → (y : CodedPlace T) × IsAmong ys y × R x.at y.at × (x.code ≡ y.code)
  item_ahead (x ∷ xs) (y ∷ ys) h z i = ⊎_elim
      (λ e. (y, inl refl, subst (λ v. R v.at y.at) e h.0, subst (λ v. v.code ≡ y.code) e h.1))
      (λ j. let k = item_ahead xs ys h.2 z j in (k.0, inr k.1, k.2, k.3))
      i
  item_ahead [] ys h z i = absurd i
  item_ahead (x ∷ xs) [] h z i = absurd h

  item_back : (xs : List (CodedPlace S)) (ys : List (CodedPlace T)) → SameItems xs ys → (y : CodedPlace T) → IsAmong ys y → (x : CodedPlace S) × IsAmong xs x × R x.at y.at × (x.code ≡ y.code)
  item_back (x ∷ xs) (y ∷ ys) h z i = ⊎_elim
      (λ e. (x, inl refl, subst (λ v. R x.at v.at) e h.0, subst (λ v. x.code ≡ v.code) e h.1))
      (λ j. let k = item_back xs ys h.2 z j in (k.0, inr k.1, k.2, k.3))
      i
  item_back xs [] h z i = absurd i
  item_back [] (y ∷ ys) h z i = absurd h

  rising : (xs : List (CodedPlace S)) (ys : List (CodedPlace T)) → SameItems xs ys → Rising xs → Rising ys
  rising [] [] h k = tt
  rising (x ∷ xs) (y ∷ ys) h k = ((λ z i. let b = item_back xs ys h.2 z i in subst (λ c. Before c z.code) h.1 (subst (λ c. Before x.code c) b.3 (k.0 b.0 b.1))), rising xs ys h.2 k.1)
  rising [] (y ∷ ys) h k = absurd h
  rising (x ∷ xs) [] h k = absurd h

  parted : (t : Labelled Symbol S) (u : Labelled Symbol T) → SameTree t u → IsParted t → IsParted u
  parted (tip p) (tip q) h k = tt
  parted (fork x l y r) (fork x' l' y' r') h (a, b, c, d) =
      (subst (λ z. StartsWith symbols.L z) h.0 a, parted l l' h.1 b, subst (λ z. StartsWith symbols.R z) h.2 c, parted r r' h.3 d)
  parted (tip p) (fork x l y r) h k = absurd h
  parted (fork x l y r) (tip q) h k = absurd h

  same_shape : (t : Labelled Symbol S) (u : Labelled Symbol T) → SameTree t u → SameShape R (shape_of t) (shape_of u)
  same_shape (tip p) (tip q) h = h
  same_shape (fork x l y r) (fork x' l' y' r') h = (same_shape l l' h.1, same_shape r r' h.3)
  same_shape (tip p) (fork x l y r) h = absurd h
  same_shape (fork x l y r) (tip q) h = absurd h

-- the other way round
pub turned_shape : {S T : Type 0} (R : S → T → Type 0) (s : Shape S) (u : Shape T) → SameShape (λ t s. R s t) u s → SameShape R s u
turned_shape R (place s) (place t) h = h
turned_shape R (parts l r) (parts l' r') h = (turned_shape R l l' h.0, turned_shape R r r' h.1)
turned_shape R (place s) (parts l r) h = absurd h
turned_shape R (parts l r) (place t) h = absurd h

-- the shape of w in the other system
module _ {S T : Type 0} (f : S → Move S) (g : T → Move T) (s₀ : S) (t₀ : T) (w : List ℕ) (R : S → T → Type 0)
    (carry : (p : S) (c : List Symbol) → Survives f s₀ w p c → (q : T) × R p q × Survives g t₀ w q c)
    (alive : (q : T) → IsAlive g t₀ w q → (p : S) × R p q × IsAlive f s₀ w p)
    (one : (p : S) (q q' : T) → R p q → R p q' → q ≡ q') where
  pub shape_on : (s : Shape S) → HasShape f s₀ w s → (u : Shape T) × SameShape R s u × HasShape g t₀ w u
  shape_on s (c, t, tree, e) =
      let x = paired_tree R t c (λ z i. let k = carry z.at z.code (tree.lists.each z i) in (k.0, k.1)) in
      let items = same_leaves R t x.0 c x.1 in (
        shape_of x.0,
        subst (λ z. SameShape R z (shape_of x.0)) e (same_shape R t x.0 x.1),
        (
          c,
          x.0,
          record {
            lists = record {
              each = λ y i.
                  let b = item_back R (leaves_of t c) (leaves_of x.0 c) items y i in
                  let k = carry b.0.at b.0.code (tree.lists.each b.0 b.1) in
                  subst (λ z. Survives g t₀ w z y.code) (one b.0.at k.0 y.at k.1 b.2) (subst (λ z. Survives g t₀ w k.0 z) b.3 k.2);
              all = λ q a.
                  let b = alive q a in
                  let l = tree.lists.all b.0 b.2 in
                  let k = item_ahead R (leaves_of t c) (leaves_of x.0 c) items (record { at = b.0; code = l.0 }) l.1 in
                  (k.0.code, subst (λ z. IsAmong (leaves_of x.0 c) (record { at = z; code = k.0.code })) (one b.0 k.0.at q k.2 b.1) k.1);
              ordered = rising R (leaves_of t c) (leaves_of x.0 c) items tree.lists.ordered;
            };
            parted = parted R t x.0 x.1 tree.parted;
          },
          refl,
        ),
      )

module _ (P : Grammar) (root : ℕ) (m : Graph) (R : Place → ℕ → Type 0) (a : Alike (λ p. moves P p) (λ n. node_moves m.nodes n) R) (start : R (start_of P root) m.start) where
  abbrev f : Place → Move Place
  f p = moves P p

  abbrev g : ℕ → Move ℕ
  g n = node_moves m.nodes n

  abbrev s₀ : Place
  s₀ = start_of P root

  pub same_shapes : SameShapes P root m R
  same_shapes = record {
    one_node = λ p n n' h k. a.one p n n' h k;
    one_place = λ p p' n h k. a.one_back p p' n h k;
    path_of_nodes = λ w p c end h. let x = reach_ahead f g R a s₀ m.start start w p c end h in (x.0, x.1, x.2, end_ahead f g R a s₀ m.start start p x.0 x.1 end);
    path_of_places = λ w n c end h. let x = reach_back f g R a s₀ m.start start w n c h in (x.0, x.1, x.2, end_back f g R a s₀ m.start start x.0 n x.1 end);
    shape_of_nodes = λ w s h. shape_on f g s₀ m.start w R
        (λ p c k. survives_ahead f g R a s₀ m.start start w p c k)
        (λ n k. let x = reach_back f g R a s₀ m.start start w n k.0 k.1 in (x.0, x.1, (k.0, x.2, end_back f g R a s₀ m.start start x.0 n x.1 k.2)))
        (λ p n n' h k. a.one p n n' h k)
        s h;
    shape_of_places = λ w u h.
        let x = shape_on g f m.start s₀ w (λ n p. R p n)
        (λ n c k. survives_back f g R a s₀ m.start start w n c k)
        (λ p k. let x = reach_ahead f g R a s₀ m.start start w p k.0 k.2 k.1 in (x.0, x.1, (k.0, x.2, end_ahead f g R a s₀ m.start start p x.0 x.1 k.2)))
        (λ n p p' h k. a.one_back p p' n h k)
        u h in
        (x.0, turned_shape R x.0 u x.1, x.2);
  }

  pub same_paths : Alike g f (λ n p. R p n) → SamePaths P root m R
  same_paths b = record {
    to_node = λ w p c h. reach_back g f (λ n p. R p n) b m.start s₀ start w p c h;
    to_place = λ w n c h. reach_back f g R a s₀ m.start start w n c h;
  }
