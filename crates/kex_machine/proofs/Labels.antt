-- A tree goes on alike, whatever alphabet its labels are written in, where the words for labels join as the labels do.
use Rattle.std.proofs.Common.{◌≡◌, ℕ, Bool, List, [], ◌∷◌, ◌++◌, Option, Some, None, refl, sym, ap, ap₂, subst, ◌∙◌}
use Rattle.kex_code.specs.declared.symbol.Symbol.{Symbol}
use Rattle.kex_code.specs.declared.symbol.Symbol.TheVariants.{L, R}
use Rattle.kex_model.specs.Moves.{Move, accept, read, choose, forced, go, symbol_of}
use Rattle.kex_model.specs.Labelled.{Labelled, tip, fork, Grown, with_prefix, fork_of, map_labels}
use Rattle.kex_machine.specs.Advancing.{Visits, known, stops, parts_off, is_forced, passes_on, Advances, dies, reads_on, both, left_or_right, at_end, first_accepting, LeadAlike, map_labels_if}

module _ {A B : Type 0} (h : List A → List B) (empty : h [] ≡ []) (joins : (x y : List A) → h (x ++ y) ≡ h x ++ h y) where
  pub map_labels-with_prefix : (x : List A) (a : Option (Grown A ℕ)) → map_labels_if h (with_prefix x a) ≡ with_prefix (h x) (map_labels_if h a)
  map_labels-with_prefix x None = refl
  map_labels-with_prefix x (Some g) = ap (λ z. Some (record { label = z; tree = map_labels h g.tree })) (joins x g.label)

  pub map_labels-fork_of : (a b : Option (Grown A ℕ)) → map_labels_if h (fork_of a b) ≡ fork_of (map_labels_if h a) (map_labels_if h b)
  map_labels-fork_of None None = refl
  map_labels-fork_of None (Some r) = refl
  map_labels-fork_of (Some l) None = refl
  map_labels-fork_of (Some l) (Some r) = ap (λ z. Some (record { label = z; tree = fork (h l.label) (map_labels h l.tree) (h r.label) (map_labels h r.tree) })) empty

  two_sides : (x y : List A) (a b : Option (Grown A ℕ)) → map_labels_if h (fork_of (with_prefix x a) (with_prefix y b)) ≡ fork_of (with_prefix (h x) (map_labels_if h a)) (with_prefix (h y) (map_labels_if h b))
  two_sides x y a b = map_labels-fork_of (with_prefix x a) (with_prefix y b) ∙ ap₂ (λ u v. fork_of u v) (map_labels-with_prefix x a) (map_labels-with_prefix y b)

  map_labels-left_or_right : (a b : Option (Grown A ℕ)) → map_labels_if h (left_or_right a b) ≡ left_or_right (map_labels_if h a) (map_labels_if h b)
  map_labels-left_or_right None b = refl
  map_labels-left_or_right (Some l) b = refl

  map_labels-at_end : (m : Move ℕ) (p : ℕ) → map_labels_if h (at_end m p) ≡ at_end m p
  map_labels-at_end accept p = ap (λ z. Some (record { label = z; tree = tip p })) empty
  map_labels-at_end (read s t) p = refl
  map_labels-at_end (choose l r) p = refl
  map_labels-at_end (forced x t) p = refl
  map_labels-at_end (go e t) p = refl

  -- the same tip accepts
  pub map_labels-first_accepting : (moves : ℕ → Move ℕ) (t : Labelled A ℕ) → map_labels_if h (first_accepting moves t) ≡ first_accepting moves (map_labels h t)
  map_labels-first_accepting moves (tip p) = map_labels-at_end (moves p) p
  map_labels-first_accepting moves (fork x l y r) =
      map_labels-left_or_right (with_prefix x (first_accepting moves l)) (with_prefix y (first_accepting moves r))
      ∙ ap₂ (λ u v. left_or_right u v) (map_labels-with_prefix x (first_accepting moves l) ∙ ap (λ z. with_prefix (h x) z) (map_labels-first_accepting moves l)) (map_labels-with_prefix y (first_accepting moves r) ∙ ap (λ z. with_prefix (h y) z) (map_labels-first_accepting moves r))

  module _ (put : Symbol → A) (put' : Symbol → B) (puts : (s : Symbol) → h (put s ∷ []) ≡ put' s ∷ []) (moves : ℕ → Move ℕ) where
    pub relabelled_visit : {f g : List Bool} {n : ℕ} {a : Option (Grown A ℕ)} → Visits put moves f n a g → Visits put' moves f n (map_labels_if h a) g
    relabelled_visit (known e) = known e
    relabelled_visit {f = f} {g = g} {n = n} (stops lt e w) = subst (λ z. Visits put' moves f n (Some (record { label = z; tree = tip n })) g) (sym empty) (stops lt e w)
    relabelled_visit {f = f} {g = g} {n = n} (parts_off {a = a} {b = b} lt e m va vb) =
        subst (λ z. Visits put' moves f n z g)
        (ap₂ (λ u v. fork_of (with_prefix u (map_labels_if h a)) (with_prefix v (map_labels_if h b))) (sym (puts L)) (sym (puts R)) ∙ sym (two_sides (put L ∷ []) (put R ∷ []) a b))
        (parts_off lt e m (relabelled_visit va) (relabelled_visit vb))
    relabelled_visit {f = f} {g = g} {n = n} (is_forced {x = x} {a = a} lt e m v) =
        subst (λ z. Visits put' moves f n z g)
        (ap (λ u. with_prefix u (map_labels_if h a)) (sym (puts (symbol_of x))) ∙ sym (map_labels-with_prefix (put (symbol_of x) ∷ []) a))
        (is_forced lt e m (relabelled_visit v))
    relabelled_visit (passes_on lt e m v) = passes_on lt e m (relabelled_visit v)

    pub relabelled_advance : (input : A) (input' : B) → h (input ∷ []) ≡ input' ∷ [] → {b : ℕ} {f g : List Bool} {t : Labelled A ℕ} {a : Option (Grown A ℕ)} → Advances put input moves b f t a g → Advances put' input' moves b f (map_labels h t) (map_labels_if h a) g
    relabelled_advance input input' same (dies d) = dies d
    relabelled_advance input input' same {b = b} {f = f} {g = g} {t = t} (reads_on {a = a} r v) =
        subst (λ z. Advances put' input' moves b f (map_labels h t) z g)
        (ap (λ u. with_prefix u (map_labels_if h a)) (sym same) ∙ sym (map_labels-with_prefix (input ∷ []) a))
        (reads_on r (relabelled_visit v))
    relabelled_advance input input' same {b = b} {f = f} {g = g} {t = t} (both {u = u} {v = v} {x = x} {y = y} vx vy) =
        subst (λ z. Advances put' input' moves b f (map_labels h t) z g)
        (sym (two_sides u v x y))
        (both (relabelled_advance input input' same vx) (relabelled_advance input input' same vy))

-- bytes that no set tells apart lead on alike
pub alike_advance : {A : Type 0} {put : Symbol → A} {input : A} {moves : ℕ → Move ℕ} {b c : ℕ} {f g : List Bool} {t : Labelled A ℕ} {a : Option (Grown A ℕ)} → LeadAlike moves b c → Advances put input moves b f t a g → Advances put input moves c f t a g
alike_advance same (dies {p = p} d) = dies (λ t r. d t ((same p t).1 r))
alike_advance same (reads_on {p = p} {t = t} r v) = reads_on ((same p t).0 r) v
alike_advance same (both vx vy) = both (alike_advance same vx) (alike_advance same vy)
