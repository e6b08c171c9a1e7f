-- The tree that goes on is that of the longer text.
use Rattle.std.proofs.Common.{◌≡◌, ℕ, zero, suc, Bool, false, List, [], ◌∷◌, ◌++◌, ⊎_elim, Option, Some, None, replicate, refl, sym, ap, ap₂, subst, ◌∙◌}
use Rattle.std.proofs.lemmas.Bool.{cases_eq}
use Rattle.kex_code.specs.declared.symbol.Symbol.{Symbol}
use Rattle.kex_code.specs.declared.symbol.Symbol.TheVariants.{L, R, Byte}
use Rattle.kex_code.specs.Codes.{bytes_of, AtMost, IsAmong}
use Rattle.kex_model.specs.Moves.{Move, accept, Step, symbol_of, to_left, to_right, chose, went, took, Allows, reads, code_of, Walk, Waits, IsWaiting}
use Rattle.kex_model.specs.Labelled.{Labelled, leaves_of, Grown, leaves_if, fork_of, with_prefix}
use Rattle.kex_model.specs.Survivors.{CodedPlace, StartsWith, IsParted, LeadsToEnd, IsPath, Reaches, IsViable, HasTree}
use Rattle.kex_model.proofs.Walks.{bytes_of-append}
use Rattle.kex_model.proofs.Derivations.{code_of-append, walk-append}
use Rattle.kex_model.proofs.Orders.{at_most_trans, at_most_more}
use Rattle.kex_model.proofs.Shapes.{parted_rises}
use Rattle.kex_model.proofs.AgreedFronts.{cut_walk, once_joined, byte_waits}
use Rattle.kex_model.proofs.LeftBehind.{shorten}
use Rattle.kex_machine.specs.Advancing.{itself, Visits, known, stops, parts_off, is_forced, passes_on, Advances, dies, reads_on, both}
use Rattle.kex_machine.proofs.Visits.{Marked, Quiet, Visited, visited}
use Rattle.kex_machine.proofs.Onward.{Advanced, advanced, leaf_code}

-- where there is a tree, its edges begin with L and R
abbrev pub IsPartedIf : Option (Grown Symbol ℕ) → Type 0
IsPartedIf None = Unit {0}
IsPartedIf (Some g) = IsParted g.tree

pub behind_parted : (x : List Symbol) (a : Option (Grown Symbol ℕ)) → IsPartedIf a → IsPartedIf (with_prefix x a)
behind_parted x None h = h
behind_parted x (Some g) h = h

more_starts : {s : Symbol} (x y : List Symbol) → StartsWith s x → StartsWith s (x ++ y)
more_starts x y (more, e) = (more ++ y, ap (λ z. z ++ y) e)

pub both_parted : (x y : List Symbol) (a a' : Option (Grown Symbol ℕ)) → StartsWith L x → StartsWith R y → IsPartedIf a → IsPartedIf a' → IsPartedIf (fork_of (with_prefix x a) (with_prefix y a'))
both_parted x y None None p q h h' = tt
both_parted x y (Some l) None p q h h' = h
both_parted x y None (Some r) p q h h' = h'
both_parted x y (Some l) (Some r) p q h h' = (more_starts x l.label p, h, more_starts y r.label q, h')

visits_parted : {moves : ℕ → Move ℕ} {f g : List Bool} {n : ℕ} {a : Option (Grown Symbol ℕ)} → Visits itself moves f n a g → IsPartedIf a
visits_parted (known e) = tt
visits_parted (stops lt e w) = tt
visits_parted (parts_off {a = a} {b = a'} lt e m v v') = both_parted (L ∷ []) (R ∷ []) a a' ([], refl) ([], refl) (visits_parted v) (visits_parted v')
visits_parted (is_forced {x = x} {a = a} lt e m v) = behind_parted (symbol_of x ∷ []) a (visits_parted v)
visits_parted (passes_on lt e m v) = visits_parted v

pub advances_parted : {moves : ℕ → Move ℕ} {b : ℕ} {f g : List Bool} {t : Labelled Symbol ℕ} {a : Option (Grown Symbol ℕ)} → Advances itself (Byte b) moves b f t a g → IsParted t → IsPartedIf a
advances_parted (dies h) p = tt
advances_parted {b = b} (reads_on {a = a} h v) p = behind_parted (Byte b ∷ []) a (visits_parted v)
advances_parted (both {u = u} {v = v} {x = x} {y = y} va vb) p = both_parted u v x y p.0 p.2 (advances_parted va p.1) (advances_parted vb p.3)

pub none_marked : (m n : ℕ) → Marked (replicate m false) n → ⊥
none_marked zero n e = cc
none_marked (suc m) zero e = cc
none_marked (suc m) (suc n) e = none_marked m n e

module _ (moves : ℕ → Move ℕ) (start : ℕ) where
  -- each node leads to the end
  pub record IsTrim : Type 0 where
    pub ends : (p : ℕ) → LeadsToEnd moves p

module _ (moves : ℕ → Move ℕ) (start : ℕ) (trim : IsTrim moves start) where
  -- what a walk reaches, a path reaches
  pub reached_by : (w : List ℕ) (p : ℕ) (ks : List (Step ℕ)) → Walk moves start ks p → Waits moves p → bytes_of (code_of ks) ≡ w → (c : List Symbol) × Reaches moves start w p c
  reached_by w p ks walk waits e =
      let s = shorten cases_eq moves ks start p walk in
      (code_of s.steps, (s.steps, record { walk = s.walk; waits = waits; once = s.once; reads = s.reads ∙ e }, refl))

  -- a tree is that of a text if its leaves are reached, and each place that is reached is at one of them with a code that is at most that of the path
  shows : (w : List ℕ) (c : List Symbol) (t : Labelled Symbol ℕ) → ((x : CodedPlace ℕ) → IsAmong (leaves_of t c) x → Reaches moves start w x.at x.code) → ((ks : List (Step ℕ)) (p : ℕ) → IsPath moves start w p ks → (x : CodedPlace ℕ) × IsAmong (leaves_of t c) x × (x.at ≡ p) × AtMost x.code (code_of ks)) → ((x y : CodedPlace ℕ) → IsAmong (leaves_of t c) x → IsAmong (leaves_of t c) y → x.at ≡ y.at → x ≡ y) → IsParted t → HasTree moves start w c t
  shows w c t each all single parted = record {
    lists = record {
      each = λ x i. record {
        reached = each x i;
        alive = trim.ends x.at;
        least = λ d (ks, path, e).
            let y = all ks x.at path in
            subst (λ z. AtMost z d) (ap (λ z. z.code) (single y.0 x y.1 i y.2)) (subst (λ z. AtMost y.0.code z) e y.3);
      };
      all = λ p s. let r = s.1 in let y = all r.0 p r.1 in (y.0.code, subst (λ z. IsAmong (leaves_of t c) (record { at = z; code = y.0.code })) y.2 y.1);
      ordered = parted_rises t c parted;
    };
    parted = parted;
  }

  module _ (w : List ℕ) (c : List Symbol) (t : Labelled Symbol ℕ) (has : HasTree moves start w c t) (b : ℕ) (a : Option (Grown Symbol ℕ)) (m : ℕ) (g : List Bool) (v : Advances itself (Byte b) moves b (replicate m false) t a g) where
    adv : Advanced moves b (replicate m false) t a g
    adv = advanced moves b v has.parted (λ n k i. absurd (none_marked m n i))

    -- each waiting place that is reached is at a leaf
    reach : (ks : List (Step ℕ)) (p : ℕ) → IsPath moves start (w ++ b ∷ []) p ks → (x : CodedPlace ℕ) × IsAmong (leaves_if a c) x × (x.at ≡ p) × AtMost x.code (code_of ks)
    reach ks p path =
        let r = cut_walk moves ks (start ∷ []) start p w b [] path.walk path.once path.reads in
        let front : IsPath moves start w r.at r.front = record { walk = r.first; waits = byte_waits moves r.byte; once = r.front_once; reads = r.front_bytes } in
        let here : Reaches moves start w r.at (code_of r.front) = (r.front, front, refl) in
        let y = has.lists.all r.at (code_of r.front, here, trim.ends r.at) in
        let o : CodedPlace ℕ = record { at = r.at; code = y.0 } in
        let least : AtMost y.0 (code_of r.front) = (has.lists.each o y.1).least (code_of r.front) here in
        let whole : code_of ks ≡ code_of r.front ++ Byte b ∷ code_of r.back = ap code_of r.same ∙ code_of-append r.front (took b r.to ∷ r.back) in
        ⊎_elim
        (λ i. absurd (none_marked m p i))
        (λ x. (
          x.0,
          x.1,
          x.2,
          subst (λ z. AtMost x.0.code z) (sym whole) (at_most_trans x.0.code (y.0 ++ Byte b ∷ code_of r.back) (code_of r.front ++ Byte b ∷ code_of r.back) x.3 (at_most_more y.0 (code_of r.front) (Byte b ∷ code_of r.back) least)),
        ))
        (adv.all c o y.1 r.to r.byte r.back p r.back_once (r.last, r.back_bytes) path.waits)

    -- each leaf is reached
    real : (x : CodedPlace ℕ) → IsAmong (leaves_if a c) x → Reaches moves start (w ++ b ∷ []) x.at x.code
    real x i =
        let l = adv.leaf c x i in
        let e = l.0 in
        let from = l.2 in
        let s = (has.lists.each e l.1).reached in
        let ks : List (Step ℕ) = s.0 ++ took b from.to ∷ from.steps in
        let walk : Walk moves start ks x.at = walk-append moves s.0 (took b from.to ∷ from.steps) start e.at x.at s.1.walk (from.byte, from.by.0.0) in
        let code : code_of ks ≡ x.code = code_of-append s.0 (took b from.to ∷ from.steps) ∙ ap (λ z. z ++ Byte b ∷ code_of from.steps) s.2 ∙ sym (leaf_code moves b e x from.steps from.by.1) in
        let text : bytes_of (code_of ks) ≡ w ++ b ∷ [] = ap bytes_of (code_of-append s.0 (took b from.to ∷ from.steps)) ∙ bytes_of-append (code_of s.0) (Byte b ∷ code_of from.steps) ∙ ap₂ (λ u v. u ++ b ∷ v) s.1.reads from.by.0.1 in
        (ks, record { walk = walk; waits = l.3; once = once_joined moves s.0 (start ∷ []) b from.to from.steps s.1.once from.once; reads = text }, code)

  -- a tree, or none where the text isn't viable
  abbrev pub ShowsTree : List ℕ → List Symbol → Option (Grown Symbol ℕ) → Type 0
  ShowsTree w c None = ¬ IsViable moves start w
  ShowsTree w c (Some g) = HasTree moves start w (c ++ g.label) g.tree

  pub next_shows : (w : List ℕ) (c : List Symbol) (t : Labelled Symbol ℕ) → HasTree moves start w c t → (b m : ℕ) (a : Option (Grown Symbol ℕ)) (g : List Bool) → Advances itself (Byte b) moves b (replicate m false) t a g → ShowsTree (w ++ b ∷ []) c a
  next_shows w c t has b m None g v = λ (p, s). let r = s.1 in (reach w c t has b None m g v r.0 p r.1).1
  next_shows w c t has b m (Some s) g v =
      shows (w ++ b ∷ []) (c ++ s.label) s.tree (real w c t has b (Some s) m g v) (reach w c t has b (Some s) m g v) ((adv w c t has b (Some s) m g v).single c) (advances_parted v has.parted)

  -- from each node some waiting place is reached without a byte
  first_wait : (ks : List (Step ℕ)) (s e : ℕ) → Walk moves s ks e → moves e ≡ accept → (js : List (Step ℕ)) × (p : ℕ) × Quiet moves s js p × Waits moves p
  first_wait [] s e w h = ([], s, (refl, refl), subst (λ z. IsWaiting z) (sym (ap moves w ∙ h)) tt)
  first_wait (took b t ∷ ks) s e w h = ([], s, (refl, refl), byte_first w.0)
    where
      byte_first : {n : Move ℕ} {u : ℕ} → Allows n (took b u) → IsWaiting n
      byte_first (reads h) = tt
  first_wait (chose to_left t ∷ ks) s e w h = let r = first_wait ks t e w.1 h in (chose to_left t ∷ r.0, r.1, ((w.0, r.2.0), r.2.1), r.3)
  first_wait (chose to_right t ∷ ks) s e w h = let r = first_wait ks t e w.1 h in (chose to_right t ∷ r.0, r.1, ((w.0, r.2.0), r.2.1), r.3)
  first_wait (went f t ∷ ks) s e w h = let r = first_wait ks t e w.1 h in (went f t ∷ r.0, r.1, ((w.0, r.2.0), r.2.1), r.3)

  -- what the empty text reaches
  first_all : (m : ℕ) (a : Option (Grown Symbol ℕ)) (g : List Bool) → Visits itself moves (replicate m false) start a g → Visited moves [] (replicate m false) start a g
  first_all m a g v = visited moves [] v (λ n k i. absurd (none_marked m n i)) (λ n i. absurd i)

  abbrev pub ShowsFirst : Option (Grown Symbol ℕ) → Type 0
  ShowsFirst None = ⊥
  ShowsFirst (Some g) = HasTree moves start [] g.label g.tree

  -- the tree of the empty text
  pub first_shows : (m : ℕ) (a : Option (Grown Symbol ℕ)) (g : List Bool) → Visits itself moves (replicate m false) start a g → ShowsFirst a
  first_shows m None g v =
      let e = trim.ends start in
      let r = first_wait e.0 start e.1 e.2 e.3 in
      let s = shorten cases_eq moves r.0 start r.1 r.2.0 in
      ⊎_elim (λ i. none_marked m r.1 i) (λ x. x.1) ((first_all m None g v).all [] s.steps r.1 (λ i. i) s.once (s.walk, s.reads ∙ r.2.1) r.3)
  first_shows m (Some s) g v =
      shows [] s.label s.tree
      (λ x i.
      let r = (first_all m (Some s) g v).leaf [] x i in
      (r.0, record { walk = r.1.0.0; waits = r.2; once = r.6; reads = r.1.0.1 }, sym r.1.1))
      (λ ks p path. ⊎_elim (λ i. absurd (none_marked m p i)) (λ x. (x.0, x.1, x.2, subst (λ z. AtMost z (code_of ks)) (sym x.3.1.1) x.3.2)) ((first_all m (Some s) g v).all [] ks p (λ i. i) path.once (path.walk, path.reads) path.waits))
      ((first_all m (Some s) g v).single [])
      (visits_parted v)
