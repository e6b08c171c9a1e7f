-- The stages of two alike programs: each is refused for what its partner is refused for, and the first one that is has the same number.
use Rattle.std.proofs.Common.{◌≡◌, ℕ, zero, suc, List, [], ◌∷◌, ◌++◌, ◌⊎◌, inl, inr, length, map, refl, sym, ap, ◌∙◌, subst}
use Rattle.kex_code.specs.Codes.{IsAmong, HasNumber}
use Rattle.kex_model.specs.Programs.{Grammar}
use Rattle.kex_model.specs.declared.program.Start.{Start}
use Rattle.kex_model.specs.Trees.{root_of}
use Rattle.kex_model.proofs.Tables.{some_same}
use Rattle.kex_rules.specs.Rules.{IsDefined, IsUse}
use Rattle.kex_lowering.specs.declared.refusal.StageRefusal.{StageRefusal}
use Rattle.kex_lowering.specs.declared.refusal.StageRefusal.TheVariants.{TooManyPlaces, NoText, Memory}
use Rattle.kex_compile.specs.Stages.{IsFirst, IsStageRefused, NoneIs, most_places, roots_of}
use Rattle.kex_compile.proofs.Terms.{SameName}
use Rattle.kex_compile.proofs.Alike.{Alike, SameStages, name_back}
use Rattle.kex_compile.proofs.PlacePairs.{Partners, end_ahead, more_on, root_on}

-- ---- lists in pairs

unfoldable pub Pairwise : (ℕ → ℕ → Type 0) → List ℕ → List ℕ → Type 0
Pairwise T [] [] = Unit {0}
Pairwise T (x ∷ xs) (y ∷ ys) = T x y × Pairwise T xs ys
Pairwise T _ _ = ⊥

pub pair_on : (T : ℕ → ℕ → Type 0) (xs ys : List ℕ) → Pairwise T xs ys → (x : ℕ) → IsAmong xs x → (y : ℕ) × IsAmong ys y × T x y
unfolding Pairwise
pair_on T [] [] h x i = absurd i
pair_on T [] (y ∷ ys) h x i = absurd h
pair_on T (z ∷ xs) [] h x i = absurd h
pair_on T (z ∷ xs) (y ∷ ys) h x (inl e) = (y, inl refl, subst (λ u. T u y) e h.0)
pair_on T (z ∷ xs) (y ∷ ys) h x (inr i) = let r = pair_on T xs ys h.1 x i in (r.0, inr r.1, r.2)

pub pair_at : (T : ℕ → ℕ → Type 0) (xs ys : List ℕ) → Pairwise T xs ys → (i x y : ℕ) → HasNumber xs x i → HasNumber ys y i → T x y
unfolding Pairwise
pair_at T [] ys h i x y k l = cc
pair_at T (z ∷ xs) [] h i x y k l = absurd h
pair_at T (z ∷ xs) (u ∷ ys) h zero x y k l = subst (λ a. T a y) (some_same z x k) (subst (λ a. T z a) (some_same u y l) h.0)
pair_at T (z ∷ xs) (u ∷ ys) h (suc i) x y k l = pair_at T xs ys h.1 i x y k l

-- pairs of lists within others
pub pairs_within : (T : ℕ → ℕ → Type 0) (A B xs ys : List ℕ) → ((x : ℕ) → IsAmong xs x → IsAmong A x) → ((y : ℕ) → IsAmong ys y → IsAmong B y) → Pairwise T xs ys → Pairwise (λ x y. T x y × IsAmong A x × IsAmong B y) xs ys
unfolding Pairwise
pairs_within T A B [] [] f g h = tt
pairs_within T A B [] (y ∷ ys) f g h = absurd h
pairs_within T A B (x ∷ xs) [] f g h = absurd h
pairs_within T A B (x ∷ xs) (y ∷ ys) f g h = ((h.0, f x (inl refl), g y (inl refl)), pairs_within T A B xs ys (λ z i. f z (inr i)) (λ z i. g z (inr i)) h.1)

-- the first of the list that is so has this number
pub FirstAt : (ℕ → Type 0) → List ℕ → ℕ → Type 0
FirstAt Q [] n = ⊥
FirstAt Q (x ∷ xs) n = (Q x × (n ≡ 1)) ⊎ ((Q x → ⊥) × (m : ℕ) × (n ≡ suc m) × FirstAt Q xs m)

first_at : (Q : ℕ → Type 0) (before : List ℕ) (x : ℕ) (behind : List ℕ) → Q x → NoneIs Q before → FirstAt Q (before ++ x ∷ behind) (suc (length before))
unfolding FirstAt
first_at Q [] x behind q none = inl (q, refl)
first_at Q (y ∷ before) x behind q none = inr (none y (inl refl), suc (length before), refl, first_at Q before x behind q (λ z i. none z (inr i)))

pub first_of : (Q : ℕ → Type 0) (xs : List ℕ) (n : ℕ) → IsFirst Q xs n → FirstAt Q xs n
first_of Q xs n h = subst (λ z. FirstAt Q z n) (sym h.split) (subst (λ z. FirstAt Q (h.before ++ h.at ∷ h.behind) z) (sym h.number_is) (first_at Q h.before h.at h.behind h.is_so h.none_before))

pub same_first : (T : ℕ → ℕ → Type 0) (A B : ℕ → Type 0) → ((x y : ℕ) → T x y → A x → B y) → ((x y : ℕ) → T x y → B y → A x) → (xs ys : List ℕ) (n m : ℕ) → Pairwise T xs ys → FirstAt A xs n → FirstAt B ys m → n ≡ m
unfolding Pairwise FirstAt
same_first T A B f g [] ys n m p h k = absurd h
same_first T A B f g (x ∷ xs) [] n m p h k = absurd k
same_first T A B f g (x ∷ xs) (y ∷ ys) n m p (inl h) (inl k) = h.1 ∙ sym k.1
same_first T A B f g (x ∷ xs) (y ∷ ys) n m p (inl h) (inr k) = absurd (k.0 (f x y p.0 h.0))
same_first T A B f g (x ∷ xs) (y ∷ ys) n m p (inr h) (inl k) = absurd (h.0 (g x y p.0 k.0))
same_first T A B f g (x ∷ xs) (y ∷ ys) n m p (inr h) (inr k) = h.2 ∙ ap suc (same_first T A B f g xs ys h.1 k.1 p.1 h.3 k.3) ∙ sym k.2

pub first_among : (Q : ℕ → Type 0) (xs : List ℕ) (n : ℕ) → IsFirst Q xs n → (x : ℕ) × IsAmong xs x × Q x
first_among Q xs n h = (h.at, subst (λ z. IsAmong z h.at) (sym h.split) (there h.before), h.is_so)
  where
    there : (before : List ℕ) → IsAmong (before ++ h.at ∷ h.behind) h.at
    there [] = inl refl
    there (y ∷ before) = inr (there before)

-- ---- stages

-- stages in pairs are as many
pub same_count : (R : ℕ → ℕ → Type 0) (ss ts : List Start) → SameStages R ss ts → length ss ≡ length ts
unfolding SameStages
same_count R [] [] h = refl
same_count R (s ∷ ss) (t ∷ ts) h = ap suc (same_count R ss ts h.2)
same_count R [] (t ∷ ts) h = absurd h
same_count R (s ∷ ss) [] h = absurd h

abbrev pub Known : Grammar → Type 0
Known P = (name at : ℕ) → IsUse P name at → IsDefined P.definitions name

abbrev root : Grammar → Start → ℕ
root P s = root_of P s.name

module _ (P Q : Grammar) (a : Alike P Q) (b : Alike Q P) (known : Known P) (known' : Known Q) where
  -- the roots of a stage
  abbrev pub Both : ℕ → ℕ → Type 0
  Both r r' = Partners P Q a known r r' × Partners Q P b known' r' r

  roots_from : (ss ts : List Start) → SameStages (SameName P.names Q.names) ss ts → ((s : Start) → IsAmong ss s → IsDefined P.definitions s.name) → ((t : Start) → IsAmong ts t → IsDefined Q.definitions t.name) → Pairwise Both (map (root P) ss) (map (root Q) ts)
  unfolding Pairwise SameStages
  roots_from [] [] h d e = tt
  roots_from [] (t ∷ ts) h d e = absurd h
  roots_from (s ∷ ss) [] h d e = absurd h
  roots_from (s ∷ ss) (t ∷ ts) h d e = ((root_on P Q a known s.name t.name (h.0, d s (inl refl)), root_on Q P b known' t.name s.name (name_back P.names Q.names s.name t.name h.0, e t (inl refl))), roots_from ss ts h.2 (λ x i. d x (inr i)) (λ x i. e x (inr i)))

  pub roots : Pairwise Both (roots_of P) (roots_of Q)
  roots = roots_from P.stages Q.stages a.stages (λ s i. known s.name s.at (inr (s, i, refl, refl))) (λ t i. known' t.name t.at (inr (t, i, refl, refl)))

  why_on : (e : StageRefusal) (r r' : ℕ) → Both r r' → IsStageRefused P e r → IsStageRefused Q e r'
  why_on TooManyPlaces r r' x h = more_on P Q a known r r' x.0 most_places h
  why_on NoText r r' x h = ((λ m. h.0 (more_on Q P b known' r' r x.1 most_places m)), (λ l. h.1 (end_ahead Q P b known' r' r x.1 l)))
  why_on Memory r r' x h = tt

  -- a stage that is refused has a partner that is
  pub refused_on : (e : StageRefusal) (n : ℕ) → IsFirst (IsStageRefused P e) (roots_of P) n → (r : ℕ) × IsAmong (roots_of Q) r × IsStageRefused Q e r
  refused_on e n h =
      let f = first_among (IsStageRefused P e) (roots_of P) n h in
      let p = pair_on Both (roots_of P) (roots_of Q) roots f.0 f.1 in
      (p.0, p.1, why_on e f.0 p.0 p.2 f.2)

-- the first stage that is refused for something has one number
pub one_stage : (P Q : Grammar) (a : Alike P Q) (b : Alike Q P) (known : Known P) (known' : Known Q) (e : StageRefusal) (n m : ℕ) → IsFirst (IsStageRefused P e) (roots_of P) n → IsFirst (IsStageRefused Q e) (roots_of Q) m → n ≡ m
one_stage P Q a b known known' e n m h k =
    same_first (Both P Q a b known known') (IsStageRefused P e) (IsStageRefused Q e) (why_on P Q a b known known' e) (λ x y t q. why_on Q P b a known' known e y x (t.1, t.0) q) (roots_of P) (roots_of Q) n m (roots P Q a b known known') (first_of (IsStageRefused P e) (roots_of P) n h) (first_of (IsStageRefused Q e) (roots_of Q) m k)
