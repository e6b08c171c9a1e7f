-- Rows that are added.
use Rattle.std.proofs.Common.{◌<◌, ◌≡◌, ℕ, ◌+◌, ◌*◌, ◌/◌, ◌^◌, List, [], ◌∷◌, ◌++◌, All, Some, length, get_or, refl, sym, ap, ap₂, subst, ◌∙◌, arith, length-append, ⊎_elim}
use Rattle.std.specs.Prelude.{slice_get}
use Rattle.std.proofs.lemmas.List.{append-nil}
use Rattle.std.proofs.lemmas.List.Elements.{All-append, All-nil}
use Rattle.std.proofs.lemmas.Option.{slice_get_within, get_or_from_slice_get}
use Rattle.std.proofs.lemmas.Nat.{div-mul-add, pow_pos}
use Rattle.kex_moves.specs.declared.edge.Edge.{Edge}
use Rattle.kex_moves.specs.declared.edge.EdgeKind.TheVariants.{Keep, Drop, Unknown}
use Rattle.kex_moves.specs.declared.edges.Pair.{Pair}
use Rattle.kex_moves.specs.Edges.{IsUnlearnt, IsAtRow}
use Rattle.kex_moves.proofs.KnownEdges.{front_of, behind_of, parts_of}
use Rattle.kex_moves.specs.Known.{Known, IsEdge, IsOrdered, IsPairRow, Widens}

pub widens_none : (k : Known) (state node : ℕ) → Widens k k state node
widens_none k state node = record {
  pairs = [];
  edges = [];
  wider = ap₂ (λ (p : List Pair) (e : List Edge). record { classes = k.classes; width = k.width; shift = k.shift; pairs = p; edges = e; text = k.text; acts = k.acts }) (sym (append-nil k.pairs)) (sym (append-nil k.edges));
  of = All-nil (λ (p : Pair). (p.state ≡ state) × (p.node ≡ node));
  unknown = All-nil IsUnlearnt;
}

edge_stands : (k k' : Known) (more : List Edge) (e : Edge) → k' ≡ record { classes = k.classes; width = k.width; shift = k.shift; pairs = k'.pairs; edges = k.edges ++ more; text = k.text; acts = k.acts } → IsEdge k e → IsEdge k' e
edge_stands k k' more e f h = subst (λ x. IsEdge x e) (sym f) (record { next = λ known. omega (arith, h.next known, length-append k.edges more); begins = h.begins; room = h.room; acts = h.acts; alone = h.alone })

silent : (k : Known) (e : Edge) → IsUnlearnt e → IsEdge k e
silent k e h = let is = h.0 in let single = h.1 in record { next = λ known. cc; begins = λ known. cc; room = λ written. cc; acts = λ acts. cc; alone = λ alone. cc }

pub ordered_wider : (k : Known) (p : Pair) (more : List Edge) → IsOrdered k → length more ≡ k.width → All IsUnlearnt more → IsOrdered (record { classes = k.classes; width = k.width; shift = k.shift; pairs = k.pairs ++ p ∷ []; edges = k.edges ++ more; text = k.text; acts = k.acts })
ordered_wider k p more h e unknown =
    let wide : Known = record { classes = k.classes; width = k.width; shift = k.shift; pairs = k.pairs ++ p ∷ []; edges = k.edges ++ more; text = k.text; acts = k.acts } in
    record {
      width = h.width;
      few = h.few;
      bytes = h.bytes;
      text = h.text;
      classes = h.classes;
      rows = length-append k.edges more ∙ ap₂ (λ (a b : ℕ). a + b) h.rows e ∙ one_more (length k.pairs) k.width ∙ ap (λ n. n * k.width) (sym (length-append k.pairs (p ∷ [])));
      edges = All-append (IsEdge wide) k.edges more (λ i d l. edge_stands k wide more (get_or k.edges i d) refl (h.edges i d l)) (λ i d l. silent wide (get_or more i d) (unknown i d l));
      back = λ number class e lt at. ⊎_elim (λ l. h.back number class e lt (sym (front_of k.edges more (number * k.width + class) l) ∙ at)) (λ l. none (number * k.width) e (behind_of IsUnlearnt k.edges more (number * k.width + class) e l unknown at).0) (parts_of (number * k.width + class) (length k.edges));
    }
  where
    none : (row : ℕ) (e : Edge) → e.kind ≡ Unknown → IsAtRow row e
    none row e h = record { keeps = λ q. let no : Unknown ≡ Keep = sym h ∙ q in cc; drops = λ q. let no : Unknown ≡ Drop = sym h ∙ q in cc }

    one_more : (n w : ℕ) → n * w + w ≡ (n + 1) * w
    one_more n w = omega arith

slice_get-last : {A : Type 0} (xs : List A) (x : A) → slice_get (xs ++ x ∷ []) (length xs) ≡ Some x
slice_get-last [] x = refl
slice_get-last (z ∷ xs) x = slice_get-last xs x

-- the row that was added last
pub last_row : (k k' : Known) (p : Pair) (row : ℕ) → IsOrdered k → k'.pairs ≡ k.pairs ++ p ∷ [] → k'.width ≡ k.width → row ≡ length k.edges → IsPairRow k' row p
last_row k k' p row h e f g = record {
  number = length k.pairs;
  at = ap (λ l. slice_get l (length k.pairs)) e ∙ slice_get-last k.pairs p;
  begins = g ∙ h.rows ∙ ap (λ w. length k.pairs * w) (sym f);
}

-- a row says its pair
pub number_of_row : (k : Known) (row : ℕ) (p : Pair) → IsOrdered k → (h : IsPairRow k row p) → row / 2 ^ k.shift ≡ h.number
number_of_row k row p o h =
    let some : 0 < k.width = omega (arith, o.width, pow_pos k.shift) in
    ap₂ (λ r w. r / w) (h.begins ∙ more) (sym o.width) ∙ div-mul-add h.number k.width 0 some
  where
    more : h.number * k.width ≡ h.number * k.width + 0
    more = omega arith

pub pair_of_row : (k : Known) (row : ℕ) (p d : Pair) → IsOrdered k → IsPairRow k row p → get_or k.pairs (row / 2 ^ k.shift) d ≡ p
pair_of_row k row p d o h = ap (λ i. get_or k.pairs i d) (number_of_row k row p o h) ∙ get_or_from_slice_get k.pairs h.number p d h.at

pub number_in : (k : Known) (row : ℕ) (p : Pair) → IsOrdered k → IsPairRow k row p → row / 2 ^ k.shift < length k.pairs
number_in k row p o h = omega (arith, number_of_row k row p o h, slice_get_within k.pairs h.number p h.at)
