use Rattle.std.proofs.Common.{◌≡◌, ◌∙◌, ◌<◌, ◌+◌, ◌*◌, ◌≤◌, ℕ, get_or, set, sym, ap, subst, arith, ⊎_elim}
use Rattle.std.proofs.Math.ListN.{length-set}
use Rattle.std.proofs.lemmas.List.Elements.{All-set}
use Rattle.kex_moves.specs.declared.edge.Edge.{Edge}
use Rattle.std.proofs.lemmas.Nat.{same_from_place}
use Rattle.kex_moves.specs.declared.edges.Pair.{Pair}
use Rattle.kex_moves.specs.Edges.{IsAtRow}
use Rattle.kex_moves.specs.Known.{Known, IsEdge, IsOrdered, IsPairRow}
use Rattle.kex_moves.proofs.KnownEdges.{slice_get-set}
use Rattle.kex_moves.proofs.edges.Edges.put.Goals as goal

-- with another edge at a place
abbrev with_edge : Known → ℕ → Edge → Known
with_edge k i e = record { classes = k.classes; width = k.width; shift = k.shift; pairs = k.pairs; edges = set k.edges i e; text = k.text; acts = k.acts }

stays : (k : Known) (i : ℕ) (e x : Edge) → IsEdge k x → IsEdge (with_edge k i e) x
stays k i e x h = record {
  next = λ known. subst (λ n. x.next + k.width ≤ n) (sym (length-set k.edges i e)) (h.next known);
  begins = h.begins;
  room = h.room;
  acts = h.acts;
  alone = h.alone;
}

ordered : (k : Known) (row class : ℕ) (p : Pair) (e : Edge) → IsOrdered k → IsPairRow k row p → class < k.width → IsEdge k e → IsAtRow row e → IsOrdered (with_edge k (row + class) e)
ordered k row class p e h r lt is stands = record {
  width = h.width;
  few = h.few;
  bytes = h.bytes;
  text = h.text;
  classes = h.classes;
  rows = length-set k.edges (row + class) e ∙ h.rows;
  edges = All-set (IsEdge (with_edge k (row + class) e)) k.edges (row + class) e (stays k (row + class) e e is) (λ j d l. stays k (row + class) e (get_or k.edges j d) (h.edges j d l));
  back = λ number class' x lt' at. ⊎_elim (λ q. here number class' x lt' q.0 q.1) (λ q. h.back number class' x lt' q) (slice_get-set k.edges (row + class) (number * k.width + class') e x at);
}
  where
    here : (number class' : ℕ) (x : Edge) → class' < k.width → row + class ≡ number * k.width + class' → e ≡ x → IsAtRow (number * k.width) x
    here number class' x lt' place same =
        let both = same_from_place r.number class number class' k.width lt lt' (ap (λ x. x + class) (sym r.begins) ∙ place) in
        subst (λ y. IsAtRow (number * k.width) y) same (subst (λ n. IsAtRow n e) (r.begins ∙ ap (λ n. n * k.width) both.0) stands)

pub invariant_of-self : goal.invariant_of-self
invariant_of-self c =
    let e = c.self.inside in
    let k : Known = record { classes = e.classes; width = e.width; shift = e.shift; pairs = e.pairs.items; edges = e.edges.items; text = e.text.items; acts = e.acts.items } in
    ordered k c.args.row c.args.class c.requires.row.0 c.args.edge c.self.invariant (subst (λ z. IsPairRow z c.args.row c.requires.row.0) (sym c.self.view_is) c.requires.row.1) (omega (arith, ap (λ z. z.width) c.self.view_is, c.requires.class)) (subst (λ z. IsEdge z c.args.edge) (sym c.self.view_is) c.requires.edge) c.requires.at

pub returns-clause-ordered : goal.returns-clause-ordered
returns-clause-ordered c =
    let e = c.self.inside in
    let k : Known = record { classes = e.classes; width = e.width; shift = e.shift; pairs = e.pairs.items; edges = e.edges.items; text = e.text.items; acts = e.acts.items } in
    ordered k c.args.row c.args.class c.requires.row.0 c.args.edge c.self.invariant (subst (λ z. IsPairRow z c.args.row c.requires.row.0) (sym c.self.view_is) c.requires.row.1) (omega (arith, ap (λ z. z.width) c.self.view_is, c.requires.class)) (subst (λ z. IsEdge z c.args.edge) (sym c.self.view_is) c.requires.edge) c.requires.at
