-- How a list of parts is tracked, part by part.
use Rattle.std.proofs.Common.{◌≡◌, ℕ, zero, suc, ◌<◌, ◌+◌, List, [], ◌∷◌, ◌++◌, Some, None, get_or, take, length, refl, sym, ap, subst, ◌∙◌, append-nil, append_assoc}
use Rattle.std.specs.Prelude.{slice_get}
use Rattle.std.proofs.lemmas.List.{take_more}
use Rattle.kex_machine.specs.declared.MNode.{MNode}
use Rattle.kex_action.specs.declared.action.Action.{Action}
use Rattle.kex_sst.specs.declared.parts.Part.{Part}
use Rattle.kex_sst.specs.declared.parts.Part.TheVariants.{Put, Old, Input}
use Rattle.kex_sst.specs.Parts.{olds}
use Rattle.kex_held.specs.Tracks.{HeldList}
use Rattle.kex_held.specs.declared.link.Link.{Link}
use Rattle.kex_held.specs.declared.link.Link.TheVariants.{Whole, Own}
use Rattle.kex_held.specs.TreeEdges.{TreeEdge}
use Rattle.kex_held.specs.Tracks.{own_all, Tracks, HaveEnds, TracksAny, GoesBy, StepsBy}
use Rattle.kex_held.proofs.PartTracks.{tracks_none, tracks_more, tracks_old, tracks_learnt}

pub own-append : (xs ys : List Action) → own_all (xs ++ ys) ≡ own_all xs ++ own_all ys
own-append [] ys = refl
own-append (x ∷ xs) ys = ap (λ l. Own x ∷ l) (own-append xs ys)

-- one action more
pub own-take : (xs : List Action) (i : ℕ) (d : Action) → i < length xs → own_all (take (i + 1) xs) ≡ own_all (take i xs) ++ Own (get_or xs i d) ∷ []
own-take xs i d lt = ap own_all (take_more xs i d lt) ∙ own-append (take i xs) (get_or xs i d ∷ [])

-- the edge that has the ends of a list
pub record HasEdge (edges : List TreeEdge) (r : ℕ) (e : HeldList) : Type 0 where
  pub edge : TreeEdge
  pub at : slice_get edges r ≡ Some edge
  pub from : edge.from ≡ e.from
  pub to : edge.to ≡ e.to

pub edge_at : (lists : List HeldList) (edges : List TreeEdge) (r : ℕ) (e : HeldList) → HaveEnds lists edges → slice_get lists r ≡ Some e → HasEdge edges r e
edge_at [] [] r e h is = let f : None ≡ Some e = is in cc
edge_at [] (s ∷ ss) r e h is = absurd h
edge_at (x ∷ xs) [] r e h is = absurd h
edge_at (x ∷ xs) (s ∷ ss) zero e h is = let f : x ≡ e = some_same is in record { edge = s; at = refl; from = h.0 ∙ ap (λ (z : HeldList). z.from) f; to = h.1 ∙ ap (λ (z : HeldList). z.to) f }
  where
    some_same : Some x ≡ Some e → x ≡ e
    some_same g = cc
edge_at (x ∷ xs) (s ∷ ss) (suc r) e h is = let q = edge_at xs ss r e h.2 is in record { edge = q.edge; at = q.at; from = q.from; to = q.to }

pub any_none : (nodes : List MNode) (lists : List HeldList) (n : ℕ) → TracksAny nodes lists [] n n []
any_none nodes lists n edges h = tracks_none nodes edges n

pub any_more : (nodes : List MNode) (lists : List HeldList) (n m t : ℕ) (xs ys : List Part) (us vs : List Link) → TracksAny nodes lists xs n m us → TracksAny nodes lists ys m t vs → TracksAny nodes lists (xs ++ ys) n t (us ++ vs)
any_more nodes lists n m t xs ys us vs p q edges h = tracks_more nodes edges n m t xs ys us vs (p edges h) (q edges h)

any_learnt : (nodes : List MNode) (lists : List HeldList) (from to : ℕ) (parts : List Part) (before after : List Link) → olds parts ≡ [] → (g : GoesBy nodes from parts to before after) → TracksAny nodes lists parts from to (own_all g.actions)
any_learnt nodes lists from to parts before after none g edges h = tracks_learnt nodes edges from to parts g.actions none g.learns

-- a symbol or the byte
pub steps_own : (nodes : List MNode) (lists : List HeldList) (from to : ℕ) (part : Part) (before after : List Link) → ((r : ℕ) → part ≡ Old r → ⊥) → GoesBy nodes from (part ∷ []) to before after → StepsBy nodes lists part from to before after
steps_own nodes lists from to (Put s) before after not g = record { more = own_all g.actions; noted = g.noted; tracks = any_learnt nodes lists from to (Put s ∷ []) before after refl g }
steps_own nodes lists from to (Old r) before after not g = absurd (not r refl)
steps_own nodes lists from to Input before after not g = record { more = own_all g.actions; noted = g.noted; tracks = any_learnt nodes lists from to (Input ∷ []) before after refl g }

-- an old register, after what needs no symbol
pub steps_old : (nodes : List MNode) (lists : List HeldList) (from at r : ℕ) (e : HeldList) (before middle after : List Link) → GoesBy nodes from [] at before middle → slice_get lists r ≡ Some e → e.from ≡ at → after ≡ middle ++ Whole r ∷ [] → StepsBy nodes lists (Old r) from e.to before after
steps_old nodes lists from at r e before middle after g is here noted = record {
  more = own_all g.actions ++ Whole r ∷ [];
  noted = noted ∙ ap (λ l. l ++ Whole r ∷ []) g.noted ∙ append_assoc before (own_all g.actions) (Whole r ∷ []);
  tracks = any_more nodes lists from at e.to [] (Old r ∷ []) (own_all g.actions) (Whole r ∷ []) (any_learnt nodes lists from at [] before middle refl g) (λ edges h.
      let q = edge_at lists edges r e h is in
      subst (λ n. Tracks nodes edges (Old r ∷ []) (record { from = n; to = e.to; links = Whole r ∷ [] })) (q.from ∙ here) (subst (λ t. Tracks nodes edges (Old r ∷ []) (record { from = q.edge.from; to = t; links = Whole r ∷ [] })) q.to (tracks_old nodes edges r q.edge q.at)));
}

-- a part more
pub any_step : (nodes : List MNode) (lists : List HeldList) (from at to : ℕ) (parts : List Part) (i : ℕ) (d : Part) (before after : List Link) → i < length parts → TracksAny nodes lists (take i parts) from at before → StepsBy nodes lists (get_or parts i d) at to before after → TracksAny nodes lists (take (i + 1) parts) from to after
any_step nodes lists from at to parts i d before after lt p s =
    subst (λ l. TracksAny nodes lists l from to after) (sym (take_more parts i d lt)) (subst (λ l. TracksAny nodes lists (take i parts ++ get_or parts i d ∷ []) from to l) (sym s.noted) (any_more nodes lists from at to (take i parts) (get_or parts i d ∷ []) before s.more p s.tracks))

-- and what needs no symbol at the end
pub any_end : (nodes : List MNode) (lists : List HeldList) (from at to : ℕ) (parts : List Part) (before after : List Link) → TracksAny nodes lists parts from at before → GoesBy nodes at [] to before after → TracksAny nodes lists parts from to after
any_end nodes lists from at to parts before after p g =
    subst (λ l. TracksAny nodes lists l from to after) (append-nil parts) (subst (λ l. TracksAny nodes lists (parts ++ []) from to l) (sym g.noted) (any_more nodes lists from at to parts [] before (own_all g.actions) p (any_learnt nodes lists at to [] before after refl g)))
