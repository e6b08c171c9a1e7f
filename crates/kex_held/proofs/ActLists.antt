-- What codes do between nodes, one after the other.
use Rattle.std.proofs.Common.{◌≡◌, ℕ, zero, suc, List, [], ◌∷◌, ◌++◌, Some, None, get_or, refl, sym, subst, append_assoc}
use Rattle.std.specs.Prelude.{slice_get}
use Rattle.kex_code.specs.declared.symbol.Symbol.{Symbol}
use Rattle.kex_model.specs.Acting.{ActingState}
use Rattle.kex_machine.specs.declared.MNode.{MNode}
use Rattle.kex_action.specs.declared.action.Action.{Action}
use Rattle.kex_action.specs.declared.action.Action.TheVariants.{Byte, Node}
use Rattle.kex_action.specs.Actions.{after_action}
use Rattle.kex_action.specs.Holdings.{LeadsByCode}
use Rattle.kex_action.proofs.NodeSteps.{leads_on, stays}
use Rattle.kex_held.specs.Walks.{TakesCode}
use Rattle.kex_held.specs.Acts.{Act, after_act, after_acts, act_of, MakeSame}
use Rattle.kex_held.specs.TreeEdges.{TreeEdge, DoesActs, AreHeld}

pub acted-append : (nodes : List MNode) (xs ys : List Act) (s : ActingState) → after_acts nodes (xs ++ ys) s ≡ after_acts nodes ys (after_acts nodes xs s)
acted-append nodes [] ys s = refl
acted-append nodes (x ∷ xs) ys s = acted-append nodes xs ys (after_act nodes x s)

pub acted_as : (nodes : List MNode) (b : ℕ) (a : Action) (s : ActingState) → after_act nodes (act_of b a) s ≡ after_action nodes b a s
acted_as nodes b Byte s = refl
acted_as nodes b (Node n) s = refl

pub does_none : (nodes : List MNode) (n : ℕ) → DoesActs nodes n [] n []
does_none nodes n = record { does = λ c x s. stays nodes n s; takes = λ c x. x }

pub does_more : (nodes : List MNode) (n m t : ℕ) (c d : List Symbol) (xs ys : List Act) → DoesActs nodes n c m xs → DoesActs nodes m d t ys → DoesActs nodes n (c ++ d) t (xs ++ ys)
does_more nodes n m t c d xs ys p q = record {
  does = λ x takes s.
      let here = subst (λ l. TakesCode nodes n l) (append_assoc c d x) takes in
      let middle = after_acts nodes xs s in
      subst (λ z. LeadsByCode nodes n s (c ++ d) t z) (sym (acted-append nodes xs ys s)) (leads_on nodes n m t c d s middle (after_acts nodes ys middle) (p.does (d ++ x) here s) (q.does x (p.takes (d ++ x) here) middle));
  takes = λ x takes. q.takes x (p.takes (d ++ x) (subst (λ l. TakesCode nodes n l) (append_assoc c d x) takes));
}

-- what makes the same of every state may take its place
pub does_same : (nodes : List MNode) (n t : ℕ) (c : List Symbol) (xs ys : List Act) → DoesActs nodes n c t xs → MakeSame nodes xs ys → DoesActs nodes n c t ys
does_same nodes n t c xs ys p same = record { does = λ x takes s. subst (λ z. LeadsByCode nodes n s c t z) (same s) (p.does x takes s); takes = p.takes }

-- what a register holds does what its edge says
pub held_at : (nodes : List MNode) (edges : List TreeEdge) (codes : List (List Symbol)) (i : ℕ) (s : TreeEdge) → AreHeld nodes edges codes → slice_get edges i ≡ Some s → DoesActs nodes s.from (get_or codes i []) s.to s.acts
held_at nodes [] [] i s h e = let f : None ≡ Some s = e in cc
held_at nodes [] (c ∷ cs) i s h e = absurd h
held_at nodes (x ∷ xs) [] i s h e = absurd h
held_at nodes (x ∷ xs) (c ∷ cs) zero s h e = subst (λ q. DoesActs nodes q.from c q.to q.acts) (some_same e) h.0
  where
    some_same : Some x ≡ Some s → x ≡ s
    some_same f = cc
held_at nodes (x ∷ xs) (c ∷ cs) (suc i) s h e = held_at nodes xs cs i s h.1 e
