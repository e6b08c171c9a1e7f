-- Ways one after another, and that they lead to vertices.
use Rattle.std.proofs.Common.{◌≡◌, ◌<◌, ◌≤◌, ◌+◌, ◌-◌, ℕ, Bool, true, false, cond, List, [], ◌∷◌, Option, Some, None, inl, inr, find, refl, length, arith}
use Rattle.std.specs.Prelude.{slice_get, ◌==◌}
use Rattle.std.specs.Option.{option_map}
use Rattle.std.proofs.lemmas.Option.{slice_get_within}
use Rattle.kex_code.specs.Codes.{IsAmong}
use Rattle.kex_model.specs.declared.program.Kind.{Kind}
use Rattle.kex_model.specs.declared.program.Kind.TheVariants.{One, Lit, Class, Call, Seq, Alt, Rep, Mute, At, Write, Set, Add}
use Rattle.kex_model.specs.declared.program.Node.{Node}
use Rattle.kex_model.specs.declared.program.Definition.{Definition}
use Rattle.kex_model.specs.Programs.{Grammar, IsGrammar, HasBelow, HasNames}
use Rattle.kex_model.proofs.DistinctItems.{among_get}
use Rattle.kex_model.proofs.Tables.{some_same}
use Rattle.kex_rules.specs.declared.graph.VertexSuccessors.{VertexSuccessors}
use Rattle.kex_rules.specs.declared.graph.VertexSuccessors.TheVariants.{NoWay as NoWays, One as OneWay, Two as TwoWays}
use Rattle.kex_rules.specs.Graphs.{Leads, stays, goes, successor_list, kind_successors, root_successors, successors_by, vertices, vertex_successors}

pub leads_on : {f : ℕ → List ℕ} {u v w : ℕ} → Leads f u v → Leads f v w → Leads f u w
leads_on stays k = k
leads_on (goes i h) k = goes i (leads_on h k)

pub leads_one : (f : ℕ → List ℕ) (u v : ℕ) → IsAmong (f u) v → Leads f u v
leads_one f u v i = goes i stays

pub two_successors : (w : VertexSuccessors) → length (successor_list w) ≤ 2
two_successors NoWays = omega arith
two_successors (OneWay t) = omega arith
two_successors (TwoWays l r) = omega arith

kind_below : (nodes names registers u w : ℕ) (k : Kind) → u < nodes → HasBelow u k → HasNames names registers k → IsAmong (kind_successors nodes k) w → w < nodes + names
kind_below nodes names registers u w One lt b n i = absurd i
kind_below nodes names registers u w (Lit s) lt b n i = absurd i
kind_below nodes names registers u w (Class s) lt b n i = absurd i
kind_below nodes names registers u w (Call name) lt b n (inl e) = let m : name < names = n in let q : nodes + name ≡ w = e in omega arith
kind_below nodes names registers u w (Call name) lt b n (inr i) = absurd i
kind_below nodes names registers u w (Seq l r) lt b n (inl e) = let m : l < u = b.0 in let q : l ≡ w = e in omega arith
kind_below nodes names registers u w (Seq l r) lt b n (inr (inl e)) = let m : r < u = b.1 in let q : r ≡ w = e in omega arith
kind_below nodes names registers u w (Seq l r) lt b n (inr (inr i)) = absurd i
kind_below nodes names registers u w (Alt l r) lt b n (inl e) = let m : l < u = b.0 in let q : l ≡ w = e in omega arith
kind_below nodes names registers u w (Alt l r) lt b n (inr (inl e)) = let m : r < u = b.1 in let q : r ≡ w = e in omega arith
kind_below nodes names registers u w (Alt l r) lt b n (inr (inr i)) = absurd i
kind_below nodes names registers u w (Rep body min max lazy) lt b n (inl e) = let m : body < u = b.0 in let q : body ≡ w = e in omega arith
kind_below nodes names registers u w (Rep body min max lazy) lt b n (inr i) = absurd i
kind_below nodes names registers u w (Mute t) lt b n (inl e) = let m : t < u = b in let q : t ≡ w = e in omega arith
kind_below nodes names registers u w (Mute t) lt b n (inr i) = absurd i
kind_below nodes names registers u w (At r t) lt b n (inl e) = let m : t < u = b in let q : t ≡ w = e in omega arith
kind_below nodes names registers u w (At r t) lt b n (inr i) = absurd i
kind_below nodes names registers u w (Write r) lt b n i = absurd i
kind_below nodes names registers u w (Set r s) lt b n i = absurd i
kind_below nodes names registers u w (Add r s) lt b n i = absurd i

-- what is found is of the list
pub find_among : {A : Type 0} (p : A → Bool) (xs : List A) (x : A) → find p xs ≡ Some x → IsAmong xs x
find_among p [] x e = cc
find_among p (y ∷ xs) x e = by (p y) e (λ g. find_among p xs x g)
  where
    by : (b : Bool) → cond b (Some y) (find p xs) ≡ Some x → (find p xs ≡ Some x → IsAmong xs x) → IsAmong (y ∷ xs) x
    by true g rest = inl (some_same y x g)
    by false g rest = inr (rest g)

pub successors_below : (P : Grammar) → IsGrammar P → (u w : ℕ) → IsAmong (vertex_successors P u) w → w < vertices P
successors_below P g u w i = by (slice_get P.nodes u) refl i
  where
    root : (o : Option Definition) → ((d : Definition) → o ≡ Some d → d.root < length P.nodes) → IsAmong (root_successors (option_map (λ d. d.root) o)) w → w < vertices P
    root None h j = absurd j
    root (Some d) h (inl e) = let m : d.root < length P.nodes = h d refl in let q : d.root ≡ w = e in omega arith
    root (Some d) h (inr j) = absurd j

    by : (o : Option Node) → slice_get P.nodes u ≡ o → IsAmong (successors_by P u o) w → w < vertices P
    by (Some m) e j = kind_below (length P.nodes) (length P.names) P.registers u w m.kind (slice_get_within P.nodes u m e) (g.in_order u m e) (g.in_range.named m (among_get P.nodes u m e)) j
    by None e j = root (find (λ d. d.name == (u - length P.nodes)) P.definitions) (λ d f. (g.in_range.defined d (find_among (λ d. d.name == (u - length P.nodes)) P.definitions d f)).1) j
