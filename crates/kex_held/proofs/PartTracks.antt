-- The parts of an update, one after another.
use Rattle.std.proofs.Common.{◌≡◌, ℕ, List, [], ◌∷◌, ◌++◌, Some, map, get_or, refl, sym, ap, subst, ◌∙◌, append-nil, append_assoc}
use Rattle.std.specs.Prelude.{slice_get}
use Rattle.kex_code.specs.declared.symbol.Symbol.{Symbol}
use Rattle.kex_model.specs.Acting.{ActingState}
use Rattle.kex_machine.specs.declared.MNode.{MNode}
use Rattle.kex_action.specs.declared.action.Action.{Action}
use Rattle.kex_action.specs.Actions.{after_action, after_actions}
use Rattle.kex_action.specs.Holdings.{LeadsByCode}
use Rattle.kex_sst.specs.declared.parts.Part.{Part}
use Rattle.kex_sst.specs.declared.parts.Part.TheVariants.{Put, Old, Input}
use Rattle.kex_sst.specs.Parts.{value, parts_code, olds}
use Rattle.kex_held.specs.Walks.{code_with_byte, Learns}
use Rattle.kex_held.specs.declared.link.Link.{Link}
use Rattle.kex_held.specs.declared.link.Link.TheVariants.{Whole, Own}
use Rattle.kex_held.specs.Acts.{after_acts, act_of}
use Rattle.kex_held.specs.TreeEdges.{TreeEdge, DoesActs, AreHeld, acts_if, acts_at}
use Rattle.kex_held.specs.Tracks.{own_all, acts_by_links, Passage, edge_by, Tracks, AreTracked}
use Rattle.kex_held.proofs.ActLists.{acted_as, does_none, does_more, held_at}

pub acts_by_links-append : (edges : List TreeEdge) (b : ℕ) (xs ys : List Link) → acts_by_links edges b (xs ++ ys) ≡ acts_by_links edges b xs ++ acts_by_links edges b ys
acts_by_links-append edges b [] ys = refl
acts_by_links-append edges b (Whole r ∷ xs) ys = ap (λ l. acts_at edges r ++ l) (acts_by_links-append edges b xs ys) ∙ sym (append_assoc (acts_at edges r) (acts_by_links edges b xs) (acts_by_links edges b ys))
acts_by_links-append edges b (Own a ∷ xs) ys = ap (λ l. act_of b a ∷ l) (acts_by_links-append edges b xs ys)

pub parts_code-append : (regs : List (List Symbol)) (b : ℕ) (xs ys : List Part) → parts_code regs b (xs ++ ys) ≡ parts_code regs b xs ++ parts_code regs b ys
parts_code-append regs b [] ys = refl
parts_code-append regs b (x ∷ xs) ys = ap (λ l. value regs b x ++ l) (parts_code-append regs b xs ys) ∙ sym (append_assoc (value regs b x) (parts_code regs b xs) (parts_code regs b ys))

-- parts without old registers are the same code whatever registers hold
pub without_olds : (regs : List (List Symbol)) (b : ℕ) (parts : List Part) → olds parts ≡ [] → parts_code regs b parts ≡ code_with_byte b parts
without_olds regs b [] e = refl
without_olds regs b (Put s ∷ xs) e = ap (λ l. s ∷ l) (without_olds regs b xs e)
without_olds regs b (Old i ∷ xs) e = let f : i ∷ olds xs ≡ [] = e in cc
without_olds regs b (Input ∷ xs) e = ap (λ l. value regs b Input ++ l) (without_olds regs b xs e)

-- the actions of a walk
pub own_done : (nodes : List MNode) (edges : List TreeEdge) (b : ℕ) (actions : List Action) (s : ActingState) → after_actions nodes b actions s ≡ after_acts nodes (acts_by_links edges b (own_all actions)) s
own_done nodes edges b [] s = refl
own_done nodes edges b (a ∷ actions) s = own_done nodes edges b actions (after_action nodes b a s) ∙ ap (after_acts nodes (acts_by_links edges b (own_all actions))) (sym (acted_as nodes b a s))

pub tracks_none : (nodes : List MNode) (edges : List TreeEdge) (n : ℕ) → Tracks nodes edges [] (record { from = n; to = n; links = [] })
tracks_none nodes edges n regs b h = does_none nodes n

-- one list of parts, and then another from where it leads
pub tracks_more : (nodes : List MNode) (edges : List TreeEdge) (n m t : ℕ) (xs ys : List Part) (us vs : List Link) → Tracks nodes edges xs (record { from = n; to = m; links = us }) → Tracks nodes edges ys (record { from = m; to = t; links = vs }) → Tracks nodes edges (xs ++ ys) (record { from = n; to = t; links = us ++ vs })
tracks_more nodes edges n m t xs ys us vs p q regs b h =
    let both = does_more nodes n m t (parts_code regs b xs) (parts_code regs b ys) (acts_by_links edges b us) (acts_by_links edges b vs) (p regs b h) (q regs b h) in
    subst (λ l. DoesActs nodes n (parts_code regs b (xs ++ ys)) t l) (sym (acts_by_links-append edges b us vs)) (subst (λ c. DoesActs nodes n c t (acts_by_links edges b us ++ acts_by_links edges b vs)) (sym (parts_code-append regs b xs ys)) both)

-- an old register, from the upper end of its edge
pub tracks_old : (nodes : List MNode) (edges : List TreeEdge) (r : ℕ) (s : TreeEdge) → slice_get edges r ≡ Some s → Tracks nodes edges (Old r ∷ []) (record { from = s.from; to = s.to; links = Whole r ∷ [] })
tracks_old nodes edges r s e regs b h =
    let here : DoesActs nodes s.from (get_or regs r []) s.to s.acts = held_at nodes edges regs r s h e in
    let acts : s.acts ≡ acts_at edges r ++ [] = sym (append-nil (acts_at edges r) ∙ ap acts_if e) in
    subst (λ l. DoesActs nodes s.from (get_or regs r [] ++ []) s.to l) acts (subst (λ c. DoesActs nodes s.from c s.to s.acts) (sym (append-nil (get_or regs r []))) here)

-- parts without old registers, as a walk learns them
pub tracks_learnt : (nodes : List MNode) (edges : List TreeEdge) (n t : ℕ) (parts : List Part) (actions : List Action) → olds parts ≡ [] → Learns nodes n parts t actions → Tracks nodes edges parts (record { from = n; to = t; links = own_all actions })
tracks_learnt nodes edges n t parts actions none p regs b h =
    let code = without_olds regs b parts none in
    subst (λ c. DoesActs nodes n c t (acts_by_links edges b (own_all actions))) (sym code) (record {
      does = λ c takes s. subst (λ z. LeadsByCode nodes n s (code_with_byte b parts) t z) (own_done nodes edges b actions s) (p.does b c takes s);
      takes = λ c takes. p.takes b c takes;
    })

-- what the new registers hold does what their edges say
pub tracked : (nodes : List MNode) (edges : List TreeEdge) (regs : List (List Symbol)) (b : ℕ) (lists : List (List Part)) (ways : List Passage) → AreHeld nodes edges regs → AreTracked nodes edges lists ways → AreHeld nodes (map (λ w. edge_by edges b w) ways) (map (λ xs. parts_code regs b xs) lists)
tracked nodes edges regs b [] [] h a = tt
tracked nodes edges regs b [] (w ∷ ws) h a = absurd a
tracked nodes edges regs b (xs ∷ xss) [] h a = absurd a
tracked nodes edges regs b (xs ∷ xss) (w ∷ ws) h a = (a.0 regs b h, tracked nodes edges regs b xss ws h a.1)
