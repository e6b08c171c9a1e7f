-- Walks for every byte at once.
use Rattle.std.proofs.Common.{◌≡◌, ℕ, ◌<◌, ◌≤◌, ◌+◌, List, [], ◌∷◌, ◌++◌, length, take, drop, get_or, All, refl, sym, ap, ◌∙◌, subst, append_assoc}
use Rattle.std.proofs.lemmas.List.Elements.{All-get_or}
use Rattle.std.proofs.lemmas.List.{append-nil, drop_more, take_more, take_all, drop_all}
use Rattle.kex_code.specs.declared.symbol.Symbol.{Symbol}
use Rattle.kex_code.specs.declared.symbol.Symbol.TheVariants as symbols
use Rattle.kex_model.specs.Moves.{Move, go, Allows, reads, goes_left, goes_right, goes_forced, goes, Effect, Step, went, code_of, symbols_of, target_of, Walk}
use Rattle.kex_model.specs.Acting.{ActingState, after_effect, after_steps}
use Rattle.kex_machine.specs.declared.MNode.{MNode}
use Rattle.kex_machine.specs.Nodes.{Graph, node_moves, IsMachineInRange, IsBelow}
use Rattle.kex_action.specs.Holdings.{Rests, LeadsByCode, step_by}
use Rattle.kex_action.proofs.WalkEffects.{first_step}
use Rattle.kex_action.proofs.QuietWalks.{entered_in}
use Rattle.kex_action.proofs.NodeSteps.{leads_on, by_symbol}
use Rattle.kex_held.specs.declared.walk.Letter.{Letter}
use Rattle.kex_held.specs.declared.walk.Letter.TheVariants.{L, R, Read}
use Rattle.kex_action.specs.declared.action.Action.{Action}
use Rattle.kex_action.specs.declared.action.Action.TheVariants.{Byte, Node}
use Rattle.kex_action.specs.Actions.{after_move, after_actions}
use Rattle.kex_action.proofs.Actions.{done-append}
use Rattle.kex_sst.specs.declared.parts.Part.{Part}
use Rattle.kex_sst.specs.Parts.{value}
use Rattle.kex_held.specs.Walks.{symbol_at, code_with_byte, TakesCode, WalkGoesOn, Learns}

only_goes : {m : Move ℕ} {k : Step ℕ} (e : Effect) (t : ℕ) → m ≡ go e t → Allows m k → k ≡ went e t
only_goes e t f (reads x) = cc
only_goes e t f goes_left = cc
only_goes e t f goes_right = cc
only_goes e t f goes_forced = cc
only_goes e t f goes = cc

-- what can be taken before a step without a symbol can be taken after it
takes_passed : (nodes : List MNode) (n t : ℕ) (e : Effect) (c : List Symbol) → node_moves nodes n ≡ go e t → TakesCode nodes n c → TakesCode nodes t c
takes_passed nodes n t e c f p = by p.steps p.walk p.codes
  where
    by : (ks : List (Step ℕ)) → Walk (node_moves nodes) n ks p.to → code_of ks ≡ c → TakesCode nodes t c
    by [] w g = record { steps = []; to = t; walk = refl; codes = g }
    by (k ∷ ks) w g =
        let h = only_goes e t f w.0 in
        record { steps = ks; to = p.to; walk = subst (λ q. Walk (node_moves nodes) q ks p.to) (ap target_of h) w.1; codes = sym (ap (λ q. symbols_of q ++ code_of ks) h) ∙ g }

-- one step more, of which some actions are noted
going_by : (nodes : List MNode) (n m t : ℕ) (e : Effect) (before after more : List Action) → WalkGoesOn nodes n before m after → node_moves nodes m ≡ go e t → ((b : ℕ) (s : ActingState) → after_effect e s ≡ after_actions nodes b more s) → WalkGoesOn nodes n before t (after ++ more)
going_by nodes n m t e before after more p f h = record {
  more = p.more ++ more;
  noted = ap (λ l. l ++ more) p.noted ∙ append_assoc before p.more more;
  leads = λ b s.
      let u = after_actions nodes b p.more s in
      let one : LeadsByCode nodes m u [] t (after_actions nodes b more u) = record { steps = went e t ∷ []; walk = (subst (λ q. Allows q (went e t)) (sym f) goes, refl); codes = refl; did = h b u } in
      subst (λ q. LeadsByCode nodes n s [] t q) (sym (done-append nodes b p.more more s)) (leads_on nodes n m t [] [] s u (after_actions nodes b more u) (p.leads b s) one);
  takes = λ c q. takes_passed nodes m t e c f (p.takes c q);
}

-- the node's effect is noted
pub going_done : (nodes : List MNode) (n m t : ℕ) (e : Effect) (before after : List Action) → WalkGoesOn nodes n before m after → node_moves nodes m ≡ go e t → WalkGoesOn nodes n before t (after ++ Node m ∷ [])
going_done nodes n m t e before after p f = going_by nodes n m t e before after (Node m ∷ []) p f (λ b s. sym (ap (λ q. after_move q s) f))

-- it has none
pub going_skipped : (nodes : List MNode) (n m t : ℕ) (before after : List Action) → WalkGoesOn nodes n before m after → node_moves nodes m ≡ go Effect.nothing t → WalkGoesOn nodes n before t after
going_skipped nodes n m t before after p f = subst (λ l. WalkGoesOn nodes n before t l) (append-nil after) (going_by nodes n m t Effect.nothing before after [] p f (λ b s. refl))

code_with_byte-append : (b : ℕ) (xs ys : List Part) → code_with_byte b (xs ++ ys) ≡ code_with_byte b xs ++ code_with_byte b ys
code_with_byte-append b [] ys = refl
code_with_byte-append b (x ∷ xs) ys = ap (λ c. value [] b x ++ c) (code_with_byte-append b xs ys) ∙ sym (append_assoc (value [] b x) (code_with_byte b xs) (code_with_byte b ys))

-- one part more
code_with_byte-take : (b : ℕ) (w : List Part) (i : ℕ) (d : Part) (x : Letter) → i < length w → value [] b (get_or w i d) ≡ symbol_at b x ∷ [] → code_with_byte b (take (i + 1) w) ≡ code_with_byte b (take i w) ++ symbol_at b x ∷ []
code_with_byte-take b w i d x h e = ap (code_with_byte b) (take_more w i d h) ∙ code_with_byte-append b (take i w) (get_or w i d ∷ []) ∙ ap (λ c. code_with_byte b (take i w) ++ (c ++ [])) e

code_with_byte-drop : (b : ℕ) (w : List Part) (i : ℕ) (d : Part) (x : Letter) (c : List Symbol) → i < length w → value [] b (get_or w i d) ≡ symbol_at b x ∷ [] → code_with_byte b (drop i w) ++ c ≡ symbol_at b x ∷ (code_with_byte b (drop (i + 1) w) ++ c)
code_with_byte-drop b w i d x c h e = ap (λ l. code_with_byte b l ++ c) (drop_more w i d h) ∙ ap (λ l. (l ++ code_with_byte b (drop (i + 1) w)) ++ c) e

-- the first parts were taken
pub record Follows (nodes : List MNode) (n : ℕ) (w : List Part) (i t : ℕ) (actions : List Action) : Type 0 where
  pub leads : (b : ℕ) (c : List Symbol) → TakesCode nodes n (code_with_byte b w ++ c) → (s : ActingState) → LeadsByCode nodes n s (code_with_byte b (take i w)) t (after_actions nodes b actions s)
  pub takes : (b : ℕ) (c : List Symbol) → TakesCode nodes n (code_with_byte b w ++ c) → TakesCode nodes t (code_with_byte b (drop i w) ++ c)

-- and then what needs no symbol
pub follows_on : (nodes : List MNode) (n m t : ℕ) (w : List Part) (i : ℕ) (actions after : List Action) → Follows nodes n w i m actions → WalkGoesOn nodes m actions t after → Follows nodes n w i t after
follows_on nodes n m t w i actions after p q = record {
  leads = λ b c f s.
      let front = code_with_byte b (take i w) in
      let before = after_actions nodes b actions s in
      let all = leads_on nodes n m t front [] s before (after_actions nodes b q.more before) (p.leads b c f s) (q.leads b before) in
      let did : after_actions nodes b q.more before ≡ after_actions nodes b after s = sym (ap (λ l. after_actions nodes b l s) q.noted ∙ done-append nodes b actions q.more s) in
      subst (λ k. LeadsByCode nodes n s k t (after_actions nodes b after s)) (append-nil front) (subst (λ z. LeadsByCode nodes n s (front ++ []) t z) did all);
  takes = λ b c f. q.takes (code_with_byte b (drop i w) ++ c) (p.takes b c f);
}

-- what a letter does by itself
abbrev pub own : Letter → List Action
own L = []
own R = []
own Read = Byte ∷ []

did_letter : (nodes : List MNode) (b t : ℕ) (x : Letter) (s : ActingState) → after_steps (step_by (symbol_at b x) t ∷ []) (symbol_at b x ∷ []) s ≡ after_actions nodes b (own x) s
did_letter nodes b t L s = refl
did_letter nodes b t R s = refl
did_letter nodes b t Read s = refl

entered_by : (y : Symbol) (t : ℕ) → target_of (step_by y t) ≡ t
entered_by symbols.L t = refl
entered_by symbols.R t = refl
entered_by (symbols.Byte b) t = refl

rest_of : (y : Symbol) (t : ℕ) (k : Step ℕ) (ks : List (Step ℕ)) (c : List Symbol) → k ≡ step_by y t → symbols_of k ++ code_of ks ≡ y ∷ c → code_of ks ≡ c
rest_of symbols.L t k ks c e g = let f : symbols.L ∷ code_of ks ≡ symbols.L ∷ c = sym (ap (λ q. symbols_of q ++ code_of ks) e) ∙ g in cc
rest_of symbols.R t k ks c e g = let f : symbols.R ∷ code_of ks ≡ symbols.R ∷ c = sym (ap (λ q. symbols_of q ++ code_of ks) e) ∙ g in cc
rest_of (symbols.Byte b) t k ks c e g = let f : symbols.Byte b ∷ code_of ks ≡ symbols.Byte b ∷ c = sym (ap (λ q. symbols_of q ++ code_of ks) e) ∙ g in cc

-- a letter's step, where the symbol can be taken
takes_first : (nodes : List MNode) (n t b : ℕ) (x : Letter) (c : List Symbol) → Rests (node_moves nodes n) → ((b s : ℕ) → Allows (node_moves nodes n) (step_by (symbol_at b x) s) → s ≡ t) → TakesCode nodes n (symbol_at b x ∷ c) → Allows (node_moves nodes n) (step_by (symbol_at b x) t) × TakesCode nodes t c
takes_first nodes n t b x c r h p = by p.steps p.walk p.codes
  where
    by : (ks : List (Step ℕ)) → Walk (node_moves nodes) n ks p.to → code_of ks ≡ symbol_at b x ∷ c → Allows (node_moves nodes n) (step_by (symbol_at b x) t) × TakesCode nodes t c
    by [] w g = cc
    by (k ∷ ks) w g =
        let y = symbol_at b x in
        let f = first_step (code_of ks) c y r w.0 g in
        let allowed = subst (λ q. Allows (node_moves nodes n) q) f.1 w.0 in
        let same : f.0 ≡ t = h b f.0 allowed in
        (subst (λ q. Allows (node_moves nodes n) (step_by y q)) same allowed, record { steps = ks; to = p.to; walk = subst (λ q. Walk (node_moves nodes) q ks p.to) (ap target_of f.1 ∙ entered_by y f.0 ∙ same) w.1; codes = rest_of y f.0 k ks c f.1 g })

pub follows_more : (nodes : List MNode) (n m u : ℕ) (w : List Part) (i : ℕ) (d : Part) (x : Letter) (actions : List Action) → i < length w → ((b : ℕ) → value [] b (get_or w i d) ≡ symbol_at b x ∷ []) → Follows nodes n w i m actions → Rests (node_moves nodes m) → ((b s : ℕ) → Allows (node_moves nodes m) (step_by (symbol_at b x) s) → s ≡ u) → Follows nodes n w (i + 1) u (actions ++ own x)
follows_more nodes n m u w i d x actions h e p rests a =
    let first = λ (b : ℕ) (c : List Symbol) (f : TakesCode nodes n (code_with_byte b w ++ c)). takes_first nodes m u b x (code_with_byte b (drop (i + 1) w) ++ c) rests a (subst (λ k. TakesCode nodes m k) (code_with_byte-drop b w i d x c h (e b)) (p.takes b c f)) in
    record {
      leads = λ b c f s.
          let y = symbol_at b x in
          let front = code_with_byte b (take i w) in
          let before = after_actions nodes b actions s in
          let read = after_actions nodes b (own x) before in
          let both = leads_on nodes n m u front (y ∷ []) s before read (p.leads b c f s) (by_symbol nodes m u y before read (first b c f).0 (did_letter nodes b u x before)) in
          subst (λ k. LeadsByCode nodes n s k u (after_actions nodes b (actions ++ own x) s)) (sym (code_with_byte-take b w i d x h (e b))) (subst (λ z. LeadsByCode nodes n s (front ++ y ∷ []) u z) (sym (done-append nodes b actions (own x) s)) both);
      takes = λ b c f. (first b c f).1;
    }

pub learnt : (nodes : List MNode) (n t : ℕ) (w : List Part) (i : ℕ) (actions : List Action) → length w ≤ i → Follows nodes n w i t actions → Learns nodes n w t actions
learnt nodes n t w i actions h p = record {
  does = λ b c q s. subst (λ l. LeadsByCode nodes n s (code_with_byte b l) t (after_actions nodes b actions s)) (take_all i w h) (p.leads b c q s);
  takes = λ b c q. subst (λ l. TakesCode nodes t (code_with_byte b l ++ c)) (drop_all i w h) (p.takes b c q);
}

-- the next node is in range, and the loop goes on there
pub record GoesTo (g : Graph) (n : ℕ) (before : List Action) (t : ℕ) (after : List Action) : Type 0 where
  pub node : t < length g.nodes
  pub going : WalkGoesOn g.nodes n before t after

pub goes_to : (g : Graph) (n m t u : ℕ) (e : Effect) (before after last : List Action) → IsMachineInRange g.start g.nodes g.registers → node_moves g.nodes m ≡ go e t → WalkGoesOn g.nodes n before t after → u ≡ t → last ≡ after → GoesTo g n before u last
goes_to g n m t u e before after last range here p f l =
    subst (λ q. GoesTo g n before q last) (sym f) (subst (λ q. GoesTo g n before t q) (sym l) (record { node = entered_in g m (went e t) range (subst (λ q. Allows q (went e t)) (sym here) goes); going = p }))

-- what a letter notes
pub own_none : (x : Letter) → (x ≡ Read → ⊥) → own x ≡ []
own_none L h = refl
own_none R h = refl
own_none Read h = absurd (h refl)

-- a node's numbers are in range
pub below_at : (ns ns' : List MNode) (registers i : ℕ) (m : MNode) → ns' ≡ ns → i < length ns → m ≡ get_or ns' i m → All (IsBelow (length ns) registers) ns → IsBelow (length ns) registers m
below_at ns ns' registers i m same h e range = subst (λ q. IsBelow (length ns) registers q) (sym (e ∙ ap (λ l. get_or l i m) same)) (All-get_or (IsBelow (length ns) registers) ns i m h range)
