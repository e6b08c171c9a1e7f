-- Nodes, and where their steps lead.
use Rattle.std.proofs.Common.{◌≡◌, ℕ, zero, suc, ◌<◌, ◌+◌, List, [], ◌∷◌, ◌++◌, Some, length, take, drop, get_or, refl, sym, ap, ap₂, ◌∙◌, subst, arith, append_assoc, length-append, length-set}
use Rattle.std.specs.Prelude.{slice_get}
use Rattle.std.proofs.lemmas.List.{take-append-drop}
use Rattle.kex_code.specs.Codes.{Begins}
use Rattle.kex_code.specs.Registers.{Registers, content_of, pieces_text}
use Rattle.kex_code.specs.declared.symbol.Symbol.{Symbol}
use Rattle.kex_code.specs.declared.symbol.Symbol.TheVariants.{L, R, Byte}
use Rattle.kex_model.specs.Moves.{Allows, code_of, target_of, Effect, nothing, append, open_buffer, drop_buffer, into, write, set_to, add_to, went}
use Rattle.kex_model.specs.Acting.{ActingState, after_append, after_drop, after_into, after_effect, after_steps}
use Rattle.kex_model.proofs.Tables.{some_same}
use Rattle.kex_model.proofs.Derivations.{code_of-append, walk-append}
use Rattle.kex_machine.specs.declared.MNode.{MNode}
use Rattle.kex_machine.specs.Nodes.{Graph, node_moves, move_of, IsMachineInRange}
use Rattle.kex_action.specs.Holdings.{step_by, LeadsByCode, Holding, state_of, Fits, ReachesSilently, WritesFront, PassesMove, IsPassed}
use Rattle.kex_action.proofs.WalkEffects.{after_steps-append}
use Rattle.kex_action.proofs.QuietWalks.{entered_in}

pub slice_get-at : {A : Type 0} (xs : List A) (i : ℕ) (x : A) → i < length xs → x ≡ get_or xs i x → slice_get xs i ≡ Some x
slice_get-at [] i x h e = absurd (omega arith)
slice_get-at (y ∷ ys) zero x h e = ap (λ q. Some q) (sym e)
slice_get-at (y ∷ ys) (suc i) x h e = slice_get-at ys i x (omega arith) e

-- what a node does is its number's move
pub move_at : (nodes nodes' : List MNode) (i : ℕ) (m : MNode) → nodes' ≡ nodes → i < length nodes → m ≡ get_or nodes' i m → node_moves nodes i ≡ move_of (Some m)
move_at nodes nodes' i m same h e = ap move_of (slice_get-at nodes i m h (e ∙ ap (λ q. get_or q i m) same))

entered-step_by : (y : Symbol) (t : ℕ) → target_of (step_by y t) ≡ t
entered-step_by L t = refl
entered-step_by R t = refl
entered-step_by (Byte b) t = refl

code_of-step_by : (y : Symbol) (t : ℕ) → code_of (step_by y t ∷ []) ≡ y ∷ []
code_of-step_by L t = refl
code_of-step_by R t = refl
code_of-step_by (Byte b) t = refl

pub by_symbol : (nodes : List MNode) (s t : ℕ) (y : Symbol) (before after : ActingState) → Allows (node_moves nodes s) (step_by y t) → after_steps (step_by y t ∷ []) (y ∷ []) before ≡ after → LeadsByCode nodes s before (y ∷ []) t after
by_symbol nodes s t y before after a e = record { steps = step_by y t ∷ []; walk = (a, entered-step_by y t); codes = code_of-step_by y t; did = e }

pub fits_after : (g : Graph) (s t : ℕ) (y : Symbol) (h : Holding) → IsMachineInRange g.start g.nodes g.registers → Allows (node_moves g.nodes s) (step_by y t) → length h.registers ≡ g.registers → Fits g t h
fits_after g s t y h range a count = record { node = subst (λ q. q < length g.nodes) (entered-step_by y t) (entered_in g s (step_by y t) range a); count = count }

pub stays : (nodes : List MNode) (s : ℕ) (st : ActingState) → LeadsByCode nodes s st [] s st
stays nodes s st = record { steps = []; walk = refl; codes = refl; did = refl }

pub leads_on : (nodes : List MNode) (s m t : ℕ) (c d : List Symbol) (st st' st'' : ActingState) → LeadsByCode nodes s st c m st' → LeadsByCode nodes m st' d t st'' → LeadsByCode nodes s st (c ++ d) t st''
leads_on nodes s m t c d st st' st'' p q = record {
  steps = p.steps ++ q.steps;
  walk = walk-append (node_moves nodes) p.steps q.steps s m t p.walk q.walk;
  codes = code_of-append p.steps q.steps ∙ ap₂ (λ x y. x ++ y) p.codes q.codes;
  did = ap (λ x. after_steps (p.steps ++ q.steps) (x ++ d) st) (sym p.codes) ∙ after_steps-append p.steps q.steps d st ∙ ap (λ x. after_steps q.steps d (after_steps p.steps x st)) p.codes ∙ ap (λ z. after_steps q.steps d z) p.did ∙ q.did;
}

-- a walk of that many steps without a symbol
pub record Going (nodes : List MNode) (s : ℕ) (before : ActingState) (n t : ℕ) (after : ActingState) : Type 0 where
  pub leads : LeadsByCode nodes s before [] t after
  pub count : length leads.steps ≡ n

pub going_none : (nodes : List MNode) (s : ℕ) (st : ActingState) → Going nodes s st 0 s st
going_none nodes s st = record { leads = record { steps = []; walk = refl; codes = refl; did = refl }; count = refl }

pub going_more : (nodes : List MNode) (s n m t : ℕ) (st st' st'' : ActingState) → Going nodes s st n m st' → PassesMove (node_moves nodes m) st' t st'' → Going nodes s st (n + 1) t st''
unfolding leads_on
going_more nodes s n m t st st' st'' p q =
    let one : LeadsByCode nodes m st' [] t st'' = record { steps = went q.effect t ∷ []; walk = (q.allowed, refl); codes = refl; did = q.did } in
    record { leads = leads_on nodes s m t [] [] st st' st'' p.leads one; count = length-append p.leads.steps (went q.effect t ∷ []) ∙ ap (λ k. k + 1) p.count }

pub record Walks (nodes : List MNode) (s n t : ℕ) : Type 0 where
  pub reaches : ReachesSilently nodes s t
  pub count : length reaches.steps ≡ n

pub walks_none : (nodes : List MNode) (s : ℕ) → Walks nodes s 0 s
walks_none nodes s = record { reaches = record { steps = []; walk = refl; codes = refl }; count = refl }

pub walks_more : (nodes : List MNode) (s n m t : ℕ) → Walks nodes s n m → IsPassed (node_moves nodes m) t → Walks nodes s (n + 1) t
walks_more nodes s n m t p a = record {
  reaches = record {
    steps = p.reaches.steps ++ went a.0 t ∷ [];
    walk = walk-append (node_moves nodes) p.reaches.steps (went a.0 t ∷ []) s m t p.reaches.walk (a.1, refl);
    codes = code_of-append p.reaches.steps (went a.0 t ∷ []) ∙ ap (λ x. x ++ []) p.reaches.codes;
  };
  count = length-append p.reaches.steps (went a.0 t ∷ []) ∙ ap (λ k. k + 1) p.count;
}

pub did_byte : (y : Symbol) (b t : ℕ) (out : List ℕ) (h : Holding) (after : ActingState) → y ≡ Byte b → after ≡ after_append (b ∷ []) out h.buffers h.registers → after_steps (step_by y t ∷ []) (y ∷ []) (state_of out h) ≡ after
did_byte y b t out h after e f = ap (λ q. after_steps (step_by q t ∷ []) (q ∷ []) (state_of out h)) e ∙ sym f

pub did_choice : (y : Symbol) (t : ℕ) (s : ActingState) → ((b : ℕ) → y ≡ Byte b → ⊥) → after_steps (step_by y t ∷ []) (y ∷ []) s ≡ s
did_choice L t s h = refl
did_choice R t s h = refl
did_choice (Byte b) t s h = absurd (h b refl)

pub front_of : (nodes : List MNode) (s t : ℕ) (before : ActingState) (c d : List Symbol) (out out' : List ℕ) (h : Holding) → LeadsByCode nodes s before c t (state_of out h) → Begins d c → out' ≡ out → WritesFront nodes s before d out'
front_of nodes s t before c d out out' h p b e = record {
  steps = p.steps;
  to = t;
  walk = p.walk;
  begins = subst (λ q. Begins d q) (sym p.codes) b;
  wrote = ap (λ q. (after_steps p.steps q before).out) p.codes ∙ ap (λ z. z.out) p.did ∙ sym e;
}

pub after_append-registers : (s out : List ℕ) (bs : List (List ℕ)) (regs : Registers) → (after_append s out bs regs).registers ≡ regs
after_append-registers s out [] regs = refl
after_append-registers s out (b ∷ bs) regs = refl

after_drop-registers : (out : List ℕ) (bs : List (List ℕ)) (regs : Registers) → (after_drop out bs regs).registers ≡ regs
after_drop-registers out [] regs = refl
after_drop-registers out (b ∷ bs) regs = refl

moved-registers : (r : ℕ) (out : List ℕ) (bs : List (List ℕ)) (regs : Registers) → length (after_into r out bs regs).registers ≡ length regs
moved-registers r out [] regs = refl
moved-registers r out (b ∷ bs) regs = length-set regs r b

-- no effect makes or takes away a register
pub length-done_by : (e : Effect) (s : ActingState) → length (after_effect e s).registers ≡ length s.registers
length-done_by nothing s = refl
length-done_by (append bytes) s = ap length (after_append-registers bytes s.out s.buffers s.registers)
length-done_by open_buffer s = refl
length-done_by drop_buffer s = ap length (after_drop-registers s.out s.buffers s.registers)
length-done_by (into r) s = moved-registers r s.out s.buffers s.registers
length-done_by (write r) s = ap length (after_append-registers (content_of s.registers r) s.out s.buffers s.registers)
length-done_by (set_to r parts) s = length-set s.registers r (pieces_text parts s.registers)
length-done_by (add_to r parts) s = length-set s.registers r (content_of s.registers r ++ pieces_text parts s.registers)

pub count_after : (e : Effect) (out out' : List ℕ) (h h' : Holding) (n : ℕ) → state_of out' h' ≡ after_effect e (state_of out h) → length h.registers ≡ n → length h'.registers ≡ n
count_after e out out' h h' n f k = ap (λ z. length z.registers) f ∙ length-done_by e (state_of out h) ∙ k

pub fits_passed : (g : Graph) (s t : ℕ) (out out' : List ℕ) (h h' : Holding) → IsMachineInRange g.start g.nodes g.registers → Fits g s h → PassesMove (node_moves g.nodes s) (state_of out h) t (state_of out' h') → Fits g t h'
fits_passed g s t out out' h h' range f p = record { node = entered_in g s (went p.effect t) range p.allowed; count = count_after p.effect out out' h h' g.registers (sym p.did) f.count }

-- what writes a front of less writes a front of more
pub front_wider : (nodes : List MNode) (s : ℕ) (st : ActingState) (c d : List Symbol) (out : List ℕ) → WritesFront nodes s st c out → Begins d c → WritesFront nodes s st d out
front_wider nodes s st c d out p b = record { steps = p.steps; to = p.to; walk = p.walk; wrote = p.wrote; begins = (p.begins.0 ++ b.0, b.1 ∙ ap (λ q. q ++ b.0) p.begins.1 ∙ append_assoc (code_of p.steps) p.begins.0 b.0) }

pub front_behind : (nodes : List MNode) (s m : ℕ) (st st' : ActingState) (c d : List Symbol) (out : List ℕ) → LeadsByCode nodes s st c m st' → WritesFront nodes m st' d out → WritesFront nodes s st (c ++ d) out
front_behind nodes s m st st' c d out p q =
    let code : code_of (p.steps ++ q.steps) ≡ c ++ code_of q.steps = code_of-append p.steps q.steps ∙ ap (λ x. x ++ code_of q.steps) p.codes in
    record {
      steps = p.steps ++ q.steps;
      to = q.to;
      walk = walk-append (node_moves nodes) p.steps q.steps s m q.to p.walk q.walk;
      begins = (q.begins.0, ap (λ x. c ++ x) q.begins.1 ∙ sym (append_assoc c (code_of q.steps) q.begins.0) ∙ ap (λ x. x ++ q.begins.0) (sym code));
      wrote = ap (λ x. (after_steps (p.steps ++ q.steps) x st).out) (code_of-append p.steps q.steps)
          ∙ ap (λ z. z.out) (after_steps-append p.steps q.steps (code_of q.steps) st)
          ∙ ap (λ x. (after_steps q.steps (code_of q.steps) (after_steps p.steps x st)).out) p.codes
          ∙ ap (λ z. (after_steps q.steps (code_of q.steps) z).out) p.did
          ∙ q.wrote;
    }

pub begins_take : {A : Type 0} (xs : List A) (n : ℕ) → Begins xs (take n xs)
begins_take xs n = (drop n xs, sym (take-append-drop n xs))

-- one symbol more
pub take-more : {A : Type 0} (xs : List A) (i : ℕ) (x : A) → slice_get xs i ≡ Some x → take (suc i) xs ≡ take i xs ++ x ∷ []
take-more [] i x e = cc
take-more (y ∷ ys) zero x e = ap (λ q. q ∷ []) (some_same y x e)
take-more (y ∷ ys) (suc i) x e = ap (λ q. y ∷ q) (take-more ys i x e)
