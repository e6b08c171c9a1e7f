-- An actor's steps, and the runs that go on from where it is.
use Rattle.std.proofs.Common.{◌≡◌, ℕ, zero, suc, ◌<◌, ◌≤◌, Bool, true, false, if◌then◌else◌, List, [], ◌∷◌, ◌++◌, get_or, take, drop, length, replicate, refl, sym, ap, ap₂, subst, ◌∙◌, append-nil, append_assoc, arith}
use Rattle.std.proofs.lemmas.List.{take-append-drop}
use Rattle.std.proofs.lemmas.Option.{slice_get-get_or}
use Rattle.std.proofs.Math.Seq.{take-length}
use Rattle.kex_code.specs.declared.symbol.Symbol.{Symbol}
use Rattle.kex_code.specs.declared.symbol.Symbol.TheVariants.{L}
use Rattle.kex_code.specs.Codes.{Begins}
use Rattle.kex_model.specs.Moves.{Move, accept, Allows, reads, goes_left, goes_right, goes_forced, goes, code_of, symbols_of, Walk, Step}
use Rattle.kex_model.specs.Acting.{ActingState, after_steps}
use Rattle.kex_model.proofs.Derivations.{code_of-append, walk-append}
use Rattle.kex_machine.specs.declared.MNode.{MNode}
use Rattle.kex_machine.specs.Nodes.{Graph, node_moves, IsMachineInRange, IsTrimmed}
use Rattle.kex_machine.specs.Answers.{start_state, IsRun, left_by}
use Rattle.kex_action.specs.Holdings.{Holding, state_of, step_by, Rests, LeadsByCode, ReachesSilently, WritesFront, FollowedCode}
use Rattle.kex_action.specs.Actors.{Position, BeginsRun, IsWholeCode, HasPerformed, WentOn, TookAll, StoppedAt, WroteFront}
use Rattle.kex_action.proofs.WalkEffects.{parts_none, ahead, after_steps-ahead, after_steps-append, nothing_done, first_step, GoesOn, goes_on}
use Rattle.kex_action.proofs.NodeSteps.{leads_on, take-more}
use Rattle.kex_action.proofs.QuietWalks.{walked_in}

pub start_of : (g : Graph) → LeadsByCode g.nodes g.start (start_state g.registers) [] g.start (state_of [] (record { buffers = []; registers = replicate g.registers [] }))
start_of g = record { steps = []; walk = refl; codes = refl; did = refl }

-- what is written does not depend on what was written before
pub record Shifted (nodes : List MNode) (s : ℕ) (h : Holding) (c : List Symbol) (t : ℕ) (h' : Holding) (before after : List ℕ) : Type 0 where
  pub more : List ℕ
  pub written : after ≡ before ++ more
  pub anywhere : (out : List ℕ) → LeadsByCode nodes s (state_of out h) c t (state_of (out ++ more) h')

pub shifted : (nodes : List MNode) (s t : ℕ) (h h' : Holding) (c : List Symbol) (before after : List ℕ) → LeadsByCode nodes s (state_of before h) c t (state_of after h') → Shifted nodes s h c t h' before after
shifted nodes s t h h' c before after p =
    let e : ActingState = after_steps p.steps c (state_of [] h) in
    let from : (out : List ℕ) → after_steps p.steps c (state_of out h) ≡ ahead out e = λ out. ap (λ x. after_steps p.steps c (state_of x h)) (sym (append-nil out)) ∙ after_steps-ahead p.steps c out (state_of [] h) in
    let here : ahead before e ≡ state_of after h' = sym (from before) ∙ p.did in
    let held : ahead [] e ≡ state_of e.out h' = ap₂ (λ b r. record { out = e.out; buffers = b; registers = r }) (ap (λ z. z.buffers) here) (ap (λ z. z.registers) here) in
    record {
      more = e.out;
      written = sym (ap (λ z. z.out) here);
      anywhere = λ out. record { steps = p.steps; walk = p.walk; codes = p.codes; did = from out ∙ ap (λ z. ahead out z) held };
    }

-- a run whose code begins with that of a walk goes on from it
pub goes_from : (g : Graph) (js ks : List (Step ℕ)) (t : ℕ) (c : List Symbol) → Walk (node_moves g.nodes) g.start js t → code_of js ≡ c → (run : IsRun g ks) → (b : Begins (code_of ks) c) → GoesOn (node_moves g.nodes) js ks t run.0 b.0
goes_from g js ks t c w e run b = goes_on (node_moves g.nodes) js ks g.start t run.0 b.0 w run.1 run.2 (b.1 ∙ ap (λ q. q ++ b.0) (sym e))

-- what a run leaves that goes on from a walk
left_behind : (g : Graph) (t e : ℕ) (c d x : List Symbol) (st : ActingState) (ks : List (Step ℕ)) (p : LeadsByCode g.nodes g.start (start_state g.registers) c t st) (on : GoesOn (node_moves g.nodes) p.steps ks t e x) → left_by g ks (c ++ d) ≡ after_steps on.rest d st
left_behind g t e c d x st ks p on =
    ap₂ (λ y z. after_steps y z (start_state g.registers)) on.same (ap (λ q. q ++ d) (sym p.codes))
    ∙ after_steps-append p.steps on.rest d (start_state g.registers)
    ∙ ap (λ q. after_steps on.rest d (after_steps p.steps q (start_state g.registers))) p.codes
    ∙ ap (λ z. after_steps on.rest d z) p.did

-- every run leaves what the walk leaves
pub left_at : (g : Graph) (t : ℕ) (c : List Symbol) (st : ActingState) → LeadsByCode g.nodes g.start (start_state g.registers) c t st → Rests (node_moves g.nodes t) → (ks : List (Step ℕ)) → IsRun g ks → Begins (code_of ks) c → left_by g ks c ≡ st
left_at g t c st p rests ks run b =
    let on = goes_from g p.steps ks t c p.walk p.codes run b in
    ap (λ q. left_by g ks q) (sym (append-nil c)) ∙ left_behind g t run.0 c [] b.0 st ks p on ∙ nothing_done (node_moves g.nodes) on.rest t run.0 st rests on.walk

-- from wherever a walk leads the end is reached
pub begins_run : (g : Graph) (t : ℕ) (c : List Symbol) (st st' : ActingState) → IsTrimmed g → IsMachineInRange g.start g.nodes g.registers → LeadsByCode g.nodes g.start st c t st' → BeginsRun g c
begins_run g t c st st' trim range p =
    let end = trim.ends t (walked_in g p.steps g.start t range range.start_in p.walk) in
    (p.steps ++ end.0, (end.1, walk-append (node_moves g.nodes) p.steps end.0 g.start t end.1 p.walk end.2, end.3), (code_of end.0, code_of-append p.steps end.0 ∙ ap (λ q. q ++ code_of end.0) p.codes))

pub begins_front : (g : Graph) (c d : List Symbol) → BeginsRun g d → Begins d c → BeginsRun g c
begins_front g c d run b = (run.0, run.1, (b.0 ++ run.2.0, run.2.1 ∙ ap (λ q. q ++ run.2.0) b.1 ∙ append_assoc c b.0 run.2.0))

abbrev pub position : Graph → ℕ → Holding → Bool → Bool → Position
position g n h r u = record { machine = g; at = n; holding = h; refused = r; usable = u }

pub begins_performed : (g : Graph) (h : Holding) (u : Bool) → h ≡ record { buffers = []; registers = replicate g.registers [] } → HasPerformed (position g g.start h false u) [] [] []
begins_performed g h u e =
    let came : LeadsByCode g.nodes g.start (start_state g.registers) [] g.start (state_of [] h) = subst (λ q. LeadsByCode g.nodes g.start (start_state g.registers) [] g.start (state_of [] q)) (sym e) (start_of g) in
    record { came = came; left = λ settled. left_at g g.start [] (state_of [] h) came settled; all = λ f. refl; none = λ f. cc }

carried : (g : Graph) (n t : ℕ) (h h' : Holding) (r r' u u' : Bool) (gv gv' c d : List Symbol) (out more : List ℕ) → HasPerformed (position g n h r u) gv c out → LeadsByCode g.nodes n (state_of out h) d t (state_of (out ++ more) h') → (r' ≡ false → gv' ≡ c ++ d) → (r' ≡ true → BeginsRun g gv' → ⊥) → HasPerformed (position g t h' r' u') gv' (c ++ d) (out ++ more)
carried g n t h h' r r' u u' gv gv' c d out more p l all none =
    let came : LeadsByCode g.nodes g.start (start_state g.registers) (c ++ d) t (state_of (out ++ more) h') = leads_on g.nodes g.start n t c d (start_state g.registers) (state_of out h) (state_of (out ++ more) h') p.came l in
    record { came = came; left = λ settled. left_at g t (c ++ d) (state_of (out ++ more) h') came settled; all = all; none = none }

-- steps carry on what was performed, whatever came before
pub went_on : (g : Graph) (n t : ℕ) (h h' : Holding) (r u u' : Bool) (symbols : List Symbol) (before after : List ℕ) → LeadsByCode g.nodes n (state_of before h) symbols t (state_of after h') → WentOn (position g n h r u) (position g t h' r u') symbols symbols before after
went_on g n t h h' r u u' symbols before after leads =
    let s = shifted g.nodes n t h h' symbols before after leads in
    record {
      more = s.more;
      written = s.written;
      performed = λ gv c out p. carried g n t h h' r r u u' gv (gv ++ symbols) c symbols out s.more p (s.anywhere out) (λ e. ap (λ q. q ++ symbols) (p.all e)) (λ e run. p.none e (begins_front g gv (gv ++ symbols) run (symbols, refl)));
    }

begins_behind : (c symbols : List Symbol) (i : ℕ) → Begins (c ++ symbols) (c ++ take i symbols)
begins_behind c symbols i = (drop i symbols, ap (λ q. c ++ q) (sym (take-append-drop i symbols)) ∙ sym (append_assoc c (take i symbols) (drop i symbols)))

take-none : (n : ℕ) → let none : List Symbol = [] in take n none ≡ none
take-none zero = refl
take-none (suc n) = refl

take-take : {A : Type 0} (i n : ℕ) (xs : List A) → i ≤ n → take i (take n xs) ≡ take i xs
take-take zero n xs l = refl
take-take (suc i) zero xs l = absurd (omega arith)
take-take (suc i) (suc n) [] l = refl
take-take (suc i) (suc n) (x ∷ xs) l = ap (λ q. x ∷ q) (take-take i n xs (omega arith))

take-all : {A : Type 0} (n : ℕ) (xs : List A) → n ≤ length xs → length xs ≤ n → take n xs ≡ xs
take-all n xs a b = let e : n ≡ length xs = omega arith in ap (λ k. take k xs) e ∙ take-length xs

pub took_all : (g : Graph) (n t : ℕ) (h h' : Holding) (r u u' : Bool) (symbols : List Symbol) (before after : List ℕ) (count : ℕ) → IsTrimmed g → IsMachineInRange g.start g.nodes g.registers → FollowedCode g n (state_of before h) (if r then [] else symbols) count t after h' → length symbols ≤ count → TookAll (position g n h r u) (position g t h' r u') symbols before after
took_all g n t h h' true u u' [] before after count trim range f all =
    let leads : LeadsByCode g.nodes n (state_of before h) [] t (state_of after h') = subst (λ q. LeadsByCode g.nodes n (state_of before h) q t (state_of after h')) (take-none count) f.leads in
    let s = shifted g.nodes n t h h' [] before after leads in
    record {
      went = record { more = s.more; written = s.written; performed = λ gv c out p. carried g n t h h' true true u u' gv (gv ++ []) c [] out s.more p (s.anywhere out) (λ e. cc) (λ e run. p.none refl (subst (λ q. BeginsRun g q) (append-nil gv) run)) };
      settled = f.rests;
      good = λ gv c out p i lt. absurd (omega arith);
    }
took_all g n t h h' true u u' (y ∷ ys) before after count trim range f all = let none : count ≤ 0 = f.within in absurd (omega arith)
took_all g n t h h' false u u' symbols before after count trim range f all =
    let leads : LeadsByCode g.nodes n (state_of before h) symbols t (state_of after h') = subst (λ q. LeadsByCode g.nodes n (state_of before h) q t (state_of after h')) (take-all count symbols f.within all) f.leads in
    let s = shifted g.nodes n t h h' symbols before after leads in
    record {
      went = record { more = s.more; written = s.written; performed = λ gv c out p. carried g n t h h' false false u u' gv (gv ++ symbols) c symbols out s.more p (s.anywhere out) (λ e. ap (λ q. q ++ symbols) (p.all refl)) (λ e. cc) };
      settled = f.rests;
      good = λ gv c out p i lt.
          let whole = leads_on g.nodes g.start n t c symbols (start_state g.registers) (state_of out h) (state_of (out ++ s.more) h') p.came (s.anywhere out) in
          let run = begins_run g t (c ++ symbols) _ _ trim range whole in
          subst (λ q. BeginsRun g (q ++ take (suc i) symbols)) (sym (p.all refl)) (begins_front g (c ++ take (suc i) symbols) (c ++ symbols) run (begins_behind c symbols (suc i)));
    }

-- what was refused stays refused
spoilt : (g : Graph) (c symbols : List Symbol) (i : ℕ) → (BeginsRun g (c ++ take i symbols) → ⊥) → BeginsRun g (c ++ symbols) → ⊥
spoilt g c symbols i none run = none (begins_front g (c ++ take i symbols) (c ++ symbols) run (begins_behind c symbols i))

-- where there is no step for a symbol no run goes on with it
no_run : (g : Graph) (t : ℕ) (c d : List Symbol) (y : Symbol) (st st' : ActingState) → LeadsByCode g.nodes g.start st c t st' → Rests (node_moves g.nodes t) → ((s : ℕ) → Allows (node_moves g.nodes t) (step_by y s) → ⊥) → d ≡ c ++ y ∷ [] → BeginsRun g d → ⊥
no_run g t c d y st st' p rests none e run =
    let b : Begins (code_of run.0) c = (y ∷ run.2.0, run.2.1 ∙ ap (λ q. q ++ run.2.0) e ∙ append_assoc c (y ∷ []) run.2.0) in
    let on = goes_from g p.steps run.0 t c p.walk p.codes run.1 b in
    no_step on.rest on.walk on.codes
  where
    no_step : (ks : List (Step ℕ)) → Walk (node_moves g.nodes) t ks run.1.0 → code_of ks ≡ y ∷ run.2.0 → ⊥
    no_step [] w f = cc
    no_step (k ∷ ks) w f = let first = first_step (code_of ks) run.2.0 y rests w.0 f in none first.0 (subst (λ q. Allows (node_moves g.nodes t) q) first.1 w.0)

pub stopped_at : (g : Graph) (n t : ℕ) (h h' : Holding) (r u u' : Bool) (symbols : List Symbol) (before after : List ℕ) (count : ℕ) → IsTrimmed g → IsMachineInRange g.start g.nodes g.registers → FollowedCode g n (state_of before h) (if r then [] else symbols) count t after h' → count < length symbols → StoppedAt count (position g n h r u) (position g t h' true u') symbols before after
stopped_at g n t h h' true u u' symbols before after count trim range f less =
    let zeros : count ≡ 0 = (let l : count ≤ 0 = f.within in omega arith) in
    let leads : LeadsByCode g.nodes n (state_of before h) [] t (state_of after h') = subst (λ q. LeadsByCode g.nodes n (state_of before h) q t (state_of after h')) (take-none count) f.leads in
    let s = shifted g.nodes n t h h' [] before after leads in
    let empty : take count symbols ≡ [] = ap (λ k. take k symbols) zeros in
    record {
      went = record { more = s.more; written = s.written; performed = λ gv c out p. carried g n t h h' true true u u' gv (gv ++ symbols) c (take count symbols) out s.more p (subst (λ q. LeadsByCode g.nodes n (state_of out h) q t (state_of (out ++ s.more) h')) (sym empty) (s.anywhere out)) (λ e. cc) (λ e. longer gv symbols (p.none refl)) };
      settled = f.rests;
      within = less;
      bad = λ gv c out p. longer gv (take (suc count) symbols) (p.none refl);
      least = λ gv c out p j lt. absurd (omega arith);
    }
  where
    longer : (c d : List Symbol) → (BeginsRun g c → ⊥) → BeginsRun g (c ++ d) → ⊥
    longer c d none run = none (begins_front g c (c ++ d) run (d, refl))
stopped_at g n t h h' false u u' symbols before after count trim range f less =
    let s = shifted g.nodes n t h h' (take count symbols) before after f.leads in
    let whole = λ (gv c : List Symbol) (out : List ℕ) (p : HasPerformed (position g n h false u) gv c out). leads_on g.nodes g.start n t c (take count symbols) (start_state g.registers) (state_of out h) (state_of (out ++ s.more) h') p.came (s.anywhere out) in
    let here = slice_get-get_or symbols count L less in
    let bad = λ (gv c : List Symbol) (out : List ℕ) (p : HasPerformed (position g n h false u) gv c out). no_run g t (c ++ take count symbols) (gv ++ take (suc count) symbols) (get_or symbols count L) (start_state g.registers) (state_of (out ++ s.more) h') (whole gv c out p) f.rests (λ z a. f.none (get_or symbols count L) z here a) (ap₂ (λ x z. x ++ z) (p.all refl) (take-more symbols count (get_or symbols count L) here) ∙ sym (append_assoc c (take count symbols) (get_or symbols count L ∷ []))) in
    record {
      went = record { more = s.more; written = s.written; performed = λ gv c out p. carried g n t h h' false true u u' gv (gv ++ symbols) c (take count symbols) out s.more p (s.anywhere out) (λ e. cc) (λ e. spoilt g gv symbols (suc count) (bad gv c out p)) };
      settled = f.rests;
      within = less;
      bad = bad;
      least = λ gv c out p j lt.
          let run = begins_run g t (c ++ take count symbols) _ _ trim range (whole gv c out p) in
          subst (λ q. BeginsRun g (q ++ take (suc j) symbols)) (sym (p.all refl)) (begins_front g (c ++ take (suc j) symbols) (c ++ take count symbols) run (shorter c (suc j) (omega arith)));
    }
  where
    shorter : (c : List Symbol) (i : ℕ) → i ≤ count → Begins (c ++ take count symbols) (c ++ take i symbols)
    shorter c i l = (drop i (take count symbols), ap (λ q. c ++ q) (sym (take-append-drop i (take count symbols)) ∙ ap (λ q. q ++ drop i (take count symbols)) (take-take i count symbols l)) ∙ sym (append_assoc c (take i symbols) (drop i (take count symbols))))

-- no byte that was written goes away
acted_grows : (ks : List (Step ℕ)) (c : List Symbol) (s : ActingState) → Begins (after_steps ks c s).out s.out
acted_grows ks c s =
    let bare : ActingState = record { out = []; buffers = s.buffers; registers = s.registers } in
    ((after_steps ks c bare).out, ap (λ q. (after_steps ks c (record { out = q; buffers = s.buffers; registers = s.registers })).out) (sym (append-nil s.out)) ∙ ap (λ z. z.out) (after_steps-ahead ks c s.out bare))

open_front : (r : Bool) (symbols c : List Symbol) → Begins (if r then [] else symbols) c → Begins symbols c
open_front true symbols c b = (symbols, ap (λ q. q ++ symbols) (sym (parts_none c b.0 (sym b.1)).0))
open_front false symbols c b = b

grown : (g : Graph) (t e : ℕ) (c d x all : List Symbol) (st : ActingState) (ks : List (Step ℕ)) (p : LeadsByCode g.nodes g.start (start_state g.registers) c t st) (on : GoesOn (node_moves g.nodes) p.steps ks t e x) → all ≡ c ++ d → Begins (left_by g ks all).out st.out
grown g t e c d x all st ks p on same = subst (λ z. Begins z.out st.out) (sym (ap (λ q. left_by g ks q) same ∙ left_behind g t e c d x st ks p on)) (acted_grows on.rest d st)

pub wrote_front : (g : Graph) (n : ℕ) (h : Holding) (r u : Bool) (symbols : List Symbol) (before after : List ℕ) → WritesFront g.nodes n (state_of before h) (if r then [] else symbols) after → WroteFront (position g n h r u) symbols before after
wrote_front g n h r u symbols before after w =
    let e : ActingState = after_steps w.steps (code_of w.steps) (state_of before h) in
    let h' : Holding = record { buffers = e.buffers; registers = e.registers } in
    let leads : LeadsByCode g.nodes n (state_of before h) (code_of w.steps) w.to (state_of after h') = record { steps = w.steps; walk = w.walk; codes = refl; did = ap (λ o. state_of o h') w.wrote } in
    let s = shifted g.nodes n w.to h h' (code_of w.steps) before after leads in
    let front = open_front r symbols (code_of w.steps) w.begins in
    record {
      more = s.more;
      written = s.written;
      front = λ gv c out p ks run b.
          let whole = leads_on g.nodes g.start n w.to c (code_of w.steps) (start_state g.registers) (state_of out h) (state_of (out ++ s.more) h') p.came (s.anywhere out) in
          let code : c ++ symbols ≡ (c ++ code_of w.steps) ++ front.0 = ap (λ q. c ++ q) front.1 ∙ sym (append_assoc c (code_of w.steps) front.0) in
          let on = goes_from g whole.steps ks w.to (c ++ code_of w.steps) whole.walk whole.codes run (front.0 ++ b.0, b.1 ∙ ap (λ q. q ++ b.0) code ∙ append_assoc (c ++ code_of w.steps) front.0 b.0) in
          grown g w.to run.0 (c ++ code_of w.steps) front.0 _ (c ++ symbols) (state_of (out ++ s.more) h') ks whole on code;
    }

pub ends_there : (g : Graph) (n e : ℕ) (h : Holding) (r u : Bool) (gv c : List Symbol) (out : List ℕ) → HasPerformed (position g n h r u) gv c out → ReachesSilently g.nodes n e → node_moves g.nodes e ≡ accept → IsWholeCode g c
ends_there g n e h r u gv c out p q ends =
    let whole : code_of (p.came.steps ++ q.steps) ≡ c = code_of-append p.came.steps q.steps ∙ ap₂ (λ x y. x ++ y) p.came.codes q.codes ∙ append-nil c in
    (p.came.steps ++ q.steps, (e, walk-append (node_moves g.nodes) p.came.steps q.steps g.start n e p.came.walk q.walk, ends), whole)

rests_symbol : {m : Move ℕ} {k : Step ℕ} (x : List Symbol) → Rests m → Allows m k → symbols_of k ++ x ≡ [] → ⊥
rests_symbol x h (reads t) e = cc
rests_symbol x h goes_left e = cc
rests_symbol x h goes_right e = cc
rests_symbol x h goes_forced e = cc
rests_symbol x h goes e = h

pub ends_elsewhere : (g : Graph) (n e : ℕ) (h : Holding) (r u : Bool) (gv c : List Symbol) (out : List ℕ) → HasPerformed (position g n h r u) gv c out → ReachesSilently g.nodes n e → Rests (node_moves g.nodes e) → (node_moves g.nodes e ≡ accept → ⊥) → IsWholeCode g c → ⊥
ends_elsewhere g n e h r u gv c out p q rests none run =
    let on = goes_from g p.came.steps run.0 n c p.came.walk p.came.codes run.1 ([], run.2 ∙ sym (append-nil c)) in
    let further = goes_on (node_moves g.nodes) q.steps on.rest n e run.1.0 [] q.walk on.walk run.1.2 (on.codes ∙ ap (λ x. x ++ []) (sym q.codes)) in
    no_way further.rest further.walk further.codes
  where
    no_way : (ks : List (Step ℕ)) → Walk (node_moves g.nodes) e ks run.1.0 → code_of ks ≡ [] → ⊥
    no_way [] w f = none (ap (λ k. node_moves g.nodes k) w ∙ run.1.2)
    no_way (k ∷ ks) w f = rests_symbol (code_of ks) rests w.0 f
