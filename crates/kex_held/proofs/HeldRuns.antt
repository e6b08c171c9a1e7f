-- Along edges the table and the actor go on together.
use Rattle.std.proofs.Common.{◌≡◌, ℕ, List, [], ◌∷◌, ◌++◌, Option, Some, None, map, refl, sym, ap, subst, ◌∙◌, append-nil, append_assoc}
use Rattle.std.specs.Prelude.{slice_get}
use Rattle.kex_code.specs.declared.symbol.Symbol.{Symbol}
use Rattle.kex_model.specs.Moves.{code_of}
use Rattle.kex_machine.specs.declared.MNode.{MNode}
use Rattle.kex_action.specs.Holdings.{LeadsByCode, Does}
use Rattle.kex_action.specs.Actors.{Position, HasPerformed, BeginsRun, WentOn}
use Rattle.kex_action.proofs.ActorRuns.{goes_from}
use Rattle.kex_sst.specs.Parts.{parts_code}
use Rattle.kex_sst.specs.Tables.{Transducer}
use Rattle.kex_sst.specs.Passes.{Pass, passes_if, next_of, next_pass, transition_at}
use Rattle.kex_held.specs.Walks.{TakesCode}
use Rattle.kex_held.specs.Acts.{after_acts}
use Rattle.kex_held.specs.TreeEdges.{DoesActs, AreHeld}
use Rattle.kex_held.specs.Tracks.{HeldState, HeldStep, state_behind, acts_by_links, IsRightStep}
use Rattle.kex_held.specs.HeldRuns.{pass_with, GoesHeld, RunsHeld}
use Rattle.kex_held.proofs.PartTracks.{tracked}

-- a byte by a right edge: the table goes on, what is held is right again, and what is passed on does what the edge says
pub record OneOn (t : Transducer) (nodes : List MNode) (h : HeldState) (e : HeldStep) (b : ℕ) (regs : List (List Symbol)) : Type 0 where
  pub said : List Symbol
  pub registers : List (List Symbol)
  pub passed : (c : List Symbol) → passes_if t (Some (pass_with h c regs)) (b ∷ []) ≡ Some (pass_with (state_behind h b e) (c ++ said) registers)
  pub held : AreHeld nodes (state_behind h b e).edges registers
  pub spells : DoesActs nodes h.node said e.out.to (acts_by_links h.edges b e.out.links)

pub one_on : (t : Transducer) (nodes : List MNode) (h : HeldState) (class : ℕ) (e : HeldStep) (b : ℕ) (regs : List (List Symbol)) → slice_get t.classes b ≡ Some class → IsRightStep t nodes h class e → AreHeld nodes h.edges regs → OneOn t nodes h e b regs
one_on t nodes h class e b regs is r held = record {
  said = parts_code regs b r.by.update.out;
  registers = map (λ xs. parts_code regs b xs) r.by.update.regs;
  passed = λ c.
      let next : next_of t h.state b ≡ Some r.by = ap (transition_at t h.state) is ∙ r.goes in
      ap (λ o. passes_if t (next_pass o b (pass_with h c regs)) []) next ∙ ap (λ (q : ℕ). Some (record { state = q; code = c ++ parts_code regs b r.by.update.out; registers = map (λ xs. parts_code regs b xs) r.by.update.regs })) (sym r.target);
  held = tracked nodes h.edges regs b r.by.update.regs e.regs held r.regs;
  spells = subst (λ n. DoesActs nodes n (parts_code regs b r.by.update.out) e.out.to (acts_by_links h.edges b e.out.links)) r.from (r.out regs b held);
}

-- one run and then another
pub went_more : (old mid new : Position) (c d : List Symbol) (xs ys zs : List ℕ) → WentOn old mid c c xs ys → WentOn mid new d d ys zs → WentOn old new (c ++ d) (c ++ d) xs zs
went_more old mid new c d xs ys zs p q = record {
  more = p.more ++ q.more;
  written = q.written ∙ ap (λ l. l ++ q.more) p.written ∙ append_assoc xs p.more q.more;
  performed = λ given code out h.
      let all = q.performed (given ++ c) (code ++ c) (out ++ p.more) (p.performed given code out h) in
      subst (λ l. HasPerformed new (given ++ (c ++ d)) (code ++ (c ++ d)) l) (append_assoc out p.more q.more) (subst (λ l. HasPerformed new (given ++ (c ++ d)) l ((out ++ p.more) ++ q.more)) (append_assoc code c d) (subst (λ l. HasPerformed new l ((code ++ c) ++ d) ((out ++ p.more) ++ q.more)) (append_assoc given c d) all));
}

went_none : (a : Position) (xs : List ℕ) → WentOn a a [] [] xs xs
went_none a xs = record {
  more = [];
  written = sym (append-nil xs);
  performed = λ given code out h. subst (λ l. HasPerformed a (given ++ []) (code ++ []) l) (sym (append-nil out)) (subst (λ l. HasPerformed a (given ++ []) l out) (sym (append-nil code)) (subst (λ l. HasPerformed a l code out) (sym (append-nil given)) h));
}

passes_more : (t : Transducer) (o : Option Pass) (us vs : List ℕ) → passes_if t o (us ++ vs) ≡ passes_if t (passes_if t o us) vs
passes_more t None us [] = refl
passes_more t None us (v ∷ vs) = refl
passes_more t (Some p) [] vs = refl
passes_more t (Some p) (u ∷ us) vs = passes_more t (next_pass (next_of t p.state u) u p) us vs

pub goes_none : (t : Transducer) (a : Position) (h : HeldState) (regs : List (List Symbol)) (xs : List ℕ) → AreHeld a.machine.nodes h.edges regs → GoesHeld t a a h h regs [] xs xs
goes_none t a h regs xs held = record { said = []; registers = regs; passed = λ c. ap (λ l. Some (pass_with h l regs)) (sym (append-nil c)); held = held; went = λ x takes. went_none a xs; takes = λ x takes. takes }

-- the actor that is where the edge begins, and has done what the edge says of what is passed on
pub goes_one : (t : Transducer) (old new : Position) (h : HeldState) (class : ℕ) (e : HeldStep) (b : ℕ) (regs : List (List Symbol)) (xs ys : List ℕ) → slice_get t.classes b ≡ Some class → IsRightStep t old.machine.nodes h class e → AreHeld old.machine.nodes h.edges regs → old.at ≡ h.node → new.at ≡ e.out.to → new.machine ≡ old.machine → ((d : List Symbol) → Does old.machine.nodes old.at d new.at (after_acts old.machine.nodes (acts_by_links h.edges b e.out.links)) → WentOn old new d d xs ys) → GoesHeld t old new h (state_behind h b e) regs (b ∷ []) xs ys
goes_one t old new h class e b regs xs ys is r held from to machine did =
    let one = one_on t old.machine.nodes h class e b regs is r held in
    let f = after_acts old.machine.nodes (acts_by_links h.edges b e.out.links) in
    let here : (x : List Symbol) → TakesCode old.machine.nodes old.at (one.said ++ x) → TakesCode old.machine.nodes h.node (one.said ++ x) = λ x takes. subst (λ n. TakesCode old.machine.nodes n (one.said ++ x)) from takes in
    record {
      said = one.said;
      registers = one.registers;
      passed = one.passed;
      held = one.held;
      went = λ x takes. did one.said (λ s. subst (λ n. LeadsByCode old.machine.nodes old.at s one.said n (f s)) (sym to) (subst (λ n. LeadsByCode old.machine.nodes n s one.said e.out.to (f s)) (sym from) (one.spells.does x (here x takes) s)));
      takes = λ x takes. subst (λ m. TakesCode m.nodes new.at x) (sym machine) (subst (λ n. TakesCode old.machine.nodes n x) (sym to) (one.spells.takes x (here x takes)));
    }

pub goes_more : (t : Transducer) (old mid new : Position) (h i j : HeldState) (regs : List (List Symbol)) (us vs xs ys zs : List ℕ) → mid.machine ≡ old.machine → (p : GoesHeld t old mid h i regs us xs ys) → GoesHeld t mid new i j p.registers vs ys zs → GoesHeld t old new h j regs (us ++ vs) xs zs
goes_more t old mid new h i j regs us vs xs ys zs machine p q = record {
  said = p.said ++ q.said;
  registers = q.registers;
  passed = λ c. passes_more t (Some (pass_with h c regs)) us vs ∙ ap (λ o. passes_if t o vs) (p.passed c) ∙ q.passed (c ++ p.said) ∙ ap (λ l. Some (pass_with j l q.registers)) (append_assoc c p.said q.said);
  held = subst (λ m. AreHeld m.nodes j.edges q.registers) machine q.held;
  went = λ x takes.
      let here = subst (λ l. TakesCode old.machine.nodes old.at l) (append_assoc p.said q.said x) takes in
      went_more old mid new p.said q.said xs ys zs (p.went (q.said ++ x) here) (q.went x (p.takes (q.said ++ x) here));
  takes = λ x takes. q.takes x (p.takes (q.said ++ x) (subst (λ l. TakesCode old.machine.nodes old.at l) (append_assoc p.said q.said x) takes));
}

-- where a run's code goes on from what was performed, it can be taken
takes_run : (a : Position) (given c d : List Symbol) (out : List ℕ) → HasPerformed a given c out → BeginsRun a.machine (c ++ d) → (x : List Symbol) × TakesCode a.machine.nodes a.at (d ++ x)
takes_run a given c d out h run =
    let code : code_of run.0 ≡ c ++ (d ++ run.2.0) = run.2.1 ∙ append_assoc c d run.2.0 in
    let on = goes_from a.machine h.came.steps run.0 a.at c h.came.walk h.came.codes run.1 (d ++ run.2.0, code) in
    (run.2.0, record { steps = on.rest; to = run.1.0; walk = on.walk; codes = on.codes })

-- from any text after which the table holds what the row says
pub runs_on : (t : Transducer) (old new : Position) (h h' : HeldState) (regs : List (List Symbol)) (bs xs ys : List ℕ) → GoesHeld t old new h h' regs bs xs ys → RunsHeld t old new h h' regs bs xs ys
runs_on t old new h h' regs bs xs ys p = record {
  said = p.said;
  registers = p.registers;
  passed = λ w c e. passes_more t (Some _) w bs ∙ ap (λ o. passes_if t o bs) e ∙ p.passed c;
  held = p.held;
  went = λ given c written h run. let x = takes_run old given c p.said written h run in p.went x.0 x.1;
}
