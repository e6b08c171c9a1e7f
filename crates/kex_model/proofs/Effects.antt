-- The part of a tree is what its steps do.
use Rattle.std.proofs.Common.{◌≡◌, ℕ, zero, suc, List, [], ◌∷◌, ◌++◌, Option, Some, None, refl, sym, ap, ◌∙◌, append_assoc, append-nil}
use Rattle.kex_model.specs.Programs.{Grammar}
use Rattle.kex_model.specs.declared.program.Kind.{Kind}
use Rattle.kex_model.specs.declared.program.Kind.TheVariants.{Rep}
use Rattle.kex_code.specs.declared.symbol.Symbol.{Symbol}
use Rattle.kex_code.specs.declared.symbol.Symbol.TheVariants.{L, R, Byte}
use Rattle.kex_model.proofs.Walks.{step_from_code}
use Rattle.kex_model.proofs.Derivations.{from_accept}
use Rattle.kex_model.specs.Moves.{Move, accept, Allows, reads, goes_left, goes_right, goes_forced, goes, code_of, Walk, symbol_of, turn_side, end_side, nothing, open_buffer, drop_buffer, into, Step, to_left, to_right, took, chose, went}
use Rattle.kex_code.specs.Registers.{Registers, with_content}
use Rattle.kex_model.specs.Trees.{kind_at, root_of, less, Tree, IsTree, one, lit, one_byte, call, seq, alt_left, alt_right, needed, again, end, mute, at_register, write_register, set_register, add_register, PartMeaning, part_behind, go_on, then_part, muted_part, put_whole, kept_part, part_meaning}
use Rattle.kex_model.specs.declared.frame.Frame.TheVariants.{Pending, EndOf}
use Rattle.kex_model.specs.Places.{Place, enter, steps_of}
use Rattle.kex_model.specs.Laws.{DoneBySteps}
use Rattle.kex_model.specs.Acting.{ActingState, after_append, after_effect, after_steps}

appended_twice : (x y out : List ℕ) (bs : List (List ℕ)) (regs regs' : Registers) → after_append y (after_append x out bs regs).out (after_append x out bs regs).buffers regs' ≡ after_append (x ++ y) out bs regs'
appended_twice x y out [] regs regs' = ap (λ z. record { out = z; buffers = []; registers = regs' }) (append_assoc out x y)
appended_twice x y out (b ∷ bs) regs regs' = ap (λ z. record { out = out; buffers = z ∷ bs; registers = regs' }) (append_assoc b x y)

appended_none : (out : List ℕ) (bs : List (List ℕ)) (regs : Registers) → after_append [] out bs regs ≡ record { out = out; buffers = bs; registers = regs }
appended_none out [] regs = ap (λ z. record { out = z; buffers = []; registers = regs }) (append-nil out)
appended_none out (b ∷ bs) regs = ap (λ z. record { out = out; buffers = z ∷ bs; registers = regs }) (append-nil b)

-- more buffers were opened
abbrev with_more : List (List ℕ) → ActingState → ActingState
with_more more s = record { out = s.out; buffers = more ++ s.buffers; registers = s.registers }

-- the steps, and ks after them, do what the part says: where it stopped, up to buffers that are open
abbrev pub DoneBy : Option (List Symbol) → PartMeaning → List (Step Place) → List (Step Place) → List Symbol → List ℕ → List (List ℕ) → Registers → Type 0
DoneBy None p js ks c out bs regs = (more : List (List ℕ)) × (after_steps (js ++ ks) c (record { out = out; buffers = bs; registers = regs }) ≡ with_more more (after_append p.bytes out bs p.registers))
DoneBy (Some d) p js ks c out bs regs = after_steps (js ++ ks) c (record { out = out; buffers = bs; registers = regs }) ≡ after_steps ks d (after_append p.bytes out bs p.registers)

abbrev pub Does : PartMeaning → List (Step Place) → List Symbol → Registers → Type 0
Does p js c regs = (ks : List (Step Place)) (out : List ℕ) (bs : List (List ℕ)) → DoneBy p.rest p js ks c out bs regs

-- two, one after the other
then_does : (bytes : List ℕ) (regs' : Registers) (o : Option (List Symbol)) (f : List Symbol → Registers → PartMeaning) (is js : List (Step Place)) (c : List Symbol) (regs : Registers) → Does (record { bytes = bytes; registers = regs'; rest = o }) is c regs → ((d : List Symbol) → Does (f d regs') js d regs') → Does (go_on bytes regs' o f) (is ++ js) c regs
then_does bytes regs' None f is js c regs first next ks out bs =
    let r = first (js ++ ks) out bs in
    (r.0, ap (λ z. after_steps z c (record { out = out; buffers = bs; registers = regs })) (append_assoc is js ks) ∙ r.1)
then_does bytes regs' (Some d) f is js c regs first next ks out bs =
    cases (f d regs').rest (next d ks (after_append bytes out bs regs').out (after_append bytes out bs regs').buffers)
  where
    s : ActingState
    s = record { out = out; buffers = bs; registers = regs }

    q : PartMeaning
    q = f d regs'

    same_state : (out : List ℕ) (bs : List (List ℕ)) → record { out = (after_append bytes out bs regs').out; buffers = (after_append bytes out bs regs').buffers; registers = regs' } ≡ after_append bytes out bs regs'
    same_state out [] = refl
    same_state out (b ∷ bs) = refl

    start : after_steps ((is ++ js) ++ ks) c s ≡ after_steps (js ++ ks) d (record { out = (after_append bytes out bs regs').out; buffers = (after_append bytes out bs regs').buffers; registers = regs' })
    start = ap (λ z. after_steps z c s) (append_assoc is js ks) ∙ first (js ++ ks) out bs ∙ ap (λ z. after_steps (js ++ ks) d z) (sym (same_state out bs))

    cases : (o : Option (List Symbol)) → DoneBy o q js ks d (after_append bytes out bs regs').out (after_append bytes out bs regs').buffers regs' → DoneBy o (record { bytes = bytes ++ q.bytes; registers = q.registers; rest = q.rest }) (is ++ js) ks c out bs regs
    cases None h = (h.0, start ∙ h.1 ∙ ap (λ z. with_more h.0 z) (appended_twice bytes q.bytes out bs regs' q.registers))
    cases (Some e) h = start ∙ h ∙ ap (λ z. after_steps ks e z) (appended_twice bytes q.bytes out bs regs' q.registers)

both_do : (p : PartMeaning) (f : List Symbol → Registers → PartMeaning) (is js : List (Step Place)) (c : List Symbol) (regs : Registers) → Does p is c regs → ((d : List Symbol) → Does (f d p.registers) js d p.registers) → Does (then_part p f) (is ++ js) c regs
both_do p f is js c regs first next = then_does p.bytes p.registers p.rest f is js c regs first next

-- after a step that does nothing
after_nothing : (rest : Place) (p : PartMeaning) (js : List (Step Place)) (c : List Symbol) (regs : Registers) → Does p js c regs → Does p (went nothing rest ∷ js) c regs
after_nothing rest p js c regs h = cases p.rest h
  where
    cases : (o : Option (List Symbol)) → ((ks : List (Step Place)) (out : List ℕ) (bs : List (List ℕ)) → DoneBy o p js ks c out bs regs) → (ks : List (Step Place)) (out : List ℕ) (bs : List (List ℕ)) → DoneBy o p (went nothing rest ∷ js) ks c out bs regs
    cases None h ks out bs = h ks out bs
    cases (Some d) h ks out bs = h ks out bs

-- after a choice
after_choice : (side : _) (x : Symbol) (to : Place) (js : List (Step Place)) (c : List Symbol) (regs : Registers) (f : List Symbol → PartMeaning) → ((d : List Symbol) → Does (f d) js d regs) → Does (part_behind (x ∷ []) c regs f) (chose side to ∷ js) c regs
after_choice side x to js [] regs f h = λ ks out bs. ([], sym (appended_none out bs regs))
after_choice side x to js (y ∷ c) regs f h = cases (f c).rest (h c)
  where
    cases : (o : Option (List Symbol)) → ((ks : List (Step Place)) (out : List ℕ) (bs : List (List ℕ)) → DoneBy o (f c) js ks c out bs regs) → (ks : List (Step Place)) (out : List ℕ) (bs : List (List ℕ)) → DoneBy o (f c) (chose side to ∷ js) ks (y ∷ c) out bs regs
    cases None h ks out bs = h ks out bs
    cases (Some d) h ks out bs = h ks out bs

-- within a buffer that is dropped at the end
in_mute : (rest to : Place) (p : PartMeaning) (js : List (Step Place)) (c : List Symbol) (regs : Registers) → Does p js c regs → Does (muted_part p) (went open_buffer to ∷ (js ++ went drop_buffer rest ∷ [])) c regs
in_mute rest to p js c regs h = cases p.rest h
  where
    cases : (o : Option (List Symbol)) → ((ks : List (Step Place)) (out : List ℕ) (bs : List (List ℕ)) → DoneBy o p js ks c out bs regs) → (ks : List (Step Place)) (out : List ℕ) (bs : List (List ℕ)) → DoneBy o (record { bytes = []; registers = p.registers; rest = p.rest }) (went open_buffer to ∷ (js ++ went drop_buffer rest ∷ [])) ks c out bs regs
    cases None h ks out bs =
        let r = h (went drop_buffer rest ∷ ks) out ([] ∷ bs) in (
          r.0 ++ p.bytes ∷ [],
          ap (λ z. after_steps z c (record { out = out; buffers = [] ∷ bs; registers = regs })) (append_assoc js (went drop_buffer rest ∷ []) ks)
              ∙ r.1
              ∙ ap (λ z. record { out = out; buffers = z; registers = p.registers }) (sym (append_assoc r.0 (p.bytes ∷ []) bs))
              ∙ ap (λ z. with_more (r.0 ++ p.bytes ∷ []) z) (sym (appended_none out bs p.registers)),
        )
    cases (Some d) h ks out bs =
        ap (λ z. after_steps z c (record { out = out; buffers = [] ∷ bs; registers = regs })) (append_assoc js (went drop_buffer rest ∷ []) ks)
        ∙ h (went drop_buffer rest ∷ ks) out ([] ∷ bs)
        ∙ ap (λ z. after_steps ks d z) (sym (appended_none out bs p.registers))

-- within a buffer that goes to a register at the end
in_at : (n : ℕ) (rest to : Place) (p : PartMeaning) (js : List (Step Place)) (c : List Symbol) (regs : Registers) → Does p js c regs → Does (kept_part n p) (went open_buffer to ∷ (js ++ went (into n) rest ∷ [])) c regs
in_at n rest to p js c regs h = cases p.rest h
  where
    cases : (o : Option (List Symbol)) → ((ks : List (Step Place)) (out : List ℕ) (bs : List (List ℕ)) → DoneBy o p js ks c out bs regs) → (ks : List (Step Place)) (out : List ℕ) (bs : List (List ℕ)) → DoneBy o (record { bytes = []; registers = put_whole p.registers n p.bytes o; rest = o }) (went open_buffer to ∷ (js ++ went (into n) rest ∷ [])) ks c out bs regs
    cases None h ks out bs =
        let r = h (went (into n) rest ∷ ks) out ([] ∷ bs) in (
          r.0 ++ p.bytes ∷ [],
          ap (λ z. after_steps z c (record { out = out; buffers = [] ∷ bs; registers = regs })) (append_assoc js (went (into n) rest ∷ []) ks)
              ∙ r.1
              ∙ ap (λ z. record { out = out; buffers = z; registers = p.registers }) (sym (append_assoc r.0 (p.bytes ∷ []) bs))
              ∙ ap (λ z. with_more (r.0 ++ p.bytes ∷ []) z) (sym (appended_none out bs p.registers)),
        )
    cases (Some d) h ks out bs =
        ap (λ z. after_steps z c (record { out = out; buffers = [] ∷ bs; registers = regs })) (append_assoc js (went (into n) rest ∷ []) ks)
        ∙ h (went (into n) rest ∷ ks) out ([] ∷ bs)
        ∙ ap (λ z. after_steps ks d z) (sym (appended_none out bs (with_content p.registers n p.bytes)))

module _ (P : Grammar) where
  pub part_done : {k : Kind} {t : Tree} (n : ℕ) (rest : Place) (c : List Symbol) (regs : Registers) → IsTree P k t → Does (part_meaning P k t c regs) (steps_of P n k t rest) c regs
  part_done n rest c regs one = λ ks out bs. ap (λ s. after_steps ks c s) (sym (appended_none out bs regs))
  part_done n rest c regs lit = λ ks out bs. refl
  part_done n rest [] regs (one_byte i) = λ ks out bs. ([], sym (appended_none out bs regs))
  part_done n rest (x ∷ c) regs (one_byte i) = λ ks out bs. refl
  part_done n rest c regs (call {name = f} {a = t} a) = after_nothing _ (part_meaning P (kind_at P (root_of P f)) t c regs) _ c regs (part_done (root_of P f) rest c regs a)
  part_done n rest c regs (seq {l = l} {r = r} {a = s} {b = t} a b) = after_nothing _ (then_part (part_meaning P (kind_at P l) s c regs) (part_meaning P (kind_at P r) t)) _ c regs (both_do (part_meaning P (kind_at P l) s c regs) (part_meaning P (kind_at P r) t) _ _ c regs (part_done l (enter P r ∷ rest) c regs a) (λ d. part_done r rest d _ b))
  part_done n rest c regs (alt_left {l = l} a) = after_choice to_left L _ _ c regs _ (λ d. part_done l rest d regs a)
  part_done n rest c regs (alt_right {r = r} a) = after_choice to_right R _ _ c regs _ (λ d. part_done r rest d regs a)
  part_done n rest c regs (needed {body = body} {min = min} {max = max} {lazy = lazy} {a = s} {rest = t} a b) = after_nothing _ (then_part (part_meaning P (kind_at P body) s c regs) (part_meaning P (Rep body min (less max) lazy) t)) _ c regs (both_do (part_meaning P (kind_at P body) s c regs) (part_meaning P (Rep body min (less max) lazy) t) _ _ c regs (part_done body (Pending n min (less max) ∷ rest) c regs a) (λ d. part_done n rest d _ b))
  part_done n rest c regs (again {body = body} {max = max} {lazy = lazy} {a = s} {rest = t} i a b) = after_choice (turn_side lazy) (symbol_of (turn_side lazy)) _ _ c regs _ (λ d. both_do (part_meaning P (kind_at P body) s d regs) (part_meaning P (Rep body zero (less max) lazy) t) _ _ d regs (part_done body (Pending n zero (less max) ∷ rest) d regs a) (λ e. part_done n rest e _ b))
  part_done n rest c regs (end {max = None} {lazy = lazy}) = after_choice (end_side lazy) (symbol_of (end_side lazy)) _ [] c regs _ (λ d ks out bs. ap (λ s. after_steps ks d s) (sym (appended_none out bs regs)))
  part_done n rest c regs (end {max = Some zero} {lazy = lazy}) = λ ks out bs. ap (λ s. after_steps ks c s) (sym (appended_none out bs regs))
  part_done n rest c regs (end {max = Some (suc m)} {lazy = lazy}) = after_choice (end_side lazy) (symbol_of (end_side lazy)) _ [] c regs _ (λ d ks out bs. ap (λ s. after_steps ks d s) (sym (appended_none out bs regs)))
  part_done n rest c regs (mute {n = m} {a = t} a) = in_mute rest (enter P m ∷ EndOf n ∷ rest) (part_meaning P (kind_at P m) t c regs) _ c regs (part_done m (EndOf n ∷ rest) c regs a)
  part_done n rest c regs (at_register {r = r} {n = m} {a = t} a) = in_at r rest (enter P m ∷ EndOf n ∷ rest) (part_meaning P (kind_at P m) t c regs) _ c regs (part_done m (EndOf n ∷ rest) c regs a)
  part_done n rest c regs write_register = λ ks out bs. refl
  part_done n rest c regs (set_register {r = r} {parts = s}) = λ ks out bs. ap (λ s. after_steps ks c s) (sym (appended_none out bs _))
  part_done n rest c regs (add_register {r = r} {parts = s}) = λ ks out bs. ap (λ s. after_steps ks c s) (sym (appended_none out bs _))

abbrev IsLike : {S : Type 0} → Step S → Step S → Type 0
IsLike (took a s) (took b t) = Unit {0}
IsLike (chose x s) (chose y t) = Unit {0}
IsLike (went e s) (went f t) = Unit {0}
IsLike _ _ = ⊥

-- steps from one place are of one kind
unlike : {S : Type 0} {m : Move S} {j k : Step S} → Allows m j → Allows m k → IsLike j k
unlike (reads h) (reads i) = tt
unlike goes_left goes_left = tt
unlike goes_left goes_right = tt
unlike goes_right goes_left = tt
unlike goes_right goes_right = tt
unlike goes_forced goes_forced = tt
unlike goes goes = tt

-- two walks to the end whose codes begin with c do the same with c
pub same_acted : {S : Type 0} (f : S → Move S) (js ks : List (Step S)) (s d e : S) (c u v : List Symbol) (st : ActingState) → Walk f s js d → Walk f s ks e → f d ≡ accept → f e ≡ accept → code_of js ≡ c ++ u → code_of ks ≡ c ++ v → after_steps js c st ≡ after_steps ks c st
same_acted f [] [] s d e c u v st wj wk ad ae cj ck = refl
same_acted f [] (k ∷ ks) s d e c u v st wj wk ad ae cj ck = absurd (from_accept (rw (ap f wj ∙ ad) at wk.0))
same_acted f (j ∷ js) [] s d e c u v st wj wk ad ae cj ck = absurd (from_accept (rw (ap f wk ∙ ae) at wj.0))
same_acted f (took a t ∷ js) (took b t' ∷ ks) s d e [] u v st wj wk ad ae cj ck = refl
same_acted f (took a t ∷ js) (took b t' ∷ ks) s d e (x ∷ c) u v st wj wk ad ae cj ck =
    let bytes : a ≡ b = cc in
    let shown : Byte a ∷ code_of js ≡ Byte b ∷ code_of js = ap (λ q. Byte q ∷ code_of js) bytes in
    let both : took a t ≡ took b t' = step_from_code (code_of js) (code_of js) wj.0 wk.0 shown in
    let to : t ≡ t' = cc in
    ap (λ z. after_steps js c (after_append (z ∷ []) st.out st.buffers st.registers)) bytes ∙ same_acted f js ks t d e c u v _ wj.1 (rw to wk.1) ad ae (cc) (cc)
same_acted f (chose x t ∷ js) (chose y t' ∷ ks) s d e [] u v st wj wk ad ae cj ck = refl
same_acted f (chose x t ∷ js) (chose y t' ∷ ks) s d e (z ∷ c) u v st wj wk ad ae cj ck =
    let shown : symbol_of x ∷ code_of js ≡ symbol_of y ∷ (c ++ u) = cj ∙ ap (λ q. q ∷ (c ++ u)) (let q : z ≡ symbol_of y = cc in q) in
    let both : chose x t ≡ chose y t' = step_from_code (code_of js) (c ++ u) wj.0 wk.0 shown in
    let to : t ≡ t' = cc in
    same_acted f js ks t d e c u v st wj.1 (rw to wk.1) ad ae (cc) (cc)
same_acted f (went g t ∷ js) (went h t' ∷ ks) s d e c u v st wj wk ad ae cj ck =
    let both : went g t ≡ went h t' = step_from_code {j = went g t} {k = went h t'} [] [] wj.0 wk.0 refl in
    let same : g ≡ h = cc in
    let to : t ≡ t' = cc in
    ap (λ z. after_steps js c (after_effect z st)) same ∙ same_acted f js ks t d e c u v _ wj.1 (rw to wk.1) ad ae cj ck
same_acted f (took a t ∷ js) (chose y t' ∷ ks) s d e c u v st wj wk ad ae cj ck = absurd (unlike wj.0 wk.0)
same_acted f (took a t ∷ js) (went h t' ∷ ks) s d e c u v st wj wk ad ae cj ck = absurd (unlike wj.0 wk.0)
same_acted f (chose x t ∷ js) (took b t' ∷ ks) s d e c u v st wj wk ad ae cj ck = absurd (unlike wj.0 wk.0)
same_acted f (chose x t ∷ js) (went h t' ∷ ks) s d e c u v st wj wk ad ae cj ck = absurd (unlike wj.0 wk.0)
same_acted f (went g t ∷ js) (took b t' ∷ ks) s d e c u v st wj wk ad ae cj ck = absurd (unlike wj.0 wk.0)
same_acted f (went g t ∷ js) (chose y t' ∷ ks) s d e c u v st wj wk ad ae cj ck = absurd (unlike wj.0 wk.0)

pub done_all : (P : Grammar) (root : ℕ) (t : Tree) (c : List Symbol) (regs : Registers) (out : List ℕ) → IsTree P (kind_at P root) t → DoneBySteps P root t c regs out
done_all P root t c regs out it = cases p.rest (part_done P root [] c regs it [] out [])
  where
    p : PartMeaning
    p = part_meaning P (kind_at P root) t c regs

    js : List (Step Place)
    js = steps_of P root (kind_at P root) t []

    s : ActingState
    s = record { out = out; buffers = []; registers = regs }

    cases : (o : Option (List Symbol)) → DoneBy o p js [] c out [] regs → DoneBySteps P root t c regs out
    cases None (more, e) = record {
      written = ap (λ z. (after_steps z c s).out) (sym (append-nil js)) ∙ ap (λ z. z.out) e;
      held = ap (λ z. (after_steps z c s).registers) (sym (append-nil js)) ∙ ap (λ z. z.registers) e;
    }
    cases (Some d) e = record {
      written = ap (λ z. (after_steps z c s).out) (sym (append-nil js)) ∙ ap (λ z. z.out) e;
      held = ap (λ z. (after_steps z c s).registers) (sym (append-nil js)) ∙ ap (λ z. z.registers) e;
    }
