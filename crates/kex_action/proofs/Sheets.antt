-- What is on a sheet, effect by effect.
use Rattle.std.proofs.Common.{◌≡◌, ℕ, zero, suc, ◌≤◌, ◌<◌, ◌+◌, ◌-◌, List, [], ◌∷◌, ◌++◌, length, get_or, take, drop, reverse, refl, sym, ap, ap₂, subst, ◌∙◌, arith, append_assoc, append-nil, Result, Ok, Err, IfOk, Bool, true, false, IsTrue}
use Rattle.std.proofs.Math.Seq.{take-add, take-length}
use Rattle.std.proofs.lemmas.List.{take_more, take-append-drop, take-append-le, drop-append-le, take-take, drop-take, reverse-append, length-take-le}
use Rattle.kex_code.specs.Registers.{Registers, content_of, with_content, pieces_text}
use Rattle.kex_code.specs.declared.piece.Piece.{Piece}
use Rattle.kex_model.specs.Moves.{open_buffer, into, write, set_to, add_to}
use Rattle.kex_model.specs.Acting.{ActingState, after_effect}
use Rattle.kex_machine.specs.declared.MNode.{MNode}
use Rattle.kex_action.specs.declared.deed.Deed.{Deed}
use Rattle.kex_action.specs.Deeds.{after_deed, after_deeds}
use Rattle.kex_action.proofs.Deeds.{deeds-more, length-deeds}
use Rattle.kex_action.specs.declared.sheet.Sheet.{Sheet}
use Rattle.kex_action.specs.Holdings.{Holding, with_bytes, state_of}
use Rattle.kex_action.specs.Sheets.{with_buffer, with_marked_bytes, AreMarks, IsSheet, IsBlank, Writes, ClosesBuffer, state_with}

-- the same state with other registers
abbrev pub with_registers : Registers → ActingState → ActingState
with_registers regs s = record { out = s.out; buffers = s.buffers; registers = regs }

adds_twice : (xs ys out : List ℕ) (bs : List (List ℕ)) (regs : Registers) → let s : ActingState = record { out = out; buffers = bs; registers = regs } in with_bytes (xs ++ ys) s ≡ with_bytes ys (with_bytes xs s)
adds_twice xs ys out [] regs = ap (λ (l : List ℕ). record { out = l; buffers = []; registers = regs }) (sym (append_assoc out xs ys))
adds_twice xs ys out (b ∷ bs) regs = ap (λ (l : List ℕ). record { out = out; buffers = l ∷ bs; registers = regs }) (sym (append_assoc b xs ys))

adds_none : (out : List ℕ) (bs : List (List ℕ)) (regs : Registers) → let s : ActingState = record { out = out; buffers = bs; registers = regs } in with_bytes [] s ≡ s
adds_none out [] regs = ap (λ (l : List ℕ). record { out = l; buffers = []; registers = regs }) (append-nil out)
adds_none out (b ∷ bs) regs = ap (λ (l : List ℕ). record { out = out; buffers = l ∷ bs; registers = regs }) (append-nil b)

adds_with : (xs out : List ℕ) (bs : List (List ℕ)) (regs more : Registers) → let s : ActingState = record { out = out; buffers = bs; registers = regs } in with_bytes xs (with_registers more s) ≡ with_registers more (with_bytes xs s)
adds_with xs out [] regs more = refl
adds_with xs out (b ∷ bs) regs more = refl

adds_registers : (xs out : List ℕ) (bs : List (List ℕ)) (regs : Registers) → let s : ActingState = record { out = out; buffers = bs; registers = regs } in (with_bytes xs s).registers ≡ regs
adds_registers xs out [] regs = refl
adds_registers xs out (b ∷ bs) regs = refl

-- nothing is on it
pub laid_none : (s : ActingState) → with_marked_bytes [] [] s ≡ s
laid_none s = adds_none s.out s.buffers s.registers

-- bytes more
pub laid_adds : (bytes more ms : List ℕ) (s : ActingState) → AreMarks (length bytes) ms → with_marked_bytes (bytes ++ more) ms s ≡ with_bytes more (with_marked_bytes bytes ms s)
laid_adds bytes more [] s h = adds_twice bytes more s.out s.buffers s.registers
laid_adds bytes more (m ∷ ms) s h = ap₂ (λ x y. with_buffer x (with_marked_bytes y ms s)) (drop-append-le m bytes more h.0) (take-append-le m bytes more h.0)

pub laid_registers : (bytes ms : List ℕ) (s : ActingState) → (with_marked_bytes bytes ms s).registers ≡ s.registers
laid_registers bytes [] s = adds_registers bytes s.out s.buffers s.registers
laid_registers bytes (m ∷ ms) s = laid_registers (take m bytes) ms s

pub laid_with : (bytes ms : List ℕ) (regs : Registers) (s : ActingState) → with_marked_bytes bytes ms (with_registers regs s) ≡ with_registers regs (with_marked_bytes bytes ms s)
laid_with bytes [] regs s = adds_with bytes s.out s.buffers s.registers regs
laid_with bytes (m ∷ ms) regs s = ap (with_buffer (drop m bytes)) (laid_with (take m bytes) ms regs s)

drop_all : (xs : List ℕ) (n : ℕ) → n ≡ length xs → drop n xs ≡ []
drop_all [] zero e = refl
drop_all [] (suc n) e = refl
drop_all (x ∷ xs) zero e = absurd (omega arith)
drop_all (x ∷ xs) (suc n) e = drop_all xs n (omega arith)

-- a buffer is opened at the end
pub laid_opens : (bytes ms : List ℕ) (m : ℕ) (s : ActingState) → m ≡ length bytes → with_marked_bytes bytes (m ∷ ms) s ≡ after_effect open_buffer (with_marked_bytes bytes ms s)
laid_opens bytes ms m s e = ap₂ (λ x y. with_buffer x (with_marked_bytes y ms s)) (drop_all bytes m e) (ap (λ n. take n bytes) e ∙ take-length bytes)

-- a register takes the innermost
pub laid_into : (bytes ms : List ℕ) (m r : ℕ) (s : ActingState) → with_marked_bytes (take m bytes) ms (with_registers (with_content s.registers r (drop m bytes)) s) ≡ after_effect (into r) (with_marked_bytes bytes (m ∷ ms) s)
laid_into bytes ms m r s =
    let z = with_marked_bytes (take m bytes) ms s in
    laid_with (take m bytes) ms (with_content s.registers r (drop m bytes)) s ∙ ap (λ regs. with_registers (with_content regs r (drop m bytes)) z) (sym (laid_registers (take m bytes) ms s))

pub laid_writes : (bytes ms : List ℕ) (r : ℕ) (s : ActingState) → AreMarks (length bytes) ms → with_marked_bytes (bytes ++ content_of s.registers r) ms s ≡ after_effect (write r) (with_marked_bytes bytes ms s)
laid_writes bytes ms r s h = laid_adds bytes (content_of s.registers r) ms s h ∙ ap (λ regs. with_bytes (content_of regs r) (with_marked_bytes bytes ms s)) (sym (laid_registers bytes ms s))

pub laid_sets : (bytes ms : List ℕ) (r : ℕ) (parts : List Piece) (s : ActingState) → with_marked_bytes bytes ms (with_registers (with_content s.registers r (pieces_text parts s.registers)) s) ≡ after_effect (set_to r parts) (with_marked_bytes bytes ms s)
laid_sets bytes ms r parts s = laid_with bytes ms (with_content s.registers r (pieces_text parts s.registers)) s ∙ ap (λ regs. with_registers (with_content regs r (pieces_text parts regs)) (with_marked_bytes bytes ms s)) (sym (laid_registers bytes ms s))

pub laid_joins : (bytes ms : List ℕ) (r : ℕ) (parts : List Piece) (s : ActingState) → with_marked_bytes bytes ms (with_registers (with_content s.registers r (content_of s.registers r ++ pieces_text parts s.registers)) s) ≡ after_effect (add_to r parts) (with_marked_bytes bytes ms s)
laid_joins bytes ms r parts s = laid_with bytes ms (with_content s.registers r (content_of s.registers r ++ pieces_text parts s.registers)) s ∙ ap (λ regs. with_registers (with_content regs r (content_of regs r ++ pieces_text parts regs)) (with_marked_bytes bytes ms s)) (sym (laid_registers bytes ms s))

-- among more bytes
pub marks_more : (n m : ℕ) (ms : List ℕ) → n ≤ m → AreMarks n ms → AreMarks m ms
marks_more n m [] h a = tt
marks_more n m (x ∷ xs) h a = (omega (arith, a.0), a.1)

pub reversed : (xs : List ℕ) (m : ℕ) → reverse (xs ++ m ∷ []) ≡ m ∷ reverse xs
reversed xs m = reverse-append xs (m ∷ [])

marks_behind : (used : ℕ) (xs ys : List ℕ) → AreMarks used (xs ++ ys) → (n : ℕ) × (n ≤ used) × AreMarks n ys
marks_behind used [] ys a = (used, omega arith, a)
marks_behind used (x ∷ xs) ys a = let r = marks_behind x xs ys a.1 in (r.0, omega (arith, r.1, a.0), r.2)

-- where the innermost buffer was opened
abbrev pub last_of : List ℕ → ℕ
last_of [] = 0
last_of (m ∷ ms) = m

pub last_within : (used : ℕ) (ms : List ℕ) → AreMarks used ms → last_of ms ≤ used
last_within used [] a = omega arith
last_within used (m ∷ ms) a = a.0

last_marks : (used : ℕ) (ms : List ℕ) → AreMarks used ms → AreMarks (last_of ms) ms
last_marks used [] a = tt
last_marks used (m ∷ ms) a = (omega arith, a.1)

-- the marks up to number i, from the front
pub record NextMark (used : ℕ) (ms : List ℕ) (i m : ℕ) : Type 0 where
  pub within : m ≤ used
  pub marks : AreMarks m (reverse (take i ms))
  pub behind : last_of (reverse (take i ms)) ≤ m
  pub more : reverse (take (i + 1) ms) ≡ m ∷ reverse (take i ms)

pub next_mark : (used : ℕ) (ms : List ℕ) (i d : ℕ) → AreMarks used (reverse ms) → i < length ms → NextMark used ms i (get_or ms i d)
next_mark used ms i d a h =
    let m = get_or ms i d in
    let more : reverse (take (i + 1) ms) ≡ m ∷ reverse (take i ms) = ap reverse (take_more ms i d h) ∙ reversed (take i ms) m in
    let whole : reverse ms ≡ reverse (drop (i + 1) ms) ++ (m ∷ reverse (take i ms)) = sym (ap reverse (take-append-drop (i + 1) ms)) ∙ reverse-append (take (i + 1) ms) (drop (i + 1) ms) ∙ ap (λ l. reverse (drop (i + 1) ms) ++ l) more in
    let r = marks_behind used (reverse (drop (i + 1) ms)) (m ∷ reverse (take i ms)) (subst (λ l. AreMarks used l) whole a) in
    record { within = omega (arith, r.1, r.2.0); marks = r.2.1; behind = last_within m (reverse (take i ms)) r.2.1; more = more }

-- what there is up to a place is handed on
pub handed : (bytes ds : List ℕ) (from to : ℕ) (s z z' : ActingState) → from ≡ last_of ds → AreMarks to ds → to ≤ length bytes → z ≡ with_marked_bytes (take from bytes) ds s → z' ≡ with_bytes (take (to - from) (drop from bytes)) z → z' ≡ with_marked_bytes (take to bytes) ds s
handed bytes ds from to s z z' e a h was is =
    let le : from ≤ to = omega (arith, e, last_within to ds a) in
    let n : length (take from bytes) ≡ from = length-take-le from bytes (omega (arith, le, h)) in
    let marks : AreMarks (length (take from bytes)) ds = subst (λ k. AreMarks k ds) (sym (n ∙ e)) (last_marks to ds a) in
    let sum : from + (to - from) ≡ to = omega arith in
    is ∙ ap (with_bytes (take (to - from) (drop from bytes))) was ∙ sym (laid_adds (take from bytes) (take (to - from) (drop from bytes)) ds s marks) ∙ ap (λ l. with_marked_bytes l ds s) (sym (take-add from (to - from) bytes) ∙ ap (λ k. take k bytes) sum)

pub blank_state : (s : Sheet) (out : List ℕ) (h : Holding) → IsBlank s → state_with s out h ≡ state_of out h
blank_state s out h b = ap₂ (λ n ms. with_marked_bytes (take n s.bytes.items) (reverse ms) (state_of out h)) b.0 b.1 ∙ laid_none (state_of out h)

used_marks : (s : Sheet) → IsSheet s → AreMarks (length (take s.used s.bytes.items)) (reverse s.marks.items)
used_marks s h = subst (λ n. AreMarks n (reverse s.marks.items)) (sym (length-take-le s.used s.bytes.items h.used)) h.marks

pub wrote : (s s' : Sheet) (more out : List ℕ) (h : Holding) → IsSheet s → Writes s s' more → state_with s' out h ≡ with_bytes more (state_with s out h)
wrote s s' more out h sheet w = ap₂ (λ b ms. with_marked_bytes b (reverse ms) (state_of out h)) w.used w.marks ∙ laid_adds (take s.used s.bytes.items) more (reverse s.marks.items) (state_of out h) (used_marks s sheet)

pub wrote_register : (s s' : Sheet) (more out : List ℕ) (r : ℕ) (h : Holding) → IsSheet s → Writes s s' more → more ≡ content_of h.registers r → state_with s' out h ≡ after_effect (write r) (state_with s out h)
wrote_register s s' more out r h sheet w e = ap₂ (λ b ms. with_marked_bytes b (reverse ms) (state_of out h)) w.used w.marks ∙ ap (λ l. with_marked_bytes (take s.used s.bytes.items ++ l) (reverse s.marks.items) (state_of out h)) e ∙ laid_writes (take s.used s.bytes.items) (reverse s.marks.items) r (state_of out h) (used_marks s sheet)

pub opened : (s s' : Sheet) (out : List ℕ) (h : Holding) → IsSheet s → s'.marks.items ≡ s.marks.items ++ s.used ∷ [] → s'.bytes.items ≡ s.bytes.items → s'.used ≡ s.used → state_with s' out h ≡ after_effect open_buffer (state_with s out h)
opened s s' out h sheet marks bytes used =
    let z = state_of out h in
    ap₂ (λ n b. with_marked_bytes (take n b) (reverse s'.marks.items) z) used bytes
    ∙ ap (λ ms. with_marked_bytes (take s.used s.bytes.items) ms z) (ap reverse marks ∙ reversed s.marks.items s.used)
    ∙ laid_opens (take s.used s.bytes.items) (reverse s.marks.items) s.used z (sym (length-take-le s.used s.bytes.items sheet.used))

-- what was before the innermost buffer, and the buffer
closed : (s s' : Sheet) (z : ActingState) → ClosesBuffer s s' → with_marked_bytes (take s.used s.bytes.items) (reverse s.marks.items) z ≡ with_marked_bytes (take s.used s.bytes.items) (s'.used ∷ reverse s'.marks.items) z
closed s s' z c = ap (λ ms. with_marked_bytes (take s.used s.bytes.items) ms z) (ap reverse c.marks ∙ reversed s'.marks.items s'.used)

front : (s s' : Sheet) → ClosesBuffer s s' → take s'.used s'.bytes.items ≡ take s'.used (take s.used s.bytes.items)
front s s' c = ap (take s'.used) c.kept ∙ sym (take-take s'.used s.used s.bytes.items c.within)

pub taken : (s s' : Sheet) (bytes out : List ℕ) (r : ℕ) (h : Holding) → ClosesBuffer s s' → bytes ≡ take (s.used - s'.used) (drop s'.used s'.bytes.items) → state_with s' out (record { buffers = h.buffers; registers = with_content h.registers r bytes }) ≡ after_effect (into r) (state_with s out h)
taken s s' bytes out r h c e =
    let z = state_of out h in
    let all = take s.used s.bytes.items in
    let sum : s.used ≡ s'.used + (s.used - s'.used) = omega (arith, c.within) in
    let is : bytes ≡ drop s'.used all = e ∙ ap (λ b. take (s.used - s'.used) (drop s'.used b)) c.kept ∙ sym (drop-take s'.used (s.used - s'.used) s.bytes.items) ∙ ap (λ n. drop s'.used (take n s.bytes.items)) (sym sum) in
    ap₂ (λ b x. with_marked_bytes b (reverse s'.marks.items) (with_registers (with_content h.registers r x) z)) (front s s' c) is ∙ laid_into all (reverse s'.marks.items) s'.used r z ∙ sym (ap (after_effect (into r)) (closed s s' z c))

pub sets : (s : Sheet) (out : List ℕ) (h h' : Holding) (r : ℕ) (parts : List Piece) → h' ≡ record { buffers = h.buffers; registers = with_content h.registers r (pieces_text parts h.registers) } → state_with s out h' ≡ after_effect (set_to r parts) (state_with s out h)
sets s out h h' r parts e = ap (state_with s out) e ∙ laid_sets (take s.used s.bytes.items) (reverse s.marks.items) r parts (state_of out h)

pub joins : (s : Sheet) (out : List ℕ) (h h' : Holding) (r : ℕ) (parts : List Piece) → h' ≡ record { buffers = h.buffers; registers = with_content h.registers r (content_of h.registers r ++ pieces_text parts h.registers) } → state_with s out h' ≡ after_effect (add_to r parts) (state_with s out h)
joins s out h h' r parts e = ap (state_with s out) e ∙ laid_joins (take s.used s.bytes.items) (reverse s.marks.items) r parts (state_of out h)

-- the sheet stays one
pub opened_sheet : (s s' : Sheet) → IsSheet s → s'.marks.items ≡ s.marks.items ++ s.used ∷ [] → s'.bytes.items ≡ s.bytes.items → s'.used ≡ s.used → IsSheet s'
opened_sheet s s' h marks bytes used = record {
  used = omega (arith, h.used, used, ap length bytes);
  marks = subst (λ l. AreMarks s'.used l) (sym (ap reverse marks ∙ reversed s.marks.items s.used)) (omega (arith, used), h.marks);
}

kept_registers : (s : Sheet) (h : Holding) → (state_with s [] h).registers ≡ h.registers
kept_registers s h = laid_registers (take s.used s.bytes.items) (reverse s.marks.items) (state_of [] h)

-- no deed makes or takes away a register
pub kept_count : (nodes : List MNode) (b : ℕ) (xs : List Deed) (s s' : Sheet) (h h' : Holding) → state_with s' [] h' ≡ after_deeds nodes b xs (state_with s [] h) → length h'.registers ≡ length h.registers
kept_count nodes b xs s s' h h' e =
    ap length (sym (kept_registers s' h') ∙ ap (λ z. z.registers) e) ∙ length-deeds nodes b xs (state_with s [] h) ∙ ap length (kept_registers s h)

-- one deed, done or not
pub kept_by : (nodes : List MNode) (b : ℕ) (d : Deed) (x : Bool) (s s' : Sheet) (h h' : Holding) → (IsTrue x → (out : List ℕ) → state_with s' out h' ≡ after_deed nodes b d (state_with s out h)) → (x ≡ false → (out : List ℕ) → state_with s' out h' ≡ state_with s out h) → length h'.registers ≡ length h.registers
kept_by nodes b d true s s' h h' did stays = kept_count nodes b (d ∷ []) s s' h h' (did refl [])
kept_by nodes b d false s s' h h' did stays = kept_count nodes b [] s s' h h' (stays refl [])

pub handed_count : (s : Sheet) (h h' : Holding) (out out' : List ℕ) → state_of out' h' ≡ state_with s out h → length h'.registers ≡ length h.registers
handed_count s h h' out out' e = ap (λ z. length z.registers) e ∙ ap length (laid_registers (take s.used s.bytes.items) (reverse s.marks.items) (state_of out h))

-- one deed more
pub done_more : (nodes : List MNode) (b : ℕ) (xs : List Deed) (i : ℕ) (d : Deed) (s z z' : ActingState) → i < length xs → z ≡ after_deeds nodes b (take i xs) s → z' ≡ after_deed nodes b (get_or xs i d) z → z' ≡ after_deeds nodes b (take (i + 1) xs) s
done_more nodes b xs i d s z z' h was is = is ∙ ap (after_deed nodes b (get_or xs i d)) was ∙ sym (deeds-more nodes b xs i d s h)

pub if_ok : {T E : Type 0} (P Q : T → Type 0) (r : Result T E) → ((x : T) → P x → Q x) → IfOk r P → IfOk r Q
if_ok P Q (Ok x) f h = f x h
if_ok P Q (Err e) f h = tt
