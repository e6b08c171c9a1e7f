-- Ways: their parts, one by one, and what they stand for.
use Rattle.std.proofs.Common.{◌≡◌, ℕ, zero, suc, ◌+◌, ◌<◌, ◌≤◌, List, [], ◌∷◌, ◌++◌, Option, Some, None, length, get_or, take, drop, refl, sym, ap, ap₂, subst, ◌∙◌, append_assoc, append-nil, arith}
use Rattle.std.specs.Prelude.{All, IfSome, slice_get}
use Rattle.std.proofs.lemmas.List.{take_more, take_all, drop_more}
use Rattle.std.proofs.lemmas.List.Elements.{All-weaker}
use Rattle.std.proofs.lemmas.Option.{get_or_from_slice_get, IfSome_then}
use Rattle.std.proofs.Math.ListN.{get_or-map}
use Rattle.kex_code.specs.declared.symbol.Symbol.{Symbol}
use Rattle.kex_sst.specs.declared.parts.Part.{Part}
use Rattle.kex_sst.specs.declared.parts.Part.TheVariants.{Put, Old, Input}
use Rattle.kex_sst.specs.Parts.{Change, value, parts_code}
use Rattle.kex_script.specs.declared.piece.ByteWord.{ByteWord}
use Rattle.kex_script.specs.Pages.{KeepsItems}
use Rattle.kex_script.specs.Scripts.{Sheet, IsWord, change_at, list_at}
use Rattle.kex_runner.specs.declared.ways.Split.{Split}
use Rattle.kex_runner.specs.declared.ways.WayStart.{WayStart}
use Rattle.kex_runner.specs.declared.ways.WayStep.{WayStep}
use Rattle.kex_runner.specs.declared.ways.Ways.{Ways}
use Rattle.kex_runner.specs.declared.history.walking.WalkPoint.{WalkPoint}
use Rattle.kex_script.specs.Pieces.{code_over}
use Rattle.kex_runner.specs.Noting.{ByteUpdate, next_registers, registers_after}
use Rattle.kex_runner.specs.Ways.{AreOlds, composition, split_in, IsNumberedWay, IsSplit, IsStart, IsWayStep, IsStepIf, AreKnown, HasWalked}
use Rattle.kex_runner.proofs.Notes.{meant_fresh}
use Rattle.kex_runner.proofs.LookUps.{parts_code-append, registers_more}

olds_both : (xs ys : List Part) → AreOlds xs → AreOlds ys → AreOlds (xs ++ ys)
olds_both [] ys h k = k
olds_both (x ∷ xs) ys h k = (h.0, olds_both xs ys h.1 k)

-- one part more is an old register
pub olds_next : (parts : List Part) (i : ℕ) (d : Part) → i < length parts → AreOlds (get_or parts i d ∷ []) → AreOlds (take i parts) → AreOlds (take (i + 1) parts)
olds_next parts i d lt h k = subst (λ z. AreOlds z) (sym (take_more parts i d lt)) (olds_both (take i parts) (get_or parts i d ∷ []) k h)

-- a way is the same whatever byte is read
pub any_byte : (regs : List (List Symbol)) (b b' : ℕ) (way : List Part) → AreOlds way → parts_code regs b way ≡ parts_code regs b' way
any_byte regs b b' [] h = refl
any_byte regs b b' (Put s ∷ xs) h = absurd h.0
any_byte regs b b' (Old i ∷ xs) h = ap (λ z. get_or regs i [] ++ z) (any_byte regs b b' xs h.1)
any_byte regs b b' (Input ∷ xs) h = absurd h.0

-- a way after an update is what it is composed to before
pub composed_means : (u : Change) (regs : List (List Symbol)) (b b' : ℕ) (way : List Part) → AreOlds way → parts_code (next_registers u b regs) b' way ≡ parts_code regs b (composition u way)
composed_means u regs b b' [] h = refl
composed_means u regs b b' (Put s ∷ xs) h = absurd h.0
composed_means u regs b b' (Old i ∷ xs) h = ap₂ (λ y z. y ++ z) (get_or-map (λ ps. parts_code regs b ps) u.regs i []) (composed_means u regs b b' xs h.1) ∙ sym (parts_code-append regs b (get_or u.regs i []) (composition u xs))
composed_means u regs b b' (Input ∷ xs) h = absurd h.0

composition-append : (u : Change) (xs ys : List Part) → composition u (xs ++ ys) ≡ composition u xs ++ composition u ys
composition-append u [] ys = refl
composition-append u (Put s ∷ xs) ys = ap (λ z. Put s ∷ z) (composition-append u xs ys)
composition-append u (Old i ∷ xs) ys = ap (λ z. get_or u.regs i [] ++ z) (composition-append u xs ys) ∙ sym (append_assoc (get_or u.regs i []) (composition u xs) (composition u ys))
composition-append u (Input ∷ xs) ys = ap (λ z. Input ∷ z) (composition-append u xs ys)

-- one part more is composed
pub composed_next : (u : Change) (way : List Part) (i : ℕ) (d : Part) → i < length way → composition u (take (i + 1) way) ≡ composition u (take i way) ++ composition u (get_or way i d ∷ [])
composed_next u way i d lt = ap (λ z. composition u z) (take_more way i d lt) ∙ composition-append u (take i way) (get_or way i d ∷ [])

-- what is known stays, where ways stay
way_kept : (ways ways' : List (List Part)) (n : ℕ) (way : List Part) → KeepsItems ways ways' → IsNumberedWay ways n way → IsNumberedWay ways' n way
way_kept ways ways' n way k h = record { at = k n way h.at; each = h.each }

split_kept : (words ways ways' : List (List Part)) (x : Split) (list : List Part) → KeepsItems ways ways' → IsSplit words ways x list → IsSplit words ways' x list
split_kept words ways ways' x list k h = record { front = h.front; way = way_kept ways ways' x.way h.front k h.way; parts = h.parts; word = h.word; plain = h.plain; joined = h.joined }

step_kept : (s : Sheet) (ways ways' : List (List Part)) (number update : ℕ) (x : Split) → KeepsItems ways ways' → IsWayStep s ways number update x → IsWayStep s ways' number update x
step_kept s ways ways' number update x k h = record { from = h.from; way = way_kept ways ways' number h.from k h.way; split = split_kept s.words ways ways' x (composition (change_at s update) h.from) k h.split }

starts_kept : (s : Sheet) (ways ways' : List (List Part)) → KeepsItems ways ways' → (xs : List WayStart) → All (IsStart s ways) xs → All (IsStart s ways') xs
starts_kept s ways ways' k xs h = All-weaker (IsStart s ways) (IsStart s ways') (λ x g some. IfSome_then x.split (g some) (λ y h. split_kept s.words ways ways' y (list_at s x.list) k h)) xs h

steps_kept : (s : Sheet) (ways ways' : List (List Part)) → KeepsItems ways ways' → (xs : List WayStep) → All (IsStepIf s ways) xs → All (IsStepIf s ways') xs
steps_kept s ways ways' k xs h = All-weaker (IsStepIf s ways) (IsStepIf s ways') (λ x g. IfSome_then (split_in x) g (λ y st. step_kept s ways ways' x.from x.update y k st)) xs h

-- more ways, and starts and steps that are so
pub known_more : (s : Sheet) (w w' : Ways) → KeepsItems w.lists w'.lists → AreKnown s w → (All (IsStart s w'.lists) w.starts.items → All (IsStart s w'.lists) w'.starts.items) → (All (IsStepIf s w'.lists) w.steps.items → All (IsStepIf s w'.lists) w'.steps.items) → AreKnown s w'
known_more s w w' k h f g = record { none = k 0 [] h.none; starts = f (starts_kept s w.lists w'.lists k w.starts.items h.starts); steps = g (steps_kept s w.lists w'.lists k w.steps.items h.steps) }

-- a step back
module _ (s : Sheet) (ways ways' : List (List Part)) (notes : List ByteUpdate) (from : List Part) (p p' : WalkPoint) (update : ℕ) (x : Split) (d n : ByteUpdate) (first old new : List ByteWord) where
  pub walked_on : KeepsItems ways ways' → p.after ≡ suc p'.after → p'.way ≡ x.way → n ≡ get_or notes p'.after d → n.update ≡ change_at s update
      → IsWayStep s ways' p.way update x
      → ((words : List (List Part)) (w : List Part) → IsWord words x.word w → code_over words new ≡ parts_code [] n.byte w ++ code_over words old)
      → HasWalked s ways notes from p first old → HasWalked s ways' notes from p' first new
  walked_on k e same at u st said h =
      let to : List Part = st.split.front in
      let here : h.to ≡ st.from = some_same (sym (k p.way h.to h.way.at) ∙ st.way.at) in
      record {
        after = omega (arith, h.after, e);
        to = to;
        way = subst (λ z. IsNumberedWay ways' z to) (sym same) st.split.way;
        text = λ base.
            let regs : List (List Symbol) = registers_after base (take p'.after notes) in
            let word : List Symbol = parts_code [] n.byte st.split.parts in
            let back : List Symbol = code_over s.words old in
            let there : parts_code (registers_after base (take p.after notes)) 0 h.to ≡ parts_code regs 0 to ++ word =
            ap₂ (λ y z. parts_code (registers_after base (take y notes)) 0 z) e here
            ∙ ap (λ z. parts_code z 0 st.from) (registers_more base notes p'.after d (omega (arith, h.after, e)))
            ∙ ap (λ z. parts_code (next_registers z.update z.byte regs) 0 st.from) (sym at)
            ∙ ap (λ z. parts_code (next_registers z n.byte regs) 0 st.from) u
            ∙ composed_means (change_at s update) regs n.byte 0 st.from st.way.each
            ∙ ap (λ z. parts_code regs n.byte z) st.split.joined
            ∙ parts_code-append regs n.byte to st.split.parts
            ∙ ap₂ (λ y z. y ++ z) (any_byte regs n.byte 0 to st.split.way.each) (meant_fresh regs [] n.byte st.split.parts st.split.plain) in
            ap (λ z. parts_code regs 0 to ++ z) (said s.words st.split.parts st.split.word)
            ∙ sym (append_assoc (parts_code regs 0 to) word back)
            ∙ ap (λ z. z ++ back) (sym there)
            ∙ h.text base;
      }
    where
      some_same : {y z : List Part} → Some y ≡ Some z → y ≡ z
      some_same e = cc

-- nothing is gone
pub walked_none : (s : Sheet) (ways : List (List Part)) (notes : List ByteUpdate) (from : List Part) (p : WalkPoint) (back : List ByteWord) → p.after ≡ length notes → IsNumberedWay ways p.way from → HasWalked s ways notes from p back back
walked_none s ways notes from p back e h = record { after = omega (arith, e); to = from; way = h; text = λ base. ap (λ z. parts_code (registers_after base z) 0 from ++ code_over s.words back) (take_all p.after notes (omega (arith, e))) }

-- one of the parts of a way
olds_at : (way : List Part) (i : ℕ) (d : Part) → i < length way → AreOlds way → AreOlds (get_or way i d ∷ [])
olds_at [] i d lt h = absurd (omega arith)
olds_at (x ∷ xs) zero d lt h = (h.0, tt)
olds_at (x ∷ xs) (suc i) d lt h = olds_at xs i d (omega (arith, lt)) h.1

-- one part more of a way is read
pub way_next : (regs : List (List Symbol)) (way : List Part) (k left : ℕ) (d : Part) (new old before : List Symbol) → k + 1 ≡ left → left ≤ length way → AreOlds way → (AreOlds (get_or way k d ∷ []) → new ≡ value regs 0 (get_or way k d) ++ old) → old ≡ parts_code regs 0 (drop left way) ++ before → new ≡ parts_code regs 0 (drop k way) ++ before
way_next regs way k left d new old before e le h read f =
    let lt : k < length way = omega (arith, e, le) in
    let part : Part = get_or way k d in
    read (olds_at way k d lt h)
    ∙ ap (λ z. value regs 0 part ++ z) (f ∙ ap (λ z. parts_code regs 0 (drop z way) ++ before) (sym e))
    ∙ sym (append_assoc (value regs 0 part) (parts_code regs 0 (drop (k + 1) way)) before)
    ∙ ap (λ z. parts_code regs 0 z ++ before) (sym (drop_more way k d lt))

-- a piece more says its word
pub word_said : (words : List (List Part)) (word : Option ℕ) (w : List Part) (number byte n : ℕ) (old new : List ByteWord) → word ≡ Some number → n ≡ number → new ≡ (record { word = n; byte = byte }) ∷ old → IsWord words word w → code_over words new ≡ parts_code [] byte w ++ code_over words old
word_said words word w number byte n old new e same more is =
    let at : IsWord words (Some number) w = subst (λ z. IsWord words z w) e is in
    ap (λ z. code_over words z) (more ∙ ap (λ z. (record { word = z; byte = byte }) ∷ old) same)
    ∙ ap (λ z. parts_code [] byte z ++ code_over words old) (get_or_from_slice_get words number w [] at)

-- a step that is kept, if it says what the way was
pub step_said : (o : Option Split) (steps : List WayStep) (number update : ℕ) → ((s : Sheet) (ways : List (List Part)) → All (IsStepIf s ways) steps → IfSome o (λ y. IsWayStep s ways number update y)) → IfSome o (λ x. (s : Sheet) (ways : List (List Part)) → All (IsStepIf s ways) steps → IsWayStep s ways number update x)
step_said None steps number update h = tt
step_said (Some x) steps number update h = h

-- what was found of a way before an update
pub step_is : (s : Sheet) (words ways ways' : List (List Part)) (number update : ℕ) (o : Option Split) (from parts : List Part) → words ≡ s.words → KeepsItems ways ways' → IsNumberedWay ways number from → parts ≡ composition (change_at s update) from → IfSome o (λ x. IsSplit words ways' x parts) → IfSome o (λ x. IsWayStep s ways' number update x)
step_is s words ways ways' number update o from parts e k h is st = IfSome_then o st (λ x st. record {
  from = from;
  way = way_kept ways ways' number from k h;
  split = subst (λ z. IsSplit s.words ways' x z) is (subst (λ z. IsSplit z ways' x parts) e st);
})

-- a step that holds it
pub step_if : (s : Sheet) (ways : List (List Part)) (number update : ℕ) (o : Option Split) (x : WayStep) → x.from ≡ number → x.update ≡ update → split_in x ≡ o → IfSome o (λ y. IsWayStep s ways number update y) → IsStepIf s ways x
step_if s ways number update o x from to is h =
    subst (λ z. IfSome z (λ y. IsWayStep s ways x.from x.update y)) (sym is) (subst (λ z. IfSome o (λ y. IsWayStep s ways x.from z y)) (sym to) (subst (λ z. IfSome o (λ y. IsWayStep s ways z update y)) (sym from) h))

-- a list that is a way and a word
pub split_means : (s : Sheet) (regs : List (List Symbol)) (ways : List (List Part)) (x : Split) (byte : ℕ) (list : List Part) (none behind : List ByteWord) → (st : IsSplit s.words ways x list)
    → ((words : List (List Part)) (w : List Part) → IsWord words x.word w → code_over words behind ≡ parts_code [] byte w ++ code_over words none) → none ≡ []
    → parts_code regs 0 st.front ++ code_over s.words behind ≡ parts_code regs byte list
split_means s regs ways x byte list none behind st said e =
    let word : List Symbol = parts_code [] byte st.parts in
    ap (λ z. parts_code regs 0 st.front ++ z) (said s.words st.parts st.word ∙ ap (λ z. word ++ code_over s.words z) e ∙ append-nil word)
    ∙ ap₂ (λ y z. y ++ z) (any_byte regs 0 byte st.front st.way.each) (meant_fresh [] regs byte st.parts st.plain)
    ∙ sym (parts_code-append regs byte st.front st.parts)
    ∙ ap (λ z. parts_code regs byte z) (sym st.joined)

-- a way that was gone back, where it is read at its place
pub way_means : (s : Sheet) (base : List (List Symbol)) (notes : List ByteUpdate) (ways : List (List Part)) (p : WalkPoint) (from way : List Part) (old new : List ByteWord) → HasWalked s ways notes from p old new → way ≡ get_or ways p.way []
    → parts_code (registers_after base (take p.after notes)) 0 way ++ code_over s.words new ≡ parts_code (registers_after base notes) 0 from ++ code_over s.words old
way_means s base notes ways p from way old new h is =
    ap (λ z. parts_code (registers_after base (take p.after notes)) 0 z ++ code_over s.words new) (is ∙ get_or_from_slice_get ways p.way h.to [] h.way.at)
    ∙ h.text base

-- a way that was gone back until nothing was left of it
pub whole_means : (s : Sheet) (base : List (List Symbol)) (notes : List ByteUpdate) (ways : List (List Part)) (p : WalkPoint) (from : List Part) (old new : List ByteWord) → slice_get ways 0 ≡ Some [] → p.way ≡ 0 → HasWalked s ways notes from p old new
    → code_over s.words new ≡ parts_code (registers_after base notes) 0 from ++ code_over s.words old
whole_means s base notes ways p from old new none e h = way_means s base notes ways p from [] old new h (sym (ap (λ z. get_or ways z []) e ∙ get_or_from_slice_get ways 0 [] [] none))
