-- A text with a place for the byte, from what is done.
use Rattle.std.proofs.Common.{Result, Ok, Err, IfOk, true, false, cond, replicate, refl, ◌≡◌, ℕ, ◌<◌, ◌≤◌, ◌+◌, List, [], ◌∷◌, ◌++◌, length, take, drop, set, sym, ap, ap₂, ◌∙◌, arith, append_assoc, length-append, length-set, inl, inr}
use Rattle.std.specs.Prelude.{◌⊎◌}
use Rattle.std.proofs.lemmas.List.{append-nil, set-append_left, set_past, set_at, drop_at, take_all, take-append-drop, length-take-le}
use Rattle.kex_code.specs.Registers.{Registers}
use Rattle.kex_model.specs.Acting.{ActingState, after_append}
use Rattle.kex_machine.specs.declared.MNode.{MNode}
use Rattle.kex_action.specs.declared.deed.Deed.{Deed}
use Rattle.kex_action.specs.Holdings.{with_bytes}
use Rattle.kex_action.specs.Deeds.{after_deeds}
use Rattle.kex_action.specs.Sheets.{with_buffer}
use Rattle.kex_moves.specs.declared.edge.Edge.{Edge}
use Rattle.kex_moves.specs.declared.edge.EdgeKind.{EdgeKind}
use Rattle.kex_moves.specs.declared.edge.EdgeKind.TheVariants.{Keep, Drop, Text, Acts, Opens, Plain, Unknown}
use Rattle.kex_moves.specs.Edges.{writes, is_written, has_acts, HasRoom}
use Rattle.kex_moves.specs.Known.{Known, HasPlace, Settles, Lengthens}
use Rattle.kex_moves.proofs.BufferWrites.{within}
use Rattle.kex_moves.proofs.Runs.{one}

appended_more : (xs ys out : List ℕ) (bs : List (List ℕ)) (regs : Registers) → with_bytes ys (after_append xs out bs regs) ≡ after_append (xs ++ ys) out bs regs
appended_more xs ys out [] regs = ap (λ (l : List ℕ). record { out = l; buffers = []; registers = regs }) (append_assoc out xs ys)
appended_more xs ys out (b ∷ bs) regs = ap (λ (l : List ℕ). record { out = out; buffers = l ∷ bs; registers = regs }) (append_assoc b xs ys)

pub adding_more : (xs ys : List ℕ) (s : ActingState) → with_bytes ys (with_bytes xs s) ≡ with_bytes (xs ++ ys) s
adding_more xs ys s = appended_more xs ys s.out s.buffers s.registers

appended_none : (out : List ℕ) (bs : List (List ℕ)) (regs : Registers) → after_append [] out bs regs ≡ record { out = out; buffers = bs; registers = regs }
appended_none out [] regs = ap (λ (l : List ℕ). record { out = l; buffers = []; registers = regs }) (append-nil out)
appended_none out (b ∷ bs) regs = ap (λ (l : List ℕ). record { out = out; buffers = l ∷ bs; registers = regs }) (append-nil b)

pub adding_none : (s : ActingState) → s ≡ with_bytes [] s
adding_none s = sym (appended_none s.out s.buffers s.registers)

pub set_more : (xs ys : List ℕ) (p b : ℕ) → (p < length xs) ⊎ (length xs + length ys ≤ p) → set (xs ++ ys) p b ≡ set xs p b ++ ys
set_more xs ys p b (inl h) = set-append_left xs ys p b h
set_more xs ys p b (inr h) = set_past (xs ++ ys) p b (omega (arith, length-append xs ys)) ∙ ap (λ l. l ++ ys) (sym (set_past xs p b (omega arith)))

pub more_room : (xs ys : List ℕ) (p : ℕ) → HasPlace xs p → length xs + length ys ≤ 16 → (p < length xs) ⊎ (length xs + length ys ≤ p)
more_room xs ys p h k = elim h.place [ inl a ↦ inl a | inr a ↦ inr (omega arith) ]

-- the byte after it
pub byte_text : (p q b : ℕ) (xs : List ℕ) → HasPlace xs p → 16 ≤ p → q ≡ length xs → set xs p b ++ b ∷ [] ≡ set (xs ++ 0 ∷ []) q b
byte_text p q b xs h k e = ap (λ l. l ++ b ∷ []) (set_past xs p b (omega (arith, h.count))) ∙ sym (set_at xs 0 [] b q (sym e))

-- what is written is the text with the byte
text_written : (old xs pad text : List ℕ) (p b : ℕ) (e : Edge) → text ≡ (old ++ xs) ++ pad → length pad ≡ 16 → length xs ≤ 16 → e.from ≡ length old → e.byte_at ≡ p → e.adds ≡ length xs → writes text e b ≡ set xs p b
text_written old xs pad text p b m e h k f g l =
    let all = xs ++ pad in
    let rest : drop m.from text ≡ all = ap (drop m.from) (e ∙ append_assoc old xs pad) ∙ drop_at old all m.from (sym f) in
    let long : length (take 16 all) ≡ 16 = length-take-le 16 all (omega (arith, length-append xs pad)) in
    let front : take (length xs) (set (take 16 all) p b) ≡ take (length xs) (set all p b) = sym (within (length xs) (take 16 all) (drop 16 all) p b (omega arith)) ∙ ap (λ q. take (length xs) (set q p b)) (take-append-drop 16 all) in
    ap₂ (λ i n. take n (set (take 16 (drop m.from text)) i b)) g l ∙ ap (λ q. take (length xs) (set (take 16 q) p b)) rest ∙ front ∙ within (length xs) xs pad p b (omega arith) ∙ take_all (length xs) (set xs p b) (omega (arith, length-set xs p b))

no_bytes : (xs : List ℕ) (p b : ℕ) → length xs ≡ 0 → set xs p b ≡ []
no_bytes [] p b h = refl
no_bytes (x ∷ xs) p b h = absurd (omega arith)

one_byte : (xs : List ℕ) (b : ℕ) → length xs ≡ 1 → set xs 0 b ≡ b ∷ []
one_byte [] b h = absurd (omega arith)
one_byte (x ∷ []) b h = refl
one_byte (x ∷ y ∷ xs) b h = absurd (omega arith)

-- of the byte alone, or of nothing, any text is one
short_written : (text xs : List ℕ) (p b : ℕ) (e : Edge) (k : EdgeKind) → e.kind ≡ k → 16 ≤ length text → is_written k ≡ true → (k ≡ Text → ⊥) → (k ≡ Keep → (p ≡ 0) × (length xs ≡ 1)) → (k ≡ Drop → length xs ≡ 0) → e.from ≡ 0 → e.byte_at ≡ p → e.adds ≡ length xs → writes text e b ≡ set xs p b
short_written text xs p b e Keep is room w none keeps drops f g l =
    let h = keeps refl in
    ap₂ (λ i n. take n (set (take 16 (drop e.from text)) i b)) (g ∙ h.0) (l ∙ h.1) ∙ ap (λ q. take 1 (set (take 16 (drop q text)) 0 b)) f ∙ one (take 16 text) b (omega (arith, length-take-le 16 text room)) ∙ sym (ap (λ q. set xs q b) h.0 ∙ one_byte xs b h.1)
short_written text xs p b e Drop is room w none keeps drops f g l = ap (λ n. take n (set (take 16 (drop e.from text)) e.byte_at b)) (l ∙ drops refl) ∙ sym (no_bytes xs p b (drops refl))
short_written text xs p b e Text is room w none keeps drops f g l = absurd (none refl)
short_written text xs p b e Acts is room w none keeps drops f g l = cc
short_written text xs p b e Opens is room w none keeps drops f g l = cc
short_written text xs p b e Plain is room w none keeps drops f g l = cc
short_written text xs p b e Unknown is room w none keeps drops f g l = cc

pub place_small : (xs : List ℕ) (p : ℕ) → HasPlace xs p → p ≤ 16
place_small xs p h = elim h.place [ inl a ↦ omega (arith, h.count) | inr a ↦ omega arith ]

-- what is written has no actions
unwritten : (k : EdgeKind) → has_acts k ≡ true → is_written k ≡ false
unwritten Keep h = cc
unwritten Drop h = cc
unwritten Text h = cc
unwritten Acts h = refl
unwritten Opens h = refl
unwritten Plain h = cc
unwritten Unknown h = cc

no_written : (k : EdgeKind) → has_acts k ≡ true → is_written k ≡ true → ⊥
no_written k h w = let f : false ≡ true = sym (unwritten k h) ∙ w in cc

no_opens : (k : EdgeKind) → is_written k ≡ true → k ≡ Opens → ⊥
no_opens k w e = no_written k (ap has_acts e) w

-- an edge that writes what is a text with the byte settles
settles_written : (nodes : List MNode) (k : Known) (next p : ℕ) (xs : List ℕ) (e : Edge) → e.next ≡ next → is_written e.kind ≡ true → HasRoom (length k.text) e → ((b : ℕ) → writes k.text e b ≡ set xs p b) → Settles nodes k next (λ b. with_bytes (set xs p b)) e
settles_written nodes k next p xs e n w room h = record {
  goes = λ known. n;
  room = λ written. room;
  acts = λ acts. absurd (no_written e.kind acts w);
  alone = λ alone. w;
  does = λ known b s. ap (λ l. with_bytes l s) (sym (h b)) ∙ sym (ap (λ x. cond x (with_bytes (writes k.text e b) s) (after_deeds nodes b (take e.adds (drop e.from k.acts)) s)) w);
  opens = λ opens. absurd (no_opens e.kind w opens);
}

pub settles_short : (nodes : List MNode) (k : Known) (next p : ℕ) (xs : List ℕ) (e : Edge) → 16 ≤ length k.text → HasPlace xs p → e.next ≡ next → e.from ≡ 0 → e.byte_at ≡ p → e.adds ≡ length xs → is_written e.kind ≡ true → (e.kind ≡ Text → ⊥) → (e.kind ≡ Keep → (p ≡ 0) × (length xs ≡ 1)) → (e.kind ≡ Drop → length xs ≡ 0) → (e.alone ≡ true → e.kind ≡ Keep) → (e.kind ≡ Keep → e.alone ≡ true) → Settles nodes k next (λ b. with_bytes (set xs p b)) e
settles_short nodes k next p xs e text place n f g l w none keeps drops alone keep =
    settles_written nodes k next p xs e n w (record { text = omega arith; byte_at = omega (arith, place_small xs p place); adds = omega (arith, place.count); keeps = keep; drops = λ q. l ∙ drops q; alone = λ q. let is = keeps (alone q) in (g ∙ is.0, l ∙ is.1) }) (λ b. short_written k.text xs p b e e.kind refl text w none keeps drops f g l)

pub settles_text : (nodes : List MNode) (k : Known) (old : List ℕ) (next p : ℕ) (xs : List ℕ) (e : Edge) → k.text ≡ (old ++ xs) ++ replicate 16 0 → HasPlace xs p → e.next ≡ next → e.from ≡ length old → e.byte_at ≡ p → e.adds ≡ length xs → e.kind ≡ Text → e.alone ≡ false → Settles nodes k next (λ b. with_bytes (set xs p b)) e
settles_text nodes k old next p xs e is place n f g l text others =
    let long : length k.text ≡ length old + length xs + 16 = ap length is ∙ omega (arith, length-append (old ++ xs) (replicate 16 0), length-append old xs) in
    settles_written nodes k next p xs e n (ap is_written text) (record { text = omega arith; byte_at = omega (arith, place_small xs p place); adds = omega (arith, place.count); keeps = λ q. cc; drops = λ q. cc; alone = λ q. cc }) (λ b. text_written old xs (replicate 16 0) k.text p b e is refl place.count f g l)

-- an edge at which deeds are done settles
pub settles_acts : (nodes : List MNode) (k : Known) (old deeds : List Deed) (next : ℕ) (e : Edge) → k.acts ≡ old ++ deeds → e.next ≡ next → e.from ≡ length old → e.adds ≡ length deeds → has_acts e.kind ≡ true → e.alone ≡ false → (e.kind ≡ Opens → (b : ℕ) (s : ActingState) → after_deeds nodes b deeds s ≡ with_buffer (b ∷ []) s) → Settles nodes k next (λ b. after_deeds nodes b deeds) e
settles_acts nodes k old deeds next e is n f l acts others opens =
    let same : take e.adds (drop e.from k.acts) ≡ deeds = ap₂ (λ i m. take m (drop i k.acts)) f l ∙ ap (λ q. take (length deeds) (drop (length old) q)) is ∙ ap (take (length deeds)) (drop_at old deeds (length old) refl) ∙ take_all (length deeds) deeds (omega arith) in
    let does = λ (b : ℕ) (s : ActingState). ap (λ q. after_deeds nodes b q s) (sym same) ∙ sym (ap (λ x. cond x (with_bytes (writes k.text e b) s) (after_deeds nodes b (take e.adds (drop e.from k.acts)) s)) (unwritten e.kind acts)) in
    record {
      goes = λ known. n;
      room = λ written. absurd (no_written e.kind acts written);
      acts = λ q. omega (arith, ap length is, length-append old deeds);
      alone = λ q. let clash : true ≡ false = sym q ∙ others in cc;
      does = λ known b s. does b s;
      opens = λ q b s. sym (does b s) ∙ opens q b s;
    }

pub lengthens_none : (k : Known) → Lengthens k k
lengthens_none k = record { text = []; acts = []; longer = ap₂ (λ (t : List ℕ) (a : List Deed). record { classes = k.classes; width = k.width; shift = k.shift; pairs = k.pairs; edges = k.edges; text = t; acts = a }) (sym (append-nil k.text)) (sym (append-nil k.acts)) }

pub lengthens_text : (k : Known) (text more : List ℕ) → text ≡ k.text ++ more → Lengthens k (record { classes = k.classes; width = k.width; shift = k.shift; pairs = k.pairs; edges = k.edges; text = text; acts = k.acts })
lengthens_text k text more e = record { text = more; acts = []; longer = ap₂ (λ (t : List ℕ) (a : List Deed). record { classes = k.classes; width = k.width; shift = k.shift; pairs = k.pairs; edges = k.edges; text = t; acts = a }) e (sym (append-nil k.acts)) }

pub lengthens_acts : (k : Known) (acts more : List Deed) → acts ≡ k.acts ++ more → Lengthens k (record { classes = k.classes; width = k.width; shift = k.shift; pairs = k.pairs; edges = k.edges; text = k.text; acts = acts })
lengthens_acts k acts more e = record { text = []; acts = more; longer = ap₂ (λ (t : List ℕ) (a : List Deed). record { classes = k.classes; width = k.width; shift = k.shift; pairs = k.pairs; edges = k.edges; text = t; acts = a }) (sym (append-nil k.text)) e }

-- an edge that settles what is the same settles
pub settles_same : (nodes : List MNode) (k : Known) (next : ℕ) (f g : ℕ → ActingState → ActingState) (e : Edge) → ((b : ℕ) (s : ActingState) → g b s ≡ f b s) → Settles nodes k next f e → Settles nodes k next g e
settles_same nodes k next f g e same h = record { goes = h.goes; room = h.room; acts = h.acts; alone = h.alone; does = λ known b s. same b s ∙ h.does known b s; opens = h.opens }

pub map_ok : {A E : Type 0} (P Q : A → Type 0) (r : Result A E) → ((a : A) → P a → Q a) → IfOk r P → IfOk r Q
map_ok P Q (Ok a) f h = f a h
map_ok P Q (Err e) f h = tt
