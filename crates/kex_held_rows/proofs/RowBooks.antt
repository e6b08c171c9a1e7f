-- Rows by number stay right where one is added, and where one is noted of.
use Rattle.std.proofs.Common.{◌≡◌, ℕ, zero, suc, ◌<◌, List, [], ◌∷◌, ◌++◌, Some, None, All, get_or, set, length, replicate, refl, sym, ap, subst, ◌∙◌, arith, ⊎_elim, append-nil, get_or-set_same, get_or-set_other}
use Rattle.std.specs.Prelude.{slice_get, IsTrue}
use Rattle.std.proofs.Math.ListN.{length-set, length-replicate, get_or-replicate}
use Rattle.std.proofs.lemmas.List.{map-append, length-map}
use Rattle.std.proofs.lemmas.List.Elements.{All-push, All-set}
use Rattle.std.proofs.lemmas.Option.{slice_get_within, slice_get-get_or, get_or_from_slice_get}
use Rattle.std.proofs.lemmas.Bool.{cases_lt}
use Rattle.kex_byteset.specs.Classes.{class_count}
use Rattle.kex_machine.specs.declared.MNode.{MNode}
use Rattle.kex_machine.specs.Nodes.{Graph}
use Rattle.kex_sst.specs.Tables.{Transducer}
use Rattle.kex_held.specs.declared.item.HeldItem.{HeldItem}
use Rattle.kex_held.specs.declared.item.HeldItem.TheVariants.{Slice}
use Rattle.kex_held.specs.Tracks.{HeldList}
use Rattle.kex_held.specs.HeldRows.{HeldRow}
use Rattle.kex_held.specs.LearntEdges.{IsRowWithin, IsLearnt}
use Rattle.kex_held_rows.specs.declared.note.RowNote.{RowNote}
use Rattle.kex_held_rows.specs.declared.note.RowNote.TheVariants.{Unknown, Plain, Stays, HandsOn, Marks, Goes}
use Rattle.kex_held_rows.specs.NumberedEdges.{NumberedEdge}
use Rattle.kex_held_rows.specs.Books.{RowNotes, RowBook, rows_in, IsNoteOf, IsNoteRight, IsEntryRight, IsBook, KeepsRows}

-- what is there stays where more comes after it
some_front : {A : Type 0} (xs ys : List A) (i : ℕ) (x : A) → slice_get xs i ≡ Some x → slice_get (xs ++ ys) i ≡ Some x
some_front [] ys i x e = let f : None ≡ Some x = e in cc
some_front (y ∷ xs) ys zero x e = e
some_front (y ∷ xs) ys (suc i) x e = some_front xs ys i x e

last_at : {A : Type 0} (xs : List A) (x : A) → slice_get (xs ++ x ∷ []) (length xs) ≡ Some x
last_at [] x = refl
last_at (y ∷ xs) x = last_at xs x

pub row_read : (xs : List RowNotes) (i : ℕ) (x : RowNotes) → slice_get xs i ≡ Some x → slice_get (rows_in xs) i ≡ Some x.row
row_read [] i x e = let f : None ≡ Some x = e in cc
row_read (y ∷ xs) zero x e = ap (λ (o : RowNotes). Some o.row) (some_same e)
  where
    some_same : Some y ≡ Some x → y ≡ x
    some_same f = cc
row_read (y ∷ xs) (suc i) x e = row_read xs i x e

note_wider : (t : Transducer) (nodes : List MNode) (rows more : List HeldRow) (r : HeldRow) (class : ℕ) (n : RowNote) → IsNoteRight t nodes rows r class n → IsNoteRight t nodes (rows ++ more) r class n
note_wider t nodes rows more r class Unknown p = tt
note_wider t nodes rows more r class Plain p = tt
note_wider t nodes rows more r class Stays p = p
note_wider t nodes rows more r class HandsOn p = p
note_wider t nodes rows more r class (Marks n) p = (p.0, some_front rows more n p.0 p.1, p.2)
note_wider t nodes rows more r class (Goes e) p = (p.0, some_front rows more e.to p.0 p.1, p.2, p.3)

entry_wider : (t : Transducer) (g : Graph) (rows more : List HeldRow) (x : RowNotes) → IsEntryRight t g rows x → IsEntryRight t g (rows ++ more) x
entry_wider t g rows more x p = record {
  row = p.row;
  count = p.count;
  notes = λ class d lt. note_wider t g.nodes rows more x.row class (get_or x.notes class d) (p.notes class d lt);
}

abbrev pub unlearnt : HeldRow → ℕ → RowNotes
unlearnt row count = record { row = row; notes = replicate count Unknown }

entry_new : (t : Transducer) (g : Graph) (rows : List HeldRow) (row : HeldRow) (count : ℕ) → IsRowWithin t g row → count ≡ class_count t.classes → IsEntryRight t g rows (unlearnt row count)
entry_new t g rows row count h e = record {
  row = h;
  count = length-replicate count Unknown ∙ e;
  notes = λ class d lt. subst (IsNoteRight t g.nodes rows row class) (sym (get_or-replicate count class Unknown d (omega (arith, lt, length-replicate count Unknown)))) tt;
}

-- a row is added
pub book_pushed : (t : Transducer) (g : Graph) (xs : List RowNotes) (row : HeldRow) (count : ℕ) → All (IsEntryRight t g (rows_in xs)) xs → IsRowWithin t g row → count ≡ class_count t.classes → All (IsEntryRight t g (rows_in (xs ++ unlearnt row count ∷ []))) (xs ++ unlearnt row count ∷ [])
book_pushed t g xs row count h within e =
    let x = unlearnt row count in
    let rows : rows_in (xs ++ x ∷ []) ≡ rows_in xs ++ row ∷ [] = map-append _ xs (x ∷ []) in
    subst (λ l. All (IsEntryRight t g l) (xs ++ x ∷ [])) (sym rows) (All-push (IsEntryRight t g (rows_in xs ++ row ∷ [])) xs x (λ i d lt. entry_wider t g (rows_in xs) (row ∷ []) (get_or xs i d) (h i d lt)) (entry_new t g (rows_in xs ++ row ∷ []) row count within e))

pub row_pushed : (xs : List RowNotes) (x : RowNotes) → slice_get (rows_in (xs ++ x ∷ [])) (length xs) ≡ Some x.row
row_pushed xs x = row_read (xs ++ x ∷ []) (length xs) x (last_at xs x)

-- notes that are changed leave the rows
pub rows_noted : (xs : List RowNotes) (i : ℕ) (x y : RowNotes) → slice_get xs i ≡ Some x → y.row ≡ x.row → rows_in (set xs i y) ≡ rows_in xs
rows_noted [] i x y e f = refl
rows_noted (z ∷ xs) zero x y e f = ap (λ r. r ∷ rows_in xs) (f ∙ sym (ap (λ (o : RowNotes). o.row) (some_same e)))
  where
    some_same : Some z ≡ Some x → z ≡ x
    some_same g = cc
rows_noted (z ∷ xs) (suc i) x y e f = ap (λ l. z.row ∷ l) (rows_noted xs i x y e f)

entry_noted : (t : Transducer) (g : Graph) (rows : List HeldRow) (x : RowNotes) (class : ℕ) (note : RowNote) → IsEntryRight t g rows x → class < length x.notes → IsNoteRight t g.nodes rows x.row class note → IsEntryRight t g rows (record { row = x.row; notes = set x.notes class note })
entry_noted t g rows x class note p lt right = record {
  row = p.row;
  count = length-set x.notes class note ∙ p.count;
  notes = λ k d l. ⊎_elim
      (λ less. other k d l (λ e. absurd (omega (arith, less, e))))
      (λ more. ⊎_elim (λ above. other k d l (λ e. absurd (omega (arith, above, e)))) (λ below. same k d (omega (arith, more, below))) (cases_lt class k))
      (cases_lt k class);
}
  where
    same : (k : ℕ) (d : RowNote) → k ≡ class → IsNoteRight t g.nodes rows x.row k (get_or (set x.notes class note) k d)
    same k d e = subst (λ k. IsNoteRight t g.nodes rows x.row k (get_or (set x.notes class note) k d)) (sym e) (subst (IsNoteRight t g.nodes rows x.row class) (sym (get_or-set_same x.notes class note d lt)) right)

    other : (k : ℕ) (d : RowNote) → k < length (set x.notes class note) → (k ≡ class → ⊥) → IsNoteRight t g.nodes rows x.row k (get_or (set x.notes class note) k d)
    other k d l ne = subst (IsNoteRight t g.nodes rows x.row k) (sym (get_or-set_other x.notes class k note d ne)) (p.notes k d (omega (arith, l, length-set x.notes class note)))

-- one is noted of
pub book_noted : (t : Transducer) (g : Graph) (xs : List RowNotes) (i class : ℕ) (note : RowNote) (x : RowNotes) → All (IsEntryRight t g (rows_in xs)) xs → slice_get xs i ≡ Some x → class < length x.notes → IsNoteRight t g.nodes (rows_in xs) x.row class note → All (IsEntryRight t g (rows_in (set xs i (record { row = x.row; notes = set x.notes class note })))) (set xs i (record { row = x.row; notes = set x.notes class note }))
book_noted t g xs i class note x h at lt right =
    let y : RowNotes = record { row = x.row; notes = set x.notes class note } in
    let one : IsEntryRight t g (rows_in xs) x = subst (IsEntryRight t g (rows_in xs)) (get_or_from_slice_get xs i x x at) (h i x (slice_get_within xs i x at)) in
    subst (λ l. All (IsEntryRight t g l) (set xs i y)) (sym (rows_noted xs i x y at refl)) (All-set (IsEntryRight t g (rows_in xs)) xs i y (entry_noted t g (rows_in xs) x class note one lt right) h)

pub keeps_same : (b : RowBook) → KeepsRows b b
keeps_same b = record { table = refl; machine = refl; more = []; rows = sym (append-nil (rows_in b.rows)) }

pub keeps_pushed : (b : RowBook) (x : RowNotes) → KeepsRows b (record { table = b.table; machine = b.machine; rows = b.rows ++ x ∷ [] })
keeps_pushed b x = record { table = refl; machine = refl; more = x.row ∷ []; rows = map-append _ b.rows (x ∷ []) }

-- a row keeps its number
pub kept_at : (old new : RowBook) (i : ℕ) (r : HeldRow) → KeepsRows old new → slice_get (rows_in old.rows) i ≡ Some r → slice_get (rows_in new.rows) i ≡ Some r
kept_at old new i r k e = subst (λ l. slice_get l i ≡ Some r) (sym k.rows) (some_front (rows_in old.rows) k.more i r e)

-- what has the same parts is the same
pub same_list : (x y : HeldList) → x.from ≡ y.from → x.to ≡ y.to → x.items ≡ y.items → x ≡ y
same_list x y p q s =
    let f : ℕ → HeldList = λ a. record { from = a; to = x.to; items = x.items } in
    let g : ℕ → HeldList = λ b. record { from = y.from; to = b; items = x.items } in
    let h : List HeldItem → HeldList = λ l. record { from = y.from; to = y.to; items = l } in
    ap f p ∙ ap g q ∙ ap h s

pub same_row : (x y : HeldRow) → x.state ≡ y.state → x.node ≡ y.node → x.marks ≡ y.marks → x.lists ≡ y.lists → x ≡ y
same_row x y p q m s =
    let f : ℕ → HeldRow = λ a. record { state = a; node = x.node; marks = x.marks; lists = x.lists } in
    let g : ℕ → HeldRow = λ b. record { state = y.state; node = b; marks = x.marks; lists = x.lists } in
    let k : ℕ → HeldRow = λ n. record { state = y.state; node = y.node; marks = n; lists = x.lists } in
    let h : List HeldList → HeldRow = λ l. record { state = y.state; node = y.node; marks = y.marks; lists = l } in
    ap f p ∙ ap g q ∙ ap k m ∙ ap h s

pub record IsLearntBook (old : RowBook) (t : Transducer) (g : Graph) (new : List RowNotes) : Type 0 where
  pub book : IsBook (record { table = t; machine = g; rows = new })
  pub keeps : KeepsRows old (record { table = t; machine = g; rows = new })

-- a right note is put
pub book_learnt : (old mid : RowBook) (number class : ℕ) (note : RowNote) (new : List RowNotes) → IsBook mid → KeepsRows old mid → number < length old.rows → class < class_count old.table.classes → ((r : HeldRow) → slice_get (rows_in old.rows) number ≡ Some r → IsNoteRight old.table old.machine.nodes (rows_in mid.rows) r class note) → ((x : RowNotes) → slice_get mid.rows number ≡ Some x → new ≡ set mid.rows number (record { row = x.row; notes = set x.notes class note })) → IsLearntBook old mid.table mid.machine new
book_learnt old mid number class note new h keeps lt lt' right put =
    let d : HeldRow = record { state = 0; node = 0; marks = 0; lists = [] } in
    let e : RowNotes = record { row = d; notes = [] } in
    let r = get_or (rows_in old.rows) number d in
    let long : length (rows_in old.rows) ≡ length old.rows = length-map old.rows _ in
    let was : slice_get (rows_in old.rows) number ≡ Some r = slice_get-get_or (rows_in old.rows) number d (omega (arith, lt, long)) in
    let at : slice_get (rows_in mid.rows) number ≡ Some r = kept_at old mid number r keeps was in
    let long' : length (rows_in mid.rows) ≡ length mid.rows = length-map mid.rows _ in
    let within : number < length mid.rows = omega (arith, slice_get_within (rows_in mid.rows) number r at, long') in
    let x = get_or mid.rows number e in
    let here : slice_get mid.rows number ≡ Some x = slice_get-get_or mid.rows number e within in
    let same : r ≡ x.row = one_value (sym at ∙ row_read mid.rows number x here) in
    let entry : IsEntryRight mid.table mid.machine (rows_in mid.rows) x = h number e within in
    let fits : class < length x.notes = omega (arith, lt', entry.count, ap (λ (t : Transducer). class_count t.classes) keeps.table) in
    let said : IsNoteRight mid.table mid.machine.nodes (rows_in mid.rows) x.row class note = subst (λ q. IsNoteRight mid.table mid.machine.nodes (rows_in mid.rows) q class note) same (subst (λ (g : Graph). IsNoteRight mid.table g.nodes (rows_in mid.rows) r class note) (sym keeps.machine) (subst (λ (t : Transducer). IsNoteRight t old.machine.nodes (rows_in mid.rows) r class note) (sym keeps.table) (right r was))) in
    let y : RowNotes = record { row = x.row; notes = set x.notes class note } in
    let is : new ≡ set mid.rows number y = put x here in
    record {
      book = subst (λ l. All (IsEntryRight mid.table mid.machine (rows_in l)) l) (sym is) (book_noted mid.table mid.machine mid.rows number class note x h here fits said);
      keeps = record { table = keeps.table; machine = keeps.machine; more = keeps.more; rows = ap rows_in is ∙ rows_noted mid.rows number x y here refl ∙ keeps.rows };
    }
  where
    one_value : {a b : HeldRow} → Some a ≡ Some b → a ≡ b
    one_value f = cc

pub none_left : {A : Type 0} (xs : List A) → length xs ≡ 0 → xs ≡ []
none_left [] e = refl
none_left (x ∷ xs) e = absurd (omega arith)

-- an edge that leads back, by what it has for the output
back_with : (t : Transducer) (nodes : List MNode) (rows : List HeldRow) (r to : HeldRow) (class number : ℕ) (e : NumberedEdge) (outs : List HeldItem) → IsLearnt t nodes r class (record { to = to; outs = e.outs; keep = e.keep }) → slice_get rows number ≡ Some r → slice_get rows e.to ≡ Some to → e.to ≡ number → e.outs ≡ outs → IsLearnt t nodes r class (record { to = r; outs = outs; keep = e.keep })
back_with t nodes rows r to class number e outs learnt here there is same =
    subst (λ o. IsLearnt t nodes r class (record { to = r; outs = o; keep = e.keep })) same (subst (λ q. IsLearnt t nodes r class (record { to = q; outs = e.outs; keep = e.keep })) (one_value (sym there ∙ ap (slice_get rows) is ∙ here)) learnt)
  where
    one_value : {a b : HeldRow} → Some a ≡ Some b → a ≡ b
    one_value f = cc

-- what is noted of an edge that is learnt, from a row to another
pub right_note : (t : Transducer) (nodes : List MNode) (rows : List HeldRow) (r to : HeldRow) (class number : ℕ) (e : NumberedEdge) (n : RowNote) → IsLearnt t nodes r class (record { to = to; outs = e.outs; keep = e.keep }) → slice_get rows number ≡ Some r → slice_get rows e.to ≡ Some to → (IsTrue e.bare → to.lists ≡ []) → IsNoteOf number r.marks e n → IsNoteRight t nodes rows r class n
right_note t nodes rows r to class number e Unknown learnt here there bare said = absurd said
right_note t nodes rows r to class number e Plain learnt here there bare said = absurd said
right_note t nodes rows r to class number e Stays learnt here there bare said = (e.keep, said.2, back_with t nodes rows r to class number e [] learnt here there said.0 said.1)
right_note t nodes rows r to class number e HandsOn learnt here there bare said = (said.1, subst (λ k. IsLearnt t nodes r class (record { to = r; outs = Slice 0 1 ∷ []; keep = k })) said.3 (back_with t nodes rows r to class number e (Slice 0 1 ∷ []) learnt here there said.0 said.2))
right_note t nodes rows r to class number e (Marks n) learnt here there bare said = (to, ap (slice_get rows) said.0 ∙ there, (e.keep, said.2, said.3, subst (λ o. IsLearnt t nodes r class (record { to = to; outs = o; keep = e.keep })) said.1 learnt))
right_note t nodes rows r to class number e (Goes d) learnt here there bare said = subst (λ x. IsNoteRight t nodes rows r class (Goes x)) (sym said) (to, there, learnt, bare)
