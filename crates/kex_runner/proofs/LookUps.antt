-- Looking up backwards: what is unread, and what was read, spell the whole.
use Rattle.std.proofs.Common.{◌≡◌, ℕ, zero, suc, ◌+◌, ◌<◌, ◌≤◌, List, [], ◌∷◌, ◌++◌, Option, Some, None, length, map, get_or, take, refl, sym, ap, ap₂, subst, ◌∙◌, append_assoc, append-nil, length-append, arith}
use Rattle.std.proofs.lemmas.Option.{get_or_from_slice_get}
use Rattle.std.proofs.Math.ListN.{get_or-map}
use Rattle.kex_code.specs.declared.symbol.Symbol.{Symbol}
use Rattle.kex_sst.specs.declared.parts.Part.{Part}
use Rattle.kex_sst.specs.Parts.{value, parts_code}
use Rattle.kex_script.specs.declared.piece.ByteWord.{ByteWord}
use Rattle.kex_script.specs.declared.script.Tail.{Tail}
use Rattle.kex_script.specs.Scripts.{Sheet, list_at, if_old, IsTail, IsWord}
use Rattle.kex_runner.specs.declared.history.reading.Reading.{Reading}
use Rattle.kex_runner.specs.declared.history.reading.Unread.{Unread}
use Rattle.kex_runner.specs.Noting.{ByteUpdate, next_registers, registers_after, spelled_back}
use Rattle.kex_runner.specs.Looking.{unread_code, codes_of, AreNoted, if_some, unless_empty, part_work, register_work, list_work, weight_of, old_text, old_weight, HasAskedNext, HasReadList}
use Rattle.kex_runner.proofs.Notes.{meant_fresh}

pub parts_code-append : (regs : List (List Symbol)) (b : ℕ) (xs ys : List Part) → parts_code regs b (xs ++ ys) ≡ parts_code regs b xs ++ parts_code regs b ys
parts_code-append regs b [] ys = refl
parts_code-append regs b (x ∷ xs) ys = ap (λ z. value regs b x ++ z) (parts_code-append regs b xs ys) ∙ sym (append_assoc (value regs b x) (parts_code regs b xs) (parts_code regs b ys))

part_work-append : (ws : List ℕ) (xs ys : List Part) → part_work ws (xs ++ ys) ≡ part_work ws xs + part_work ws ys
part_work-append ws [] ys = omega arith
part_work-append ws (x ∷ xs) ys = omega (arith, part_work-append ws xs ys)

work_each : (ws : List ℕ) (xs : List Part) → length xs ≤ part_work ws xs
work_each ws [] = omega arith
work_each ws (x ∷ xs) = omega (arith, work_each ws xs)

-- one more note
pub registers_more : (base : List (List Symbol)) (notes : List ByteUpdate) (k : ℕ) (d : ByteUpdate) → k < length notes → registers_after base (take (suc k) notes) ≡ next_registers (get_or notes k d).update (get_or notes k d).byte (registers_after base (take k notes))
registers_more base [] k d lt = absurd (omega arith)
registers_more base (n ∷ ns) zero d lt = refl
registers_more base (n ∷ ns) (suc k) d lt = registers_more (next_registers n.update n.byte base) ns k d (omega arith)

work_more : (ws : List ℕ) (notes : List ByteUpdate) (k : ℕ) (d : ByteUpdate) → k < length notes → register_work ws (take (suc k) notes) ≡ map (λ xs. part_work (register_work ws (take k notes)) xs) (get_or notes k d).update.regs
work_more ws [] k d lt = absurd (omega arith)
work_more ws (n ∷ ns) zero d lt = refl
work_more ws (n ∷ ns) (suc k) d lt = work_more (map (λ xs. part_work ws xs) n.update.regs) ns k d (omega arith)

-- what an old register holds, and how much is read for it
old_means : (regs : List (List Symbol)) (b : ℕ) (o : Option ℕ) → parts_code regs b (if_old o) ≡ old_text regs o
old_means regs b None = refl
old_means regs b (Some i) = append-nil (get_or regs i [])

lighter : (ws : List ℕ) (o : Option ℕ) (parts : List Part) → 0 < length (if_old o ++ parts) → old_weight ws o < (part_work ws (if_old o) + part_work ws parts) + (part_work ws (if_old o) + part_work ws parts)
lighter ws None parts some = omega (arith, some, work_each ws parts)
lighter ws (Some i) parts some = omega arith

module _ (s : Sheet) (base : List (List Symbol)) (notes : List ByteUpdate) where
  codes_of-append : (us vs : List Unread) → codes_of s base notes (us ++ vs) ≡ codes_of s base notes us ++ codes_of s base notes vs
  codes_of-append [] vs = refl
  codes_of-append (u ∷ us) vs = ap (λ z. unread_code s base notes u ++ z) (codes_of-append us vs) ∙ sym (append_assoc (unread_code s base notes u) (codes_of s base notes us) (codes_of s base notes vs))

  weight_of-append : (us vs : List Unread) → weight_of s notes (us ++ vs) ≡ weight_of s notes us + weight_of s notes vs
  weight_of-append [] vs = omega arith
  weight_of-append (u ∷ us) vs = omega (arith, weight_of-append us vs)

  noted-append : (n : ℕ) (us vs : List Unread) → AreNoted n us → AreNoted n vs → AreNoted n (us ++ vs)
  noted-append n [] vs h k = k
  noted-append n (u ∷ us) vs h k = (h.0, noted-append n us vs h.1 k)

  pub noted_left : (n : ℕ) (us vs : List Unread) → AreNoted n (us ++ vs) → AreNoted n us
  noted_left n [] vs h = tt
  noted_left n (u ∷ us) vs h = (h.0, noted_left n us vs h.1)

  pub noted_right : (n : ℕ) (us vs : List Unread) → AreNoted n (us ++ vs) → AreNoted n vs
  noted_right n [] vs h = h
  noted_right n (u ∷ us) vs h = noted_right n us vs h.1

  -- a list that is put on the stack, unless it is the empty one
  kept_code : list_at s 0 ≡ [] → (u : Unread) (k : ℕ) → u.list ≡ k → codes_of s base notes (unless_empty k u) ≡ unread_code s base notes u
  kept_code none u zero e = sym (ap (λ z. parts_code (registers_after base (take u.after notes)) u.byte (list_at s z)) e ∙ ap (λ z. parts_code (registers_after base (take u.after notes)) u.byte z) none)
  kept_code none u (suc k) e = append-nil (unread_code s base notes u)

  kept_weight : (u : Unread) (k : ℕ) → weight_of s notes (unless_empty k u) ≤ suc (list_work s notes u + list_work s notes u)
  kept_weight u zero = omega arith
  kept_weight u (suc k) = omega arith

  kept_noted : (n : ℕ) (u : Unread) (k : ℕ) → u.after ≤ n → AreNoted n (unless_empty k u)
  kept_noted n u zero le = tt
  kept_noted n u (suc k) le = (le, tt)

  -- a register where the notes begin
  pub asked_settled : (old new : Reading) (after i : ℕ) → after ≡ 0 → new.pending.items ≡ old.pending.items → spelled_back s.words new.back.items ≡ get_or base i [] ++ spelled_back s.words old.back.items → (most : ℕ) → HasAskedNext s base notes old new None (get_or (registers_after base (take after notes)) i []) most
  asked_settled old new after i e f h most = record {
    text = h ∙ ap (λ z. get_or (registers_after base (take z notes)) i [] ++ spelled_back s.words old.back.items) (sym e);
    pending = f;
    noted = tt;
    weight = omega arith;
  }

  -- a register after a note is the list that the note gives it
  pub asked_before : (old : Reading) (after k i : ℕ) (d n : ByteUpdate) (u : Unread) → after ≡ suc k → after ≤ length notes → n ≡ get_or notes k d → u.after ≡ k → u.byte ≡ n.byte → list_at s u.list ≡ get_or n.update.regs i [] → HasAskedNext s base notes old old (Some u) (get_or (registers_after base (take after notes)) i []) (suc (get_or (register_work [] (take after notes)) i 0 + get_or (register_work [] (take after notes)) i 0))
  asked_before old after k i d n u e le at here byte is =
      let regs : List (List Symbol) = registers_after base (take k notes) in
      let ws : List ℕ = register_work [] (take k notes) in
      let said : get_or (registers_after base (take after notes)) i [] ≡ unread_code s base notes u =
      ap (λ z. get_or (registers_after base (take z notes)) i []) e ∙ ap (λ z. get_or z i []) (registers_more base notes k d (omega arith)) ∙ ap (λ z. get_or (next_registers z.update z.byte regs) i []) (sym at) ∙ get_or-map (λ xs. parts_code regs n.byte xs) n.update.regs i [] ∙ ap (λ z. parts_code regs n.byte z) (sym is) ∙ ap₂ (λ y z. parts_code (registers_after base (take y notes)) z (list_at s u.list)) (sym here) (sym byte) in
      let work : get_or (register_work [] (take after notes)) i 0 ≡ list_work s notes u =
      ap (λ z. get_or (register_work [] (take z notes)) i 0) e ∙ ap (λ z. get_or z i 0) (work_more [] notes k d (omega arith)) ∙ ap (λ z. get_or (map (λ xs. part_work ws xs) z.update.regs) i 0) (sym at) ∙ get_or-map (λ xs. part_work ws xs) n.update.regs i [] ∙ ap (λ z. part_work ws z) (sym is) ∙ ap (λ z. part_work (register_work [] (take z notes)) (list_at s u.list)) (sym here) in
      record {
        text = ap (λ z. z ++ spelled_back s.words old.back.items) (append-nil (unread_code s base notes u) ∙ sym said);
        pending = refl;
        noted = (omega (arith, here, le, e), tt);
        weight = omega (arith, work);
      }

  -- the end of the list on top is read, and the rest of it kept
  pub read_on : (u : Unread) (x : Tail) (mid new : Reading) (pending : List Unread) (old : List ByteWord) (next : Option Unread) → list_at s 0 ≡ [] → IsTail s.words s.lists x (list_at s u.list) → u.after ≤ length notes
      → ((words : List (List Part)) (w : List Part) → IsWord words x.word w → spelled_back words mid.back.items ≡ parts_code [] u.byte w ++ spelled_back words old)
      → mid.pending.items ≡ pending ++ unless_empty x.before (record { list = x.before; after = u.after; byte = u.byte })
      → HasAskedNext s base notes mid new next (old_text (registers_after base (take u.after notes)) x.old) (old_weight (register_work [] (take u.after notes)) x.old)
      → HasReadList s base notes (pending ++ u ∷ []) (new.pending.items ++ if_some next) old new.back.items
  read_on u x mid new pending old next none t le said kept h =
      let r : Unread = record { list = x.before; after = u.after; byte = u.byte } in
      let regs : List (List Symbol) = registers_after base (take u.after notes) in
      let ws : List ℕ = register_work [] (take u.after notes) in
      let rest : List Unread = unless_empty x.before r in
      let front : list_at s x.before ≡ t.front = get_or_from_slice_get s.lists x.before t.front [] t.before in
      let word : List Symbol = parts_code [] u.byte t.parts in
      let back : List Symbol = spelled_back s.words old in
      let whole : unread_code s base notes u ≡ unread_code s base notes r ++ (old_text regs x.old ++ word) =
      ap (λ z. parts_code regs u.byte z) t.joined ∙ parts_code-append regs u.byte t.front (if_old x.old ++ t.parts)
      ∙ ap₂ (λ y z. parts_code regs u.byte y ++ z) (sym front) (parts_code-append regs u.byte (if_old x.old) t.parts ∙ ap₂ (λ y z. y ++ z) (old_means regs u.byte x.old) (meant_fresh regs [] u.byte t.parts t.plain)) in
      let after : new.pending.items ≡ pending ++ rest = h.pending ∙ kept in
      let work = ap (λ z. part_work ws z) t.joined ∙ part_work-append ws t.front (if_old x.old ++ t.parts) in
      let work' = part_work-append ws (if_old x.old) t.parts in
      let before = ap (λ z. part_work ws z) front in
      let longer = ap length t.joined in
      let long = length-append t.front (if_old x.old ++ t.parts) in
      let light = lighter ws x.old t.parts (omega (arith, t.shorter, longer, long)) in
      let stack = ap (λ z. weight_of s notes (z ++ if_some next)) after in
      record {
        text =
            ap (λ z. z ++ spelled_back s.words new.back.items) (ap (λ z. codes_of s base notes (z ++ if_some next)) after ∙ codes_of-append (pending ++ rest) (if_some next))
            ∙ append_assoc (codes_of s base notes (pending ++ rest)) (codes_of s base notes (if_some next)) (spelled_back s.words new.back.items)
            ∙ ap₂ (λ y z. y ++ z) (codes_of-append pending rest ∙ ap (λ z. codes_of s base notes pending ++ z) (kept_code none r x.before refl)) (h.text ∙ ap (λ z. old_text regs x.old ++ z) (said s.words t.parts t.word) ∙ sym (append_assoc (old_text regs x.old) word back))
            ∙ append_assoc (codes_of s base notes pending) (unread_code s base notes r) ((old_text regs x.old ++ word) ++ back)
            ∙ ap (λ z. codes_of s base notes pending ++ z) (sym (append_assoc (unread_code s base notes r) (old_text regs x.old ++ word) back) ∙ ap (λ z. z ++ back) (sym whole))
            ∙ sym (append_assoc (codes_of s base notes pending) (unread_code s base notes u) back)
            ∙ ap (λ z. z ++ back) (ap (λ z. codes_of s base notes pending ++ z) (sym (append-nil (unread_code s base notes u))) ∙ sym (codes_of-append pending (u ∷ [])));
        noted = λ k. subst (λ z. AreNoted (length notes) (z ++ if_some next)) (sym after) (noted-append (length notes) (pending ++ rest) (if_some next) (noted-append (length notes) pending rest (noted_left (length notes) pending (u ∷ []) k) (kept_noted (length notes) r x.before le)) h.noted);
        weight = omega (arith, stack, weight_of-append (pending ++ rest) (if_some next), weight_of-append pending rest, weight_of-append pending (u ∷ []), kept_weight r x.before, h.weight, light, work, work', before);
      }

  -- the list on top is empty, and goes
  pub read_empty : (u : Unread) (pending after : List Unread) (back : List ByteWord) → list_at s u.list ≡ [] → after ≡ pending ++ [] → HasReadList s base notes (pending ++ u ∷ []) after back back
  read_empty u pending after back none e =
      let same : after ≡ pending = e ∙ append-nil pending in
      let nothing : unread_code s base notes u ≡ [] = ap (λ z. parts_code (registers_after base (take u.after notes)) u.byte z) none in
      record {
        text = ap (λ z. z ++ spelled_back s.words back) (ap (λ z. codes_of s base notes z) same ∙ sym (append-nil (codes_of s base notes pending)) ∙ ap (λ z. codes_of s base notes pending ++ z) (sym (append-nil (unread_code s base notes u) ∙ nothing)) ∙ sym (codes_of-append pending (u ∷ [])));
        noted = λ k. subst (λ z. AreNoted (length notes) z) (sym same) (noted_left (length notes) pending (u ∷ []) k);
        weight = let f = ap (λ z. weight_of s notes z) same in omega (arith, f, weight_of-append pending (u ∷ []));
      }
