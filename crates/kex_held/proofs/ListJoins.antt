-- Shorter lists that make the same: slices that touch are one, and a buffer of bytes that is dropped is left out.
use Rattle.std.proofs.Common.{◌≡◌, ◌≤◌, ◌<◌, ◌+◌, ℕ, List, [], ◌∷◌, ◌++◌, take, drop, get_or, length, refl, sym, ap, subst, ◌∙◌, arith, append_assoc, append-nil, take-append-drop}
use Rattle.std.proofs.lemmas.List.{map-append, drop_more}
use Rattle.kex_code.specs.Registers.{Registers}
use Rattle.kex_model.specs.Acting.{ActingState}
use Rattle.kex_machine.specs.declared.MNode.{MNode}
use Rattle.kex_action.specs.Holdings.{with_bytes}
use Rattle.kex_action.specs.Sheets.{with_buffer}
use Rattle.kex_held.specs.declared.item.HeldItem.{HeldItem}
use Rattle.kex_held.specs.declared.item.HeldItem.TheVariants.{Slice}
use Rattle.kex_held.specs.declared.list.ItemTurn.TheVariants.{Writes, Opens, Drops}
use Rattle.kex_held.specs.Acts.{Act, bytes, after_act, after_acts, MakeSame}
use Rattle.kex_held.specs.Slices.{slice_between, act_over, acts_over, AreItemsWithin, ListGoesOn}
use Rattle.kex_held.specs.Sealed.{DoesTurn, AreWriting, OpensAt}
use Rattle.kex_held.proofs.ActLists.{acted-append}
use Rattle.kex_held.proofs.WindowSlices.{between_joined}

adds_twice : (xs ys out : List ℕ) (bs : List (List ℕ)) (regs : Registers) → let s : ActingState = record { out = out; buffers = bs; registers = regs } in with_bytes (xs ++ ys) s ≡ with_bytes ys (with_bytes xs s)
adds_twice xs ys out [] regs = ap (λ (l : List ℕ). record { out = l; buffers = []; registers = regs }) (sym (append_assoc out xs ys))
adds_twice xs ys out (b ∷ bs) regs = ap (λ (l : List ℕ). record { out = out; buffers = l ∷ bs; registers = regs }) (sym (append_assoc b xs ys))

-- the same after and before others
pub same_within : (nodes : List MNode) (us xs ys vs : List Act) → MakeSame nodes xs ys → MakeSame nodes (us ++ (xs ++ vs)) (us ++ (ys ++ vs))
same_within nodes us xs ys vs p s =
    acted-append nodes us (xs ++ vs) s ∙ acted-append nodes xs vs (after_acts nodes us s)
    ∙ ap (after_acts nodes vs) (p (after_acts nodes us s))
    ∙ sym (acted-append nodes us (ys ++ vs) s ∙ acted-append nodes ys vs (after_acts nodes us s))

same_behind : (nodes : List MNode) (xs ys vs : List Act) → MakeSame nodes xs ys → MakeSame nodes (xs ++ vs) (ys ++ vs)
same_behind nodes xs ys vs p s = acted-append nodes xs vs s ∙ ap (after_acts nodes vs) (p s) ∙ sym (acted-append nodes ys vs s)

-- two slices that touch are one
pub slices_joined : (nodes : List MNode) (w : List ℕ) (a m b : ℕ) → a ≤ m → m ≤ b → MakeSame nodes (bytes (slice_between w a m) ∷ bytes (slice_between w m b) ∷ []) (bytes (slice_between w a b) ∷ [])
slices_joined nodes w a m b le le' s = sym (adds_twice (slice_between w a m) (slice_between w m b) s.out s.buffers s.registers) ∙ ap (λ l. with_bytes l s) (between_joined w a m b le le')

acts_over-append : (w points : List ℕ) (xs ys : List HeldItem) → acts_over w points (xs ++ ys) ≡ acts_over w points xs ++ acts_over w points ys
acts_over-append w points xs ys = map-append _ xs ys

pub within_append : (count : ℕ) (xs ys : List HeldItem) → AreItemsWithin count xs → AreItemsWithin count ys → AreItemsWithin count (xs ++ ys)
within_append count [] ys p q = q
within_append count (x ∷ xs) ys p q = (p.0, within_append count xs ys p.1 q)

pub within_front : (count : ℕ) (xs ys : List HeldItem) → AreItemsWithin count (xs ++ ys) → AreItemsWithin count xs
within_front count [] ys p = tt
within_front count (x ∷ xs) ys p = (p.0, within_front count xs ys p.1)

pub within_rest : (count : ℕ) (xs ys : List HeldItem) → AreItemsWithin count (xs ++ ys) → AreItemsWithin count ys
within_rest count [] ys p = p
within_rest count (x ∷ xs) ys p = within_rest count xs ys p.1

-- nothing more is put
pub list_none : (nodes : List MNode) (xs : List HeldItem) → ListGoesOn nodes xs [] xs
list_none nodes xs = record {
  within = λ count h. subst (AreItemsWithin count) (append-nil xs) h;
  same = λ count h w points rise long. subst (λ l. MakeSame nodes (acts_over w points l) (acts_over w points xs)) (sym (append-nil xs)) (λ s. refl);
}

-- more is put as it is
pub list_put : (nodes : List MNode) (xs more : List HeldItem) → ListGoesOn nodes xs more (xs ++ more)
list_put nodes xs more = record { within = λ count h. h; same = λ count h w points rise long s. refl }

-- some is put, and then more
pub list_more : (nodes : List MNode) (old xs mid ys new : List HeldItem) → ListGoesOn nodes old xs mid → ListGoesOn nodes mid ys new → ListGoesOn nodes old (xs ++ ys) new
list_more nodes old xs mid ys new p q = record {
  within = λ count h. q.within count (middle count h);
  same = λ count h w points rise long s.
      ap (λ l. after_acts nodes (acts_over w points l) s) (sym (append_assoc old xs ys))
      ∙ ap (λ l. after_acts nodes l s) (acts_over-append w points (old ++ xs) ys)
      ∙ same_behind nodes (acts_over w points (old ++ xs)) (acts_over w points mid) (acts_over w points ys) (p.same count (front count h) w points rise long) s
      ∙ sym (ap (λ l. after_acts nodes l s) (acts_over-append w points mid ys))
      ∙ q.same count (middle count h) w points rise long s;
}
  where
    grouped : (count : ℕ) → AreItemsWithin count (old ++ (xs ++ ys)) → AreItemsWithin count ((old ++ xs) ++ ys)
    grouped count h = subst (AreItemsWithin count) (sym (append_assoc old xs ys)) h

    front : (count : ℕ) → AreItemsWithin count (old ++ (xs ++ ys)) → AreItemsWithin count (old ++ xs)
    front count h = within_front count (old ++ xs) ys (grouped count h)

    middle : (count : ℕ) → AreItemsWithin count (old ++ (xs ++ ys)) → AreItemsWithin count (mid ++ ys)
    middle count h = within_append count mid ys (p.within count (front count h)) (within_rest count (old ++ xs) ys (grouped count h))

-- a slice is joined to the last
pub list_joined : (nodes : List MNode) (front : List HeldItem) (a m b : ℕ) → ListGoesOn nodes (front ++ Slice a m ∷ []) (Slice m b ∷ []) (front ++ Slice a b ∷ [])
list_joined nodes front a m b = record {
  within = λ count h. let both = within_rest count front (Slice a m ∷ Slice m b ∷ []) (grouped count h) in within_append count front (Slice a b ∷ []) (within_front count front (Slice a m ∷ Slice m b ∷ []) (grouped count h)) ((omega (arith, both.0.0, both.1.0.0), both.1.0.1), tt);
  same = λ count h w points rise long s.
      let both = within_rest count front (Slice a m ∷ Slice m b ∷ []) (grouped count h) in
      let at : ℕ → ℕ = λ i. get_or points i 0 in
      ap (λ l. after_acts nodes (acts_over w points l) s) (append_assoc front (Slice a m ∷ []) (Slice m b ∷ []))
      ∙ ap (λ l. after_acts nodes l s) (acts_over-append w points front (Slice a m ∷ Slice m b ∷ []))
      ∙ same_within nodes (acts_over w points front) (act_over w points (Slice a m) ∷ act_over w points (Slice m b) ∷ []) (act_over w points (Slice a b) ∷ []) [] (slices_joined nodes w (at a) (at m) (at b) (rise.rise a m both.0.0 (subst (λ n. m < n) (sym long) both.0.1)) (rise.rise m b both.1.0.0 (subst (λ n. b < n) (sym long) both.1.0.1))) s
      ∙ sym (ap (λ l. after_acts nodes l s) (acts_over-append w points front (Slice a b ∷ [])));
}
  where
    grouped : (count : ℕ) → AreItemsWithin count ((front ++ Slice a m ∷ []) ++ Slice m b ∷ []) → AreItemsWithin count (front ++ Slice a m ∷ Slice m b ∷ [])
    grouped count h = subst (AreItemsWithin count) (append_assoc front (Slice a m ∷ []) (Slice m b ∷ [])) h

-- items that only write fill a buffer
filled : (nodes : List MNode) (w points : List ℕ) (items : List HeldItem) → AreWriting nodes items → (top : List ℕ) (s : ActingState) → (more : List ℕ) × (after_acts nodes (acts_over w points items) (with_buffer top s) ≡ with_buffer more s)
filled nodes w points [] h top s = (top, refl)
filled nodes w points (x ∷ xs) h top s =
    let one = h.0 w points (with_buffer top s) in
    let rest = filled nodes w points xs h.1 (top ++ one.0) s in
    (rest.0, ap (after_acts nodes (acts_over w points xs)) one.1 ∙ rest.1)

-- a buffer into which they write is opened and dropped
left_out : (nodes : List MNode) (w points : List ℕ) (x z : HeldItem) (items : List HeldItem) → DoesTurn nodes x Opens → AreWriting nodes items → DoesTurn nodes z Drops → MakeSame nodes (act_over w points x ∷ (acts_over w points items ++ act_over w points z ∷ [])) []
left_out nodes w points x z items opens writes drops s =
    let all = filled nodes w points items writes [] s in
    ap (after_acts nodes (acts_over w points items ++ act_over w points z ∷ [])) (opens w points s)
    ∙ acted-append nodes (acts_over w points items) (act_over w points z ∷ []) (with_buffer [] s)
    ∙ ap (after_act nodes (act_over w points z)) all.1
    ∙ drops w points all.0 s

pub list_dropped : (nodes : List MNode) (items : List HeldItem) (at : ℕ) (d z : HeldItem) → OpensAt nodes items at d → DoesTurn nodes z Drops → ListGoesOn nodes items (z ∷ []) (take at items)
list_dropped nodes items at d z o drops = record {
  within = λ count h. within_front count (take at items) (drop at items) (subst (AreItemsWithin count) (sym (take-append-drop at items)) (within_front count items (z ∷ []) h));
  same = λ count h w points rise long s.
      let x = get_or items at d in
      let ys = drop (at + 1) items in
      let over : List HeldItem → List Act = λ l. acts_over w points l in
      let split : items ≡ take at items ++ (x ∷ ys) = sym (take-append-drop at items) ∙ ap (λ l. take at items ++ l) (drop_more items at d o.within) in
      ap (λ l. after_acts nodes (over (l ++ z ∷ [])) s) split
      ∙ ap (λ l. after_acts nodes l s) (ap over (append_assoc (take at items) (x ∷ ys) (z ∷ [])) ∙ acts_over-append w points (take at items) (x ∷ (ys ++ z ∷ [])) ∙ ap (λ l. over (take at items) ++ (act_over w points x ∷ l)) (acts_over-append w points ys (z ∷ [])))
      ∙ acted-append nodes (over (take at items)) (act_over w points x ∷ (over ys ++ act_over w points z ∷ [])) s
      ∙ left_out nodes w points x z ys o.opens o.writes drops (after_acts nodes (over (take at items)) s);
}

-- one item more that writes, before those after it
pub writing_more : (nodes : List MNode) (items : List HeldItem) (at : ℕ) (d : HeldItem) → at < length items → DoesTurn nodes (get_or items at d) Writes → AreWriting nodes (drop (at + 1) items) → AreWriting nodes (drop at items)
writing_more nodes items at d lt one rest = subst (AreWriting nodes) (sym (drop_more items at d lt)) (one, rest)
