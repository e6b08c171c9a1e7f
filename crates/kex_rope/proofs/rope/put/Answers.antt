use Rattle.std.proofs.Common.{◌≡◌, ◌-◌, ◌<◌, ◌≤◌, [], ◌∷◌, ◌++◌, ℕ, zero, suc, List, ⊎_elim, subst, true, false, Ok, Err, length, get_or, set, ap, ◌∙◌, refl, sym, append-nil, arith, length-append}
use Rattle.std.proofs.lemmas.List.{set-get_or}
use Rattle.std.specs.Prelude.{Result, OnErr, ◌⊎◌}
use Rattle.std.specs.Global.{Vec}
use Rattle.kex_code.specs.declared.symbol.Symbol.{Symbol}
use Rattle.kex_code.specs.declared.memory.Memory.{Memory}
use Rattle.kex_rope.specs.Blocks.{symbols_in, AreFilled, AreBlocks}
use Rattle.kex_rope.proofs.Blocks.{joined-set_last, joined-push, block_within, filled_blocks, filled-append, filled-set}
use Rattle.kex_rope.proofs.rope.put.Goals as goal
use Rattle.kex_rope.proofs.rope.put.Goals.{in-Some+else-len-lt-BLOCK, in_default}

-- a lone block, or one of many, that has a symbol now
set_filled : (bs : List (Vec Symbol)) (i : ℕ) (v : Vec Symbol) → i < length bs → 0 < length v.items → (length bs ≤ 1) ⊎ AreFilled bs → AreFilled (set bs i v)
set_filled [] i v in_ lt h = tt
set_filled (b ∷ []) zero v in_ lt h = (lt, tt)
set_filled (b ∷ []) (suc i) v in_ lt h = absurd (omega arith)
set_filled (b ∷ c ∷ bs) i v in_ lt h = ⊎_elim (λ le. absurd (omega arith)) (λ f. filled-set (b ∷ c ∷ bs) i v lt f) h

-- a block is replaced by one with the same symbols
same_filled : (bs : List (Vec Symbol)) (i : ℕ) (v d : Vec Symbol) → v.items ≡ (get_or bs i d).items → AreFilled bs → AreFilled (set bs i v)
same_filled [] i v d e h = tt
same_filled (b ∷ bs) zero v d e h = (subst (λ (z : List Symbol). 0 < length z) (sym e) h.0, h.1)
same_filled (b ∷ bs) (suc i) v d e h = (h.0, same_filled bs i v d e h.1)

none_filled : (bs : List (Vec Symbol)) → length bs ≡ 0 → AreFilled bs
none_filled [] e = tt
none_filled (b ∷ bs) e = absurd (omega arith)

on_err : {P : Type 0} (r : Result (Unit {0}) Memory) → P → OnErr r P
on_err (Ok x) p = tt
on_err (Err e) p = p

pub returns-in_err-push-clause-kept : goal.returns-in_err-push-clause-kept
returns-in_err-push-clause-kept c =
    let some : 0 < length c.args.blocks.now = c.in-Some.ensures.variant.0 refl in
    let same = joined-set_last c.args.blocks.now (length c.args.blocks.now - 1) c.push.new.self c.in-Some.last.now [] (omega arith) (c.in_err-push.ensures.items ∙ ap (λ z. z.items) c.in-Some.ensures.value ∙ sym (append-nil _)) ∙ append-nil (symbols_in c.args.blocks.now) in
    on_err c.from_residual.result same

pub returns-in_err-push-clause-still : goal.returns-in_err-push-clause-still
returns-in_err-push-clause-still c =
    on_err c.from_residual.result (λ (h : AreFilled c.args.blocks.now). same_filled c.args.blocks.now (length c.args.blocks.now - 1) c.push.new.self c.in-Some.last.now (c.in_err-push.ensures.items ∙ ap (λ z. z.items) c.in-Some.ensures.value) h)

pub returns-then-len-lt-BLOCK-clause-added : goal.returns-then-len-lt-BLOCK-clause-added
returns-then-len-lt-BLOCK-clause-added c =
    let some : 0 < length c.args.blocks.now = c.in-Some.ensures.variant.0 refl in
    joined-set_last c.args.blocks.now (length c.args.blocks.now - 1) c.push.new.self c.in-Some.last.now (c.args.symbol ∷ []) (omega arith) (c.in_ok-push.ensures.items ∙ ap (λ z. z.items ++ c.args.symbol ∷ []) c.in-Some.ensures.value)

pub returns-then-len-lt-BLOCK-clause-filled : goal.returns-then-len-lt-BLOCK-clause-filled
returns-then-len-lt-BLOCK-clause-filled c = λ h.
    let some : 0 < length c.args.blocks.now = c.in-Some.ensures.variant.0 refl in
    let all = joined-set_last c.args.blocks.now (length c.args.blocks.now - 1) c.push.new.self c.in-Some.last.now (c.args.symbol ∷ []) (omega arith) (c.in_ok-push.ensures.items ∙ ap (λ z. z.items ++ c.args.symbol ∷ []) c.in-Some.ensures.value) in
    set_filled c.args.blocks.now (length c.args.blocks.now - 1) c.push.new.self (omega arith) (omega (arith, ap length c.in_ok-push.ensures.items, length-append c.in-Some.last.now.items (c.args.symbol ∷ []))) h.filled

same_blocks : (c : goal.In_ok-push_back) → c.match-back_mut.blocks ≡ c.args.blocks.now
same_blocks c =
    elim c.match-back_mut.branch [
      | in-Some+else-len-lt-BLOCK w ↦ w.blocks-is ∙ ap (λ z. set c.args.blocks.now (length c.args.blocks.now - 1) z) w.in-Some.ensures.value ∙ set-get_or c.args.blocks.now (length c.args.blocks.now - 1) w.in-Some.last.now
      | in_default w ↦ w.blocks-is
    ]

pub returns-clause-added : goal.returns-clause-added
returns-clause-added c =
    ap symbols_in c.in_ok-push_back.ensures.items ∙ joined-push c.match-back_mut.blocks c.push-2.new.self c.args.symbol (c.in_ok-push-2.ensures.items ∙ ap (λ z. z ++ c.args.symbol ∷ []) c.in_ok-block.ensures.items) ∙ ap (λ z. symbols_in z ++ c.args.symbol ∷ []) (same_blocks c)

none_there : (n : ℕ) → (0 < n → false ≡ true) → n ≡ 0
none_there zero h = refl
none_there (suc n) h = let e : false ≡ true = h (omega arith) in absurd (cc)

-- where there is a last block, it is full
full_blocks : (c : goal.In_ok-push_back) → AreBlocks c.args.blocks.now (length (symbols_in c.args.blocks.now)) → AreFilled c.args.blocks.now
full_blocks c h =
    elim c.match-back_mut.branch [
      | in-Some+else-len-lt-BLOCK w ↦
          let some : 0 < length c.args.blocks.now = w.in-Some.ensures.variant.0 refl in
          let within = block_within c.args.blocks.now (length c.args.blocks.now - 1) w.in-Some.last.now (omega arith) in
          filled_blocks h (omega (arith, within, ap (λ z. length z.items) w.in-Some.ensures.value, w.if-len-lt-BLOCK.false, w.len.ensures, w.in-Some.last.now.ok))
      | in_default w ↦ none_filled c.args.blocks.now (none_there (length c.args.blocks.now) w.in_default.ensures.variant.1)
    ]

pub returns-clause-filled : goal.returns-clause-filled
returns-clause-filled c = λ h.
    let one : c.push-2.new.self.items ≡ c.args.symbol ∷ [] = c.in_ok-push-2.ensures.items ∙ ap (λ z. z ++ c.args.symbol ∷ []) c.in_ok-block.ensures.items in
    subst AreFilled (sym (c.in_ok-push_back.ensures.items ∙ ap (λ z. z ++ c.push-2.new.self ∷ []) (same_blocks c))) (filled-append c.args.blocks.now (c.push-2.new.self ∷ []) (full_blocks c h) (omega (arith, ap length one), tt))
