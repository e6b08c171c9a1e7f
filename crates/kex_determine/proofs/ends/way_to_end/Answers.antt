use Rattle.std.proofs.Common.{◌≡◌, ℕ, zero, suc, ◌<◌, true, false, vec_len, [], ◌∷◌, ◌++◌, Some, map, refl, ap, sym, ◌∙◌, arith}
use Rattle.kex_model.proofs.OpenAnswers.{empty_list}
use Rattle.kex_sst.specs.declared.parts.Part.TheVariants.{Old}
use Rattle.kex_determine.proofs.FirstLeaves.{leaf_of, found, none_left, next_side, into_fork, not_past, on_as}
use Rattle.kex_determine.proofs.ends.way_to_end.Goals as goal
use Rattle.kex_determine.proofs.ends.way_to_end.Goals.{then-inner+in_ok-push, else-inner+else-is_end+in-Some}

pub offset_bounds-leaves-leaf : goal.offset_bounds-leaves-leaf
offset_bounds-leaves-leaf c =
    let t = c.requires.tree in
    let h = leaf_of _ _ _ _ _ _ _ _ _ c.loop-node-test.true c.if-inner.false (c.loop-node.invariant t.0 t.1 t.2 t.3) in
    omega (arith, h.within)

pub bounds-leaves-leaf : goal.bounds-leaves-leaf
bounds-leaves-leaf c =
    let t = c.requires.tree in
    (leaf_of _ _ _ _ _ _ _ _ _ c.loop-node-test.true c.if-inner.false (c.loop-node.invariant t.0 t.1 t.2 t.3)).within

pub is_end-requires : goal.is_end-requires
is_end-requires c =
    let t = c.requires.tree in
    let h = leaf_of _ _ _ _ _ _ _ _ _ c.loop-node-test.true c.if-inner.false (c.loop-node.invariant t.0 t.1 t.2 t.3) in
    omega (arith, h.read_there, h.fits)

pub returns-then-is_end : goal.returns-then-is_end
returns-then-is_end c = λ s e f each.
    let o = c.loop-node.invariant s e f each in
    let h = leaf_of _ _ _ _ _ _ _ _ _ c.loop-node-test.true c.if-inner.false o in
    ap (λ z. Some z) (c.in_ok-way.ensures ∙ ap (λ z. map (λ i. Old i) z) c.deref.ensures.value) ∙ sym (found _ _ _ _ _ _ _ _ _ o h (sym c.is_end.ensures ∙ c.if-is_end.true))

pub overflow_add-leaf : goal.overflow_add-leaf
overflow_add-leaf c =
    let t = c.requires.tree in
    let h = leaf_of _ _ _ _ _ _ _ _ _ c.loop-node-test.true c.if-inner.false (c.loop-node.invariant t.0 t.1 t.2 t.3) in
    omega (arith, h.within)

nothing_there : (n : ℕ) → (0 < n → false ≡ true) → n ≡ 0
nothing_there zero h = refl
nothing_there (suc n) h = let bad : false ≡ true = h (omega arith) in cc

pub returns-in_default : goal.returns-in_default
returns-in_default c = λ s e f each.
    let o = c.loop-node.invariant s e f each in
    let h = leaf_of _ _ _ _ _ _ _ _ _ c.loop-node-test.true c.if-inner.false o in
    let none : c.loop-node.forks.items ≡ [] = empty_list c.loop-node.forks.items (omega (arith, c.loop-node.forks.ok.0, nothing_there (vec_len c.loop-node.forks) c.in_default.ensures.variant.1)) in
    let o' = on_as _ _ _ _ _ _ _ _ _ _ _ _ refl refl (sym none) o in
    sym (none_left _ _ _ _ _ _ _ _ o' (leaf_of _ _ _ _ _ _ _ _ _ c.loop-node-test.true c.if-inner.false o') (sym c.is_end.ensures ∙ c.if-is_end.false))

pub loop-node-preserved : goal.loop-node-preserved
loop-node-preserved c = λ s e f each.
    let o = c.loop-node.invariant s e f each in
    elim c.if-inner.branch [
      | then-inner+in_ok-push w ↦ on_as _ _ _ _ _ _ _ _ _ _ _ _
          w.leaf-is
          (c.in_ok-push-2.ensures.items ∙ ap (λ v. v.items ++ c.loop-node.node ∷ []) w.way'-is)
          (ap (λ v. v.items) w.forks-is ∙ w.in_ok-push.ensures.items ∙ ap (λ n. c.loop-node.forks.items ++ n ∷ []) (omega (arith, w.len.ensures, c.loop-node.way.ok.0)))
          (into_fork _ _ _ _ _ _ _ _ _ c.loop-node-test.true w.if-inner.true o)
      | else-inner+else-is_end+in-Some w ↦ (
          let h = leaf_of _ _ _ _ _ _ _ _ _ c.loop-node-test.true w.if-inner.false o in
          let n = next_side _ _ _ _ _ _ _ _ _ w.pop.new.self.items w.in-Some.length w.in-Some.ensures.items o h (sym w.is_end.ensures ∙ w.if-is_end.false) in
          on_as _ _ _ _ _ _ _ _ _ _ _ _
          w.leaf-is
          (c.in_ok-push-2.ensures.items ∙ ap (λ v. v.items ++ c.loop-node.node ∷ []) w.way'-is ∙ ap (λ z. z ++ c.loop-node.node ∷ []) w.truncate.ensures.items)
          (ap (λ v. v.items) w.forks-is)
          n
          )
    ]

pub returns : goal.returns
returns c = λ s e f each. absurd (omega (arith, not_past _ _ _ _ _ _ _ _ _ (c.loop-node.invariant s e f each), c.loop-node-test.false))
