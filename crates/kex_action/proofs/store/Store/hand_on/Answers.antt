use Rattle.std.proofs.Common.{◌≡◌, ◌∙◌, ◌<◌, ◌≤◌, length, take, reverse, ap, sym, subst, arith}
use Rattle.std.proofs.lemmas.List.{take_all, length-take-le}
use Rattle.kex_model.specs.Moves.{open_buffer}
use Rattle.kex_model.specs.Acting.{after_effect}
use Rattle.kex_action.specs.Holdings.{state_of}
use Rattle.kex_action.specs.Sheets.{with_marked_bytes}
use Rattle.kex_action.proofs.Buffers.{on_ok}
use Rattle.kex_action.proofs.Sheets.{handed, next_mark, NextMark, laid_opens, last_of, last_within}
use Rattle.kex_action.proofs.store.Store.hand_on.Goals as goal

pub prove-unreachable-requires : goal.prove-unreachable-requires
prove-unreachable-requires c =
    let ms = c.args.sheet.now.marks.items in
    let lt : c.loop-i.i < length ms = omega (arith, c.loop-i-test.true, c.len-i-end.ensures ∙ c.args.sheet.now.marks.ok.0) in
    let mark = next_mark c.args.sheet.now.used ms c.loop-i.i c.index-to.result.now c.requires.marks lt in
    omega (arith, mark.behind, c.loop-i.invariant.from, c.index-to.ensures)

pub prove-unreachable-requires-in-loop-i : goal.prove-unreachable-requires-in-loop-i
prove-unreachable-requires-in-loop-i c =
    let ms = c.args.sheet.now.marks.items in
    let lt : c.loop-i.i < length ms = omega (arith, c.loop-i-test.true, c.len-i-end.ensures ∙ c.args.sheet.now.marks.ok.0) in
    let mark = next_mark c.args.sheet.now.used ms c.loop-i.i c.index-to.result.now c.requires.marks lt in
    omega (arith, mark.within, c.requires.used, c.index-to.ensures, ap length c.as_slice-bytes.ensures.value)

pub prove-unreachable-requires-2 : goal.prove-unreachable-requires-2
prove-unreachable-requires-2 c =
    let ms = c.args.sheet.now.marks.items in
    let all : take c.loop-i.i ms ≡ ms = take_all c.loop-i.i ms (omega (arith, c.loop-i-test.false, c.len-i-end.ensures ∙ c.args.sheet.now.marks.ok.0)) in
    omega (arith, last_within c.args.sheet.now.used (reverse ms) c.requires.marks, c.loop-i.invariant.from ∙ ap (λ l. last_of (reverse l)) all)

pub loop-i-preserved : goal.loop-i-preserved
loop-i-preserved c =
    let ms = c.args.sheet.now.marks.items in
    let i = c.loop-i.i in
    let to = c.index-to.result.now in
    let bytes = c.as_slice-bytes.result.now in
    let s = state_of c.args.out.now.items c.args.self.now in
    let lt : i < length ms = omega (arith, c.loop-i-test.true, c.len-i-end.ensures ∙ c.args.sheet.now.marks.ok.0) in
    let mark = subst (λ m. NextMark c.args.sheet.now.used ms i m) (sym c.index-to.ensures) (next_mark c.args.sheet.now.used ms i c.index-to.result.now c.requires.marks lt) in
    let within : to ≤ length bytes = omega (arith, mark.within, c.requires.used, ap length c.as_slice-bytes.ensures.value) in
    let ds = reverse (take i ms) in
    let wrote = handed bytes ds c.loop-i.from to s (state_of c.loop-i.out.items c.loop-i.self) (state_of c.write.new.out.items c.write.new.self) c.loop-i.invariant.from mark.marks within c.loop-i.invariant.state (c.in_ok-write.ensures {u = tt}).ok in
    record {
      from = sym (ap last_of mark.more);
      state = ap (state_of c.write.new.out.items) (c.in_ok-open.ensures {u = tt})
          ∙ ap (after_effect open_buffer) wrote
          ∙ sym (laid_opens (take to bytes) ds to s (sym (length-take-le to bytes within)))
          ∙ sym (ap (λ l. with_marked_bytes (take to bytes) l s) mark.more);
    }

pub returns : goal.returns
returns c =
    let ms = c.args.sheet.now.marks.items in
    let used = c.args.sheet.now.used in
    let bytes = c.as_slice-bytes.result.now in
    let s = state_of c.args.out.now.items c.args.self.now in
    let all : take c.loop-i.i ms ≡ ms = take_all c.loop-i.i ms (omega (arith, c.loop-i-test.false, c.len-i-end.ensures ∙ c.args.sheet.now.marks.ok.0)) in
    let within : used ≤ length bytes = omega (arith, c.requires.used, ap length c.as_slice-bytes.ensures.value) in
    on_ok c.write-2.result c.write-2.ensures.ok (λ e. handed bytes (reverse ms) c.loop-i.from used s (state_of c.loop-i.out.items c.loop-i.self) (state_of c.write-2.new.out.items c.write-2.new.self) (c.loop-i.invariant.from ∙ ap (λ l. last_of (reverse l)) all) c.requires.marks within (c.loop-i.invariant.state ∙ ap (λ l. with_marked_bytes (take c.loop-i.from bytes) (reverse l) s) all) e ∙ ap (λ b. with_marked_bytes (take used b) (reverse ms) s) c.as_slice-bytes.ensures.value)
