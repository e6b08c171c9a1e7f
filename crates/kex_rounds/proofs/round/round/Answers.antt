use Rattle.std.proofs.Common.{◌≡◌, ◌∙◌, inl, inr, true, false, sym, ap, subst, arith}
use Rattle.std.specs.Prelude.{IsPermutation, All, is_ok, is_err}
use Rattle.std.specs.List.{range_with_len}
use Rattle.std.proofs.lemmas.List.{with_items_is}
use Rattle.kex_pipe.specs.Rounds.{Each, Works, LeftBy, Worked}
use Rattle.kex_pipe.specs.Waiting.{unread_bytes}
use Rattle.kex_pipe.specs.declared.pipe.PipeFault.{PipeFault}
use Rattle.kex_pipe.proofs.Lines.{on-ok}
use Rattle.kex_rounds.specs.Working.{AllUsable}
use Rattle.kex_rounds.proofs.Rows.{trues, each-worked, those-all, on-err, on-err-is, not-false}
use Rattle.kex_rounds.proofs.round.round.Goals as goal

pub end_round-ended-requires-clause-own : goal.end_round-ended-requires-clause-own
end_round-ended-requires-clause-own g c =
    let t = g.T.Turn in
    let o = c.begin_round-seats.ensures.own in
    let items = with_items_is c.begin_round-seats.result c.work_all-worked.new.seats (omega (arith, c.work_all-worked.auto.seats, c.as_mut_slice.ensures.len)) in
    record {
      before = o.before;
      began = o.began;
      left = subst (λ z. Each (LeftBy t) o.before.seats.items z) (sym items) (c.work_all-worked.ensures.own o.before.seats.items (subst (λ z. Each (LeftBy t) o.before.seats.items z) (sym c.as_mut_slice.ensures.value) o.left));
    }

pub returns-in-Ok-clause-stands : goal.returns-in-Ok-clause-stands
returns-in-Ok-clause-stands g c = on-ok c.end_round-ended.result (λ stands ps h taken order s perm.
    let t = g.T.Turn in
    let pipe = c.args.pipe.now in
    let begun = c.begin_round-seats.ensures in
    let same = c.as_mut_slice.ensures.value ∙ begun.all s.going in
    let usable : AllUsable t c.as_mut_slice.result.now = subst (λ z. AllUsable t z) (sym c.as_mut_slice.ensures.value) (begun.usable s.going) in
    let done : is_ok c.work_all-worked.result ≡ true = ap is_ok c.in-Ok.is in
    let work : Each (Works t) pipe.seats.items c.work_all-worked.new.seats = subst (λ z. Each (Works t) z c.work_all-worked.new.seats) same (c.work_all-worked.ensures.works done usable).0 in
    let items = with_items_is c.begin_round-seats.result c.work_all-worked.new.seats (omega (arith, c.work_all-worked.auto.seats, c.as_mut_slice.ensures.len)) in
    let numbers = those-all t pipe.seats.items 0 ∙ ap (λ z. range_with_len 0 z) (let e = pipe.seats.ok.0 in omega arith) in
    stands pipe ps h taken (trues t pipe.seats.items) order begun.opens s
    (subst (λ z. Worked t (trues t pipe.seats.items) pipe.seats.items z) (sym items) (each-worked t pipe.seats.items c.work_all-worked.new.seats work))
    (subst (λ z. IsPermutation z order) (sym numbers) perm)) c.end_round-ended.ensures.stands

pub returns-in-Ok-clause-settles : goal.returns-in-Ok-clause-settles
returns-in-Ok-clause-settles g c = on-ok c.end_round-ended.result (λ settles ps h taken order k s perm settled.
    let t = g.T.Turn in
    let pipe = c.args.pipe.now in
    let begun = c.begin_round-seats.ensures in
    let same = c.as_mut_slice.ensures.value ∙ begun.all s.going in
    let usable : AllUsable t c.as_mut_slice.result.now = subst (λ z. AllUsable t z) (sym c.as_mut_slice.ensures.value) (begun.usable s.going) in
    let done : is_ok c.work_all-worked.result ≡ true = ap is_ok c.in-Ok.is in
    let work : Each (Works t) pipe.seats.items c.work_all-worked.new.seats = subst (λ z. Each (Works t) z c.work_all-worked.new.seats) same (c.work_all-worked.ensures.works done usable).0 in
    let items = with_items_is c.begin_round-seats.result c.work_all-worked.new.seats (omega (arith, c.work_all-worked.auto.seats, c.as_mut_slice.ensures.len)) in
    settles pipe ps h taken order k s begun.opens (subst (λ z. Each (Works t) pipe.seats.items z) (sym items) work) perm settled) c.end_round-ended.ensures.settles

pub returns-in-Ok-clause-begins : goal.returns-in-Ok-clause-begins
returns-in-Ok-clause-begins g c = on-err c.end_round-ended.result (λ begins ps h taken s. begins c.args.pipe.now ps h taken c.begin_round-seats.ensures.opens s) c.end_round-ended.ensures.begins

pub returns-in-Ok-clause-written : goal.returns-in-Ok-clause-written
returns-in-Ok-clause-written g c = on-err c.end_round-ended.result (λ written ps h taken s. written c.args.pipe.now ps h taken c.begin_round-seats.ensures.opens s) c.end_round-ended.ensures.written

pub returns-in-Ok-clause-spent : goal.returns-in-Ok-clause-spent
returns-in-Ok-clause-spent g c =
    let t = g.T.Turn in
    let pipe = c.args.pipe.now in
    let begun = c.begin_round-seats.ensures in
    let items = with_items_is c.begin_round-seats.result c.work_all-worked.new.seats (omega (arith, c.work_all-worked.auto.seats, c.as_mut_slice.ensures.len)) in
    let done : is_ok c.work_all-worked.result ≡ true = ap is_ok c.in-Ok.is in (
      λ e. elim (c.end_round-ended.ensures.spent.0 e) [
        | inl spent ↦ sym begun.opens.same_spent ∙ spent
        | inr unusable ↦ not-false pipe.spent (λ going.
            let usable : AllUsable t c.as_mut_slice.result.now = subst (λ z. AllUsable t z) (sym c.as_mut_slice.ensures.value) (begun.usable going) in
            unusable (subst (λ z. AllUsable t z) (sym items) (c.work_all-worked.ensures.works done usable).1))
      ],
      λ spent. c.end_round-ended.ensures.spent.1 (inl (begun.opens.same_spent ∙ spent)),
    )

pub returns-in-Err-clause-begins : goal.returns-in-Err-clause-begins
returns-in-Err-clause-begins g c = λ ps h taken s.
    let t = g.T.Turn in
    let items = with_items_is c.begin_round-seats.result c.work_all-worked.new.seats (omega (arith, c.work_all-worked.auto.seats, c.as_mut_slice.ensures.len)) in
    let failed : is_ok c.work_all-worked.result ≡ false = ap is_ok c.in-Err.is in
    let fault = c.end_round-ended.ensures.spent.1 (inr (λ all. c.work_all-worked.ensures.spent failed (subst (λ z. AllUsable t z) items all))) in
    on-err-is c.end_round-ended.result PipeFault.Spent fault c.end_round-ended.ensures.begins c.args.pipe.now ps h taken c.begin_round-seats.ensures.opens s

pub returns-in-Err-clause-written : goal.returns-in-Err-clause-written
returns-in-Err-clause-written g c = λ ps h taken s.
    let t = g.T.Turn in
    let items = with_items_is c.begin_round-seats.result c.work_all-worked.new.seats (omega (arith, c.work_all-worked.auto.seats, c.as_mut_slice.ensures.len)) in
    let failed : is_ok c.work_all-worked.result ≡ false = ap is_ok c.in-Err.is in
    let fault = c.end_round-ended.ensures.spent.1 (inr (λ all. c.work_all-worked.ensures.spent failed (subst (λ z. AllUsable t z) items all))) in
    on-err-is c.end_round-ended.result PipeFault.Spent fault c.end_round-ended.ensures.written c.args.pipe.now ps h taken c.begin_round-seats.ensures.opens s

pub returns-in-Err-clause-hand : goal.returns-in-Err-clause-hand
returns-in-Err-clause-hand g c =
    let t = g.T.Turn in
    let items = with_items_is c.begin_round-seats.result c.work_all-worked.new.seats (omega (arith, c.work_all-worked.auto.seats, c.as_mut_slice.ensures.len)) in
    let failed : is_ok c.work_all-worked.result ≡ false = ap is_ok c.in-Err.is in
    let fault = c.end_round-ended.ensures.spent.1 (inr (λ all. c.work_all-worked.ensures.spent failed (subst (λ z. AllUsable t z) items all))) in
    on-err-is c.end_round-ended.result PipeFault.Spent fault c.end_round-ended.ensures.hand ∙ ap unread_bytes c.begin_round-seats.ensures.opens.same_output

pub returns-in-Err-clause-spent : goal.returns-in-Err-clause-spent
returns-in-Err-clause-spent g c = (
  λ e. cc,
  λ spent.
      let idle = subst (λ z. All (λ s. s.usable ≡ false) z) (sym c.as_mut_slice.ensures.value) (c.begin_round-seats.ensures.idle spent) in
      let done : is_ok c.work_all-worked.result ≡ true = c.work_all-worked.ensures.idle idle in
      let bad : false ≡ true = sym (ap is_ok c.in-Err.is) ∙ done in cc,
)

pub returns-in-Err-clause-spends : goal.returns-in-Err-clause-spends
returns-in-Err-clause-spends g c =
    let t = g.T.Turn in
    let items = with_items_is c.begin_round-seats.result c.work_all-worked.new.seats (omega (arith, c.work_all-worked.auto.seats, c.as_mut_slice.ensures.len)) in
    let failed : is_ok c.work_all-worked.result ≡ false = ap is_ok c.in-Err.is in
    let fault = c.end_round-ended.ensures.spent.1 (inr (λ all. c.work_all-worked.ensures.spent failed (subst (λ z. AllUsable t z) items all))) in
    c.end_round-ended.ensures.spends ∙ ap is_err fault
