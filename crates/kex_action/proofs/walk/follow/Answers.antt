use Rattle.std.proofs.Common.{◌≡◌, ◌∙◌, ◌<◌, ◌+◌, ◌++◌, ◌∷◌, [], ℕ, suc, IfNone, IfSome, ap, sym, refl, subst, get_or, take, length, arith, add-one, append-nil}
use Rattle.std.proofs.lemmas.Option.{slice_get-get_or, slice_get_within}
use Rattle.kex_code.specs.Codes.{Begins}
use Rattle.kex_code.specs.declared.symbol.Symbol.{Symbol}
use Rattle.kex_code.specs.declared.symbol.Symbol.TheVariants.{L}
use Rattle.kex_model.specs.Moves.{Allows}
use Rattle.kex_model.proofs.Tables.{some_same}
use Rattle.kex_machine.specs.Nodes.{node_moves}
use Rattle.kex_action.specs.Holdings.{step_by, state_of, LeadsByCode}
use Rattle.kex_action.proofs.Buffers.{on_err}
use Rattle.kex_action.proofs.NodeSteps.{front_of, front_wider, front_behind, begins_take, leads_on, take-more}
use Rattle.kex_action.proofs.walk.follow.Goals as goal

pub returns-in_err-at-clause-err : goal.returns-in_err-at-clause-err
returns-in_err-at-clause-err c = on_err c.from_residual.result (front_wider c.args.machine.now.nodes c.args.from _ [] c.args.symbols.now c.go_on.new.out.items (c.in_err-at.ensures {u = tt}).err (c.args.symbols.now, refl))

pub returns-in_err-next-clause-err : goal.returns-in_err-next-clause-err
returns-in_err-next-clause-err c = on_err c.from_residual-in_err-next.result (front_of c.args.machine.now.nodes c.args.from c.loop-count.at _ (take c.loop-count.count c.args.symbols.now) c.args.symbols.now c.loop-count.out.items c.step.new.out.items c.loop-count.store c.loop-count.invariant.leads (begins_take c.args.symbols.now c.loop-count.count) (c.in_err-next.ensures {u = tt}).err)

pub returns-in_default-clause-ok : goal.returns-in_default-clause-ok
returns-in_default-clause-ok c =
    let same = subst (λ o. IfNone o (state_of c.step.new.out.items c.step.new.store ≡ state_of c.loop-count.out.items c.loop-count.store)) c.in_default.is (c.in_ok-next.ensures {u = tt}).same in
    let y : Symbol = get_or c.args.symbols.now c.loop-count.count L in
    let none = subst (λ o. IfNone o ((t : ℕ) → Allows (node_moves c.args.machine.now.nodes c.loop-count.at) (step_by y t) → ⊥)) c.in_default.is (c.in_ok-next.ensures {u = tt}).none in
    let here = slice_get-get_or c.args.symbols.now c.loop-count.count L c.loop-count-test.true in
    record {
      leads = subst (λ st. LeadsByCode c.args.machine.now.nodes c.args.from (state_of c.args.out.now.items c.args.store.now) (take c.loop-count.count c.args.symbols.now) c.loop-count.at st) (sym same) c.loop-count.invariant.leads;
      rests = c.loop-count.invariant.rests;
      fits = record { node = c.loop-count.invariant.fits.node; count = ap (λ z. length z.registers) same ∙ c.loop-count.invariant.fits.count };
      within = omega arith;
      none = λ z s e a. none s (subst (λ q. Allows (node_moves c.args.machine.now.nodes c.loop-count.at) (step_by q s)) (some_same z y (sym e ∙ here)) a);
    }

pub returns-in_err-at-2-clause-err : goal.returns-in_err-at-2-clause-err
returns-in_err-at-2-clause-err c =
    let y : Symbol = get_or c.args.symbols.now c.loop-count.count L in
    let here = slice_get-get_or c.args.symbols.now c.loop-count.count L c.loop-count-test.true in
    let before = state_of c.args.out.now.items c.args.store.now in
    let one = subst (λ o. IfSome o (λ t. LeadsByCode c.args.machine.now.nodes c.loop-count.at (state_of c.loop-count.out.items c.loop-count.store) (y ∷ []) t (state_of c.step.new.out.items c.step.new.store))) c.in-Some.is (c.in_ok-next.ensures {u = tt}).some in
    let all = leads_on c.args.machine.now.nodes c.args.from c.loop-count.at c.in-Some.next (take c.loop-count.count c.args.symbols.now) (y ∷ []) before _ _ c.loop-count.invariant.leads one in
    let front = front_behind c.args.machine.now.nodes c.args.from c.in-Some.next before _ (take c.loop-count.count c.args.symbols.now ++ y ∷ []) [] c.go_on-in-loop-count.new.out.items all (c.in_err-at-2.ensures {u = tt}).err in
    on_err c.from_residual-in_err-at-2.result (front_wider c.args.machine.now.nodes c.args.from before _ c.args.symbols.now c.go_on-in-loop-count.new.out.items front (subst (λ q. Begins c.args.symbols.now q) (take-more c.args.symbols.now c.loop-count.count y here ∙ sym (append-nil (take c.loop-count.count c.args.symbols.now ++ y ∷ []))) (begins_take c.args.symbols.now (suc c.loop-count.count))))

pub loop-count-preserved : goal.loop-count-preserved
loop-count-preserved c =
    let y : Symbol = get_or c.args.symbols.now c.loop-count.count L in
    let here = slice_get-get_or c.args.symbols.now c.loop-count.count L c.loop-count-test.true in
    let before = state_of c.args.out.now.items c.args.store.now in
    let one = subst (λ o. IfSome o (λ t. LeadsByCode c.args.machine.now.nodes c.loop-count.at (state_of c.loop-count.out.items c.loop-count.store) (y ∷ []) t (state_of c.step.new.out.items c.step.new.store))) c.in-Some.is (c.in_ok-next.ensures {u = tt}).some in
    let all = leads_on c.args.machine.now.nodes c.args.from c.loop-count.at c.in-Some.next (take c.loop-count.count c.args.symbols.now) (y ∷ []) before _ _ c.loop-count.invariant.leads one in
    let last = c.in_ok-at-2.ensures {u = tt} in
    let whole = leads_on c.args.machine.now.nodes c.args.from c.in-Some.next c.in_ok-at-2.at (take c.loop-count.count c.args.symbols.now ++ y ∷ []) [] before _ _ all last.leads in
    let code : (take c.loop-count.count c.args.symbols.now ++ y ∷ []) ++ [] ≡ take (c.loop-count.count + 1) c.args.symbols.now = append-nil (take c.loop-count.count c.args.symbols.now ++ y ∷ []) ∙ sym (take-more c.args.symbols.now c.loop-count.count y here) ∙ ap (λ i. take i c.args.symbols.now) (sym (add-one c.loop-count.count)) in
    record {
      leads = subst (λ q. LeadsByCode c.args.machine.now.nodes c.args.from before q c.in_ok-at-2.at (state_of c.go_on-in-loop-count.new.out.items c.go_on-in-loop-count.new.store)) code whole;
      rests = last.rests;
      fits = last.fits;
    }

pub returns-clause-ok : goal.returns-clause-ok
returns-clause-ok c =
    let n : c.loop-count.count ≡ length c.args.symbols.now = omega arith in
    record {
      leads = subst (λ k. LeadsByCode c.args.machine.now.nodes c.args.from (state_of c.args.out.now.items c.args.store.now) (take k c.args.symbols.now) c.loop-count.at (state_of c.loop-count.out.items c.loop-count.store)) n c.loop-count.invariant.leads;
      rests = c.loop-count.invariant.rests;
      fits = c.loop-count.invariant.fits;
      within = omega arith;
      none = λ z s e a. let lt : length c.args.symbols.now < length c.args.symbols.now = slice_get_within c.args.symbols.now (length c.args.symbols.now) z e in absurd (omega arith);
    }
