use Rattle.std.proofs.Common.{◌≡◌, ◌++◌, ◌∷◌, [], length, drop, sym, ap, ◌∙◌, arith, subst}
use Rattle.std.proofs.lemmas.Result.{IfOk-weaker, on_ok_weaker}
use Rattle.kex_sst.specs.Parts.{Change}
use Rattle.kex_script.specs.Pages.{Pages, KeepsItems, PagesGrow, IsListAt, AreListsAt, IsRow}
use Rattle.kex_script.proofs.Pages.{keeps_same, keeps_more, kept_in_front, grows_on, the_row, row_moved}
use Rattle.kex_script.proofs.writer.Writer.update.Goals as goal

the_place : (c : goal.After-share) → c.in-Ok.at ≡ length c.args.self.now.rows
the_place c = let long = ap (λ (z : Pages). length z.rows) c.self.view_is in omega (arith, c.in-Ok.ensures.1, c.len.ensures, long)

-- the pages with the row's first number
abbrev begun : goal.After-share → Pages
begun c = record { words = c.self.inside.words; lists = c.self.inside.lists; tails = c.self.inside.tails.items; rows = c.push.new.self }

-- the row as it was put after the others
written : (c : goal.After-share) → IsRow c.put_all.new.self c.in-Ok.at c.args.update.now
written c =
    let u : Change = c.args.update.now in
    let count : c.in-Ok-try_from.count ≡ length u.regs = c.in-Ok-try_from.ensures.1 ∙ ap length c.regs.ensures in
    the_row c.args.self.now (begun c) c.put.new.self c.put_all.new.self c.in-Ok.at c.in-Ok-try_from.count u (the_place c) (c.in_ok-push.ensures ∙ ap (λ (z : Pages). z.rows ++ c.in-Ok-try_from.count ∷ []) c.self.view_is) count c.in_ok-put.ensures.grown c.in_ok-put_all.ensures.grown
    (subst (λ z. IsListAt c.put.new.self (length c.push.new.self) z) (c.as_slice.ensures ∙ c.out.ensures) c.in_ok-put.ensures.at)
    c.in_ok-put.ensures.count
    (subst (λ z. AreListsAt c.put_all.new.self (length c.put.new.self.rows) (length z) z) c.regs-2.ensures c.in_ok-put_all.ensures.at)

-- what was there before stays where the row is
grown : (c : goal.After-share) → PagesGrow c.args.self.now c.put_all.new.self
grown c =
    let count = c.in-Ok-try_from.count in
    let pushed : PagesGrow (record { words = c.self.inside.words; lists = c.self.inside.lists; tails = c.self.inside.tails.items; rows = c.self.inside.rows }) (begun c) = record {
      lists = keeps_same c.self.inside.lists;
      rows = subst (λ z. KeepsItems c.self.inside.rows z) (sym c.in_ok-push.ensures) (keeps_more c.self.inside.rows (count ∷ []));
    } in
    grows_on (subst (λ z. PagesGrow z (begun c)) c.self.view_is pushed) (grows_on c.in_ok-put.ensures.grown c.in_ok-put_all.ensures.grown)

-- the pages without the row, if an equal one was found before it
abbrev after : goal.After-share → Pages
after c = record { words = c.self-2.inside.words; lists = c.self-2.inside.lists; tails = c.self-2.inside.tails.items; rows = c.share.new.self }

pub returns-clause-row : goal.returns-clause-row
returns-clause-row c = IfOk-weaker c.share.result (λ place. KeepsItems (drop c.in-Ok.at c.self-2.inside.rows) (drop place c.share.new.self)) (λ place. IsRow (after c) place c.args.update.now) (λ place moved. row_moved c.put_all.new.self (after c) c.in-Ok.at place (sym (ap (λ (z : Pages). z.lists) c.self-2.view_is)) (subst (λ z. KeepsItems (drop c.in-Ok.at z) (drop place c.share.new.self)) (ap (λ (z : Pages). z.rows) c.self-2.view_is) moved) c.args.update.now (written c)) c.share.ensures.row

pub returns-clause-grown : goal.returns-clause-grown
returns-clause-grown c =
    let old = c.args.self.now in
    let all : PagesGrow old (record { words = c.self-2.inside.words; lists = c.self-2.inside.lists; tails = c.self-2.inside.tails.items; rows = c.self-2.inside.rows }) = subst (λ z. PagesGrow old z) (sym c.self-2.view_is) (grown c) in
    on_ok_weaker c.share.result (λ stays. record {
      lists = all.lists;
      rows = λ k x e. stays k x (kept_in_front c.in-Ok.at old.rows c.self-2.inside.rows (omega (arith, the_place c)) all.rows k x e);
    }) c.share.ensures.before
