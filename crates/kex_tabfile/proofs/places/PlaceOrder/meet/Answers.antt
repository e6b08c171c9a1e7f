use Rattle.std.proofs.Common.{◌≡◌, [], ◌∷◌, ◌++◌, length, set, sym, subst, arith}
use Rattle.kex_tabfile.specs.PlaceNumbers.{MeetsPlace, IsOrder}
use Rattle.kex_tabfile.proofs.PlaceOrders.{met_again, met_first, order_more, order_fits, number_read}
use Rattle.kex_tabfile.proofs.places.PlaceOrder.meet.Goals as goal

pub returns-then-number-len-clause-met : goal.returns-then-number-len-clause-met
returns-then-number-len-clause-met c =
    let e = number_read c.args.self.now.numbers.items c.args.place c.index-number.result.now c.requires.place c.index-number.ensures in
    met_again c.args.self.now.order.items c.args.self.now.numbers.items c.args.place c.requires.order c.requires.place (omega (arith, e, c.if-number-len.true, c.len.ensures, c.args.self.now.numbers.ok.0))

pub overflow_cast-len : goal.overflow_cast-len
overflow_cast-len c = omega (arith, c.len-2.ensures, c.args.self.now.order.ok.0, order_fits c.args.self.now.order.items c.args.self.now.numbers.items c.requires.order, c.requires.order.few)

pub returns-clause-met : goal.returns-clause-met
returns-clause-met c =
    let e = number_read c.args.self.now.numbers.items c.args.place c.index-number.result.now c.requires.place c.index-number.ensures in
    subst (λ z. MeetsPlace c.args.self.now.order.items c.args.place z) (sym c.in_ok-push.ensures.items) (met_first c.args.self.now.order.items c.args.self.now.numbers.items c.args.place c.requires.order c.requires.place (omega (arith, e, c.if-number-len.false, c.len.ensures, c.args.self.now.numbers.ok.0)))

pub returns-clause-order : goal.returns-clause-order
returns-clause-order c =
    let e = number_read c.args.self.now.numbers.items c.args.place c.index-number.result.now c.requires.place c.index-number.ensures in
    let order = c.args.self.now.order.items in
    let numbers = c.args.self.now.numbers.items in
    let long : length order ≡ c.len-2.result = omega (arith, c.len-2.ensures, c.args.self.now.order.ok.0) in
    subst (λ z. IsOrder z (set numbers c.args.place c.len-2.result)) (sym c.in_ok-push.ensures.items) (subst (λ n. IsOrder (order ++ c.args.place ∷ []) (set numbers c.args.place n)) long (order_more order numbers c.args.place c.requires.order c.requires.place (omega (arith, e, c.if-number-len.false, c.len.ensures, c.args.self.now.numbers.ok.0))))
