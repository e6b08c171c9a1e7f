use Rattle.std.proofs.Common.{subst}
use Rattle.kex_held.specs.Windows.{HasNoMarkBelow}
use Rattle.kex_held.proofs.MarkedTexts.{left_behind}
use Rattle.kex_held.proofs.window.Window.carry.Goals as goal

pub invariant_of-self : goal.invariant_of-self
invariant_of-self c =
    let i = c.self.inside in
    let k = c.left_front-count.result in
    left_behind i.bytes.items i.at i.marks.items k c.leave.new.bytes.items c.shift.new.marks.items c.self.invariant.within c.self.invariant.rising (subst (λ l. HasNoMarkBelow i.at l k) c.deref.ensures.value c.left_front-count.ensures) c.leave.ensures c.shift.ensures
