use Rattle.std.proofs.Common.{ap, ◌∙◌, arith}
use Rattle.kex_constants.specs.Known.{kept_number}
use Rattle.kex_constants.proofs.RegisterNumbers.{number_most, number_read, number_beyond}
use Rattle.kex_constants.proofs.known.Known.number.Goals as goal

pub overflow_cast-result : goal.overflow_cast-result
overflow_cast-result c =
    let is = number_read c.self.inside.constants.items c.self.inside.numbers.items c.self.invariant c.args.register c.index.result.now (omega arith) c.index.ensures in
    let most = number_most c.self.inside.constants.items c.args.register in
    omega (arith, is, most)

pub overflow_add-result : goal.overflow_add-result
overflow_add-result c =
    let is = number_beyond c.self.inside.constants.items c.self.inside.numbers.items c.self.invariant c.args.register c.len-past.result c.index-else-at-past.result.now (omega arith) c.if-at-past.false c.index-else-at-past.ensures in
    let most = number_most c.self.inside.constants.items c.args.register in
    omega (arith, is, most)

pub overflow_cast-result-else-at-past : goal.overflow_cast-result-else-at-past
overflow_cast-result-else-at-past c =
    let is = number_beyond c.self.inside.constants.items c.self.inside.numbers.items c.self.invariant c.args.register c.len-past.result c.index-else-at-past.result.now (omega arith) c.if-at-past.false c.index-else-at-past.ensures in
    let most = number_most c.self.inside.constants.items c.args.register in
    omega (arith, is, most)

pub returns-else-at-past : goal.returns-else-at-past
returns-else-at-past c =
    number_beyond c.self.inside.constants.items c.self.inside.numbers.items c.self.invariant c.args.register c.len-past.result c.index-else-at-past.result.now (omega arith) c.if-at-past.false c.index-else-at-past.ensures
    ∙ ap (λ z. kept_number z c.args.register) c.self.view_is
