use Rattle.std.proofs.Common.{rules, ap, ◌∙◌, arith}
use Rattle.kex_reader.specs.declared.stack.TermConstruct.TheVariants as constructs
use Rattle.kex_reader.specs.Stands.{open_constructs}
use Rattle.kex_reader.proofs.OpenConstructs.{pushed}
use Rattle.kex_reader.proofs.stack.Stack.take_mark.Goals as goal

pub overflow_sub-self : goal.overflow_sub-self
unfolding open_constructs
overflow_sub-self c =
    let e = pushed c.pop.new.self.items c.self.inside.constructs.items (constructs.Mark c.in-Some-Mark.at) (search rules) in
    omega (arith, c.self.invariant ∙ ap open_constructs e)

pub invariant_of-self : goal.invariant_of-self
unfolding open_constructs
invariant_of-self c =
    let e = pushed c.pop.new.self.items c.self.inside.constructs.items (constructs.Mark c.in-Some-Mark.at) (search rules) in
    omega (arith, c.self.invariant ∙ ap open_constructs e)
