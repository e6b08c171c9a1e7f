use Rattle.std.proofs.Common.{rules, ap, ◌∙◌}
use Rattle.kex_reader.specs.declared.stack.TermConstruct.TheVariants as constructs
use Rattle.kex_reader.specs.Stands.{open_constructs}
use Rattle.kex_reader.proofs.OpenConstructs.{pushed}
use Rattle.kex_reader.proofs.stack.Stack.take_done.Goals as goal

pub invariant_of-self : goal.invariant_of-self
unfolding open_constructs
invariant_of-self c =
    let e = pushed c.pop.new.self.items c.self.inside.constructs.items (constructs.Done c.in-Some-Done.part) (search rules) in
    c.self.invariant ∙ ap open_constructs e
