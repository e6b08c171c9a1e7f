use Rattle.std.proofs.Common.{◌∷◌, [], ◌++◌, sym, subst}
use Rattle.kex_machine.specs.Nodes.{HasClasses}
use Rattle.kex_machine.proofs.Classes.{more_classes, same_classes, not_read}
use Rattle.kex_machine.proofs.refine_by.Goals as goal

pub returns-in-Read : goal.returns-in-Read
returns-in-Read c = λ nodes h. subst (λ z. HasClasses (nodes ++ z ∷ []) c.refine.new.self) (sym c.in-Read.is) (more_classes nodes c.in-Read.set c.in-Read.field-1 c.args.classes.now c.refine.new.self c.refine.ensures.refined c.refine.ensures.flags h)

pub returns-in_default : goal.returns-in_default
returns-in_default c = λ nodes h. same_classes nodes c.args.node.now c.args.classes.now (not_read c.args.node.now c.in_default.not-Read) h
