use Rattle.std.proofs.Common.{◌∷◌, [], ◌++◌, take, sym, ap, subst, ◌∙◌}
use Rattle.std.proofs.lemmas.List.{take_more}
use Rattle.kex_machine.specs.Nodes.{HasClasses}
use Rattle.kex_machine.proofs.Classes.{no_classes}
use Rattle.kex_machine.proofs.classes_of.Goals as goal

pub loop-node-init : goal.loop-node-init
loop-node-init c = no_classes c.new-classes.result c.new-classes.ensures

pub loop-node-preserved : goal.loop-node-preserved
loop-node-preserved c =
    subst (λ z. HasClasses z c.refine_by.new.classes)
    (ap (λ z. take c.loop-node.node-index c.args.nodes.now ++ z ∷ []) c.node-item.is ∙ sym (take_more c.args.nodes.now c.loop-node.node-index c.node-item.result c.loop-node-test.true))
    (c.refine_by.ensures (take c.loop-node.node-index c.args.nodes.now) c.loop-node.invariant)
