use Rattle.std.proofs.Common.{◌≡◌, [], ◌∷◌, length, sym, ap, ap₂, subst, ◌∙◌, arith}
use Rattle.kex_machine.specs.Nodes.{node_moves, StaysWithin}
use Rattle.kex_machine.specs.Advancing.{EachPlace}
use Rattle.kex_machine.proofs.Ranges.{stays_within}
use Rattle.kex_paths.specs.declared.walk.Task.TheVariants.{OldTree}
use Rattle.kex_paths.specs.Tasks.{tokens, tokens_from, EachTip}
use Rattle.kex_paths.proofs.Preorders.{tokens-length, tokens_of_lists, each_tip}
use Rattle.kex_paths.proofs.TaskSteps.{IsDone, done_next}
use Rattle.kex_paths.proofs.workspace.reach.Goals as goal

pub walk-requires-clause-range : goal.walk-requires-clause-range
walk-requires-clause-range c = subst (λ z. StaysWithin z) (sym c.nodes-nodes.ensures.same) (stays_within c.args.machine.now c.nodes-nodes.ensures.in_range)

pub walk-requires-clause-tips : goal.walk-requires-clause-tips
walk-requires-clause-tips c =
    let sound = c.requires.sound in
    let s = sound.shape in
    let text : c.deref.result.now ≡ tokens s = c.deref.ensures.value ∙ c.in_ok-read_tokens.ensures ∙ ap₂ (λ u v. tokens_from u v) sound.inner_is sound.places_are ∙ tokens_of_lists s in
    let places : EachPlace (length c.nodes-nodes.result.now) s = subst (λ z. EachPlace (length z) s) (sym c.nodes-nodes.ensures.same) sound.in_range in
    subst (λ z. EachTip (length c.nodes-nodes.result.now) z) (sym text) (each_tip (length c.nodes-nodes.result.now) s places)

pub walk-requires-clause-short : goal.walk-requires-clause-short
walk-requires-clause-short c =
    let sound = c.requires.sound in
    let s = sound.shape in
    let text : c.deref.result.now ≡ tokens s = c.deref.ensures.value ∙ c.in_ok-read_tokens.ensures ∙ ap₂ (λ u v. tokens_from u v) sound.inner_is sound.places_are ∙ tokens_of_lists s in
    let long = ap length text ∙ tokens-length s in
    let small = sound.small in
    let few = sound.few in
    omega arith

pub returns-clause-next : goal.returns-clause-next
returns-clause-next c = λ s is.
    let g = c.args.machine.now in
    let done : IsDone (node_moves g.nodes) c.args.byte (length g.nodes) c.deref.result.now OldTree c.walk.new.tools.forest = subst (λ z. IsDone (node_moves z) c.args.byte (length z) c.deref.result.now OldTree c.walk.new.tools.forest) c.nodes-nodes.ensures.same c.in_ok-walk.ensures.done in
    let text : c.deref.result.now ≡ tokens s = c.deref.ensures.value ∙ c.in_ok-read_tokens.ensures ∙ ap₂ (λ u v. tokens_from u v) is.0 is.1 ∙ tokens_of_lists s in
    done_next g c.args.byte c.deref.result.now c.walk.new.tools.forest c.pop_root.new.self.edges c.pop_root.result done (λ rs a h. (c.pop_root.ensures.trees (a ∷ []) h).0) s text
