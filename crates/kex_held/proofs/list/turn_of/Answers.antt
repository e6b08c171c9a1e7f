use Rattle.std.proofs.Common.{◌≡◌, ◌∙◌, ℕ, List, get_or, refl, sym, ap, subst}
use Rattle.kex_code.specs.Registers.{content_of}
use Rattle.kex_model.specs.Acting.{after_effect}
use Rattle.kex_machine.specs.Nodes.{effect_of}
use Rattle.kex_action.specs.Holdings.{with_bytes}
use Rattle.kex_held.specs.Acts.{after_act}
use Rattle.kex_held.specs.Slices.{slice_between, act_over}
use Rattle.kex_held.proofs.list.turn_of.Goals as goal

pub returns-in-Slice : goal.returns-in-Slice
returns-in-Slice c = λ w points s. subst (λ i. (more : List ℕ) × (after_act c.args.machine.now.nodes (act_over w points i) s ≡ with_bytes more s)) (sym c.in-Slice.is) (slice_between w (get_or points c.in-Slice.field-0 0) (get_or points c.in-Slice.field-1 0), refl)

pub returns-in-Some-Write : goal.returns-in-Some-Write
returns-in-Some-Write c = λ w points s. subst (λ i. (more : List ℕ) × (after_act c.args.machine.now.nodes (act_over w points i) s ≡ with_bytes more s)) (sym c.in-Effect.is) (content_of s.registers c.in-Some-Write.field-0-0, c.in-Some-Write.ensures {u = tt} s ∙ ap (λ e. after_effect (effect_of e) s) c.in-Some-Write.field-0-is)
