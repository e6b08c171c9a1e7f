use Rattle.std.proofs.Common.{◌≡◌, ◌++◌, ◌<◌, ℕ, List, Some, length, get_or, refl, ap, ap₂, ◌∙◌, subst, arith}
use Rattle.std.specs.Prelude.{slice_get}
use Rattle.std.proofs.lemmas.Option.{slice_get_read}
use Rattle.kex_sst.specs.Parts.{parts_code}
use Rattle.kex_sst.specs.Tables.{Row, Transducer}
use Rattle.kex_runner.specs.declared.answers.Ended.TheVariants.{Parsed, Cut}
use Rattle.kex_script.specs.Pieces.{code_over}
use Rattle.kex_runner.specs.declared.quiet.Guide.{Guide}
use Rattle.kex_runner.specs.Noting.{contents}
use Rattle.kex_runner.specs.Running.{RunnerEnds}
use Rattle.kex_runner.proofs.ByteSteps.{place_in_range, ending_none, ending_some}
use Rattle.kex_runner.proofs.FedRunners.{ends_dead, ends_cut, ends_parsed}
use Rattle.kex_runner.proofs.runner.Runner.end.Goals as goal

pub returns-then-self-clause-over : goal.returns-then-self-clause-over
returns-then-self-clause-over c =
    subst (λ z. RunnerEnds Cut z c.args.code.now c.spell.new.code) c.self.view_is (ends_dead (record { table = c.self.inside.table.now; words = c.self.inside.guide.script.words; state = c.self.inside.place.state; pending = code_over c.self.inside.guide.script.words c.self.inside.pending.items; registers = contents c.self.inside.guide.script c.self.inside.place.registers; read = c.self.inside.read; dead = c.self.inside.dead; ended = c.self.inside.ended; usable = c.self.inside.usable }) c.args.code.now c.spell.new.code c.if-self.true (c.in_ok-spell.ensures ∙ ap₂ (λ y z. c.args.code.now ++ code_over y z) (c.words.ensures ∙ ap (λ (g : Guide). g.script.words) c.get.ensures) c.deref.ensures.value))

pub bounds-states-self-inside : goal.bounds-states-self-inside
bounds-states-self-inside c = let lt = place_in_range c.self.invariant.0.sound.place in omega (arith, lt, ap length c.states-states.ensures.same)

-- the row of the state, where the code has read it
row_at : (table : Transducer) (states : List Row) (state : ℕ) (s : Row) → states ≡ table.states → s ≡ get_or states state s → state < length table.states → slice_get table.states state ≡ Some s
row_at table states state s e is lt = slice_get_read table.states (length table.states) state s refl lt (subst (λ z. s ≡ get_or z state s) e is)

pub returns-in-None-clause-over : goal.returns-in-None-clause-over
returns-in-None-clause-over c =
    let at = row_at c.self.inside.table.now c.states-states.result.now c.self.inside.place.state c.index-states-self.result c.states-states.ensures.same c.index-states-self.is (place_in_range c.self.invariant.0.sound.place) in
    subst (λ z. RunnerEnds Cut z c.args.code.now c.spell.new.code) c.self.view_is (ends_cut (record { table = c.self.inside.table.now; words = c.self.inside.guide.script.words; state = c.self.inside.place.state; pending = code_over c.self.inside.guide.script.words c.self.inside.pending.items; registers = contents c.self.inside.guide.script c.self.inside.place.registers; read = c.self.inside.read; dead = c.self.inside.dead; ended = c.self.inside.ended; usable = c.self.inside.usable }) c.args.code.now c.spell.new.code c.if-self.false (c.in_ok-spell.ensures ∙ ap₂ (λ y z. c.args.code.now ++ code_over y z) (c.words.ensures ∙ ap (λ (g : Guide). g.script.words) c.get.ensures) c.deref.ensures.value) (ending_none c.self.inside.table.now c.self.inside.place.state c.index-states-self.result at c.in-None.ensures))

pub returns-in_ok-spell-in-Some-clause-over : goal.returns-in_ok-spell-in-Some-clause-over
returns-in_ok-spell-in-Some-clause-over c =
    let at = row_at c.self.inside.table.now c.states-states.result.now c.self.inside.place.state c.index-states-self.result c.states-states.ensures.same c.index-states-self.is (place_in_range c.self.invariant.0.sound.place) in
    subst (λ z. RunnerEnds Parsed z c.args.code.now c.spell-in-Some.new.code) c.self.view_is
    (ends_parsed (record { table = c.self.inside.table.now; words = c.self.inside.guide.script.words; state = c.self.inside.place.state; pending = code_over c.self.inside.guide.script.words c.self.inside.pending.items; registers = contents c.self.inside.guide.script c.self.inside.place.registers; read = c.self.inside.read; dead = c.self.inside.dead; ended = c.self.inside.ended; usable = c.self.inside.usable }) c.in-Some.way.now c.args.code.now c.spell-in-Some.new.code c.if-self.false
    (c.in_ok-spell-in-Some.ensures.code ∙ ap (λ (g : Guide). c.spell.new.code ++ parts_code (contents g.script c.self.inside.place.registers) 0 c.as_slice.result.now) c.get.ensures ∙ ap (λ z. c.spell.new.code ++ parts_code (contents c.self.inside.guide.script c.self.inside.place.registers) 0 z) c.as_slice.ensures ∙ ap (λ z. z ++ parts_code (contents c.self.inside.guide.script c.self.inside.place.registers) 0 c.in-Some.way.now) (c.in_ok-spell.ensures ∙ ap₂ (λ y z. c.args.code.now ++ code_over y z) (c.words.ensures ∙ ap (λ (g : Guide). g.script.words) c.get.ensures) c.deref.ensures.value))
    (ending_some c.self.inside.table.now c.self.inside.place.state c.index-states-self.result c.in-Some.way.now at c.in-Some.ensures))
