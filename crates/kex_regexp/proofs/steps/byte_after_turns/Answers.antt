use Rattle.std.proofs.Common.{◌∷◌, true, false, inl}
use Rattle.kex_regexp.specs.declared.wait.Wait.TheVariants as waits
use Rattle.kex_regexp.specs.Grammar.{Turns}
use Rattle.kex_regexp.specs.Machine.{Read}
use Rattle.kex_regexp.proofs.ShownSteps.{eager_ends, memory_exit, ready_steps, to, turned_lazy, turned_other}
use Rattle.kex_regexp.proofs.Bounds.{some_piece}
use Rattle.kex_regexp.proofs.Parents.{held_as, piece_then}
use Rattle.kex_regexp.proofs.steps.byte_after_turns.Goals as goal

pub returns-in_err-end_turns-clause-step : goal.returns-in_err-end_turns-clause-step
returns-in_err-end_turns-clause-step c = λ base es i p h a x t b. memory_exit _ _ _ c.from_residual.result c.from_residual.ensures.1 _

pub returns-then-byte-eq63-clause-nodes : goal.returns-then-byte-eq63-clause-nodes
returns-then-byte-eq63-clause-nodes c = held_as _ _ _ _ _ _ (λ n h. h) (λ n h. inl h) c.in_ok-end_turns.ensures.nodes

pub returns-then-byte-eq63-clause-step : goal.returns-then-byte-eq63-clause-step
returns-then-byte-eq63-clause-step c = λ base es i p h a x t b. to _ base _ _ _ _ (turned_lazy i p es c.args.byte c.if-byte-eq63.true) (ready_steps _ base _ (Read (Turns i p true) ∷ es) (c.in_ok-end_turns.ensures.shows base es i p h a x t))

pub returns-in_err-end_turns-2-clause-step : goal.returns-in_err-end_turns-2-clause-step
returns-in_err-end_turns-2-clause-step c = λ base es i p h a x t b. memory_exit _ _ _ c.from_residual-in_err-end_turns-2.result c.from_residual-in_err-end_turns-2.ensures.1 _

pub begin-requires : goal.begin-requires
begin-requires c = some_piece _ _ c.args.constructs.now.items c.end_turns-2.new.constructs.items c.args.turns _ c.requires c.in_ok-end_turns-2.ensures.shows

pub returns-clause-nodes : goal.returns-clause-nodes
returns-clause-nodes c = piece_then c.begin.result _ _ _ c.args.constructs.now.items c.end_turns-2.new.constructs.items c.begin.new.constructs.items (waits.Turned c.args.turns) c.begin.ensures.adds c.in_ok-end_turns-2.ensures.nodes c.begin.ensures.nodes

pub returns-clause-step : goal.returns-clause-step
returns-clause-step c = λ base es i p h a x t b. to _ base _ _ _ _ (turned_other i p es c.args.byte c.if-byte-eq63.false) (c.begin.ensures.step base (Read (Turns i p false) ∷ es) (c.in_ok-end_turns-2.ensures.shows base es i p h a x t) (eager_ends base _ _ es i p a b))
