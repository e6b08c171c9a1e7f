use Rattle.std.proofs.Common.{◌+◌, ◌*◌, [], ◌∷◌, ◌++◌, length, sym, ap, ◌∙◌, subst, Ok}
use Rattle.std.specs.Prelude.{OnOk}
use Rattle.kex_reader.specs.declared.reader.Phase.TheVariants as phases
use Rattle.kex_reader.specs.Syntax.{Stages, header, word}
use Rattle.kex_reader.specs.Reading.{words_read, step_within, StartLine, StageRead, StageNext, FirstName, Begin}
use Rattle.kex_reader.specs.Holding.{ShowsState}
use Rattle.kex_reader.specs.Stands.{NotesLeast}
use Rattle.kex_reader.specs.Asked.{state_asks}
use Rattle.kex_reader.proofs.MoreChecks.{same, on_same, on_from}
use Rattle.kex_reader.proofs.Asks.{quiet_begin, quiet_first, quiet_read, quiet_head, start_asks, next_asks, define_notes, stage_count, on_kind}
use Rattle.kex_reader.proofs.Programs.{to_state, state_wrong, name_then_other, name_then_is, read_other, read_pipe, read_name, head_other, head_define, state_begin, state_first, state_start, state_read, state_next, state_head, state_within, within_parts, start_steps, next_steps, start_place, next_place, head_place, head_read_steps, at_begin, at_first, at_start, at_read, at_next, at_head, at_within, place_of, begin_long, first_named, next_waits, head_named, some_inside}
use Rattle.kex_reader.proofs.Uses.{head_first, phase_as, reader_still, stage_then}
use Rattle.kex_reader.proofs.reader.Reader.step.Goals as goal

pub returns-in-Name-clause-step : goal.returns-in-Name-clause-step
returns-in-Name-clause-step c = λ at s st p.
    let e = state_begin c.args.self.now.draft at c.args.self.now.stack c.args.self.now.definitions.items c.args.self.now.stages.items s (subst (λ x. ShowsState c.args.self.now.draft at c.args.self.now.stack c.args.self.now.definitions.items c.args.self.now.stages.items x s) c.in-Begin.is st) in
    to_state c.args.self.now.draft at c.args.self.now.stack c.args.self.now.definitions.items c.args.self.now.stages.items _ _ _ (at_begin s (word c.args.word.kind c.args.word.spelling.now) e.0 ∙ name_then_is FirstName c.args.word.kind c.args.word.spelling.now c.in-Name.is) (first_named c.args.self.now.draft at c.args.self.now.stack c.args.self.now.definitions.items c.args.self.now.stages.items (record { bytes = c.args.word.spelling; at = c.args.word.at }) e.1 e.2 e.3 (place_of at c.args.word.at s Begin 0 e.0 begin_long p))

pub returns-in_default-clause-step : goal.returns-in_default-clause-step
returns-in_default-clause-step c = λ at s st p.
    let e = state_begin c.args.self.now.draft at c.args.self.now.stack c.args.self.now.definitions.items c.args.self.now.stages.items s (subst (λ x. ShowsState c.args.self.now.draft at c.args.self.now.stack c.args.self.now.definitions.items c.args.self.now.stages.items x s) c.in-Begin.is st) in
    to_state c.args.self.now.draft at c.args.self.now.stack c.args.self.now.definitions.items c.args.self.now.stages.items _ _ _ (at_begin s (word c.args.word.kind c.args.word.spelling.now) e.0 ∙ name_then_other FirstName c.args.word.kind c.args.word.spelling.now c.in_default.not-Name) (state_wrong c.args.self.now.draft at c.args.self.now.stack c.args.self.now.definitions.items c.args.self.now.stages.items)

pub returns-in-FirstName-clause-step : goal.returns-in-FirstName-clause-step
returns-in-FirstName-clause-step c = λ at s st p.
    let n = c.first.new.self in
    let e = state_first c.args.self.now.draft at c.args.self.now.stack c.args.self.now.definitions.items c.args.self.now.stages.items c.in-FirstName.first s (subst (λ x. ShowsState c.args.self.now.draft at c.args.self.now.stack c.args.self.now.definitions.items c.args.self.now.stages.items x s) c.in-FirstName.is st) in
    to_state n.draft at n.stack n.definitions.items n.stages.items _ _ _ (at_first s (word c.args.word.kind c.args.word.spelling.now) c.in-FirstName.first.bytes.now e) (c.first.ensures.step at c.in-FirstName.first.bytes.now c.args.word.spelling.now (subst (λ y. ShowsState c.args.self.now.draft at c.args.self.now.stack c.args.self.now.definitions.items c.args.self.now.stages.items (phases.FirstName c.in-FirstName.first) y) e (subst (λ x. ShowsState c.args.self.now.draft at c.args.self.now.stack c.args.self.now.definitions.items c.args.self.now.stages.items x s) c.in-FirstName.is st)))

pub returns-in-StartLine-clause-step : goal.returns-in-StartLine-clause-step
returns-in-StartLine-clause-step c = λ at s st p.
    let n = c.stage.new.self in
    let e = state_start c.args.self.now.draft at c.args.self.now.stack c.args.self.now.definitions.items c.args.self.now.stages.items s (subst (λ x. ShowsState c.args.self.now.draft at c.args.self.now.stack c.args.self.now.definitions.items c.args.self.now.stages.items x s) c.in-StartLine.is st) in
    to_state n.draft at n.stack n.definitions.items n.stages.items _ _ _ (at_start s (word c.args.word.kind c.args.word.spelling.now) e.0)
    (start_steps c.args.self.now.draft n.draft at c.args.self.now.stack n.stack c.args.self.now.definitions.items n.definitions.items c.args.self.now.stages.items n.stages.items c.args.word.kind c.args.word.spelling.now c.args.word.at c.stage.result c.stage.ensures.rest c.stage.ensures.read c.stage.ensures.fault e.1 e.2 e.3 (place_of at c.args.word.at s StartLine 2 e.0 start_place p))

pub returns-in-Pipe-clause-step : goal.returns-in-Pipe-clause-step
returns-in-Pipe-clause-step c = λ at s st p.
    let e = state_read c.args.self.now.draft at c.args.self.now.stack c.args.self.now.definitions.items c.args.self.now.stages.items s (subst (λ x. ShowsState c.args.self.now.draft at c.args.self.now.stack c.args.self.now.definitions.items c.args.self.now.stages.items x s) c.in-StageRead.is st) in
    to_state c.args.self.now.draft at c.args.self.now.stack c.args.self.now.definitions.items c.args.self.now.stages.items _ _ _ (at_read s (word c.args.word.kind c.args.word.spelling.now) e.0 e.1 e.2 ∙ read_pipe e.0 e.1 c.args.word.kind c.args.word.spelling.now c.in-Pipe.is) (next_waits c.args.self.now.draft at c.args.self.now.stack c.args.self.now.definitions.items c.args.self.now.stages.items e.0 e.1 e.3 e.4 e.5)

pub returns-in-Name-kind-clause-step : goal.returns-in-Name-kind-clause-step
returns-in-Name-kind-clause-step c = λ at s st p.
    let e = state_read c.args.self.now.draft at c.args.self.now.stack c.args.self.now.definitions.items c.args.self.now.stages.items s (subst (λ x. ShowsState c.args.self.now.draft at c.args.self.now.stack c.args.self.now.definitions.items c.args.self.now.stages.items x s) c.in-StageRead.is st) in
    to_state c.args.self.now.draft at c.args.self.now.stack c.args.self.now.definitions.items c.args.self.now.stages.items _ _ _ (at_read s (word c.args.word.kind c.args.word.spelling.now) e.0 e.1 e.2 ∙ read_name e.0 e.1 c.args.word.kind c.args.word.spelling.now c.in-Name-kind.is) (head_named c.args.self.now.draft at c.args.self.now.stack c.args.self.now.definitions.items c.args.self.now.stages.items e.0 e.1 (record { bytes = c.args.word.spelling; at = c.args.word.at }) e.3 e.4 e.5 (place_of at c.args.word.at s (StageRead e.0 e.1) (length (header (Stages e.0 e.1))) e.2 (head_place e.0 e.1) p))

pub returns-in_default-kind-clause-step : goal.returns-in_default-kind-clause-step
returns-in_default-kind-clause-step c = λ at s st p.
    let e = state_read c.args.self.now.draft at c.args.self.now.stack c.args.self.now.definitions.items c.args.self.now.stages.items s (subst (λ x. ShowsState c.args.self.now.draft at c.args.self.now.stack c.args.self.now.definitions.items c.args.self.now.stages.items x s) c.in-StageRead.is st) in
    to_state c.args.self.now.draft at c.args.self.now.stack c.args.self.now.definitions.items c.args.self.now.stages.items _ _ _ (at_read s (word c.args.word.kind c.args.word.spelling.now) e.0 e.1 e.2 ∙ read_other e.0 e.1 c.args.word.kind c.args.word.spelling.now c.in_default-kind.not-Pipe c.in_default-kind.not-Name) (state_wrong c.args.self.now.draft at c.args.self.now.stack c.args.self.now.definitions.items c.args.self.now.stages.items)

pub returns-in-StageNext-clause-step : goal.returns-in-StageNext-clause-step
returns-in-StageNext-clause-step c = λ at s st p.
    let n = c.stage-in-StageNext.new.self in
    let e = state_next c.args.self.now.draft at c.args.self.now.stack c.args.self.now.definitions.items c.args.self.now.stages.items s (subst (λ x. ShowsState c.args.self.now.draft at c.args.self.now.stack c.args.self.now.definitions.items c.args.self.now.stages.items x s) c.in-StageNext.is st) in
    to_state n.draft at n.stack n.definitions.items n.stages.items _ _ _ (at_next s (word c.args.word.kind c.args.word.spelling.now) e.0 e.1 e.2)
    (next_steps c.args.self.now.draft n.draft at c.args.self.now.stack n.stack c.args.self.now.definitions.items n.definitions.items c.args.self.now.stages.items n.stages.items e.0 e.1 c.args.word.kind c.args.word.spelling.now c.args.word.at c.stage-in-StageNext.result c.stage-in-StageNext.ensures.keeps c.stage-in-StageNext.ensures.rest c.stage-in-StageNext.ensures.read c.stage-in-StageNext.ensures.fault e.3 e.4 e.5 (place_of at c.args.word.at s (StageNext e.0 e.1) (2 + 2 * length (e.0 ∷ e.1)) e.2 (next_place e.0 e.1) p))

pub returns-in-Define-clause-step : goal.returns-in-Define-clause-step
returns-in-Define-clause-step c = λ at s st p.
    let n = c.head.new.self in
    let e = state_head c.args.self.now.draft at c.args.self.now.stack c.args.self.now.definitions.items c.args.self.now.stages.items c.in-HeadRead.head s (subst (λ x. ShowsState c.args.self.now.draft at c.args.self.now.stack c.args.self.now.definitions.items c.args.self.now.stages.items x s) c.in-HeadRead.is st) in
    to_state n.draft at n.stack n.definitions.items n.stages.items _ _ _ (at_head s (word c.args.word.kind c.args.word.spelling.now) e.0 c.in-HeadRead.head.bytes.now e.1 ∙ head_define e.0 c.in-HeadRead.head.bytes.now c.args.word.kind c.args.word.spelling.now c.in-Define.is)
    (head_read_steps c.args.self.now.draft n.draft at c.args.self.now.stack n.stack c.args.self.now.definitions.items n.definitions.items c.args.self.now.stages.items n.stages.items c.in-HeadRead.head e.0 c.head.result e.2 e.3 e.4 e.5 c.head.ensures.keeps c.head.ensures.rest c.head.ensures.phase c.head.ensures.fault)

pub returns-in_default-kind-2-clause-step : goal.returns-in_default-kind-2-clause-step
returns-in_default-kind-2-clause-step c = λ at s st p.
    let e = state_head c.args.self.now.draft at c.args.self.now.stack c.args.self.now.definitions.items c.args.self.now.stages.items c.in-HeadRead.head s (subst (λ x. ShowsState c.args.self.now.draft at c.args.self.now.stack c.args.self.now.definitions.items c.args.self.now.stages.items x s) c.in-HeadRead.is st) in
    to_state c.args.self.now.draft at c.args.self.now.stack c.args.self.now.definitions.items c.args.self.now.stages.items _ _ _ (at_head s (word c.args.word.kind c.args.word.spelling.now) e.0 c.in-HeadRead.head.bytes.now e.1 ∙ head_other e.0 c.in-HeadRead.head.bytes.now c.args.word.kind c.args.word.spelling.now c.in_default-kind-2.not-Define) (state_wrong c.args.self.now.draft at c.args.self.now.stack c.args.self.now.definitions.items c.args.self.now.stages.items)

pub returns-in-Define-kind-clause-step : goal.returns-in-Define-kind-clause-step
returns-in-Define-kind-clause-step c = λ at s st p.
    let n = c.next_definition.new.self in
    let here = (subst (λ x. ShowsState c.args.self.now.draft at c.args.self.now.stack c.args.self.now.definitions.items c.args.self.now.stages.items x s) c.in-Within.is st) in
    let e = state_within c.args.self.now.draft at c.args.self.now.stack c.args.self.now.definitions.items c.args.self.now.stages.items c.in-Within.head c.in-Within.wait s here in
    to_state n.draft at n.stack n.definitions.items n.stages.items _ _ _ (at_within s (word c.args.word.kind c.args.word.spelling.now) e.0 e.1 e.2 e.3 e.4 ∙ ap (λ k. step_within e.0 e.1 e.2 e.3.mode e.3.entries (word k c.args.word.spelling.now)) c.in-Define-kind.is)
    (c.next_definition.ensures.step at e.0 e.1 e.2 e.3 (subst (λ y. ShowsState c.args.self.now.draft at c.args.self.now.stack c.args.self.now.definitions.items c.args.self.now.stages.items (phases.Within c.in-Within.head c.in-Within.wait) y) e.4 here))

pub returns-in_default-kind-3-clause-step : goal.returns-in_default-kind-3-clause-step
returns-in_default-kind-3-clause-step c = λ at s st p.
    let n = c.go_on.new.self in
    let here = (subst (λ x. ShowsState c.args.self.now.draft at c.args.self.now.stack c.args.self.now.definitions.items c.args.self.now.stages.items x s) c.in-Within.is st) in
    let e = state_within c.args.self.now.draft at c.args.self.now.stack c.args.self.now.definitions.items c.args.self.now.stages.items c.in-Within.head c.in-Within.wait s here in
    to_state n.draft at n.stack n.definitions.items n.stages.items _ _ _ (at_within s (word c.args.word.kind c.args.word.spelling.now) e.0 e.1 e.2 e.3 e.4)
    (c.go_on.ensures.step at e.0 e.1 e.2 e.3 (subst (λ y. ShowsState c.args.self.now.draft at c.args.self.now.stack c.args.self.now.definitions.items c.args.self.now.stages.items (phases.Within c.in-Within.head c.in-Within.wait) y) e.4 here) c.in_default-kind-3.not-Define (p ∙ ap (λ y. at (length (words_read y))) e.4))

pub next_definition-requires : goal.next_definition-requires
next_definition-requires c = some_inside c.args.self.now.draft c.args.self.now.stack c.args.self.now.definitions.items c.args.self.now.stages.items c.args.phase c.in-Within.head c.in-Within.wait c.in-Within.is c.requires.some

pub go_on-requires : goal.go_on-requires
go_on-requires c = record { inside = some_inside c.args.self.now.draft c.args.self.now.stack c.args.self.now.definitions.items c.args.self.now.stages.items c.args.phase c.in-Within.head c.in-Within.wait c.in-Within.is c.requires.some; token = c.requires.token; place = c.requires.place }

pub returns-in-Name-clause-notes : goal.returns-in-Name-clause-notes
returns-in-Name-clause-notes c = λ at s cs st p n.
    let e = state_begin c.args.self.now.draft at c.args.self.now.stack c.args.self.now.definitions.items c.args.self.now.stages.items s (subst (λ x. ShowsState c.args.self.now.draft at c.args.self.now.stack c.args.self.now.definitions.items c.args.self.now.stages.items x s) c.in-Begin.is st) in
    subst (λ x. NotesLeast (cs ++ x) c.args.self.now.draft.broken) (quiet_begin at s (word c.args.word.kind c.args.word.spelling.now) e.0) (same cs c.args.self.now.draft.broken n)

pub returns-in-FirstName-clause-notes : goal.returns-in-FirstName-clause-notes
returns-in-FirstName-clause-notes c = λ at s cs st p n.
    let e = state_first c.args.self.now.draft at c.args.self.now.stack c.args.self.now.definitions.items c.args.self.now.stages.items c.in-FirstName.first s (subst (λ x. ShowsState c.args.self.now.draft at c.args.self.now.stack c.args.self.now.definitions.items c.args.self.now.stages.items x s) c.in-FirstName.is st) in
    on_from c.first.result cs [] _ c.first.new.self.draft.broken (quiet_first at s (word c.args.word.kind c.args.word.spelling.now) c.in-FirstName.first.bytes.now e) (on_same c.first.result cs c.args.self.now.draft.broken c.first.new.self.draft.broken c.first.ensures.broken n)

pub returns-in-StartLine-clause-notes : goal.returns-in-StartLine-clause-notes
returns-in-StartLine-clause-notes c = λ at s cs st p n.
    let e = state_start c.args.self.now.draft at c.args.self.now.stack c.args.self.now.definitions.items c.args.self.now.stages.items s (subst (λ x. ShowsState c.args.self.now.draft at c.args.self.now.stack c.args.self.now.definitions.items c.args.self.now.stages.items x s) c.in-StartLine.is st) in
    start_asks at s c.args.word.kind c.args.word.spelling.now c.args.word.at (length c.args.self.now.stages.items + 1) e.0 (place_of at c.args.word.at s StartLine 2 e.0 start_place p) (ap (λ x. length x + 1) e.3) cs c.stage.new.self.draft.broken c.stage.result (on_kind c.stage.result _ _ (λ p h. h.2) c.stage.ensures.read) (c.stage.ensures.notes cs n)

pub returns-in-Pipe-clause-notes : goal.returns-in-Pipe-clause-notes
returns-in-Pipe-clause-notes c = λ at s cs st p n.
    let e = state_read c.args.self.now.draft at c.args.self.now.stack c.args.self.now.definitions.items c.args.self.now.stages.items s (subst (λ x. ShowsState c.args.self.now.draft at c.args.self.now.stack c.args.self.now.definitions.items c.args.self.now.stages.items x s) c.in-StageRead.is st) in
    subst (λ x. NotesLeast (cs ++ x) c.args.self.now.draft.broken) (quiet_read at s (word c.args.word.kind c.args.word.spelling.now) e.0 e.1 e.2) (same cs c.args.self.now.draft.broken n)

pub returns-in-Name-kind-clause-notes : goal.returns-in-Name-kind-clause-notes
returns-in-Name-kind-clause-notes c = λ at s cs st p n.
    let e = state_read c.args.self.now.draft at c.args.self.now.stack c.args.self.now.definitions.items c.args.self.now.stages.items s (subst (λ x. ShowsState c.args.self.now.draft at c.args.self.now.stack c.args.self.now.definitions.items c.args.self.now.stages.items x s) c.in-StageRead.is st) in
    subst (λ x. NotesLeast (cs ++ x) c.args.self.now.draft.broken) (quiet_read at s (word c.args.word.kind c.args.word.spelling.now) e.0 e.1 e.2) (same cs c.args.self.now.draft.broken n)

pub returns-in-StageNext-clause-notes : goal.returns-in-StageNext-clause-notes
returns-in-StageNext-clause-notes c = λ at s cs st p n.
    let e = state_next c.args.self.now.draft at c.args.self.now.stack c.args.self.now.definitions.items c.args.self.now.stages.items s (subst (λ x. ShowsState c.args.self.now.draft at c.args.self.now.stack c.args.self.now.definitions.items c.args.self.now.stages.items x s) c.in-StageNext.is st) in
    next_asks at s e.0 e.1 c.args.word.kind c.args.word.spelling.now c.args.word.at (length c.args.self.now.stages.items + 1) e.2 (place_of at c.args.word.at s (StageNext e.0 e.1) (2 + 2 * length (e.0 ∷ e.1)) e.2 (next_place e.0 e.1) p) (stage_count (e.0 ∷ e.1) c.args.self.now.draft at c.args.self.now.stages.items 2 e.5) cs c.stage-in-StageNext.new.self.draft.broken c.stage-in-StageNext.result (on_kind c.stage-in-StageNext.result _ _ (λ p h. h.2) c.stage-in-StageNext.ensures.read) (c.stage-in-StageNext.ensures.notes cs n)

pub returns-in-Define-clause-notes : goal.returns-in-Define-clause-notes
returns-in-Define-clause-notes c = λ at s cs st p n.
    let e = state_head c.args.self.now.draft at c.args.self.now.stack c.args.self.now.definitions.items c.args.self.now.stages.items c.in-HeadRead.head s (subst (λ x. ShowsState c.args.self.now.draft at c.args.self.now.stack c.args.self.now.definitions.items c.args.self.now.stages.items x s) c.in-HeadRead.is st) in
    on_from c.head.result cs [] _ c.head.new.self.draft.broken (quiet_head at s (word c.args.word.kind c.args.word.spelling.now) e.0 c.in-HeadRead.head.bytes.now e.1) (on_same c.head.result cs c.args.self.now.draft.broken c.head.new.self.draft.broken c.head.ensures.broken n)

pub returns-in-Define-kind-clause-notes : goal.returns-in-Define-kind-clause-notes
returns-in-Define-kind-clause-notes c = λ at s cs st p n.
    let e = state_within c.args.self.now.draft at c.args.self.now.stack c.args.self.now.definitions.items c.args.self.now.stages.items c.in-Within.head c.in-Within.wait s (subst (λ x. ShowsState c.args.self.now.draft at c.args.self.now.stack c.args.self.now.definitions.items c.args.self.now.stages.items x s) c.in-Within.is st) in
    let st' = subst (λ y. ShowsState c.args.self.now.draft at c.args.self.now.stack c.args.self.now.definitions.items c.args.self.now.stages.items (phases.Within c.in-Within.head c.in-Within.wait) y) e.4 (subst (λ x. ShowsState c.args.self.now.draft at c.args.self.now.stack c.args.self.now.definitions.items c.args.self.now.stages.items x s) c.in-Within.is st) in
    let q = within_parts c.args.self.now.draft at c.args.self.now.stack c.args.self.now.definitions.items c.args.self.now.stages.items c.in-Within.head c.in-Within.wait e.0 e.1 e.2 e.3 st' in
    define_notes at s e.0 e.1 e.2 e.3 c.args.word.kind c.args.word.spelling.now e.4 c.in-Define-kind.is cs c.next_definition.new.self.draft.broken c.next_definition.new.self.draft c.next_definition.new.self.stack c.next_definition.new.self.definitions.items c.next_definition.new.self.stages.items c.next_definition.result (c.next_definition.ensures.step at e.0 e.1 e.2 e.3 st') (on_same c.next_definition.result cs c.args.self.now.draft.broken c.next_definition.new.self.draft.broken c.next_definition.ensures.broken n)

pub returns-in_default-kind-3-clause-notes : goal.returns-in_default-kind-3-clause-notes
returns-in_default-kind-3-clause-notes c = λ at s cs st p n.
    let e = state_within c.args.self.now.draft at c.args.self.now.stack c.args.self.now.definitions.items c.args.self.now.stages.items c.in-Within.head c.in-Within.wait s (subst (λ x. ShowsState c.args.self.now.draft at c.args.self.now.stack c.args.self.now.definitions.items c.args.self.now.stages.items x s) c.in-Within.is st) in
    subst (λ y. OnOk c.go_on.result (NotesLeast (cs ++ state_asks at y (word c.args.word.kind c.args.word.spelling.now)) c.go_on.new.self.draft.broken)) (sym e.4) (c.go_on.ensures.notes at e.0 e.1 e.2 e.3 (subst (λ y. ShowsState c.args.self.now.draft at c.args.self.now.stack c.args.self.now.definitions.items c.args.self.now.stages.items (phases.Within c.in-Within.head c.in-Within.wait) y) e.4 (subst (λ x. ShowsState c.args.self.now.draft at c.args.self.now.stack c.args.self.now.definitions.items c.args.self.now.stages.items x s) c.in-Within.is st)) (p ∙ ap (λ y. at (length (words_read y))) e.4) cs n)

pub returns-in-Name-clause-held : goal.returns-in-Name-clause-held
returns-in-Name-clause-held c = phase_as c.args.phase phases.Begin c.args.self.now c.args.self.now (Ok (phases.FirstName (record { bytes = c.args.word.spelling; at = c.args.word.at }))) c.in-Begin.is (reader_still c.args.self.now phases.Begin (phases.FirstName (record { bytes = c.args.word.spelling; at = c.args.word.at })) (λ x z. z))

pub returns-in-FirstName-clause-held : goal.returns-in-FirstName-clause-held
returns-in-FirstName-clause-held c = phase_as c.args.phase _ c.args.self.now c.first.new.self c.first.result c.in-FirstName.is c.first.ensures.held

pub returns-in-StartLine-clause-held : goal.returns-in-StartLine-clause-held
returns-in-StartLine-clause-held c = phase_as c.args.phase phases.StartLine c.args.self.now c.stage.new.self c.stage.result c.in-StartLine.is (stage_then c.stage.result c.args.self.now c.stage.new.self phases.StartLine (λ x z. z) c.stage.ensures.keeps c.stage.ensures.held c.stage.ensures.rest)

pub returns-in-Pipe-clause-held : goal.returns-in-Pipe-clause-held
returns-in-Pipe-clause-held c = phase_as c.args.phase phases.StageRead c.args.self.now c.args.self.now (Ok phases.StageNext) c.in-StageRead.is (reader_still c.args.self.now phases.StageRead phases.StageNext (λ x z. z))

pub returns-in-Name-kind-clause-held : goal.returns-in-Name-kind-clause-held
returns-in-Name-kind-clause-held c = phase_as c.args.phase phases.StageRead c.args.self.now c.args.self.now (Ok (phases.HeadRead (record { bytes = c.args.word.spelling; at = c.args.word.at }))) c.in-StageRead.is (reader_still c.args.self.now phases.StageRead (phases.HeadRead (record { bytes = c.args.word.spelling; at = c.args.word.at })) (λ x z. z))

pub returns-in-StageNext-clause-held : goal.returns-in-StageNext-clause-held
returns-in-StageNext-clause-held c = phase_as c.args.phase phases.StageNext c.args.self.now c.stage-in-StageNext.new.self c.stage-in-StageNext.result c.in-StageNext.is (stage_then c.stage-in-StageNext.result c.args.self.now c.stage-in-StageNext.new.self phases.StageNext (λ x z. z) c.stage-in-StageNext.ensures.keeps c.stage-in-StageNext.ensures.held c.stage-in-StageNext.ensures.rest)

pub returns-in-Define-clause-held : goal.returns-in-Define-clause-held
returns-in-Define-clause-held c = phase_as c.args.phase (phases.HeadRead c.in-HeadRead.head) c.args.self.now c.head.new.self c.head.result c.in-HeadRead.is (head_first c.head.result c.args.self.now c.head.new.self (phases.HeadRead c.in-HeadRead.head) (λ x z. z) c.head.ensures.keeps c.head.ensures.rest c.head.ensures.held)

pub returns-in-Define-kind-clause-held : goal.returns-in-Define-kind-clause-held
returns-in-Define-kind-clause-held c = phase_as c.args.phase _ c.args.self.now c.next_definition.new.self c.next_definition.result c.in-Within.is c.next_definition.ensures.held

pub returns-in_default-kind-3-clause-held : goal.returns-in_default-kind-3-clause-held
returns-in_default-kind-3-clause-held c = phase_as c.args.phase _ c.args.self.now c.go_on.new.self c.go_on.result c.in-Within.is c.go_on.ensures.held
