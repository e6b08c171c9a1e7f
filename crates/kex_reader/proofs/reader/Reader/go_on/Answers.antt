use Rattle.std.proofs.Common.{◌++◌, length, ap, ◌∙◌, subst, refl}
use Rattle.std.specs.Prelude.{OnOk}
use Rattle.kex_reader.specs.Syntax.{word}
use Rattle.kex_reader.specs.Reading.{before, Within}
use Rattle.kex_reader.specs.Stands.{NotesLeast}
use Rattle.kex_reader.specs.Asked.{state_asks}
use Rattle.kex_reader.proofs.MoreChecks.{on_from}
use Rattle.kex_reader.proofs.Asks.{within_asks}
use Rattle.kex_reader.proofs.Programs.{to_state, lift_ok, lift_err, within_other, within_parts, within_place}
use Rattle.kex_reader.proofs.Uses.{inside_then}
use Rattle.kex_reader.proofs.reader.Reader.go_on.Goals as goal

pub returns-in-Ok-clause-step : goal.returns-in-Ok-clause-step
returns-in-Ok-clause-step c = λ at h done name i st nd p.
    let q = within_parts c.args.self.now.draft at c.args.self.now.stack c.args.self.now.definitions.items c.args.self.now.stages.items c.args.head c.args.wait h done name i st in
    let n = c.step_in.new in
    to_state n.draft at n.stack c.args.self.now.definitions.items c.args.self.now.stages.items _ _ _ (within_other h done name i.mode i.entries c.args.word.kind c.args.word.spelling.now nd)
    (lift_ok c.args.self.now.draft n.draft at n.stack c.args.self.now.definitions.items c.args.self.now.stages.items c.args.head h done name c.step_in.result _ c.in-Ok.next c.in-Ok.is c.step_in.ensures.keeps q.0 q.1 q.2 q.3 (c.step_in.ensures.step at (length (before h done name)) i q.4 (p ∙ ap at (within_place h done name i))))

pub returns-in-Err-clause-step : goal.returns-in-Err-clause-step
returns-in-Err-clause-step c = λ at h done name i st nd p.
    let q = within_parts c.args.self.now.draft at c.args.self.now.stack c.args.self.now.definitions.items c.args.self.now.stages.items c.args.head c.args.wait h done name i st in
    let n = c.step_in.new in
    to_state n.draft at n.stack c.args.self.now.definitions.items c.args.self.now.stages.items _ _ _ (within_other h done name i.mode i.entries c.args.word.kind c.args.word.spelling.now nd)
    (lift_err c.args.self.now.draft n.draft at n.stack c.args.self.now.definitions.items c.args.self.now.stages.items c.args.head h done name c.step_in.result _ c.in-Err.fault c.in-Err.is q.0 q.1 q.2 q.3 (c.step_in.ensures.step at (length (before h done name)) i q.4 (p ∙ ap at (within_place h done name i))))

pub returns-in-Ok-clause-notes : goal.returns-in-Ok-clause-notes
returns-in-Ok-clause-notes c = λ at h done name i st p cs n.
    let q = within_parts c.args.self.now.draft at c.args.self.now.stack c.args.self.now.definitions.items c.args.self.now.stages.items c.args.head c.args.wait h done name i st in
    subst (λ r. OnOk r (NotesLeast (cs ++ state_asks at (Within h done name i) (word c.args.word.kind c.args.word.spelling.now)) c.step_in.new.draft.broken)) c.in-Ok.is
    (on_from c.step_in.result cs _ _ c.step_in.new.draft.broken (within_asks at h done name i (word c.args.word.kind c.args.word.spelling.now)) (c.step_in.ensures.notes at (length (before h done name)) i q.4 (p ∙ ap at (within_place h done name i)) cs n))

pub returns-in-Ok-clause-held : goal.returns-in-Ok-clause-held
returns-in-Ok-clause-held c = inside_then c.args.self.now (record c.args.self.now { draft = c.step_in.new.draft; stack = c.step_in.new.stack }) c.args.head c.args.wait c.in-Ok.next refl refl c.in-Ok.ensures.keeps c.in-Ok.ensures.held
