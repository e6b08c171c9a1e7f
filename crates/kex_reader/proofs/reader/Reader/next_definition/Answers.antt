use Rattle.std.proofs.Common.{◌+◌, length, ap, ◌∙◌, subst, inl, inr}
use Rattle.kex_reader.specs.declared.inside.TermWait.TheVariants as waits
use Rattle.kex_reader.specs.Reading.{take_term, entries, before, Named}
use Rattle.kex_reader.specs.Holding.{whole_term}
use Rattle.kex_reader.specs.Stands.{ShowsMode}
use Rattle.kex_reader.proofs.Modes.{mode_named}
use Rattle.kex_reader.proofs.Programs.{to_state, state_wrong, on_head_is, define_none, define_named, within_parts, next_definition_steps, next_wrong_steps, whole_long, not_head, needed_name}
use Rattle.kex_reader.proofs.Uses.{ended_left, head_then, held_as}
use Rattle.kex_reader.proofs.reader.Reader.next_definition.Goals as goal

pub returns-in_default-clause-step : goal.returns-in_default-clause-step
returns-in_default-clause-step c = λ at h done name i st.
    let q = within_parts c.args.self.now.draft at c.args.self.now.stack c.args.self.now.definitions.items c.args.self.now.stages.items c.args.head c.args.wait h done name i st in
    to_state c.args.self.now.draft at c.args.self.now.stack c.args.self.now.definitions.items c.args.self.now.stages.items _ _ _ (define_none h done name i.mode i.entries (not_head c.args.self.now.draft at _ c.args.wait i.mode c.in_default.not-Named q.4.mode)) (state_wrong c.args.self.now.draft at c.args.self.now.stack c.args.self.now.definitions.items c.args.self.now.stages.items)

pub returns-then-not-free-clause-step : goal.returns-then-not-free-clause-step
returns-then-not-free-clause-step c = λ at h done name i st.
    let q = within_parts c.args.self.now.draft at c.args.self.now.stack c.args.self.now.definitions.items c.args.self.now.stages.items c.args.head c.args.wait h done name i st in
    let i' = length (before h done name) + length (entries i.entries) in
    let here = subst (λ w. ShowsMode c.args.self.now.draft at i' w i.mode) (c.in-Named.is ∙ ap (λ f. waits.Named f c.in-Named.name) c.if-not-free.true) q.4.mode in
    to_state c.args.self.now.draft at c.args.self.now.stack c.args.self.now.definitions.items c.args.self.now.stages.items _ _ _ (define_none h done name i.mode i.entries (needed_name c.args.self.now.draft at i' c.in-Named.name i.mode here)) (state_wrong c.args.self.now.draft at c.args.self.now.stack c.args.self.now.definitions.items c.args.self.now.stages.items)

pub returns-in-Ok-clause-step : goal.returns-in-Ok-clause-step
returns-in-Ok-clause-step c = λ at h done name i st.
    let q = within_parts c.args.self.now.draft at c.args.self.now.stack c.args.self.now.definitions.items c.args.self.now.stages.items c.args.head c.args.wait h done name i st in
    let base = length (before h done name) in
    let i' = base + length (entries i.entries) in
    let m = mode_named c.args.self.now.draft at i' c.in-Named.free c.in-Named.name i.mode (subst (λ w. ShowsMode c.args.self.now.draft at i' w i.mode) c.in-Named.is q.4.mode) in
    let e = c.end.new.self in
    let n = c.head.new.self in
    to_state n.draft at n.stack n.definitions.items n.stages.items _ _ _ (define_named h done name c.in-Named.name.bytes.now i.mode i.entries (m.0 ∙ ap (λ f. Named f c.in-Named.name.bytes.now) c.if-not-free.false) ∙ on_head_is h done name c.in-Named.name.bytes.now (take_term i.entries))
    (next_definition_steps c.args.self.now.draft e.draft n.draft at c.args.self.now.stack e.stack n.stack c.args.self.now.definitions.items e.definitions.items n.definitions.items c.args.self.now.stages.items e.stages.items n.stages.items c.args.head c.in-Named.name h done name (whole_term (take_term i.entries)) c.head.result q.0 q.1 q.2 q.3
    c.in-Ok.ensures.keeps c.in-Ok.ensures.stages (c.in-Ok.ensures.ends at base i.entries q.4.below) (λ t z. m.1 ∙ ap (λ x. at (base + x)) (whole_long i.entries t z)) c.head.ensures.keeps c.head.ensures.rest c.head.ensures.phase c.head.ensures.fault)

pub returns-in-Err-clause-step : goal.returns-in-Err-clause-step
returns-in-Err-clause-step c = λ at h done name i st.
    let q = within_parts c.args.self.now.draft at c.args.self.now.stack c.args.self.now.definitions.items c.args.self.now.stages.items c.args.head c.args.wait h done name i st in
    let base = length (before h done name) in
    let i' = base + length (entries i.entries) in
    let m = mode_named c.args.self.now.draft at i' c.in-Named.free c.in-Named.name i.mode (subst (λ w. ShowsMode c.args.self.now.draft at i' w i.mode) c.in-Named.is q.4.mode) in
    let e = c.end.new.self in
    to_state e.draft at e.stack e.definitions.items e.stages.items _ _ _ (define_named h done name c.in-Named.name.bytes.now i.mode i.entries (m.0 ∙ ap (λ f. Named f c.in-Named.name.bytes.now) c.if-not-free.false) ∙ on_head_is h done name c.in-Named.name.bytes.now (take_term i.entries))
    (next_wrong_steps e.draft at e.stack c.args.self.now.definitions.items e.definitions.items e.definitions.items e.stages.items h done name c.in-Named.name.bytes.now c.args.head.name c.args.head.at base c.in-Err.fault (whole_term (take_term i.entries)) (c.in-Err.ensures.ends at base i.entries q.4.below))

pub end-requires : goal.end-requires
end-requires c = let r = c.requires in (r.0, r.1, r.2.entries, r.3.below)

pub returns-in-Ok-clause-held : goal.returns-in-Ok-clause-held
returns-in-Ok-clause-held c = head_then c.head.result c.args.self.now.draft c.end.new.self c.head.new.self _ c.in-Ok.ensures.keeps (held_as _ _ _ _ _ _ (λ x h. h) (λ x l. inr l) (ended_left c.args.self.now c.end.new.self c.args.head c.args.wait _ _ c.in-Named.is (λ x h. elim h [ inl i ↦ i | inr z ↦ absurd z ]) c.in-Ok.ensures.stages c.in-Ok.ensures.held)) c.head.ensures.keeps c.head.ensures.rest c.head.ensures.held
