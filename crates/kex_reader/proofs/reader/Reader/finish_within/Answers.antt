use Rattle.std.proofs.Common.{◌+◌, length, subst, inl, inr}
use Rattle.kex_reader.specs.Reading.{entries, before}
use Rattle.kex_reader.specs.Stands.{ShowsMode}
use Rattle.kex_reader.proofs.Modes.{mode_ready, mode_after, mode_turned, mode_named, some_atom, some_turned, some_name}
use Rattle.kex_reader.proofs.Programs.{within_parts, finish_of, to_finish, finish_wrong, finish_ready, finish_after, finish_turned, finish_named, finish_other}
use Rattle.kex_reader.proofs.Uses.{end_then}
use Rattle.kex_reader.proofs.reader.Reader.finish_within.Goals as goal

pub returns-in-Ready-clause-ends : goal.returns-in-Ready-clause-ends
returns-in-Ready-clause-ends c = λ at h done name i st.
    let q = within_parts c.args.self.now.draft at c.args.self.now.stack c.args.self.now.definitions.items c.args.self.now.stages.items c.args.head c.args.wait h done name i st in
    let base = length (before h done name) in
    let i' = base + length (entries i.entries) in
    let here = subst (λ w. ShowsMode c.args.self.now.draft at i' w i.mode) c.in-Ready.is q.4.mode in
    let n = c.end.new.self in
    to_finish n.draft at n.definitions.items n.stages.items _ _ _ (finish_ready h done name i.mode i.entries (mode_ready c.args.self.now.draft at i' i.mode here))
    (finish_of c.args.self.now.draft n.draft at n.stack c.args.self.now.definitions.items n.definitions.items c.args.self.now.stages.items n.stages.items c.args.head h done name c.end.result _ q.0 q.1 q.2 q.3 c.end.ensures.keeps c.end.ensures.stages (c.end.ensures.ends at base i.entries q.4.below))

pub returns-in-After-clause-ends : goal.returns-in-After-clause-ends
returns-in-After-clause-ends c = λ at h done name i st.
    let q = within_parts c.args.self.now.draft at c.args.self.now.stack c.args.self.now.definitions.items c.args.self.now.stages.items c.args.head c.args.wait h done name i st in
    let base = length (before h done name) in
    let i' = base + length (entries i.entries) in
    let here = subst (λ w. ShowsMode c.args.self.now.draft at i' w i.mode) c.in-After.is q.4.mode in
    let n = c.end_with.new.self in
    let m = mode_after c.args.self.now.draft at i' c.in-After.item i.mode here in
    to_finish n.draft at n.definitions.items n.stages.items _ _ _ (finish_after h done name i.mode m.0 i.entries m.1)
    (finish_of c.args.self.now.draft n.draft at n.stack c.args.self.now.definitions.items n.definitions.items c.args.self.now.stages.items n.stages.items c.args.head h done name c.end_with.result _ q.0 q.1 q.2 q.3 c.end_with.ensures.keeps c.end_with.ensures.stages (c.end_with.ensures.ends at base i.entries m.0 q.4.below m.2 m.3))

pub returns-in-Turned-clause-ends : goal.returns-in-Turned-clause-ends
returns-in-Turned-clause-ends c = λ at h done name i st.
    let q = within_parts c.args.self.now.draft at c.args.self.now.stack c.args.self.now.definitions.items c.args.self.now.stages.items c.args.head c.args.wait h done name i st in
    let base = length (before h done name) in
    let i' = base + length (entries i.entries) in
    let here = subst (λ w. ShowsMode c.args.self.now.draft at i' w i.mode) c.in-Turned.is q.4.mode in
    let n = c.end_turned.new.self in
    let m = mode_turned c.args.self.now.draft at i' c.in-Turned.item c.in-Turned.bounds i.mode here in
    to_finish n.draft at n.definitions.items n.stages.items _ _ _ (finish_turned h done name i.mode m.0 m.1 i.entries m.2)
    (finish_of c.args.self.now.draft n.draft at n.stack c.args.self.now.definitions.items n.definitions.items c.args.self.now.stages.items n.stages.items c.args.head h done name c.end_turned.result _ q.0 q.1 q.2 q.3 c.end_turned.ensures.keeps c.end_turned.ensures.stages (c.end_turned.ensures.ends at base i.entries m.0 m.1 q.4.below m.3 m.4 m.5))

pub returns-in-Named-clause-ends : goal.returns-in-Named-clause-ends
returns-in-Named-clause-ends c = λ at h done name i st.
    let q = within_parts c.args.self.now.draft at c.args.self.now.stack c.args.self.now.definitions.items c.args.self.now.stages.items c.args.head c.args.wait h done name i st in
    let base = length (before h done name) in
    let i' = base + length (entries i.entries) in
    let here = subst (λ w. ShowsMode c.args.self.now.draft at i' w i.mode) c.in-Named.is q.4.mode in
    let n = c.end_call.new.self in
    let m = mode_named c.args.self.now.draft at i' c.in-Named.field-0 c.in-Named.name i.mode here in
    to_finish n.draft at n.definitions.items n.stages.items _ _ _ (finish_named h done name i.mode c.in-Named.field-0 c.in-Named.name.bytes.now i.entries m.0)
    (finish_of c.args.self.now.draft n.draft at n.stack c.args.self.now.definitions.items n.definitions.items c.args.self.now.stages.items n.stages.items c.args.head h done name c.end_call.result _ q.0 q.1 q.2 q.3 c.end_call.ensures.keeps c.end_call.ensures.stages (c.end_call.ensures.ends at base i.entries q.4.below m.1))

pub returns : goal.returns
returns c = record {
  broken = tt;
  held = tt;
  ends = λ at h done name i st.
      let q = within_parts c.args.self.now.draft at c.args.self.now.stack c.args.self.now.definitions.items c.args.self.now.stages.items c.args.head c.args.wait h done name i st in
      to_finish c.args.self.now.draft at c.args.self.now.definitions.items c.args.self.now.stages.items _ _ _ (finish_other c.args.self.now.draft at _ c.args.wait i.mode h done name i.entries c.in_default.not-Ready c.in_default.not-After c.in_default.not-Turned c.in_default.not-Named q.4.mode) (finish_wrong c.args.self.now.draft at c.args.self.now.definitions.items c.args.self.now.stages.items);
}

pub end-requires : goal.end-requires
end-requires c = let r = c.requires in (r.0, r.1, r.2.entries, r.3.below)

pub end_with-requires : goal.end_with-requires
end_with-requires c = some_atom c.args.self.now.draft c.args.self.now.stack c.args.wait c.in-After.item c.in-After.is c.requires

pub end_turned-requires : goal.end_turned-requires
end_turned-requires c = some_turned c.args.self.now.draft c.args.self.now.stack c.args.wait c.in-Turned.item c.in-Turned.bounds c.in-Turned.is c.requires

pub end_call-requires : goal.end_call-requires
end_call-requires c = some_name c.args.self.now.draft c.args.self.now.stack c.args.wait c.in-Named.field-0 c.in-Named.name c.in-Named.is c.requires

pub returns-in-Ready-clause-held : goal.returns-in-Ready-clause-held
returns-in-Ready-clause-held c = end_then c.end.result c.args.self.now c.end.new.self c.args.head c.args.wait _ _ c.in-Ready.is (λ x h. elim h [ inl i ↦ i | inr z ↦ absurd z ]) c.end.ensures.keeps c.end.ensures.stages c.end.ensures.held

pub returns-in-After-clause-held : goal.returns-in-After-clause-held
returns-in-After-clause-held c = end_then c.end_with.result c.args.self.now c.end_with.new.self c.args.head c.args.wait _ _ c.in-After.is (λ x h. elim h [ inl i ↦ inr i | inr e ↦ inl e ]) c.end_with.ensures.keeps c.end_with.ensures.stages c.end_with.ensures.held

pub returns-in-Turned-clause-held : goal.returns-in-Turned-clause-held
returns-in-Turned-clause-held c = end_then c.end_turned.result c.args.self.now c.end_turned.new.self c.args.head c.args.wait _ _ c.in-Turned.is (λ x h. elim h [ inl i ↦ inr i | inr e ↦ inl e ]) c.end_turned.ensures.keeps c.end_turned.ensures.stages c.end_turned.ensures.held

pub returns-in-Named-clause-held : goal.returns-in-Named-clause-held
returns-in-Named-clause-held c = end_then c.end_call.result c.args.self.now c.end_call.new.self c.args.head c.args.wait _ _ c.in-Named.is (λ x h. elim h [ inl i ↦ i | inr z ↦ absurd z ]) c.end_call.ensures.keeps c.end_call.ensures.stages c.end_call.ensures.held
