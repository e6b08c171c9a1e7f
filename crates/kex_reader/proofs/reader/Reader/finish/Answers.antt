use Rattle.std.proofs.Common.{subst}
use Rattle.kex_reader.specs.declared.reader.Phase.TheVariants as phases
use Rattle.kex_reader.specs.Holding.{ShowsState}
use Rattle.kex_reader.proofs.Programs.{state_within, to_finish, finish_wrong, some_inside, end_begin, end_read, end_within, end_other}
use Rattle.kex_reader.proofs.Uses.{finish_as, finish_begun, finish_read}
use Rattle.kex_reader.proofs.reader.Reader.finish.Goals as goal

pub returns-in-Begin-clause-ends : goal.returns-in-Begin-clause-ends
returns-in-Begin-clause-ends c = λ at s st. end_begin c.args.self.now.draft at c.args.self.now.stack c.args.self.now.definitions.items c.args.self.now.stages.items s (subst (λ x. ShowsState c.args.self.now.draft at c.args.self.now.stack c.args.self.now.definitions.items c.args.self.now.stages.items x s) c.in-Begin.is st)

pub returns-in-StageRead-clause-ends : goal.returns-in-StageRead-clause-ends
returns-in-StageRead-clause-ends c = λ at s st. end_read c.args.self.now.draft at c.args.self.now.stack c.args.self.now.definitions.items c.args.self.now.stages.items s (subst (λ x. ShowsState c.args.self.now.draft at c.args.self.now.stack c.args.self.now.definitions.items c.args.self.now.stages.items x s) c.in-StageRead.is st)

pub returns-in-Within-clause-ends : goal.returns-in-Within-clause-ends
returns-in-Within-clause-ends c = λ at s st.
    let n = c.finish_within.new.self in
    let here = (subst (λ x. ShowsState c.args.self.now.draft at c.args.self.now.stack c.args.self.now.definitions.items c.args.self.now.stages.items x s) c.in-Within.is st) in
    let e = state_within c.args.self.now.draft at c.args.self.now.stack c.args.self.now.definitions.items c.args.self.now.stages.items c.in-Within.head c.in-Within.wait s here in
    to_finish n.draft at n.definitions.items n.stages.items _ _ _ (end_within s e.0 e.1 e.2 e.3 e.4) (c.finish_within.ensures.ends at e.0 e.1 e.2 e.3 (subst (λ y. ShowsState c.args.self.now.draft at c.args.self.now.stack c.args.self.now.definitions.items c.args.self.now.stages.items (phases.Within c.in-Within.head c.in-Within.wait) y) e.4 here))

pub returns-in_default-clause-ends : goal.returns-in_default-clause-ends
returns-in_default-clause-ends c = λ at s st. to_finish c.args.self.now.draft at c.args.self.now.definitions.items c.args.self.now.stages.items _ _ _ (end_other c.args.self.now.draft at c.args.self.now.stack c.args.self.now.definitions.items c.args.self.now.stages.items c.args.phase s c.in_default.not-Begin c.in_default.not-StageRead c.in_default.not-Within st) (finish_wrong c.args.self.now.draft at c.args.self.now.definitions.items c.args.self.now.stages.items)

pub finish_within-requires : goal.finish_within-requires
finish_within-requires c = some_inside c.args.self.now.draft c.args.self.now.stack c.args.self.now.definitions.items c.args.self.now.stages.items c.args.phase c.in-Within.head c.in-Within.wait c.in-Within.is c.requires

pub returns-in-Begin-clause-held : goal.returns-in-Begin-clause-held
returns-in-Begin-clause-held c = finish_begun c.args.self.now c.args.phase c.in-Begin.is c.requires

pub returns-in-StageRead-clause-held : goal.returns-in-StageRead-clause-held
returns-in-StageRead-clause-held c = finish_read c.args.self.now c.args.phase c.in-StageRead.is c.requires

pub returns-in-Within-clause-held : goal.returns-in-Within-clause-held
returns-in-Within-clause-held c = finish_as c.args.phase _ c.args.self.now c.finish_within.new.self c.finish_within.result c.in-Within.is c.finish_within.ensures.held
