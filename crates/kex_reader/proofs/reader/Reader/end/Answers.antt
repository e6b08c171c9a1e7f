use Rattle.std.proofs.Common.{length, subst, ◌≡◌, ◌⊎◌, inl, inr}
use Rattle.kex_reader.specs.Reading.{take_term}
use Rattle.kex_reader.specs.Stands.{TermTaken}
use Rattle.kex_reader.proofs.Programs.{ends_of, ends_none, ends_open, ends_exit, not_empty, is_empty}
use Rattle.kex_reader.specs.Uses.{InDefinitions, NameNumber}
use Rattle.kex_reader.proofs.Uses.{beside, definition_on, definitions_under, no_constructs, parts_are}
use Rattle.kex_reader.proofs.reader.Reader.end.Goals as goal

pub returns-in_err-closed-clause-ends : goal.returns-in_err-closed-clause-ends
returns-in_err-closed-clause-ends c = λ at base es h. ends_exit c.close_term.new.draft at base c.close_term.new.stack c.args.self.now.definitions.items c.args.self.now.definitions.items c.args.head.name c.args.head.at c.from_residual.result c.from_residual.ensures.1 _

pub returns-in_default-clause-ends : goal.returns-in_default-clause-ends
returns-in_default-clause-ends c = λ at base es h. ends_none c.close_term.new.draft at base c.close_term.new.stack c.close_term.new.stack c.args.self.now.definitions.items c.args.self.now.definitions.items c.args.head.name c.args.head.at (take_term es) (subst (λ o. TermTaken c.close_term.new.draft at base c.close_term.new.stack o (take_term es)) c.in_default.is (c.in_ok-closed.ensures.term at base es h))

pub returns-then-not-is_empty-clause-ends : goal.returns-then-not-is_empty-clause-ends
returns-then-not-is_empty-clause-ends c = λ at base es h. ends_open c.close_term.new.draft at base c.close_term.new.stack c.in-Some.term c.args.self.now.definitions.items c.args.self.now.definitions.items c.args.head.name c.args.head.at (take_term es) (λ z. not_empty (length c.close_term.new.stack) c.is_empty.result c.is_empty.ensures c.if-not-is_empty.true z) (subst (λ o. TermTaken c.close_term.new.draft at base c.close_term.new.stack o (take_term es)) c.in-Some.is (c.in_ok-closed.ensures.term at base es h))

pub returns-in_err-push-clause-ends : goal.returns-in_err-push-clause-ends
returns-in_err-push-clause-ends c = λ at base es h. ends_exit c.close_term.new.draft at base c.close_term.new.stack c.args.self.now.definitions.items c.push.new.self.items c.args.head.name c.args.head.at c.from_residual-in_err-push.result c.from_residual-in_err-push.ensures.1 _

pub returns-clause-ends : goal.returns-clause-ends
returns-clause-ends c = λ at base es h. ends_of c.close_term.new.draft at base c.close_term.new.stack c.in-Some.term c.args.self.now.definitions.items c.push.new.self.items c.args.head.name c.args.head.at (take_term es) (is_empty (length c.close_term.new.stack) c.is_empty.result c.is_empty.ensures c.if-not-is_empty.false) c.in_ok-push.ensures.items (subst (λ o. TermTaken c.close_term.new.draft at base c.close_term.new.stack o (take_term es)) c.in-Some.is (c.in_ok-closed.ensures.term at base es h))

pub returns-clause-held : goal.returns-clause-held
returns-clause-held c =
    let pushed = c.in_ok-push.ensures.items in
    beside _ _ _ _ (λ x. (x ≡ NameNumber c.args.head.name) ⊎ InDefinitions c.args.self.now.definitions.items x) _ _ (λ x h. h)
    (λ x h. elim h [ inl p ↦ definition_on _ _ _ _ _ pushed x (inl (parts_are _ _ c.in-Some.is x p)) | inr i ↦ absurd (no_constructs c.close_term.new.stack (is_empty (length c.close_term.new.stack) c.is_empty.result c.is_empty.ensures c.if-not-is_empty.false) x i) ])
    (λ x h. elim h [ inl e ↦ definition_on _ _ _ _ _ pushed x (inr e) | inr d ↦ definitions_under _ _ _ pushed x d ]) c.in_ok-closed.ensures.held
