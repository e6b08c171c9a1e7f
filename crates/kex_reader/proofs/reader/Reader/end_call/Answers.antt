use Rattle.std.proofs.Common.{◌+◌, length, ◌∙◌, ◌≡◌, ◌⊎◌, inl, inr}
use Rattle.kex_reader.specs.Syntax.{Call}
use Rattle.kex_reader.specs.Reading.{entries}
use Rattle.kex_reader.proofs.Stacks.{constructs_more}
use Rattle.kex_reader.proofs.Steps.{call_shows, on_keeps}
use Rattle.kex_reader.proofs.Programs.{ends_exit}
use Rattle.kex_reader.specs.Stands.{InConstructs}
use Rattle.kex_reader.specs.Uses.{InDefinitions, NameNumber}
use Rattle.kex_reader.proofs.Uses.{beside, on_then}
use Rattle.kex_reader.proofs.reader.Reader.end_call.Goals as goal

pub returns-in_err-item-clause-ends : goal.returns-in_err-item-clause-ends
returns-in_err-item-clause-ends c = λ at base es h n. ends_exit c.call.new.draft at base c.args.self.now.stack c.args.self.now.definitions.items c.args.self.now.definitions.items c.args.head.name c.args.head.at c.from_residual.result c.from_residual.ensures.1 _

pub returns-clause-ends : goal.returns-clause-ends
returns-clause-ends c = λ at base es h n.
    let k = c.in_ok-item.ensures.node in
    c.end_with.ensures.ends at base es (Call c.args.name.bytes.now) (constructs_more c.args.self.now.draft c.call.new.draft at base c.args.self.now.stack es c.in_ok-item.ensures.keeps h) (c.in_ok-item.ensures.place ∙ n) (call_shows c.call.new.draft at c.in_ok-item.item.node (base + length (entries es)) k.0 c.args.name.at c.args.name.bytes.now n k.1 k.2)

pub end_with-requires : goal.end_with-requires
end_with-requires c =
    let r = c.requires in
    let k = c.in_ok-item.ensures.node in
    (r.0, r.1, r.2, Call c.args.name.bytes.now, constructs_more c.args.self.now.draft c.call.new.draft r.0 r.1 c.args.self.now.stack r.2 c.in_ok-item.ensures.keeps r.3, c.in_ok-item.ensures.place ∙ r.4, call_shows c.call.new.draft r.0 c.in_ok-item.item.node (r.1 + length (entries r.2)) k.0 c.args.name.at c.args.name.bytes.now r.4 k.1 k.2)

pub returns-clause-held : goal.returns-clause-held
returns-clause-held c = on_then c.end_with.result _ _ _ _ _ _ c.end_with.ensures.keeps (beside _ _ _ _ (λ x. InConstructs c.args.self.now.stack x ⊎ ((x ≡ NameNumber c.args.head.name) ⊎ InDefinitions c.args.self.now.definitions.items x)) _ _ (λ x h. inr h) (λ x e. inl (inl e)) (λ x r. elim r [ inl i ↦ inl (inr i) | inr d ↦ inr d ]) c.in_ok-item.ensures.held) c.end_with.ensures.held

pub returns-clause-keeps : goal.returns-clause-keeps
returns-clause-keeps c = on_keeps c.end_with.result _ _ _ c.in_ok-item.ensures.keeps c.end_with.ensures.keeps
