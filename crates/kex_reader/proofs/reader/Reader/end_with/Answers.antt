use Rattle.std.proofs.Common.{◌+◌, length, ◌≡◌, ◌⊎◌, inl, inr}
use Rattle.kex_reader.specs.Syntax.{Once}
use Rattle.kex_reader.specs.Reading.{entries, with_pre}
use Rattle.kex_reader.proofs.Steps.{once_shows}
use Rattle.kex_reader.proofs.Programs.{ends_exit}
use Rattle.kex_reader.specs.Uses.{InDefinitions, NameNumber}
use Rattle.kex_reader.proofs.Uses.{beside, on_then}
use Rattle.kex_reader.proofs.reader.Reader.end_with.Goals as goal

pub put-requires : goal.put-requires
put-requires c = let r = c.requires in (r.0, r.1, r.2, Once r.3, r.4, r.5, once_shows c.args.self.now.draft r.0 c.args.item.node (r.1 + length (entries r.2)) r.3 r.6)

pub end-requires : goal.end-requires
end-requires c = let r = c.requires in (r.0, r.1, with_pre (Once r.3) r.2, c.in_ok-put.ensures.put r.0 r.1 r.2 (Once r.3) r.4 r.5 (once_shows c.args.self.now.draft r.0 c.args.item.node (r.1 + length (entries r.2)) r.3 r.6))

pub returns-in_err-put-clause-ends : goal.returns-in_err-put-clause-ends
returns-in_err-put-clause-ends c = λ at base es a h e s. ends_exit c.put.new.draft at base c.put.new.stack c.args.self.now.definitions.items c.args.self.now.definitions.items c.args.head.name c.args.head.at c.from_residual.result c.from_residual.ensures.1 _

pub returns-clause-ends : goal.returns-clause-ends
returns-clause-ends c = λ at base es a h e s. c.end.ensures.ends at base (with_pre (Once a) es) (c.in_ok-put.ensures.put at base es (Once a) h e (once_shows c.args.self.now.draft at c.args.item.node (base + length (entries es)) a s))

pub returns-clause-held : goal.returns-clause-held
returns-clause-held c = on_then c.end.result _ _ _ _ _ _ c.end.ensures.keeps (beside _ _ _ _ (λ x. (x ≡ NameNumber c.args.head.name) ⊎ InDefinitions c.args.self.now.definitions.items x) _ _ (λ x h. h) (λ x i. inl i) (λ x r. inr r) c.in_ok-put.ensures.held) c.end.ensures.held
