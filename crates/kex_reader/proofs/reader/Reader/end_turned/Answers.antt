use Rattle.std.proofs.Common.{◌≡◌, ◌⊎◌, false, inl, inr}
use Rattle.kex_reader.specs.Syntax.{Turns}
use Rattle.kex_reader.specs.Reading.{with_pre}
use Rattle.kex_reader.specs.Uses.{InDefinitions, NameNumber}
use Rattle.kex_reader.proofs.Programs.{ends_exit}
use Rattle.kex_reader.proofs.Uses.{beside, on_then}
use Rattle.kex_reader.proofs.reader.Reader.end_turned.Goals as goal

pub end-requires : goal.end-requires
end-requires c = let r = c.requires in (r.0, r.1, with_pre (Turns r.3 r.4 false) r.2, c.in_ok-end_turns.ensures.put r.0 r.1 r.2 r.3 r.4 r.5 r.6 r.7 r.8)

pub returns-in_err-end_turns-clause-ends : goal.returns-in_err-end_turns-clause-ends
returns-in_err-end_turns-clause-ends c = λ at base es a p h e s t. ends_exit c.end_turns.new.draft at base c.end_turns.new.stack c.args.self.now.definitions.items c.args.self.now.definitions.items c.args.head.name c.args.head.at c.from_residual.result c.from_residual.ensures.1 _

pub returns-clause-ends : goal.returns-clause-ends
returns-clause-ends c = λ at base es a p h e s t. c.end.ensures.ends at base (with_pre (Turns a p false) es) (c.in_ok-end_turns.ensures.put at base es a p h e s t)

pub returns-clause-held : goal.returns-clause-held
returns-clause-held c = on_then c.end.result _ _ _ _ _ _ c.end.ensures.keeps (beside _ _ _ _ (λ x. (x ≡ NameNumber c.args.head.name) ⊎ InDefinitions c.args.self.now.definitions.items x) _ _ (λ x h. elim h [ inl i ↦ inl (elim i [ inl e ↦ inr e | inr j ↦ inl j ]) | inr r ↦ inr r ]) (λ x i. inl i) (λ x r. inr r) c.in_ok-end_turns.ensures.held) c.end.ensures.held
