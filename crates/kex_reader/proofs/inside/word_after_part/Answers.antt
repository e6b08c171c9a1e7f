use Rattle.std.proofs.Common.{◌+◌, length, sym, subst, inl, inr}
use Rattle.kex_reader.specs.Reading.{entries}
use Rattle.kex_reader.proofs.Steps.{to, atom_steps}
use Rattle.kex_reader.specs.Syntax.{word}
use Rattle.kex_reader.proofs.Modes.{assigned_leaf, next_close, assigned_in, assigned_at, assign_of}
use Rattle.kex_reader.specs.Uses.{InKind}
use Rattle.kex_reader.proofs.Uses.{in_assigned, step_from}
use Rattle.kex_reader.proofs.inside.word_after_part.Goals as goal

pub returns-in-CloseBracket-clause-step : goal.returns-in-CloseBracket-clause-step
returns-in-CloseBracket-clause-step c = λ place base fs es append r p ps h m.
    let i = base + length (entries es) in
    to _ place base _ _ _ _ (next_close append r p ps es c.args.word.kind c.args.word.spelling.now c.in-CloseBracket.is)
    (atom_steps c.args.draft.now c.leaf.new.draft place base fs fs es _ (Rattle.kex_reader.specs.Syntax.Assign append r p ps) c.args.assignment.at c.leaf.ensures.keeps (assign_of c.args.draft.now c.leaf.new.draft place i c.args.assignment append r p ps c.kind.result _ c.kind.ensures m c.leaf.ensures.keeps c.leaf.ensures.wait) c.leaf.ensures.fault h (assigned_at c.args.draft.now place i c.args.assignment append r p ps m))

pub returns-in_default-clause-step : goal.returns-in_default-clause-step
returns-in_default-clause-step c = λ place base fs es append r p ps h m. c.part.ensures.next c.in_default.not-CloseBracket place base fs es append r p ps h m

pub leaf-requires-clause-below : goal.leaf-requires-clause-below
leaf-requires-clause-below c =
    let s = c.requires.some in
    subst (λ k. Rattle.kex_model.specs.Programs.HasNames (length c.args.draft.now.names) (length c.args.draft.now.registers) k) (sym c.kind.ensures) (assigned_in c.args.draft.now s.0 s.1 c.args.assignment s.2 s.3 s.4 s.5 s.6)

pub leaf-requires-clause-alone : goal.leaf-requires-clause-alone
leaf-requires-clause-alone c = subst Rattle.kex_reader.specs.Stands.IsLeaf (sym c.kind.ensures) (assigned_leaf c.args.assignment.append c.args.assignment.register c.args.assignment.pieces.items)

pub returns-in-CloseBracket-clause-held : goal.returns-in-CloseBracket-clause-held
returns-in-CloseBracket-clause-held c = λ fs. step_from c.leaf.result _ _ _ _ fs (λ x h. elim h [ inl i ↦ inl i | inr j ↦ inr (subst (λ k. InKind k x) (sym c.kind.ensures) (in_assigned c.args.assignment.append c.args.assignment.register c.args.assignment.pieces.items x j)) ]) (c.leaf.ensures.held fs)

pub returns-in_default-clause-held : goal.returns-in_default-clause-held
returns-in_default-clause-held c = λ fs. c.part.ensures.held fs
