use Rattle.std.proofs.Common.{◌+◌, [], ◌++◌, length, sym, ap, ◌∙◌, subst, inl, inr}
use Rattle.kex_tokens.specs.declared.token.TokenKind.TheVariants as kinds
use Rattle.kex_model.specs.declared.program.Kind.TheVariants as nodes
use Rattle.kex_reader.specs.Syntax.{One, Lit, Match, between}
use Rattle.kex_reader.specs.Reading.{entries}
use Rattle.kex_reader.specs.Shown.{IsNode}
use Rattle.kex_reader.proofs.Steps.{to, wrong, named_waits, writing, bracket, one_shows, begin_kind, begin_other, begin_name, begin_literal, begin_regex, begin_tilde, begin_bang, begin_bracket, begin_paren, begin_bar, no_bar, begin_close, no_close, begin_one, begin_number, atom_steps, tilde_steps, paren_steps, atom_of, literal_of, match_of}
use Rattle.std.specs.Prelude.{bytes_eq}
use Rattle.kex_reader.proofs.MoreChecks.{same, on_same, on_apply, on_from, begin_quiet, begin_regex_asks, begin_tilde_asks, begin_paren_asks}
use Rattle.kex_reader.proofs.Stacks.{depth_is}
use Rattle.kex_reader.proofs.Uses.{step_from, unchanged}
use Rattle.kex_reader.proofs.inside.begin.Goals as goal

pub returns-in-Name-clause-step : goal.returns-in-Name-clause-step
returns-in-Name-clause-step c = λ at base es h a. to _ at base _ _ _ _ (begin_kind c.args.free es c.args.word.spelling.now c.args.word.kind kinds.Name _ c.in-Name.is (begin_name c.args.free es c.args.word.spelling.now)) (named_waits c.args.draft.now at base c.args.stack.now es c.args.free _ h a)

pub returns-in-Literal-clause-step : goal.returns-in-Literal-clause-step
returns-in-Literal-clause-step c = λ at base es h a. to _ at base _ _ _ _ (begin_kind c.args.free es c.args.word.spelling.now c.args.word.kind kinds.Literal _ c.in-Literal.is (begin_literal c.args.free es c.args.word.spelling.now)) (atom_steps c.args.draft.now c.literal.new.draft at base c.args.stack.now c.args.stack.now es _ (Lit c.args.word.spelling.now) _ c.literal.ensures.keeps (literal_of c.literal.new.draft at _ _ c.args.word.spelling.now _ a c.literal.ensures.wait) c.literal.ensures.fault h a)

pub returns-in-Regex-clause-step : goal.returns-in-Regex-clause-step
returns-in-Regex-clause-step c = λ at base es h a. to _ at base _ _ _ _ (begin_kind c.args.free es c.args.word.spelling.now c.args.word.kind kinds.Regex _ c.in-Regex.is (begin_regex c.args.free es (between c.args.word.spelling.now))) (atom_steps c.args.draft.now c.body.new.draft at base c.args.stack.now c.args.stack.now es _ (Match (between c.args.word.spelling.now)) _ c.body.ensures.keeps (match_of c.body.new.draft at _ _ (between c.args.word.spelling.now) _ a c.body.ensures.wait) c.body.ensures.fault h a)

pub returns-in-Tilde-clause-step : goal.returns-in-Tilde-clause-step
returns-in-Tilde-clause-step c = λ at base es h a. to _ at base _ _ _ _ (begin_kind c.args.free es c.args.word.spelling.now c.args.word.kind kinds.Tilde _ c.in-Tilde.is (begin_tilde c.args.free es)) (tilde_steps c.args.draft.now c.open.new.draft at base c.args.stack.now c.open.new.stack es _ _ c.open.ensures.keeps c.open.ensures.pushed c.open.ensures.wait c.open.ensures.fault h a)

pub returns-in-Bang-clause-step : goal.returns-in-Bang-clause-step
returns-in-Bang-clause-step c = λ at base es h a. to _ at base _ _ _ _ (begin_kind c.args.free es c.args.word.spelling.now c.args.word.kind kinds.Bang _ c.in-Bang.is (begin_bang c.args.free es)) (writing c.args.draft.now at base c.args.stack.now es _ h a)

pub returns-in-OpenBracket-clause-step : goal.returns-in-OpenBracket-clause-step
returns-in-OpenBracket-clause-step c = λ at base es h a. to _ at base _ _ _ _ (begin_kind c.args.free es c.args.word.spelling.now c.args.word.kind kinds.OpenBracket _ c.in-OpenBracket.is (begin_bracket c.args.free es)) (bracket c.args.draft.now at base c.args.stack.now es _ h a)

pub returns-in-OpenParen-clause-step : goal.returns-in-OpenParen-clause-step
returns-in-OpenParen-clause-step c = λ at base es h a. to _ at base _ _ _ _ (begin_kind c.args.free es c.args.word.spelling.now c.args.word.kind kinds.OpenParen _ c.in-OpenParen.is (begin_paren c.args.free es)) (paren_steps c.args.draft.now c.open-in-OpenParen.new.draft at base c.args.stack.now c.open-in-OpenParen.new.stack es _ _ c.open-in-OpenParen.ensures.keeps c.open-in-OpenParen.ensures.pushed c.open-in-OpenParen.ensures.wait c.open-in-OpenParen.ensures.fault h a)

pub returns-then-free-clause-step : goal.returns-then-free-clause-step
returns-then-free-clause-step c = λ at base es h a. to _ at base _ _ _ _ (begin_kind c.args.free es c.args.word.spelling.now c.args.word.kind kinds.Bar _ c.in-Bar.is (begin_bar c.args.free es c.if-free.true)) (c.bar.ensures.step at base es h)

pub returns-else-free-clause-step : goal.returns-else-free-clause-step
returns-else-free-clause-step c = λ at base es h a. to _ at base _ _ _ _ (begin_kind c.args.free es c.args.word.spelling.now c.args.word.kind kinds.Bar _ c.in-Bar.is (no_bar c.args.free es c.if-free.false)) (wrong c.args.draft.now at base c.args.stack.now)

pub returns-then-free-2-clause-step : goal.returns-then-free-2-clause-step
returns-then-free-2-clause-step c = λ at base es h a. to _ at base _ _ _ _ (begin_kind c.args.free es c.args.word.spelling.now c.args.word.kind kinds.CloseParen _ c.in-CloseParen.is (begin_close c.args.free es c.if-free-2.true)) (c.close.ensures.step at base es h)

pub returns-else-free-2-clause-step : goal.returns-else-free-2-clause-step
returns-else-free-2-clause-step c = λ at base es h a. to _ at base _ _ _ _ (begin_kind c.args.free es c.args.word.spelling.now c.args.word.kind kinds.CloseParen _ c.in-CloseParen.is (no_close c.args.free es c.if-free-2.false)) (wrong c.args.draft.now at base c.args.stack.now)

pub returns-then-eq-clause-step : goal.returns-then-eq-clause-step
returns-then-eq-clause-step c = λ at base es h a. to _ at base _ _ _ _ (begin_kind c.args.free es c.args.word.spelling.now c.args.word.kind kinds.Number _ c.in-Number.is (begin_one c.args.free es c.args.word.spelling.now (ap (bytes_eq c.args.word.spelling.now) (sym c.as_slice.ensures) ∙ sym c.eq.ensures ∙ c.if-eq.true)))
    (atom_steps c.args.draft.now c.leaf.new.draft at base c.args.stack.now c.args.stack.now es _ One _ c.leaf.ensures.keeps (atom_of c.leaf.new.draft at _ _ One (λ n. IsNode c.leaf.new.draft n nodes.One c.args.word.at) _ (λ n q. one_shows c.leaf.new.draft at n _ _ a q) c.leaf.ensures.wait) c.leaf.ensures.fault h a)

pub returns-else-eq-clause-step : goal.returns-else-eq-clause-step
returns-else-eq-clause-step c = λ at base es h a. to _ at base _ _ _ _ (begin_kind c.args.free es c.args.word.spelling.now c.args.word.kind kinds.Number _ c.in-Number.is (begin_number c.args.free es c.args.word.spelling.now (ap (bytes_eq c.args.word.spelling.now) (sym c.as_slice.ensures) ∙ sym c.eq.ensures ∙ c.if-eq.false))) (wrong c.args.draft.now at base c.args.stack.now)

pub returns-in_default : goal.returns-in_default
returns-in_default c = record { keeps = tt; held = tt; notes = λ at base es h a cs n. tt; step = λ at base es h a. to _ at base _ _ _ _ (begin_other c.args.free es c.args.word.spelling.now c.args.word.kind c.in_default.not-Name c.in_default.not-Number c.in_default.not-Literal c.in_default.not-Regex c.in_default.not-Tilde c.in_default.not-Bang c.in_default.not-OpenBracket c.in_default.not-OpenParen c.in_default.not-Bar c.in_default.not-CloseParen) (wrong c.args.draft.now at base c.args.stack.now) }

pub returns-in-Name-clause-notes : goal.returns-in-Name-clause-notes
returns-in-Name-clause-notes c = λ at base es h a cs n. subst (λ x. Rattle.kex_reader.specs.Stands.NotesLeast (cs ++ x) c.args.draft.now.broken) (begin_quiet at (base + length (entries es)) es c.args.word.spelling.now c.args.word.kind kinds.Name c.in-Name.is tt) (same cs c.args.draft.now.broken n)

pub returns-in-Bang-clause-notes : goal.returns-in-Bang-clause-notes
returns-in-Bang-clause-notes c = λ at base es h a cs n. subst (λ x. Rattle.kex_reader.specs.Stands.NotesLeast (cs ++ x) c.args.draft.now.broken) (begin_quiet at (base + length (entries es)) es c.args.word.spelling.now c.args.word.kind kinds.Bang c.in-Bang.is tt) (same cs c.args.draft.now.broken n)

pub returns-in-OpenBracket-clause-notes : goal.returns-in-OpenBracket-clause-notes
returns-in-OpenBracket-clause-notes c = λ at base es h a cs n. subst (λ x. Rattle.kex_reader.specs.Stands.NotesLeast (cs ++ x) c.args.draft.now.broken) (begin_quiet at (base + length (entries es)) es c.args.word.spelling.now c.args.word.kind kinds.OpenBracket c.in-OpenBracket.is tt) (same cs c.args.draft.now.broken n)

pub returns-in-Literal-clause-notes : goal.returns-in-Literal-clause-notes
returns-in-Literal-clause-notes c = λ at base es h a cs n. on_from c.literal.result cs [] _ c.literal.new.draft.broken (begin_quiet at (base + length (entries es)) es c.args.word.spelling.now c.args.word.kind kinds.Literal c.in-Literal.is tt) (on_same c.literal.result cs c.args.draft.now.broken c.literal.new.draft.broken c.literal.ensures.broken n)

pub returns-then-eq-clause-notes : goal.returns-then-eq-clause-notes
returns-then-eq-clause-notes c = λ at base es h a cs n. on_from c.leaf.result cs [] _ c.leaf.new.draft.broken (begin_quiet at (base + length (entries es)) es c.args.word.spelling.now c.args.word.kind kinds.Number c.in-Number.is tt) (on_same c.leaf.result cs c.args.draft.now.broken c.leaf.new.draft.broken c.leaf.ensures.broken n)

pub returns-then-free-clause-notes : goal.returns-then-free-clause-notes
returns-then-free-clause-notes c = λ at base es h a cs n. on_from c.bar.result cs [] _ c.bar.new.draft.broken (begin_quiet at (base + length (entries es)) es c.args.word.spelling.now c.args.word.kind kinds.Bar c.in-Bar.is tt) (on_same c.bar.result cs c.args.draft.now.broken c.bar.new.draft.broken c.bar.ensures.broken n)

pub returns-then-free-2-clause-notes : goal.returns-then-free-2-clause-notes
returns-then-free-2-clause-notes c = λ at base es h a cs n. on_from c.close.result cs [] _ c.close.new.draft.broken (begin_quiet at (base + length (entries es)) es c.args.word.spelling.now c.args.word.kind kinds.CloseParen c.in-CloseParen.is tt) (on_same c.close.result cs c.args.draft.now.broken c.close.new.draft.broken c.close.ensures.broken n)

pub returns-in-Regex-clause-notes : goal.returns-in-Regex-clause-notes
returns-in-Regex-clause-notes c = λ at base es h a cs n. on_from c.body.result cs _ _ c.body.new.draft.broken (begin_regex_asks at (base + length (entries es)) es c.args.word.spelling.now c.args.word.kind c.args.word.at c.depth.result c.in-Regex.is a (c.depth.ensures ∙ depth_is c.args.draft.now at base c.args.stack.now es h)) (on_apply c.body.result cs _ c.args.draft.now.broken c.body.new.draft.broken c.body.ensures.notes n)

pub returns-in-Tilde-clause-notes : goal.returns-in-Tilde-clause-notes
returns-in-Tilde-clause-notes c = λ at base es h a cs n. on_from c.open.result cs _ _ c.open.new.draft.broken (begin_tilde_asks at (base + length (entries es)) es c.args.word.spelling.now c.args.word.kind c.args.word.at (Rattle.kex_reader.specs.Stands.open_constructs c.args.stack.now) c.in-Tilde.is a (depth_is c.args.draft.now at base c.args.stack.now es h)) (on_apply c.open.result cs _ c.args.draft.now.broken c.open.new.draft.broken c.open.ensures.notes n)

pub returns-in-OpenParen-clause-notes : goal.returns-in-OpenParen-clause-notes
returns-in-OpenParen-clause-notes c = λ at base es h a cs n. on_from c.open-in-OpenParen.result cs _ _ c.open-in-OpenParen.new.draft.broken (begin_paren_asks at (base + length (entries es)) es c.args.word.spelling.now c.args.word.kind c.args.word.at (Rattle.kex_reader.specs.Stands.open_constructs c.args.stack.now) c.in-OpenParen.is a (depth_is c.args.draft.now at base c.args.stack.now es h)) (on_apply c.open-in-OpenParen.result cs _ c.args.draft.now.broken c.open-in-OpenParen.new.draft.broken c.open-in-OpenParen.ensures.notes n)

pub returns-in-Name-clause-held : goal.returns-in-Name-clause-held
returns-in-Name-clause-held c = unchanged _ _ _ (λ x h. h)

pub returns-in-Bang-clause-held : goal.returns-in-Bang-clause-held
returns-in-Bang-clause-held c = unchanged _ _ _ (λ x h. h)

pub returns-in-OpenBracket-clause-held : goal.returns-in-OpenBracket-clause-held
returns-in-OpenBracket-clause-held c = unchanged _ _ _ (λ x h. h)

pub returns-then-eq-clause-held : goal.returns-then-eq-clause-held
returns-then-eq-clause-held c = step_from c.leaf.result _ _ _ _ c.args.stack.now (λ x h. elim h [ inl i ↦ inl i | inr z ↦ absurd z ]) (c.leaf.ensures.held c.args.stack.now)

pub returns-in-Literal-clause-held : goal.returns-in-Literal-clause-held
returns-in-Literal-clause-held c = c.literal.ensures.held c.args.stack.now

pub returns-in-Regex-clause-held : goal.returns-in-Regex-clause-held
returns-in-Regex-clause-held c = c.body.ensures.held c.args.stack.now

pub returns-in-Tilde-clause-held : goal.returns-in-Tilde-clause-held
returns-in-Tilde-clause-held c = step_from c.open.result _ _ _ _ c.open.new.stack (λ x h. elim h [ inl i ↦ inr i | inr z ↦ absurd z ]) c.open.ensures.held

pub returns-in-OpenParen-clause-held : goal.returns-in-OpenParen-clause-held
returns-in-OpenParen-clause-held c = step_from c.open-in-OpenParen.result _ _ _ _ c.open-in-OpenParen.new.stack (λ x h. elim h [ inl i ↦ inr i | inr z ↦ absurd z ]) c.open-in-OpenParen.ensures.held

pub returns-then-free-clause-held : goal.returns-then-free-clause-held
returns-then-free-clause-held c = c.bar.ensures.held

pub returns-then-free-2-clause-held : goal.returns-then-free-2-clause-held
returns-then-free-2-clause-held c = c.close.ensures.held
