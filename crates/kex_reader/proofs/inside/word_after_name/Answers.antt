use Rattle.std.proofs.Common.{◌+◌, length, ◌∙◌, ◌≡◌, ◌⊎◌, inl, inr}
use Rattle.kex_tokens.specs.declared.token.TokenKind.TheVariants as kinds
use Rattle.kex_reader.specs.Syntax.{Call}
use Rattle.kex_reader.specs.Reading.{entries}
use Rattle.kex_reader.proofs.Stacks.{constructs_more}
use Rattle.kex_reader.proofs.Steps.{to, memory_exit, wrong, call_shows, named_kind, named_other, named_at, named_define, storing_steps, on_keeps}
use Rattle.kex_reader.specs.Syntax.{word}
use Rattle.kex_reader.proofs.Modes.{call_place}
use Rattle.kex_reader.proofs.MoreChecks.{on_apply, on_from, moved, named_at_asks, named_after}
use Rattle.kex_reader.proofs.Stacks.{depth_is}
use Rattle.kex_reader.proofs.MoreChecks.{call_asks}
use Rattle.kex_reader.specs.declared.inside.TermWait.TheVariants.{After}
use Rattle.kex_reader.specs.Stands.{InConstructs, IsHeld}
use Rattle.kex_reader.specs.Uses.{RegisterNumber}
use Rattle.kex_reader.proofs.Uses.{beside, step_then}
use Rattle.kex_reader.proofs.inside.word_after_name.Goals as goal

pub returns-in_err-register-in-At-clause-step : goal.returns-in_err-register-in-At-clause-step
returns-in_err-register-in-At-clause-step c = λ at base es h n p. memory_exit c.register.new.self at base c.args.stack.now c.from_residual.result c.from_residual.ensures.1 _

pub returns-in_err-item-in_default-clause-step : goal.returns-in_err-item-in_default-clause-step
returns-in_err-item-in_default-clause-step c = λ at base es h n p. memory_exit c.call.new.draft at base c.args.stack.now c.from_residual-in_err-item-in_default.result c.from_residual-in_err-item-in_default.ensures.1 _

pub returns-in_ok-register-in-At-clause-step : goal.returns-in_ok-register-in-At-clause-step
returns-in_ok-register-in-At-clause-step c = λ at base es h n p.
    to _ at base _ _ _ _ (named_kind c.args.name.bytes.now es c.args.word.spelling.now c.args.word.kind kinds.At _ c.in-At.is (named_at c.args.name.bytes.now es))
    (storing_steps c.register.new.self c.open.new.draft at base c.args.stack.now c.open.new.stack es _ _ c.in_ok-register-in-At.register c.args.name.bytes.now c.open.ensures.keeps c.open.ensures.pushed c.open.ensures.wait c.open.ensures.fault (constructs_more c.args.draft.now c.register.new.self at base c.args.stack.now es c.in_ok-register-in-At.ensures.keeps h) n c.in_ok-register-in-At.ensures.number)

pub returns-in-Define-clause-step : goal.returns-in-Define-clause-step
returns-in-Define-clause-step c = λ at base es h n p. to _ at base _ _ _ _ (named_kind c.args.name.bytes.now es c.args.word.spelling.now c.args.word.kind kinds.Define _ c.in-Define.is (named_define c.args.name.bytes.now es)) (wrong c.args.draft.now at base c.args.stack.now)

pub returns-in_ok-item-in_default : goal.returns-in_ok-item-in_default
returns-in_ok-item-in_default c = record {
  keeps = on_keeps _ _ _ _ c.in_ok-item-in_default.ensures.keeps c.word_after_atom.ensures.keeps;
  held = step_then c.word_after_atom.result _ _ _ _ _ _ c.word_after_atom.new.stack c.word_after_atom.ensures.keeps (beside _ _ _ _ (InConstructs c.args.stack.now) _ (IsHeld c.args.stack.now (After c.in_ok-item-in_default.item)) (λ x h. elim h [ inl i ↦ inr i | inr z ↦ absurd z ]) (λ x e. inr e) (λ x i. inl i) c.in_ok-item-in_default.ensures.held) (λ x h. h) c.word_after_atom.ensures.held;
  notes = λ at base es h m p cs n.
      let k = c.in_ok-item-in_default.ensures.node in
      on_from c.word_after_atom.result cs _ _ c.word_after_atom.new.draft.broken (call_asks at (base + length (entries es)) c.args.name.bytes.now es (word c.args.word.kind c.args.word.spelling.now) ∙ named_after at (base + length (entries es)) c.args.name.bytes.now es c.args.word.spelling.now c.args.word.kind c.in_default.not-At c.in_default.not-Define)
      (c.word_after_atom.ensures.notes at base es (Call c.args.name.bytes.now) (constructs_more c.args.draft.now c.call.new.draft at base c.args.stack.now es c.in_ok-item-in_default.ensures.keeps h) (c.in_ok-item-in_default.ensures.place ∙ m)
      (call_shows c.call.new.draft at c.in_ok-item-in_default.item.node (base + length (entries es)) k.0 c.args.name.at c.args.name.bytes.now m k.1 k.2) (call_place at base c.args.word.at c.args.name.bytes.now es p) cs (moved cs c.args.draft.now.broken c.call.new.draft.broken c.in_ok-item-in_default.ensures.broken n));
  step = λ at base es h n p.
      let k = c.in_ok-item-in_default.ensures.node in
      to _ at base _ _ _ _ (named_other c.args.name.bytes.now es c.args.word.spelling.now c.args.word.kind c.in_default.not-At c.in_default.not-Define)
      (c.word_after_atom.ensures.step at base es (Call c.args.name.bytes.now) (constructs_more c.args.draft.now c.call.new.draft at base c.args.stack.now es c.in_ok-item-in_default.ensures.keeps h) (c.in_ok-item-in_default.ensures.place ∙ n)
      (call_shows c.call.new.draft at c.in_ok-item-in_default.item.node (base + length (entries es)) k.0 c.args.name.at c.args.name.bytes.now n k.1 k.2) (call_place at base c.args.word.at c.args.name.bytes.now es p));
}

pub word_after_atom-requires-clause-atom : goal.word_after_atom-requires-clause-atom
word_after_atom-requires-clause-atom c =
    let r = c.requires.constructs in
    let k = c.in_ok-item-in_default.ensures.node in
    (r.0, r.1, r.2, Call c.args.name.bytes.now, constructs_more c.args.draft.now c.call.new.draft r.0 r.1 c.args.stack.now r.2 c.in_ok-item-in_default.ensures.keeps r.3, c.in_ok-item-in_default.ensures.place ∙ r.4, call_shows c.call.new.draft r.0 c.in_ok-item-in_default.item.node (r.1 + length (entries r.2)) k.0 c.args.name.at c.args.name.bytes.now r.4 k.1 k.2)

pub returns-in_ok-register-in-At-clause-notes : goal.returns-in_ok-register-in-At-clause-notes
returns-in_ok-register-in-At-clause-notes c = λ at base es h m p cs n. on_from c.open.result cs _ _ c.open.new.draft.broken (named_at_asks at (base + length (entries es)) c.args.name.bytes.now es c.args.word.spelling.now c.args.word.kind c.args.name.at (Rattle.kex_reader.specs.Stands.open_constructs c.args.stack.now) c.in-At.is m (depth_is c.args.draft.now at base c.args.stack.now es h)) (on_apply c.open.result cs _ c.register.new.self.broken c.open.new.draft.broken c.open.ensures.notes (moved cs c.args.draft.now.broken c.register.new.self.broken c.in_ok-register-in-At.ensures.broken n))

pub returns-in_ok-register-in-At-clause-held : goal.returns-in_ok-register-in-At-clause-held
returns-in_ok-register-in-At-clause-held c = step_then c.open.result _ _ _ _ _ _ c.open.new.stack c.open.ensures.keeps (beside _ _ _ _ (InConstructs c.args.stack.now) _ (λ x. (x ≡ RegisterNumber c.in_ok-register-in-At.register) ⊎ InConstructs c.args.stack.now x) (λ x h. elim h [ inl i ↦ inr i | inr z ↦ absurd z ]) (λ x e. inl e) (λ x i. inr i) c.in_ok-register-in-At.ensures.held) (λ x h. h) c.open.ensures.held
