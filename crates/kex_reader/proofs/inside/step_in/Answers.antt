use Rattle.std.proofs.Common.{◌+◌, ◌++◌, [], length, sym, ◌∙◌, subst}
use Rattle.kex_reader.specs.Syntax.{atom, postfix}
use Rattle.kex_reader.specs.Reading.{entries, After}
use Rattle.kex_reader.proofs.Steps.{to}
use Rattle.kex_reader.specs.declared.inside.TermWait.TheVariants as waits
use Rattle.kex_reader.specs.Reading.{Assigned, Need, Ready, Turned, Named, Writing, Bracket, BracketName, Assigning, InCount, count_step}
use Rattle.kex_reader.specs.Syntax.{word}
use Rattle.kex_regexp.specs.Holding.{ShowsCountStep}
use Rattle.kex_reader.specs.Stands.{ShowsMode}
use Rattle.kex_reader.proofs.CountValues.{count_refines}
use Rattle.kex_reader.proofs.Modes.{mode_need, mode_ready, mode_after, mode_turned, mode_named, mode_writing, mode_bracket, mode_bracket_name, mode_assigning, mode_assigned, mode_count, step_of, word_place, word_here, in_need, in_ready, in_after, in_turned, in_named, in_writing, in_bracket, in_bracket_name, in_assigning, in_assigned, in_count, need_long, ready_long, after_long, turned_long, named_long, some_named, some_atom, some_turned, some_assigned, some_name}
use Rattle.kex_reader.proofs.MoreChecks.{on_same, on_from, on_refl, need_asks, ready_asks, mode_after_asks, mode_turned_asks, mode_named_asks, mode_count_asks, quiet_mode}
use Rattle.kex_reader.proofs.Uses.{sign_read, waiting}
use Rattle.kex_reader.proofs.inside.step_in.Goals as goal

pub returns-in-Need-clause-step : goal.returns-in-Need-clause-step
returns-in-Need-clause-step c = λ at base i st p.
    let m = mode_need c.args.draft.now at (base + length (entries i.entries)) i.mode (subst (λ w. ShowsMode c.args.draft.now at (base + length (entries i.entries)) w i.mode) (c.in-Need.is) st.mode) in
    to _ at base _ _ _ _ (step_of i Need (word c.args.word.kind c.args.word.spelling.now) m ∙ in_need i.entries (word c.args.word.kind c.args.word.spelling.now)) (c.begin.ensures.step at base i.entries st.below (word_here at base c.args.word.at i Need m need_long p))

pub returns-in-Ready-clause-step : goal.returns-in-Ready-clause-step
returns-in-Ready-clause-step c = λ at base i st p.
    let m = mode_ready c.args.draft.now at (base + length (entries i.entries)) i.mode (subst (λ w. ShowsMode c.args.draft.now at (base + length (entries i.entries)) w i.mode) (c.in-Ready.is) st.mode) in
    to _ at base _ _ _ _ (step_of i Ready (word c.args.word.kind c.args.word.spelling.now) m ∙ in_ready i.entries (word c.args.word.kind c.args.word.spelling.now)) (c.begin-in-Ready.ensures.step at base i.entries st.below (word_here at base c.args.word.at i Ready m ready_long p))

pub returns-in-After-clause-step : goal.returns-in-After-clause-step
returns-in-After-clause-step c = λ at base i st p.
    let m = mode_after c.args.draft.now at (base + length (entries i.entries)) c.in-After.item i.mode (subst (λ w. ShowsMode c.args.draft.now at (base + length (entries i.entries)) w i.mode) (c.in-After.is) st.mode) in
    to _ at base _ _ _ _ (step_of i (After m.0) (word c.args.word.kind c.args.word.spelling.now) m.1 ∙ in_after m.0 i.entries (word c.args.word.kind c.args.word.spelling.now)) (c.word_after_atom.ensures.step at base i.entries m.0 st.below m.2 m.3 (word_place at base c.args.word.at i (After m.0) (length (atom m.0)) m.1 (after_long m.0) p))

pub returns-in-Turned-clause-step : goal.returns-in-Turned-clause-step
returns-in-Turned-clause-step c = λ at base i st p.
    let m = mode_turned c.args.draft.now at (base + length (entries i.entries)) c.in-Turned.item c.in-Turned.bounds i.mode (subst (λ w. ShowsMode c.args.draft.now at (base + length (entries i.entries)) w i.mode) (c.in-Turned.is) st.mode) in
    to _ at base _ _ _ _ (step_of i (Turned m.0 m.1) (word c.args.word.kind c.args.word.spelling.now) m.2 ∙ in_turned m.0 m.1 i.entries (word c.args.word.kind c.args.word.spelling.now)) (c.word_after_turns.ensures.step at base i.entries m.0 m.1 st.below m.3 m.4 m.5 (word_place at base c.args.word.at i (Turned m.0 m.1) (length (atom m.0 ++ postfix m.1)) m.2 (turned_long m.0 m.1) p))

pub returns-in-Named-clause-step : goal.returns-in-Named-clause-step
returns-in-Named-clause-step c = λ at base i st p.
    let m = mode_named c.args.draft.now at (base + length (entries i.entries)) c.in-Named.field-0 c.in-Named.name i.mode (subst (λ w. ShowsMode c.args.draft.now at (base + length (entries i.entries)) w i.mode) (c.in-Named.is) st.mode) in
    to _ at base _ _ _ _ (step_of i (Named c.in-Named.field-0 c.in-Named.name.bytes.now) (word c.args.word.kind c.args.word.spelling.now) m.0 ∙ in_named c.in-Named.field-0 c.in-Named.name.bytes.now i.entries (word c.args.word.kind c.args.word.spelling.now)) (c.word_after_name.ensures.step at base i.entries st.below m.1 (word_place at base c.args.word.at i (Named c.in-Named.field-0 c.in-Named.name.bytes.now) 1 m.0 (named_long c.in-Named.field-0 c.in-Named.name.bytes.now) p))

pub returns-in-Writing-clause-step : goal.returns-in-Writing-clause-step
returns-in-Writing-clause-step c = λ at base i st p.
    let m = mode_writing c.args.draft.now at (base + length (entries i.entries)) c.in-Writing.at i.mode (subst (λ w. ShowsMode c.args.draft.now at (base + length (entries i.entries)) w i.mode) (c.in-Writing.is) st.mode) in
    to _ at base _ _ _ _ (step_of i Writing (word c.args.word.kind c.args.word.spelling.now) m.0 ∙ in_writing i.entries (word c.args.word.kind c.args.word.spelling.now)) (c.write.ensures.step at base c.args.stack.now i.entries st.below m.1)

pub returns-in-Bracket-clause-step : goal.returns-in-Bracket-clause-step
returns-in-Bracket-clause-step c = λ at base i st p.
    let m = mode_bracket c.args.draft.now at (base + length (entries i.entries)) c.in-Bracket.at i.mode (subst (λ w. ShowsMode c.args.draft.now at (base + length (entries i.entries)) w i.mode) (c.in-Bracket.is) st.mode) in
    to _ at base _ _ _ _ (step_of i Bracket (word c.args.word.kind c.args.word.spelling.now) m.0 ∙ in_bracket i.entries (word c.args.word.kind c.args.word.spelling.now)) (c.bracket.ensures.step at base c.args.stack.now i.entries st.below m.1)

pub returns-in-BracketName-clause-step : goal.returns-in-BracketName-clause-step
returns-in-BracketName-clause-step c = λ at base i st p.
    let m = mode_bracket_name c.args.draft.now at (base + length (entries i.entries)) c.in-BracketName.at c.in-BracketName.register i.mode (subst (λ w. ShowsMode c.args.draft.now at (base + length (entries i.entries)) w i.mode) (c.in-BracketName.is) st.mode) in
    to _ at base _ _ _ _ (step_of i (BracketName m.0) (word c.args.word.kind c.args.word.spelling.now) m.1 ∙ in_bracket_name m.0 i.entries (word c.args.word.kind c.args.word.spelling.now)) (c.sign.ensures.step c.args.draft.now at base c.args.stack.now i.entries m.0 c.args.word.spelling.now st.below m.2 m.3)

pub returns-in-Assigning-clause-step : goal.returns-in-Assigning-clause-step
returns-in-Assigning-clause-step c = λ at base i st p.
    let here = (subst (λ w. ShowsMode c.args.draft.now at (base + length (entries i.entries)) w i.mode) (c.in-Assigning.is) st.mode) in
    let m = mode_assigning c.args.draft.now at (base + length (entries i.entries)) c.in-Assigning.assignment i.mode here in
    to _ at base _ _ _ _ (step_of i (Assigning m.0 m.1) (word c.args.word.kind c.args.word.spelling.now) m.2 ∙ in_assigning m.0 m.1 i.entries (word c.args.word.kind c.args.word.spelling.now)) (c.part.ensures.first at base c.args.stack.now i.entries m.0 m.1 st.below (subst (λ y. ShowsMode c.args.draft.now at (base + length (entries i.entries)) (waits.Assigning c.in-Assigning.assignment) y) m.2 here))

pub returns-in-Assigned-clause-step : goal.returns-in-Assigned-clause-step
returns-in-Assigned-clause-step c = λ at base i st p.
    let here = (subst (λ w. ShowsMode c.args.draft.now at (base + length (entries i.entries)) w i.mode) (c.in-Assigned.is) st.mode) in
    let m = mode_assigned c.args.draft.now at (base + length (entries i.entries)) c.in-Assigned.assignment i.mode here in
    to _ at base _ _ _ _ (step_of i (Assigned m.0 m.1 m.2 m.3) (word c.args.word.kind c.args.word.spelling.now) m.4 ∙ in_assigned m.0 m.1 m.2 m.3 i.entries (word c.args.word.kind c.args.word.spelling.now)) (c.word_after_part.ensures.step at base c.args.stack.now i.entries m.0 m.1 m.2 m.3 st.below (subst (λ y. ShowsMode c.args.draft.now at (base + length (entries i.entries)) (waits.Assigned c.in-Assigned.assignment) y) m.4 here))

pub returns-in-InCount-clause-step : goal.returns-in-InCount-clause-step
returns-in-InCount-clause-step c = λ at base i st p.
    let m = mode_count c.args.draft.now at (base + length (entries i.entries)) c.in-InCount.item c.in-InCount.count c.in-InCount.brace i.mode (subst (λ w. ShowsMode c.args.draft.now at (base + length (entries i.entries)) w i.mode) (c.in-InCount.is) st.mode) in
    to _ at base _ _ _ _ (step_of i (InCount m.0 m.1) (word c.args.word.kind c.args.word.spelling.now) m.2 ∙ in_count m.0 m.1 i.entries (word c.args.word.kind c.args.word.spelling.now)) (c.go_on_counting.ensures.step c.args.stack.now at base i.entries m.0 st.below m.3 m.4 (count_step m.1 (word c.args.word.kind c.args.word.spelling.now)) m.6
    (subst (λ x. ShowsCountStep x (count_step m.1 (word c.args.word.kind c.args.word.spelling.now))) (sym c.count_step.ensures) (count_refines c.in-InCount.count m.1 c.args.word.kind c.args.word.spelling.now c.held_number.result c.held_number.ensures m.5)))

pub begin-requires-clause-constructs : goal.begin-requires-clause-constructs
begin-requires-clause-constructs c = some_named c.args.draft.now c.args.stack.now c.args.wait c.requires.inside

pub begin-requires-in-Ready-clause-constructs : goal.begin-requires-in-Ready-clause-constructs
begin-requires-in-Ready-clause-constructs c = some_named c.args.draft.now c.args.stack.now c.args.wait c.requires.inside

pub word_after_atom-requires-clause-atom : goal.word_after_atom-requires-clause-atom
word_after_atom-requires-clause-atom c = some_atom c.args.draft.now c.args.stack.now c.args.wait c.in-After.item c.in-After.is c.requires.inside

pub word_after_name-requires-clause-constructs : goal.word_after_name-requires-clause-constructs
word_after_name-requires-clause-constructs c = some_name c.args.draft.now c.args.stack.now c.args.wait c.in-Named.field-0 c.in-Named.name c.in-Named.is c.requires.inside

pub word_after_part-requires-clause-some : goal.word_after_part-requires-clause-some
word_after_part-requires-clause-some c = some_assigned c.args.draft.now c.args.stack.now c.args.wait c.in-Assigned.assignment c.in-Assigned.is c.requires.inside

pub word_after_turns-requires-clause-turned : goal.word_after_turns-requires-clause-turned
word_after_turns-requires-clause-turned c = some_turned c.args.draft.now c.args.stack.now c.args.wait c.in-Turned.item c.in-Turned.bounds c.in-Turned.is c.requires.inside

pub returns-in-Need-clause-notes : goal.returns-in-Need-clause-notes
returns-in-Need-clause-notes c = λ at base i st p cs n.
    let m = mode_need c.args.draft.now at (base + length (entries i.entries)) i.mode (subst (λ w. ShowsMode c.args.draft.now at (base + length (entries i.entries)) w i.mode) (c.in-Need.is) st.mode) in
    on_from c.begin.result cs _ _ c.begin.new.draft.broken (need_asks at (base + length (entries i.entries)) i (word c.args.word.kind c.args.word.spelling.now) m) (c.begin.ensures.notes at base i.entries st.below (word_here at base c.args.word.at i Need m need_long p) cs n)

pub returns-in-Ready-clause-notes : goal.returns-in-Ready-clause-notes
returns-in-Ready-clause-notes c = λ at base i st p cs n.
    let m = mode_ready c.args.draft.now at (base + length (entries i.entries)) i.mode (subst (λ w. ShowsMode c.args.draft.now at (base + length (entries i.entries)) w i.mode) (c.in-Ready.is) st.mode) in
    on_from c.begin-in-Ready.result cs _ _ c.begin-in-Ready.new.draft.broken (ready_asks at (base + length (entries i.entries)) i (word c.args.word.kind c.args.word.spelling.now) m) (c.begin-in-Ready.ensures.notes at base i.entries st.below (word_here at base c.args.word.at i Ready m ready_long p) cs n)

pub returns-in-After-clause-notes : goal.returns-in-After-clause-notes
returns-in-After-clause-notes c = λ at base i st p cs n.
    let m = mode_after c.args.draft.now at (base + length (entries i.entries)) c.in-After.item i.mode (subst (λ w. ShowsMode c.args.draft.now at (base + length (entries i.entries)) w i.mode) (c.in-After.is) st.mode) in
    on_from c.word_after_atom.result cs _ _ c.word_after_atom.new.draft.broken (mode_after_asks at (base + length (entries i.entries)) i (word c.args.word.kind c.args.word.spelling.now) m.0 m.1) (c.word_after_atom.ensures.notes at base i.entries m.0 st.below m.2 m.3 (word_place at base c.args.word.at i (After m.0) (length (atom m.0)) m.1 (after_long m.0) p) cs n)

pub returns-in-Turned-clause-notes : goal.returns-in-Turned-clause-notes
returns-in-Turned-clause-notes c = λ at base i st p cs n.
    let m = mode_turned c.args.draft.now at (base + length (entries i.entries)) c.in-Turned.item c.in-Turned.bounds i.mode (subst (λ w. ShowsMode c.args.draft.now at (base + length (entries i.entries)) w i.mode) (c.in-Turned.is) st.mode) in
    on_from c.word_after_turns.result cs _ _ c.word_after_turns.new.draft.broken (mode_turned_asks at (base + length (entries i.entries)) i (word c.args.word.kind c.args.word.spelling.now) m.0 m.1 m.2) (c.word_after_turns.ensures.notes at base i.entries m.0 m.1 st.below m.3 m.4 m.5 (word_place at base c.args.word.at i (Turned m.0 m.1) (length (atom m.0 ++ postfix m.1)) m.2 (turned_long m.0 m.1) p) cs n)

pub returns-in-Named-clause-notes : goal.returns-in-Named-clause-notes
returns-in-Named-clause-notes c = λ at base i st p cs n.
    let m = mode_named c.args.draft.now at (base + length (entries i.entries)) c.in-Named.field-0 c.in-Named.name i.mode (subst (λ w. ShowsMode c.args.draft.now at (base + length (entries i.entries)) w i.mode) (c.in-Named.is) st.mode) in
    on_from c.word_after_name.result cs _ _ c.word_after_name.new.draft.broken (mode_named_asks at (base + length (entries i.entries)) i (word c.args.word.kind c.args.word.spelling.now) c.in-Named.field-0 c.in-Named.name.bytes.now m.0) (c.word_after_name.ensures.notes at base i.entries st.below m.1 (word_place at base c.args.word.at i (Named c.in-Named.field-0 c.in-Named.name.bytes.now) 1 m.0 (named_long c.in-Named.field-0 c.in-Named.name.bytes.now) p) cs n)

pub returns-in-InCount-clause-notes : goal.returns-in-InCount-clause-notes
returns-in-InCount-clause-notes c = λ at base i st p cs n.
    let m = mode_count c.args.draft.now at (base + length (entries i.entries)) c.in-InCount.item c.in-InCount.count c.in-InCount.brace i.mode (subst (λ w. ShowsMode c.args.draft.now at (base + length (entries i.entries)) w i.mode) (c.in-InCount.is) st.mode) in
    on_from c.go_on_counting.result cs _ _ c.go_on_counting.new.draft.broken (mode_count_asks at (base + length (entries i.entries)) i (word c.args.word.kind c.args.word.spelling.now) m.0 m.1 m.2) (c.go_on_counting.ensures.notes (count_step m.1 (word c.args.word.kind c.args.word.spelling.now)) (at (base + length (entries i.entries) + length (atom m.0))) m.6
    (subst (λ x. ShowsCountStep x (count_step m.1 (word c.args.word.kind c.args.word.spelling.now))) (sym c.count_step.ensures) (count_refines c.in-InCount.count m.1 c.args.word.kind c.args.word.spelling.now c.held_number.result c.held_number.ensures m.5)) cs n)

pub returns-in-Writing-clause-notes : goal.returns-in-Writing-clause-notes
returns-in-Writing-clause-notes c = λ at base i st p cs n.
    let m = mode_writing c.args.draft.now at (base + length (entries i.entries)) c.in-Writing.at i.mode (subst (λ w. ShowsMode c.args.draft.now at (base + length (entries i.entries)) w i.mode) (c.in-Writing.is) st.mode) in
    on_from c.write.result cs [] _ c.write.new.draft.broken (quiet_mode at (base + length (entries i.entries)) i (Writing) (word c.args.word.kind c.args.word.spelling.now) m.0 tt) (on_same c.write.result cs c.args.draft.now.broken c.write.new.draft.broken c.write.ensures.broken n)

pub returns-in-Bracket-clause-notes : goal.returns-in-Bracket-clause-notes
returns-in-Bracket-clause-notes c = λ at base i st p cs n.
    let m = mode_bracket c.args.draft.now at (base + length (entries i.entries)) c.in-Bracket.at i.mode (subst (λ w. ShowsMode c.args.draft.now at (base + length (entries i.entries)) w i.mode) (c.in-Bracket.is) st.mode) in
    on_from c.bracket.result cs [] _ c.bracket.new.draft.broken (quiet_mode at (base + length (entries i.entries)) i (Bracket) (word c.args.word.kind c.args.word.spelling.now) m.0 tt) (on_same c.bracket.result cs c.args.draft.now.broken c.bracket.new.draft.broken c.bracket.ensures.broken n)

pub returns-in-BracketName-clause-notes : goal.returns-in-BracketName-clause-notes
returns-in-BracketName-clause-notes c = λ at base i st p cs n.
    let m = mode_bracket_name c.args.draft.now at (base + length (entries i.entries)) c.in-BracketName.at c.in-BracketName.register i.mode (subst (λ w. ShowsMode c.args.draft.now at (base + length (entries i.entries)) w i.mode) (c.in-BracketName.is) st.mode) in
    on_from c.sign.result cs [] _ c.args.draft.now.broken (quiet_mode at (base + length (entries i.entries)) i (BracketName m.0) (word c.args.word.kind c.args.word.spelling.now) m.1 tt) (on_same c.sign.result cs c.args.draft.now.broken c.args.draft.now.broken (on_refl c.sign.result c.args.draft.now.broken) n)

pub returns-in-Assigning-clause-notes : goal.returns-in-Assigning-clause-notes
returns-in-Assigning-clause-notes c = λ at base i st p cs n.
    let m = mode_assigning c.args.draft.now at (base + length (entries i.entries)) c.in-Assigning.assignment i.mode (subst (λ w. ShowsMode c.args.draft.now at (base + length (entries i.entries)) w i.mode) (c.in-Assigning.is) st.mode) in
    on_from c.part.result cs [] _ c.part.new.draft.broken (quiet_mode at (base + length (entries i.entries)) i (Assigning m.0 m.1) (word c.args.word.kind c.args.word.spelling.now) m.2 tt) (on_same c.part.result cs c.args.draft.now.broken c.part.new.draft.broken c.part.ensures.broken n)

pub returns-in-Assigned-clause-notes : goal.returns-in-Assigned-clause-notes
returns-in-Assigned-clause-notes c = λ at base i st p cs n.
    let m = mode_assigned c.args.draft.now at (base + length (entries i.entries)) c.in-Assigned.assignment i.mode (subst (λ w. ShowsMode c.args.draft.now at (base + length (entries i.entries)) w i.mode) (c.in-Assigned.is) st.mode) in
    on_from c.word_after_part.result cs [] _ c.word_after_part.new.draft.broken (quiet_mode at (base + length (entries i.entries)) i (Assigned m.0 m.1 m.2 m.3) (word c.args.word.kind c.args.word.spelling.now) m.4 tt) (on_same c.word_after_part.result cs c.args.draft.now.broken c.word_after_part.new.draft.broken c.word_after_part.ensures.broken n)

pub returns-in-Need-clause-held : goal.returns-in-Need-clause-held
returns-in-Need-clause-held c = waiting c.args.wait _ _ _ _ _ _ c.in-Need.is c.begin.ensures.held

pub returns-in-Ready-clause-held : goal.returns-in-Ready-clause-held
returns-in-Ready-clause-held c = waiting c.args.wait _ _ _ _ _ _ c.in-Ready.is c.begin-in-Ready.ensures.held

pub returns-in-After-clause-held : goal.returns-in-After-clause-held
returns-in-After-clause-held c = waiting c.args.wait _ _ _ _ _ _ c.in-After.is c.word_after_atom.ensures.held

pub returns-in-Turned-clause-held : goal.returns-in-Turned-clause-held
returns-in-Turned-clause-held c = waiting c.args.wait _ _ _ _ _ _ c.in-Turned.is c.word_after_turns.ensures.held

pub returns-in-Named-clause-held : goal.returns-in-Named-clause-held
returns-in-Named-clause-held c = waiting c.args.wait _ _ _ _ _ _ c.in-Named.is c.word_after_name.ensures.held

pub returns-in-Writing-clause-held : goal.returns-in-Writing-clause-held
returns-in-Writing-clause-held c = waiting c.args.wait _ _ _ _ _ _ c.in-Writing.is (c.write.ensures.held c.args.stack.now)

pub returns-in-Bracket-clause-held : goal.returns-in-Bracket-clause-held
returns-in-Bracket-clause-held c = waiting c.args.wait _ _ _ _ _ _ c.in-Bracket.is (c.bracket.ensures.held c.args.stack.now)

pub returns-in-Assigning-clause-held : goal.returns-in-Assigning-clause-held
returns-in-Assigning-clause-held c = waiting c.args.wait _ _ _ _ _ _ c.in-Assigning.is (c.part.ensures.held c.args.stack.now)

pub returns-in-Assigned-clause-held : goal.returns-in-Assigned-clause-held
returns-in-Assigned-clause-held c = waiting c.args.wait _ _ _ _ _ _ c.in-Assigned.is (c.word_after_part.ensures.held c.args.stack.now)

pub returns-in-InCount-clause-held : goal.returns-in-InCount-clause-held
returns-in-InCount-clause-held c = waiting c.args.wait _ _ _ _ _ _ c.in-InCount.is (c.go_on_counting.ensures.held c.args.stack.now)

pub returns-in-BracketName-clause-held : goal.returns-in-BracketName-clause-held
returns-in-BracketName-clause-held c = waiting c.args.wait _ _ _ _ _ _ c.in-BracketName.is (sign_read c.sign.result c.args.draft.now c.args.stack.now c.in-BracketName.at c.in-BracketName.register c.sign.ensures.held)
