use Rattle.std.proofs.Common.{length, get_or, Err, sym, ap, ◌∙◌, subst, arith}
use Rattle.std.specs.List.{slice_range}
use Rattle.std.proofs.lemmas.Option.{slice_get-get_or}
use Rattle.kex_tokens.specs.declared.token.Token.{Token}
use Rattle.kex_tokens.specs.declared.token.TokenKind.TheVariants as kinds
use Rattle.kex_reader.specs.Syntax.{word}
use Rattle.kex_reader.specs.Reading.{Begin, step, finish}
use Rattle.kex_reader.specs.Checks.{program_checks}
use Rattle.kex_reader.specs.Asked.{state_checks}
use Rattle.kex_reader.specs.Holding.{StateSteps, Finishes}
use Rattle.kex_reader.specs.Stands.{NotesLeast}
use Rattle.kex_reader.specs.Spelling.{offset, words, IsRefusedAs}
use Rattle.kex_reader.proofs.ProgramTexts.{word_at, offset_at, words_long, offset_end, reads_more, taken_long, wrong_word, wrong_end, program_read, state_ok, state_bad, finish_ok, finish_bad, next_checks, end_checks, begin_shows, begin_reads, begin_notes, step_refused, spells_ok, refused_ok, end_of}
use Rattle.kex_reader.specs.Holding.{InProgram}
use Rattle.kex_reader.proofs.Uses.{all_held, none_made}
use Rattle.kex_reader.proofs.text.parse.Goals as goal

abbrev D : Token
D = record { kind = kinds.Name; from = 0; to = 0 }

pub loop-i-init : goal.loop-i-init
loop-i-init c =
    let e = c.new-reader.ensures in
    let r = c.new-reader.result in
    record { state = Begin; reads = begin_reads; shows = begin_shows r.draft (offset c.args.text.now c.args.tokens.now) r.stack r.definitions.items r.stages.items e.0 e.1 e.2; held = none_made r.draft _ e.3; notes = begin_notes (offset c.args.text.now c.args.tokens.now) r.draft.broken (ap (λ m. m.broken) e.3) }

pub loop-i-preserved : goal.loop-i-preserved
loop-i-preserved c =
    let i = c.loop-i.invariant in
    let lt = c.loop-i-test.true in
    let t = (get_or c.args.tokens.now c.loop-i.i D) in
    let g = slice_get-get_or c.args.tokens.now c.loop-i.i D lt in
    let s = i.state in
    let long = taken_long (words c.args.text.now c.args.tokens.now) c.loop-i.i s (omega (arith, lt, words_long c.args.text.now c.args.tokens.now)) i.reads in
    let place = sym (offset_at c.args.text.now c.args.tokens.now c.loop-i.i t g) ∙ ap (offset c.args.text.now c.args.tokens.now) (sym long) in
    let same = ap (λ b. word t.kind b) c.spelling.ensures.bytes in
    let r = c.step.new.self in
    let n = state_ok r.draft (offset c.args.text.now c.args.tokens.now) r.stack r.definitions.items r.stages.items c.in-Ok.next (step s (word t.kind c.spelling.result.now)) (c.in-Ok.ensures.step (offset c.args.text.now c.args.tokens.now) s i.shows place) in
    record {
      state = n.0;
      reads = reads_more (words c.args.text.now c.args.tokens.now) c.loop-i.i s (word t.kind (slice_range c.args.text.now t.from t.to)) (word_at c.args.text.now c.args.tokens.now c.loop-i.i t g) i.reads ∙ ap (step s) (sym same) ∙ n.1;
      shows = n.2;
      held = all_held c.loop-i.reader.draft r.draft _ _ c.in-Ok.ensures.held i.held;
      notes = subst (λ cs. NotesLeast cs r.draft.broken) (next_checks (offset c.args.text.now c.args.tokens.now) s n.0 (word t.kind c.spelling.result.now) n.1) (c.in-Ok.ensures.notes (offset c.args.text.now c.args.tokens.now) s (state_checks (offset c.args.text.now c.args.tokens.now) s) i.shows place i.notes);
    }

pub returns-in-Err-clause-refused : goal.returns-in-Err-clause-refused
returns-in-Err-clause-refused c =
    let i = c.loop-i.invariant in
    let lt = c.loop-i-test.true in
    let t = (get_or c.args.tokens.now c.loop-i.i D) in
    let g = slice_get-get_or c.args.tokens.now c.loop-i.i D lt in
    let s = i.state in
    let long = taken_long (words c.args.text.now c.args.tokens.now) c.loop-i.i s (omega (arith, lt, words_long c.args.text.now c.args.tokens.now)) i.reads in
    let place = sym (offset_at c.args.text.now c.args.tokens.now c.loop-i.i t g) ∙ ap (offset c.args.text.now c.args.tokens.now) (sym long) in
    let same = ap (λ b. word t.kind b) c.spelling.ensures.bytes in
    let r = c.step.new.self in
    subst (λ e. IsRefusedAs c.args.text.now e) (sym c.step_refusal.ensures) (step_refused c.args.text.now c.in-Err.fault t.from c.requires.short
    (λ e. (c.args.tokens.now, c.loop-i.i, c.requires.cut, wrong_word (words c.args.text.now c.args.tokens.now) c.loop-i.i s (word t.kind (slice_range c.args.text.now t.from t.to)) (word_at c.args.text.now c.args.tokens.now c.loop-i.i t g) i.reads (ap (step s) (sym same) ∙ state_bad r.draft (offset c.args.text.now c.args.tokens.now) r.stack r.definitions.items r.stages.items (step s (word t.kind c.spelling.result.now)) (subst (λ f. StateSteps r.draft (offset c.args.text.now c.args.tokens.now) r.stack r.definitions.items r.stages.items (Err f) (step s (word t.kind c.spelling.result.now))) e (c.in-Err.ensures.step (offset c.args.text.now c.args.tokens.now) s i.shows place))), sym (offset_at c.args.text.now c.args.tokens.now c.loop-i.i t g))))

pub returns-in-Err-finish-clause-refused : goal.returns-in-Err-finish-clause-refused
returns-in-Err-finish-clause-refused c =
    let i = c.loop-i.invariant in
    let s = i.state in
    let r = c.finish.new.self in
    let end = end_of c.loop-i.i c.args.text.now c.args.tokens.now c.loop-i-test.false c.loop-i.auto.i-end in
    subst (λ e. IsRefusedAs c.args.text.now e) (sym c.step_refusal-in-Err-finish.ensures) (step_refused c.args.text.now c.in-Err-finish.fault (length c.args.text.now) c.requires.short
    (λ e. (c.args.tokens.now, c.loop-i.i, c.requires.cut, wrong_end (words c.args.text.now c.args.tokens.now) c.loop-i.i s (end ∙ sym (words_long c.args.text.now c.args.tokens.now)) i.reads (finish_bad r.draft (offset c.args.text.now c.args.tokens.now) r.definitions.items r.stages.items (finish s) (subst (λ f. Finishes r.draft (offset c.args.text.now c.args.tokens.now) r.definitions.items r.stages.items (Err f) (finish s)) e (c.in-Err-finish.ensures.ends (offset c.args.text.now c.args.tokens.now) s i.shows))), sym (offset_end c.args.text.now c.args.tokens.now c.loop-i.i (omega (arith, end))))))

pub program-requires : goal.program-requires
program-requires c =
    let i = c.loop-i.invariant in
    let r = c.finish.new.self in
    let f = finish_ok r.draft (offset c.args.text.now c.args.tokens.now) r.definitions.items r.stages.items _ (finish i.state) (c.in-Ok-finish.ensures.ends (offset c.args.text.now c.args.tokens.now) i.state i.shows) in
    (offset c.args.text.now c.args.tokens.now, f.0, f.2, f.3)

pub returns-clause-read : goal.returns-clause-read
returns-clause-read c =
    let i = c.loop-i.invariant in
    let r = c.finish.new.self in
    let at = offset c.args.text.now c.args.tokens.now in
    let f = finish_ok r.draft at r.definitions.items r.stages.items _ (finish i.state) (c.in-Ok-finish.ensures.ends at i.state i.shows) in
    spells_ok c.program.result c.args.text.now c.args.tokens.now f.0 r.draft r.definitions.items r.stages.items c.requires.short c.requires.cut
    (program_read (words c.args.text.now c.args.tokens.now) c.loop-i.i i.state f.0 (omega (arith, c.loop-i-test.false, words_long c.args.text.now c.args.tokens.now)) i.reads f.1)
    (subst (λ o. NotesLeast (program_checks f.0 at) o) (sym c.in-Ok-finish.ensures.broken) (subst (λ cs. NotesLeast cs c.loop-i.reader.draft.broken) (end_checks at i.state f.0 f.1) i.notes))
    f.2 f.3 c.program.ensures.whole c.program.ensures.shown c.program.ensures.names c.program.ensures.registers (all_held c.loop-i.reader.draft r.draft _ (InProgram r) c.in-Ok-finish.ensures.held i.held) c.program.ensures.used

pub returns-clause-refused : goal.returns-clause-refused
returns-clause-refused c =
    let i = c.loop-i.invariant in
    let r = c.finish.new.self in
    let at = offset c.args.text.now c.args.tokens.now in
    let f = finish_ok r.draft at r.definitions.items r.stages.items _ (finish i.state) (c.in-Ok-finish.ensures.ends at i.state i.shows) in
    refused_ok c.program.result c.args.text.now c.args.tokens.now f.0 r.draft.broken c.requires.short c.requires.cut
    (program_read (words c.args.text.now c.args.tokens.now) c.loop-i.i i.state f.0 (omega (arith, c.loop-i-test.false, words_long c.args.text.now c.args.tokens.now)) i.reads f.1)
    (subst (λ o. NotesLeast (program_checks f.0 at) o) (sym c.in-Ok-finish.ensures.broken) (subst (λ cs. NotesLeast cs c.loop-i.reader.draft.broken) (end_checks at i.state f.0 f.1) i.notes))
    c.program.ensures.refused
