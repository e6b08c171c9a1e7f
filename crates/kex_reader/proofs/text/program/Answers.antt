use Rattle.std.proofs.Common.{◌<◌, length, sym, ap, ◌∙◌, subst}
use Rattle.kex_code.specs.Codes.{IsAmong}
use Rattle.kex_reader.specs.Syntax.{header}
use Rattle.kex_reader.specs.Spelling.{main_stage}
use Rattle.kex_reader.proofs.ProgramTexts.{definitions_in, memory_refused, started_in, program_shows}
use Rattle.kex_reader.proofs.Uses.{none_spare}
use Rattle.kex_reader.proofs.text.program.Goals as goal

pub stages_of-requires : goal.stages_of-requires
stages_of-requires c = λ d m.
    let r = c.requires in
    let h = definitions_in r.1.definitions c.args.draft r.0 c.args.definitions.items (length (header r.1.header)) r.2 d (subst (λ xs. IsAmong xs d) c.deref-2.ensures.value m) in
    subst (λ ns. d.name < length ns) (sym (c.deref.ensures.value ∙ c.in_ok-names.ensures.same)) h.0

pub finish-requires-clause-defined : goal.finish-requires-clause-defined
finish-requires-clause-defined c = λ d m. let r = c.requires in definitions_in r.1.definitions c.args.draft r.0 c.args.definitions.items (length (header r.1.header)) r.2 d m

pub finish-requires-clause-started : goal.finish-requires-clause-started
finish-requires-clause-started c = λ s m.
    let r = c.requires in
    started_in r.1.header c.args.draft r.0 c.args.named.items c.in_ok-stages.stages.items c.deref.result.now c.deref-2.result.now r.3 c.in_ok-stages.ensures.line c.in_ok-stages.ensures.main (c.deref.ensures.value ∙ c.in_ok-names.ensures.same)
    (λ d i. (definitions_in r.1.definitions c.args.draft r.0 c.args.definitions.items (length (header r.1.header)) r.2 d (subst (λ xs. IsAmong xs d) c.deref-2.ensures.value i)).0) s m

pub returns-clause-shown : goal.returns-clause-shown
returns-clause-shown c = λ at tree df hd.
    program_shows c.args.draft at tree c.args.definitions.items c.args.named.items c.in_ok-program.program (sym c.broken.ensures ∙ c.in_default.is) (ap (λ p. p.nodes) c.in_ok-program.ensures.made) (ap (λ p. p.names) c.in_ok-program.ensures.made ∙ c.in_ok-names.ensures.same) (ap (λ p. p.definitions) c.in_ok-program.ensures.made)
    (λ n. ap (λ p. p.stages) c.in_ok-program.ensures.made ∙ c.in_ok-stages.ensures.line n)
    (λ n. ap (λ p. p.stages) c.in_ok-program.ensures.made ∙ c.in_ok-stages.ensures.main n ∙ ap (λ ns. main_stage ns c.deref-2.result.now) (c.deref.ensures.value ∙ sym (ap (λ p. p.names) c.in_ok-program.ensures.made)) ∙ ap (main_stage c.in_ok-program.program.names) (c.deref-2.ensures.value ∙ sym (ap (λ p. p.definitions) c.in_ok-program.ensures.made)))
    df hd

pub returns-clause-used : goal.returns-clause-used
returns-clause-used c = λ all. none_spare c.args.draft _ c.args.definitions.items c.args.named.items _ _ c.in_ok-program.ensures.made c.in_ok-names.ensures.same c.in_ok-stages.ensures.line all

pub returns-in_err-names-clause-refused : goal.returns-in_err-names-clause-refused
returns-in_err-names-clause-refused c = memory_refused c.from_residual.result _ c.from_residual.ensures.1

pub returns-in_err-stages-clause-refused : goal.returns-in_err-stages-clause-refused
returns-in_err-stages-clause-refused c = memory_refused c.from_residual-in_err-stages.result _ c.from_residual-in_err-stages.ensures.1

pub returns-in_err-program-clause-refused : goal.returns-in_err-program-clause-refused
returns-in_err-program-clause-refused c = memory_refused c.from_residual-in_err-program.result _ c.from_residual-in_err-program.ensures.1
