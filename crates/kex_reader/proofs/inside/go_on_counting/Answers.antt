use Rattle.std.proofs.Common.{subst}
use Rattle.kex_regexp.specs.Holding.{ShowsCountStep}
use Rattle.kex_reader.proofs.Drafts.{atom_more}
use Rattle.kex_reader.proofs.Stacks.{constructs_more}
use Rattle.kex_reader.proofs.Modes.{count_notes, count_on, count_on_notes, count_read, count_wrong}
use Rattle.kex_reader.proofs.Uses.{unchanged}
use Rattle.kex_reader.proofs.inside.go_on_counting.Goals as goal

pub returns-in-On-clause-step : goal.returns-in-On-clause-step
returns-in-On-clause-step c = λ fs at base es a h e s t b k. count_on c.args.draft.now at base fs es a c.args.item c.args.brace c.in-On.count t h e b s (subst (λ x. ShowsCountStep x t) c.in-On.is k)

pub returns-in-Read-clause-step : goal.returns-in-Read-clause-step
returns-in-Read-clause-step c = λ fs at base es a h e s t b k.
    let more = c.note_count.ensures.keeps in
    count_read c.note_count.new.draft at base fs es a c.args.item c.in-Read.bounds t (constructs_more c.args.draft.now c.note_count.new.draft at base fs es more h) e (atom_more a c.args.draft.now c.note_count.new.draft at c.args.item.node _ more s) c.note_count.ensures.noted (subst (λ x. ShowsCountStep x t) c.in-Read.is k)

pub returns-in-Wrong-clause-step : goal.returns-in-Wrong-clause-step
returns-in-Wrong-clause-step c = λ fs at base es a h e s t b k. count_wrong c.args.draft.now at base fs es a t (subst (λ x. ShowsCountStep x t) c.in-Wrong.is k)

pub returns-in-On-clause-notes : goal.returns-in-On-clause-notes
returns-in-On-clause-notes c = λ t from b k cs n. count_on_notes from t c.in-On.count (subst (λ x. ShowsCountStep x t) c.in-On.is k) cs c.args.draft.now.broken n

pub returns-in-Read-clause-notes : goal.returns-in-Read-clause-notes
returns-in-Read-clause-notes c = λ t from b k cs n. count_notes c.in-Read.bounds t cs c.note_count.new.draft.broken from (subst (λ x. ShowsCountStep x t) c.in-Read.is k) (λ p h. c.note_count.ensures.notes p from b h cs n)

pub returns-in-On-clause-held : goal.returns-in-On-clause-held
returns-in-On-clause-held c = λ fs. unchanged _ _ _ (λ x h. h)
