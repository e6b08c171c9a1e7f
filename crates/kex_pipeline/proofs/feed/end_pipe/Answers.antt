use Rattle.std.proofs.Common.{◌∷◌, [], ◌++◌, true, refl, ◌∙◌}
use Rattle.kex_model.specs.Schedules.{give_end}
use Rattle.kex_pipeline.specs.History.{bytes_passed, history_text}
use Rattle.kex_pipeline.specs.Piped.{plans_of}
use Rattle.kex_pipeline.proofs.PipeAnswers.{not-in-round, not-spent, standing, still-open, same-plans, said-all, bytes-same, end-now}
use Rattle.kex_pipeline.proofs.feed.end_pipe.Goals as goal

pub give_end-requires-clause-unended : goal.give_end-requires-clause-unended
give_end-requires-clause-unended g c = still-open g.T.Turn c.args.pipe.now c.requires.0 c.requires.1 c.requires.2

pub give_end-requires-clause-closed : goal.give_end-requires-clause-closed
give_end-requires-clause-closed g c = not-in-round g.T.Turn c.args.pipe.now c.requires.0 c.requires.1

pub give_end-requires-clause-going : goal.give_end-requires-clause-going
give_end-requires-clause-going g c = not-spent g.T.Turn c.args.pipe.now c.requires.0 c.requires.1

pub returns-clause-same : goal.returns-clause-same
returns-clause-same g c =
    let text = history_text c.requires.0 in
    let x = standing g.T.Turn c.args.pipe.now c.requires.0 c.requires.1 in
    let ps = plans_of g.T.Turn c.args.pipe.now in
    let w = c.in_ok-work_off.ensures.works ps (x.events ++ give_end ∷ []) text (c.in_ok-give_end.ensures.stands ps x.events text x.stands) in
    same-plans g.T.Turn ps c.take_output_into.new.self w.events (text ++ c.take_output_into.new.out.items) (c.take_output_into.ensures.stands ps w.events text w.stands_for)

pub returns-clause-feeds : goal.returns-clause-feeds
returns-clause-feeds g c = λ h s e.
    let x = standing g.T.Turn c.args.pipe.now h s in
    let ps = plans_of g.T.Turn c.args.pipe.now in
    let given = x.events ++ give_end ∷ [] in
    let w = c.in_ok-work_off.ensures.works ps given (history_text h) (c.in_ok-give_end.ensures.stands ps x.events (history_text h) x.stands) in
    said-all g.T.Turn ps c.work_off.new.pipe c.take_output_into.new.self given (history_text h) c.take_output_into.new.out.items c.report.result
    h (bytes_passed h) true c.fate_of.result x.some refl (bytes-same x.events ∙ x.bytes) (end-now x.events)
    w (λ k st. c.take_output_into.ensures.stands ps k (history_text h) st) c.take_output_into.ensures.none_left (λ k text st done. c.report.ensures.settled ps k text st done) c.fate_of.ensures
