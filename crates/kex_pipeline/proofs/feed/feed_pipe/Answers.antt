use Rattle.std.proofs.Common.{◌∷◌, [], ◌++◌, ℕ, List, false, refl, sym, ap, ◌∙◌, take}
use Rattle.kex_model.specs.Schedules.{give}
use Rattle.kex_pipeline.specs.History.{bytes_passed, history_text}
use Rattle.kex_pipeline.specs.Piped.{AnyPipeStands, plans_of}
use Rattle.kex_pipeline.proofs.PipeAnswers.{not-in-round, not-spent, standing, still-open, same-plans, said-all, bytes-more, end-open}
use Rattle.kex_pipeline.proofs.StageRounds.{off-of}
use Rattle.kex_pipeline.proofs.feed.feed_pipe.Goals as goal

pub give_front-requires-clause-unended : goal.give_front-requires-clause-unended
give_front-requires-clause-unended g c = λ κs bounds. still-open g.T.Turn c.args.pipe.now c.requires.0 c.requires.1 c.requires.2

pub give_front-requires-clause-closed : goal.give_front-requires-clause-closed
give_front-requires-clause-closed g c = λ κs bounds. not-in-round g.T.Turn c.args.pipe.now c.requires.0 c.requires.1

pub give_front-requires-clause-going : goal.give_front-requires-clause-going
give_front-requires-clause-going g c = λ κs bounds. not-spent g.T.Turn c.args.pipe.now c.requires.0 c.requires.1

pub returns-clause-same : goal.returns-clause-same
returns-clause-same g c =
    let text = history_text c.requires.0 in
    let x = standing g.T.Turn c.args.pipe.now c.requires.0 c.requires.1 in
    let ps = plans_of g.T.Turn c.args.pipe.now in
    let given = c.in_ok-count.ensures.given ps x.events text x.stands in
    let w = c.in_ok-work_off.ensures.works ps given.events text given.stands_for in
    same-plans g.T.Turn ps c.take_output_into.new.self w.events (text ++ c.take_output_into.new.out.items) (c.take_output_into.ensures.stands ps w.events text w.stands_for)

pub returns-clause-feeds : goal.returns-clause-feeds
returns-clause-feeds g c = λ h s e.
    let piece : List ℕ = take c.in_ok-count.count c.args.piece.now in
    let x = standing g.T.Turn c.args.pipe.now h s in
    let ps = plans_of g.T.Turn c.args.pipe.now in
    let events = x.events ++ give piece ∷ [] in
    let given = c.in_ok-count.ensures.given ps x.events (history_text h) x.stands in
    let w = off-of g.T.Turn.gives ps (λ k. AnyPipeStands g.T.Turn ps c.work_off.new.pipe k (history_text h)) events given.events (given.bytes ∙ sym (bytes-more x.events piece)) (given.same_end ∙ sym (end-open x.events piece)) (c.in_ok-work_off.ensures.works ps given.events (history_text h) given.stands_for) in
    said-all g.T.Turn ps c.work_off.new.pipe c.take_output_into.new.self events (history_text h) c.take_output_into.new.out.items c.report.result
    h (bytes_passed h ++ piece) false c.fate_of.result x.some refl (bytes-more x.events piece ∙ ap (λ (z : List ℕ). z ++ piece) x.bytes) (end-open x.events piece ∙ x.end ∙ e)
    w (λ k st. c.take_output_into.ensures.stands ps k (history_text h) st) c.take_output_into.ensures.none_left (λ k text st done. c.report.ensures.settled ps k text st done) c.fate_of.ensures
