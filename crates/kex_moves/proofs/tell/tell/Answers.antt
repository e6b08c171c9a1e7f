use Rattle.std.proofs.Common.{◌≡◌, ◌∙◌, ◌++◌, ◌∷◌, [], ◌+◌, ◌-◌, length, get_or, take, drop, refl, sym, ap, subst, arith, append-nil, length-take, length-drop}
use Rattle.std.proofs.lemmas.List.{drop_more, take-append-drop, take_more, take_all}
use Rattle.kex_script.specs.Pieces.{word_code, code_over}
use Rattle.kex_moves.specs.Speech.{PerformsSaid, RefusesCode}
use Rattle.kex_moves.proofs.EdgeRuns.{part_more}
use Rattle.kex_moves.proofs.Trails.{no_piece}
use Rattle.kex_moves.proofs.PieceRuns.{spelled_more, performs_more, performs_took, refuses_later}
use Rattle.kex_moves.proofs.tell.tell.Goals as goal

pub pieces-preserved : goal.pieces-preserved
pieces-preserved c =
    let words = c.args.lexicon.now.words.now in
    let pieces = c.args.pieces.now in
    let at = c.pieces.at in
    let n = length pieces - at in
    let part = take n (drop at pieces) in
    let old = c.pieces.invariant in
    let e = c.in_ok-at.ensures {u = tt} in
    let count = c.in_ok-at.field-0 in
    let whole = sym (spelled_more words (take at pieces) (take count part)) ∙ ap (code_over words) (part_more pieces part at n count refl e.within) in
    let all = performs_more c.args.actor.now c.pieces.actor c.tell_some.new.actor (code_over words (take at pieces)) (code_over words (take count part)) c.args.out.now.items c.pieces.out.items c.tell_some.new.out.items (old.machine ∙ sym c.requires.machine) old.performs e.performs in
    record {
      at = omega (arith, e.within, length-take n (drop at pieces), length-drop at pieces, old.at);
      machine = e.machine ∙ old.machine;
      usable = e.usable;
      known = e.known;
      blank = e.none;
      room = e.room ∙ old.room;
      performs = subst (λ d. PerformsSaid c.args.actor.now c.tell_some.new.actor d c.args.out.now.items c.tell_some.new.out.items) whole all;
    }

pub pieces-preserved-then-at-pieces : goal.pieces-preserved-then-at-pieces
pieces-preserved-then-at-pieces c =
    let words = c.args.lexicon.now.words.now in
    let pieces = c.args.pieces.now in
    let at = c.pieces.at in
    let n = length pieces - at in
    let part = take n (drop at pieces) in
    let old = c.pieces.invariant in
    let e = c.in_ok-at.ensures {u = tt} in
    let took = c.in_ok-take_word.ensures {u = tt} in
    let count = c.in_ok-at.field-0 in
    let here = at + count in
    let next = get_or pieces here no_piece in
    let y = c.tell_some.new.out.items in
    let z = c.take_word.new.out.items in
    let some = performs_more c.args.actor.now c.pieces.actor c.tell_some.new.actor (code_over words (take at pieces)) (code_over words (take count part)) c.args.out.now.items c.pieces.out.items y (old.machine ∙ sym c.requires.machine) old.performs e.performs in
    let one = performs_took c.tell_some.new.actor c.take_word.new.actor (word_code words next) y z (took.took c.if-not-branch.false) in
    let machine = e.machine ∙ old.machine ∙ sym c.requires.machine in
    let all = performs_more c.args.actor.now c.tell_some.new.actor c.take_word.new.actor (code_over words (take at pieces) ++ code_over words (take count part)) (word_code words next) c.args.out.now.items y z machine some one in
    let front = sym (spelled_more words (take at pieces) (take count part)) ∙ ap (code_over words) (part_more pieces part at n count refl e.within) in
    let whole = ap (λ l. l ++ word_code words next) front
    ∙ ap (λ l. code_over words (take here pieces) ++ l) (sym (append-nil (word_code words next)))
    ∙ sym (spelled_more words (take here pieces) (next ∷ []))
    ∙ ap (code_over words) (sym (take_more pieces here no_piece c.if-at-pieces.true)) in
    record {
      at = omega (arith, c.if-at-pieces.true);
      machine = took.machine ∙ e.machine ∙ old.machine;
      usable = took.usable;
      known = e.known;
      blank = e.none;
      room = e.room ∙ old.room;
      performs = subst (λ d. PerformsSaid c.args.actor.now c.take_word.new.actor d c.args.out.now.items z) whole all;
    }

pub returns-clause-performs : goal.returns-clause-performs
returns-clause-performs c =
    let pieces = c.args.pieces.now in
    let all : take c.pieces.at pieces ≡ pieces = take_all c.pieces.at pieces (omega (arith, c.pieces-test.false)) in
    λ yes. subst (λ ps. PerformsSaid c.args.actor.now c.pieces.actor (code_over c.args.lexicon.now.words.now ps) c.args.out.now.items c.pieces.out.items) all c.pieces.invariant.performs

pub returns-then-not-branch-clause-refused : goal.returns-then-not-branch-clause-refused
returns-then-not-branch-clause-refused c = λ no.
    let words = c.args.lexicon.now.words.now in
    let pieces = c.args.pieces.now in
    let at = c.pieces.at in
    let n = length pieces - at in
    let part = take n (drop at pieces) in
    let old = c.pieces.invariant in
    let e = c.in_ok-at.ensures {u = tt} in
    let took = c.in_ok-take_word.ensures {u = tt} in
    let count = c.in_ok-at.field-0 in
    let here = at + count in
    let next = get_or pieces here no_piece in
    let tail = drop (here + 1) pieces in
    let a = c.args.actor.now in
    let b = c.tell_some.new.actor in
    let x = c.args.out.now.items in
    let y = c.tell_some.new.out.items in
    let some = performs_more a c.pieces.actor b (code_over words (take at pieces)) (code_over words (take count part)) x c.pieces.out.items y (old.machine ∙ sym c.requires.machine) old.performs e.performs in
    let front = sym (spelled_more words (take at pieces) (take count part)) ∙ ap (code_over words) (part_more pieces part at n count refl e.within) in
    let performs = subst (λ d. PerformsSaid a b d x y) front some in
    let machine = e.machine ∙ old.machine ∙ sym c.requires.machine in
    let parts : pieces ≡ take here pieces ++ next ∷ tail = sym (take-append-drop here pieces) ∙ ap (λ l. take here pieces ++ l) (drop_more pieces here no_piece c.if-at-pieces.true) in
    let all = ap (code_over words) parts ∙ spelled_more words (take here pieces) (next ∷ tail) in
    subst (λ d. RefusesCode a d) (sym all) (refuses_later a b (code_over words (take here pieces)) (word_code words next) (code_over words tail) x y machine performs (took.refused c.if-not-branch.true))
