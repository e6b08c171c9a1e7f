use Rattle.std.proofs.Common.{◌∙◌, ◌-◌, ◌<◌, length, take, drop, refl, sym, ap, subst, arith, length-take, length-drop}
use Rattle.kex_script.specs.Pieces.{code_over}
use Rattle.kex_moves.specs.Known.{IsKnown}
use Rattle.kex_moves.specs.Speech.{words_table, SaidOn}
use Rattle.kex_moves.proofs.KnownEdges.{pair_known}
use Rattle.kex_moves.proofs.EdgeRuns.{part_more}
use Rattle.kex_moves.proofs.SheetRuns.{blank_sheet}
use Rattle.kex_moves.proofs.PieceRuns.{spelled_more, said_none, said_more, told}
use Rattle.kex_moves.proofs.tell.tell_from.Goals as goal

pub rounds-init : goal.rounds-init
rounds-init c = record {
  at = omega arith;
  machine = refl;
  usable = c.requires.usable;
  sheet = blank_sheet c.args.sheet.now c.requires.none;
  room = c.requires.room;
  said = λ words known. said_none c.args.edges.now c.args.actor.now c.args.sheet.now c.args.from c.args.out.now.items;
}

pub go_on-requires-clause-row : goal.go_on-requires-clause-row
go_on-requires-clause-row c = let r = c.rounds.invariant.said c.requires.known.0 c.requires.known.1 c.requires.row.0 c.requires.row.1 in (r.to, r.row_of)

pub rounds-preserved : goal.rounds-preserved
rounds-preserved c =
    let k = c.args.edges.now in
    let pieces = c.args.pieces.now in
    let at = c.rounds.at in
    let n = length pieces - at in
    let part = take n (drop at pieces) in
    let e = c.in_ok-gone.ensures {u = tt} in
    let gone = c.in_ok-gone.gone in
    let old = c.rounds.invariant in
    record {
      at = omega (arith, e.within, length-take n (drop at pieces), length-drop at pieces, old.at);
      machine = e.machine ∙ old.machine;
      usable = e.usable;
      sheet = e.sheet.0;
      room = e.sheet.1 ∙ old.room;
      said = λ words known.
          let next = e.said words (subst (λ m. IsKnown (words_table words) m k) (sym old.machine) known) in
          let all = said_more k c.args.actor.now c.rounds.actor c.go_on.new.actor c.args.sheet.now c.rounds.sheet c.go_on.new.sheet c.args.from c.rounds.row gone.row (code_over words (take at pieces)) (code_over words (take gone.count part)) c.args.out.now.items c.rounds.out.items c.go_on.new.out.items old.machine (old.said words known) next in
          let whole = sym (spelled_more words (take at pieces) (take gone.count part)) ∙ ap (code_over words) (part_more pieces part at n gone.count refl e.within) in
          subst (λ d. SaidOn k c.args.actor.now c.go_on.new.actor c.args.sheet.now c.go_on.new.sheet c.args.from gone.row d c.args.out.now.items c.go_on.new.out.items) whole all;
    }

pub arrive-requires-clause-row : goal.arrive-requires-clause-row
arrive-requires-clause-row c =
    let known = c.requires.known.1 in
    let r = c.rounds.invariant.said c.requires.known.0 known c.requires.row.0 c.requires.row.1 in
    (r.to, r.row_of, subst (λ m. r.to.node < length m.nodes) (sym c.rounds.invariant.machine) (pair_known (words_table c.requires.known.0) c.args.actor.now.machine c.args.edges.now c.rounds.row r.to r.to known r.row_of refl).node)

pub returns-clause-row : goal.returns-clause-row
returns-clause-row c = let r = c.rounds.invariant.said c.requires.known.0 c.requires.known.1 c.requires.row.0 c.requires.row.1 in (r.to, r.row_of)

pub returns-clause-performs : goal.returns-clause-performs
returns-clause-performs c = λ words known. told c.args.edges.now c.args.actor.now c.rounds.actor c.arrive.new.actor c.args.sheet.now c.rounds.sheet c.args.from c.rounds.row c.in_ok-_state._state (code_over words (take c.rounds.at c.args.pieces.now)) c.args.out.now.items c.rounds.out.items c.arrive.new.out.items c.requires.none c.requires.usable (c.rounds.invariant.said words known) (c.in_ok-_state.ensures {u = tt}).arrives c.requires.row.0 c.requires.row.1 c.requires.row.2
