use Rattle.std.proofs.Common.{◌≡◌, ◌∙◌, ◌+◌, ◌-◌, ◌<◌, ℕ, zero, suc, Bool, false, length, take, drop, refl, sym, subst, arith, length-take, length-drop}
use Rattle.kex_moves.specs.Known.{IsKnown}
use Rattle.kex_moves.specs.Along.{ReachedOn}
use Rattle.kex_moves.proofs.EdgeRuns.{part_more}
use Rattle.kex_moves.proofs.SheetRuns.{reached_none, same_grows, reached_on}
use Rattle.kex_moves.proofs.along.along_acting.Goals as goal

pub rounds-init : goal.rounds-init
rounds-init c = record {
  at = omega arith;
  usable = c.requires.usable;
  machine = refl;
  sheet = c.requires.sheet;
  room = c.requires.room;
  left = λ some. omega arith;
  few = λ some. c.requires.few;
  reached = λ t known. reached_none t c.args.edges.now c.args.edges.now c.args.actor.now c.args.sheet.now c.args.from c.args.out.now.items (same_grows c.args.edges.now);
}

pub act_next-requires-clause-known : goal.act_next-requires-clause-known
act_next-requires-clause-known c = (c.requires.known.0, subst (λ m. IsKnown c.requires.known.0 m c.args.edges.now) (sym c.rounds.invariant.machine) c.requires.known.1)

pub act_next-requires-clause-row : goal.act_next-requires-clause-row
act_next-requires-clause-row c =
    let p = c.requires.row.0 in
    let r = c.rounds.invariant.reached c.requires.known.0 c.requires.known.1 p.state p.node (p, c.requires.row.1, refl, refl) in
    (r.reached.row_for.0, r.reached.row_for.1)

pub act_next-requires-clause-room : goal.act_next-requires-clause-room
act_next-requires-clause-room c =
    let part = c.args.part.now in
    let at = c.rounds.at in
    omega (arith, c.rounds.invariant.few c.rounds-test.true, c.rounds.invariant.room, c.requires.part, length-take (length part - at) (drop at part), length-drop at part)

smaller : (new left n at count : ℕ) (stops : Bool) → (0 < new → (stops ≡ false) × (new ≡ n - (at + count))) → (stops ≡ false → 0 < count) → 0 < left → (0 < left → left ≡ n - at) → new < left
smaller zero left n at count stops goes takes some is = omega arith
smaller (suc m) left n at count stops goes takes some is =
    let g = goes (omega arith) in
    omega (arith, g.1, takes g.0, is some)

pub rounds-smaller : goal.rounds-smaller
rounds-smaller c =
    let e = c.in_ok-gone.ensures {u = tt} in
    smaller c.bytes_left-left.result c.rounds.left (length c.args.part.now) c.rounds.at c.in_ok-gone.gone.count c.in_ok-gone.gone.stops c.bytes_left-left.ensures e.some c.rounds-test.true c.rounds.invariant.left

pub rounds-preserved : goal.rounds-preserved
rounds-preserved c =
    let k = c.args.edges.now in
    let whole = c.args.part.now in
    let at = c.rounds.at in
    let n = length whole - at in
    let part = take n (drop at whole) in
    let e = c.in_ok-gone.ensures {u = tt} in
    let gone = c.in_ok-gone.gone in
    let a = c.args.actor.now in
    let b = c.act_next.new.actor in
    let old = c.args.sheet.now in
    let new = c.act_next.new.sheet in
    let x = c.args.out.now.items in
    let y = c.act_next.new.out.items in
    record {
      at = omega (arith, e.within, length-take n (drop at whole), length-drop at whole, c.rounds.invariant.at);
      usable = e.usable;
      machine = e.machine ∙ c.rounds.invariant.machine;
      sheet = e.sheet.0;
      room = e.sheet.1 ∙ c.rounds.invariant.room;
      left = λ some. (c.bytes_left-left.ensures some).1;
      few = λ some. e.few (c.bytes_left-left.ensures some).0;
      reached = λ t known. subst (λ l. ReachedOn t k k a b old new c.args.from gone.row l x y) (part_more whole part at n gone.count refl e.within) (reached_on t k k k a c.rounds.actor b old c.rounds.sheet new c.args.from c.rounds.row gone.row (take at whole) (take gone.count part) x c.rounds.out.items y (c.rounds.invariant.reached t known) (e.reached t (subst (λ m. IsKnown t m k) (sym c.rounds.invariant.machine) known)));
    }
