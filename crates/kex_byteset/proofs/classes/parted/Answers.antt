use Rattle.std.proofs.Common.{◌≡◌, true, false, arith, sym, subst, ◌∙◌}
use Rattle.kex_byteset.proofs.Partitions.{IsBegun, begun_none, no_numbers, next_byte, numbered, refined}
use Rattle.kex_byteset.proofs.classes.parted.Goals as goal
use Rattle.kex_byteset.proofs.classes.parted.Goals.{then-has, else-has}

apart : true ≡ false → ⊥
apart e = cc

pub loop-byte-init : goal.loop-byte-init
loop-byte-init c = record {
  begun = begun_none c.args.old.now c.args.set.now;
  within = no_numbers c.args.old.now c.args.set.now _ true;
  outside = no_numbers c.args.old.now c.args.set.now _ false;
}

pub loop-byte-preserved : goal.loop-byte-preserved
loop-byte-preserved c =
    let i = c.loop-byte.invariant in
    elim c.if-has.branch [
      | then-has w ↦ (
          let r = next_byte c.args.old.now c.args.set.now c.loop-byte.new c.loop-byte.byte c.loop-byte.count i.begun c.loop-byte-test.true c.loop-byte.within c.loop-byte.outside c.if-has.within true false c.if-has.new c.if-has.count (sym c.has.ensures ∙ w.if-has.true) apart (c.fits-old c.loop-byte.byte) i.within i.outside (cc) (cc) (cc) in
          record { begun = r.0; within = r.1; outside = rw w.outside-is r.2 }
          )
      | else-has w ↦ (
          let r = next_byte c.args.old.now c.args.set.now c.loop-byte.new c.loop-byte.byte c.loop-byte.count i.begun c.loop-byte-test.true c.loop-byte.outside c.loop-byte.within c.if-has.outside false true c.if-has.new c.if-has.count (sym c.has.ensures ∙ w.if-has.false) (λ e. apart (sym e)) (c.fits-old c.loop-byte.byte) i.outside i.within (cc) (cc) (cc) in
          record { begun = r.0; within = rw w.within-is r.2; outside = r.1 }
          )
    ]

pub returns-clause-numbered : goal.returns-clause-numbered
returns-clause-numbered c =
    let all : c.loop-byte.byte ≡ 256 = omega arith in
    numbered c.args.old.now c.loop-byte.new c.args.set.now c.loop-byte.count (subst (λ n. IsBegun c.args.old.now c.args.set.now c.loop-byte.new n c.loop-byte.count) all c.loop-byte.invariant.begun)

pub returns-clause-refined : goal.returns-clause-refined
returns-clause-refined c = λ sets h.
    let all : c.loop-byte.byte ≡ 256 = omega arith in
    refined c.args.old.now c.loop-byte.new c.args.set.now sets c.loop-byte.count (subst (λ n. IsBegun c.args.old.now c.args.set.now c.loop-byte.new n c.loop-byte.count) all c.loop-byte.invariant.begun) h
