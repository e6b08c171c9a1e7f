use Rattle.std.proofs.Common.{[], ◌∙◌, arith}
use Rattle.std.proofs.lemmas.List.{length-take-le}
use Rattle.kex_regexp.specs.declared.fault.RegexFault.TheVariants.{BadRegex}
use Rattle.kex_regexp.specs.Machine.{Ready}
use Rattle.kex_regexp.proofs.Additions.{Adds-refl, Adds-trans}
use Rattle.kex_regexp.proofs.Refusals.{accepted, broken, not_refused, read}
use Rattle.kex_regexp.proofs.NotedBreaks.{least_of, open_below, start_depth, start_least, turn_depth, turn_least}
use Rattle.kex_regexp.proofs.Parents.{none_added, none_lost, unless_lost}
use Rattle.kex_regexp.proofs.Bodies.{body_read, ends_ok, ends_wrong, reads_more, set_behind, spelled_length, spelled_place, start_reads, start_set, start_stands, steps_ok, steps_wrong, taken, wrong_byte, wrong_end}
use Rattle.kex_regexp.proofs.body.regex.Goals as goal

pub loop-byte-init : goal.loop-byte-init
loop-byte-init c = record {
  adds = Adds-refl _;
  nodes = none_added _ _ _ (λ n h. absurd h);
  place = omega arith;
  state = record { mode = Ready; entries = [] };
  reads = start_reads;
  stands = start_stands _ _ _ c.new-constructs.ensures.items;
  set = start_set _;
  nested = start_depth c.args.depth;
  least = start_least c.args.at c.args.depth;
}

pub deeper-deep-requires : goal.deeper-deep-requires
deeper-deep-requires c =
    let i = c.loop-byte.invariant in
    let lt = c.loop-byte-test.true in
    open_below c.args.depth c.loop-byte.nested c.args.at c.loop-byte.byte-index _ i.state c.args.bytes.now i.nested (spelled_length _ i.state i.reads ∙ length-take-le c.loop-byte.byte-index c.args.bytes.now (omega (arith, lt))) lt (omega (arith, c.ranges.depth.fits)) (omega (arith, c.requires))

pub step-requires : goal.step-requires
step-requires c =
    let i = c.loop-byte.invariant in
    let lt = c.loop-byte-test.true in
    (c.args.at, i.state, i.stands, spelled_place c.args.bytes.now c.loop-byte.byte-index c.args.at c.loop-byte.place i.state (omega (arith, lt)) i.reads i.place)

pub returns-in-Err-Memory-clause-adds : goal.returns-in-Err-Memory-clause-adds
returns-in-Err-Memory-clause-adds c = Adds-trans _ _ _ c.loop-byte.invariant.adds c.step.ensures.adds

pub returns-in-Err-Wrong-clause-adds : goal.returns-in-Err-Wrong-clause-adds
returns-in-Err-Wrong-clause-adds c = Adds-trans _ _ _ c.loop-byte.invariant.adds c.step.ensures.adds

pub returns-in-Err-Wrong-clause-refused : goal.returns-in-Err-Wrong-clause-refused
returns-in-Err-Wrong-clause-refused c =
    let i = c.loop-byte.invariant in
    let lt = c.loop-byte-test.true in
    let after = taken _ _ _ c.args.at _ _ c.loop-byte.wait i.state i.stands i.set c.take_in.ensures in
    let st = rw c.in-Err-Wrong.field-0-is at (c.in-Err-Wrong.ensures.step c.args.at i.state i.stands after (spelled_place c.args.bytes.now c.loop-byte.byte-index c.args.at c.loop-byte.place i.state (omega (arith, lt)) i.reads i.place)) in
    (c.loop-byte.byte-index, i.place, wrong_byte c.args.bytes.now c.loop-byte.byte-index i.state lt i.reads (steps_wrong _ _ _ _ st))

pub returns-in-Err-Wrong-clause-accepted : goal.returns-in-Err-Wrong-clause-accepted
returns-in-Err-Wrong-clause-accepted c = λ r spells none. not_refused (BadRegex c.loop-byte.place) r c.args.bytes.now c.args.at c.args.depth spells none (returns-in-Err-Wrong-clause-refused c)

pub loop-byte-preserved : goal.loop-byte-preserved
loop-byte-preserved c =
    let i = c.loop-byte.invariant in
    let lt = c.loop-byte-test.true in
    let p = spelled_place c.args.bytes.now c.loop-byte.byte-index c.args.at c.loop-byte.place i.state (omega (arith, lt)) i.reads i.place in
    let after = taken _ _ _ c.args.at _ _ c.loop-byte.wait i.state i.stands i.set c.take_in.ensures in
    let n = steps_ok _ _ _ c.in-Ok.next _ (c.in-Ok.ensures.step c.args.at i.state i.stands after p) in
    let set = set_behind _ _ n.state n.is after in
    record {
      adds = Adds-trans _ _ _ i.adds c.in-Ok.ensures.adds;
      nodes = none_lost _ _ _ _ _ _ c.in-Ok.ensures.adds i.nodes c.in-Ok.ensures.nodes;
      place = omega (arith, i.place);
      state = n.state;
      reads = reads_more c.args.bytes.now c.loop-byte.byte-index i.state lt i.reads ∙ n.is;
      stands = n.stands;
      set = set;
      nested = c.deeper-deep.ensures ∙ turn_depth _ c.args.at c.args.depth c.loop-byte.nested _ _ c.loop-byte.wait i.state n.state i.stands n.is i.nested;
      least = c.lesser-least.ensures ∙ turn_least _ _ c.args.at c.args.depth c.loop-byte.nested c.loop-byte.place _ _ _ c.loop-byte.wait c.in-Ok.next _ i.state n.state c.loop-byte.least _ i.stands n.is n.stands set p i.nested i.least c.noted.ensures;
    }

pub finish-requires : goal.finish-requires
finish-requires c =
    let i = c.loop-byte.invariant in
    let le = c.loop-byte.auto.byte-index-end in
    (c.args.at, i.state, i.stands, spelled_place c.args.bytes.now c.loop-byte.byte-index c.args.at c.loop-byte.place i.state (omega (arith, le)) i.reads i.place)

pub returns-in-Ok-finish-clause-adds : goal.returns-in-Ok-finish-clause-adds
returns-in-Ok-finish-clause-adds c = Adds-trans _ _ _ c.loop-byte.invariant.adds c.finish.ensures.adds

pub returns-in-Ok-finish-clause-read : goal.returns-in-Ok-finish-clause-read
returns-in-Ok-finish-clause-read c =
    let i = c.loop-byte.invariant in
    let end = c.loop-byte-test.false in
    let le = c.loop-byte.auto.byte-index-end in
    let n = ends_ok _ _ c.in-Ok-finish.node _ (c.in-Ok-finish.ensures.ends c.args.at i.state i.stands (spelled_place c.args.bytes.now c.loop-byte.byte-index c.args.at c.loop-byte.place i.state (omega (arith, le)) i.reads i.place)) in
    read _ c.in-Ok-finish.node c.loop-byte.least n.0 c.args.bytes.now _ c.args.at c.args.depth (body_read c.args.bytes.now c.loop-byte.byte-index i.state n.0 end i.reads n.1) n.2 (least_of c.args.at c.args.depth i.state n.0 c.loop-byte.least n.1 i.least) c.unless_broken.ensures.ok

pub returns-in-Ok-finish-clause-refused : goal.returns-in-Ok-finish-clause-refused
returns-in-Ok-finish-clause-refused c =
    let i = c.loop-byte.invariant in
    let end = c.loop-byte-test.false in
    let le = c.loop-byte.auto.byte-index-end in
    let n = ends_ok _ _ c.in-Ok-finish.node _ (c.in-Ok-finish.ensures.ends c.args.at i.state i.stands (spelled_place c.args.bytes.now c.loop-byte.byte-index c.args.at c.loop-byte.place i.state (omega (arith, le)) i.reads i.place)) in
    broken _ c.loop-byte.least n.0 c.args.bytes.now c.args.at c.args.depth (body_read c.args.bytes.now c.loop-byte.byte-index i.state n.0 end i.reads n.1) (least_of c.args.at c.args.depth i.state n.0 c.loop-byte.least n.1 i.least) c.unless_broken.ensures.err

pub returns-in-Ok-finish-clause-accepted : goal.returns-in-Ok-finish-clause-accepted
returns-in-Ok-finish-clause-accepted c = λ r spells none. accepted _ r c.args.bytes.now c.args.at c.args.depth spells none (returns-in-Ok-finish-clause-refused c)

pub returns-in-Err-Memory-finish-clause-adds : goal.returns-in-Err-Memory-finish-clause-adds
returns-in-Err-Memory-finish-clause-adds c = Adds-trans _ _ _ c.loop-byte.invariant.adds c.finish.ensures.adds

pub returns-clause-adds : goal.returns-clause-adds
returns-clause-adds c = Adds-trans _ _ _ c.loop-byte.invariant.adds c.finish.ensures.adds

pub returns-clause-refused : goal.returns-clause-refused
returns-clause-refused c =
    let i = c.loop-byte.invariant in
    let end = c.loop-byte-test.false in
    let le = c.loop-byte.auto.byte-index-end in
    let st = rw c.in-Err-Wrong-finish.field-0-is at (c.in-Err-Wrong-finish.ensures.ends c.args.at i.state i.stands (spelled_place c.args.bytes.now c.loop-byte.byte-index c.args.at c.loop-byte.place i.state (omega (arith, le)) i.reads i.place)) in
    (c.loop-byte.byte-index, i.place, wrong_end c.args.bytes.now c.loop-byte.byte-index i.state (omega (arith, end, le)) i.reads (ends_wrong _ _ _ st))

pub returns-clause-accepted : goal.returns-clause-accepted
returns-clause-accepted c = λ r spells none. not_refused (BadRegex c.loop-byte.place) r c.args.bytes.now c.args.at c.args.depth spells none (returns-clause-refused c)

pub returns-in-Ok-finish-clause-nodes : goal.returns-in-Ok-finish-clause-nodes
returns-in-Ok-finish-clause-nodes c = unless_lost c.unless_broken.result _ c.in-Ok-finish.node _ _ _ c.unless_broken.ensures.ok (none_lost _ _ _ _ _ _ c.in-Ok-finish.ensures.adds c.loop-byte.invariant.nodes c.in-Ok-finish.ensures.nodes)
