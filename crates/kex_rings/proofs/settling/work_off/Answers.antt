use Rattle.kex_rings.proofs.Settles.{works-none, works-more}
use Rattle.kex_rings.proofs.settling.work_off.Goals as goal

pub steps-init : goal.steps-init
steps-init g c = record { usable = c.requires; works = works-none g.T.Turn c.args.seats.now c.args.made.now }

pub steps-preserved : goal.steps-preserved
steps-preserved g c =
    let l = c.steps in
    record {
      usable = c.in_ok-step.ensures.usable;
      works = works-more g.T.Turn c.in-Some.i 4096 c.args.seats.now l.seats c.step.new.seats c.args.made.now l.made c.step.new.made l.invariant.works c.in_ok-step.ensures.steps;
    }
