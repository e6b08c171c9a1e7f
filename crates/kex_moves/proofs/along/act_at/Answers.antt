use Rattle.std.proofs.Common.{◌≡◌, ◌∙◌, Some, refl, sym, ap}
use Rattle.std.specs.Prelude.{slice_get}
use Rattle.kex_moves.specs.Edges.{is_written, is_known}
use Rattle.kex_moves.proofs.KnownEdges.{class_within, pair_known}
use Rattle.kex_moves.proofs.EdgeRuns.{right_at}
use Rattle.kex_moves.proofs.SheetRuns.{reached_opens, reached_acts, reached_none, same_grows}
use Rattle.kex_moves.proofs.along.act_at.Goals as goal

pub act-requires-clause-to : goal.act-requires-clause-to
act-requires-clause-to c =
    let t = c.requires.known.0 in
    let g = c.args.actor.now.machine in
    let k = c.args.edges.now in
    let e = c.args.edge in
    let class = c.requires.edge.0.class in
    let within = class_within k c.args.byte class c.requires.known.1.ordered c.requires.edge.0.of in
    let right = right_at t g k c.args.row class c.requires.row.0 e c.requires.known.1 c.requires.row.1 within c.requires.edge.0.at (ap is_known c.in-Acts.is) in
    (right.to, right.row, (pair_known t g k e.next right.to right.to c.requires.known.1 right.row refl).node)

pub returns-in_ok-open-in-Opens-clause-reached : goal.returns-in_ok-open-in-Opens-clause-reached
returns-in_ok-open-in-Opens-clause-reached c = λ t known.
    let k = c.args.edges.now in
    let a = c.args.actor.now in
    let class = c.requires.edge.0.class in
    let e = c.args.edge in
    let is : slice_get t.classes c.args.byte ≡ Some class = ap (λ l. slice_get l c.args.byte) (sym known.classes) ∙ c.requires.edge.0.of in
    reached_opens t k a c.args.sheet.now c.open.new.sheet c.args.row class c.args.byte e c.args.out.now.items is (λ p r. right_at t a.machine k c.args.row class p e known r (class_within k c.args.byte class known.ordered c.requires.edge.0.of) c.requires.edge.0.at (ap is_known c.in-Opens.is)) c.in-Opens.is (c.in_ok-open-in-Opens.ensures {u = tt}).opened

pub returns-in_ok-act-in-Acts-clause-reached : goal.returns-in_ok-act-in-Acts-clause-reached
returns-in_ok-act-in-Acts-clause-reached c = λ t known.
    let k = c.args.edges.now in
    let a = c.args.actor.now in
    let class = c.requires.edge.0.class in
    let e = c.args.edge in
    let did = c.in_ok-act-in-Acts.ensures {u = tt} in
    let is : slice_get t.classes c.args.byte ≡ Some class = ap (λ l. slice_get l c.args.byte) (sym known.classes) ∙ c.requires.edge.0.of in
    reached_acts t k a c.act.new.actor c.args.sheet.now c.act.new.sheet c.args.row class c.args.byte e c.args.out.now.items c.act.new.out.items is (λ p r. right_at t a.machine k c.args.row class p e known r (class_within k c.args.byte class known.ordered c.requires.edge.0.of) c.requires.edge.0.at (ap is_known c.in-Acts.is)) (ap is_written c.in-Acts.is) did.same.0 did.same.1 did.did

pub returns-in_default-clause-reached : goal.returns-in_default-clause-reached
returns-in_default-clause-reached c = λ t known. reached_none t c.args.edges.now c.args.edges.now c.args.actor.now c.args.sheet.now c.args.row c.args.out.now.items (same_grows c.args.edges.now)
