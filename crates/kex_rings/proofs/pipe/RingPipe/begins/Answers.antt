use Rattle.kex_rings.proofs.Standings.{stands-begins}
use Rattle.kex_rings.proofs.pipe.RingPipe.begins.Goals as goal

pub returns : goal.returns
returns g c = λ ps h taken s.
    let t = g.met.T.Turn in
    stands-begins g.T.Turn t.one t.grows t.ends ps c.args.self.now h taken s
