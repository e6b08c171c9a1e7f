use Rattle.std.proofs.Common.{◌-◌, [], refl, sym, subst, take, arith}
use Rattle.std.proofs.lemmas.List.{length-take-le}
use Rattle.kex_runner.specs.Running.{RunnerFeeds}
use Rattle.kex_script.specs.Pieces.{code_over}
use Rattle.kex_stage.proofs.ByTable.{table_tells}
use Rattle.kex_stage.proofs.follower.Follower.hear.Goals as goal

pub returns-clause-tells : goal.returns-clause-tells
returns-clause-tells c =
    let front = take c.in_ok-held.held.taken c.args.piece.now in
    let long = length-take-le c.in_ok-held.held.taken c.args.piece.now c.in_ok-held.ensures.taken in
    table_tells c.in_ok-held.held.fed c.args.self.now _ front (c.read.result - c.read-before.result) [] (code_over c.args.self.now.phrases.words c.hold.new.pieces.items) refl c.in_ok-held.ensures.table
    (subst (λ words. RunnerFeeds c.in_ok-held.held.fed c.args.self.now.runner c.hold.new.self front [] (code_over words c.hold.new.pieces.items)) (sym c.args.self.now.same_words) c.in_ok-held.ensures.fed)
    (omega (arith, c.read.ensures, c.read-before.ensures, c.in_ok-held.ensures.read))
    (omega (arith, long, c.read.ensures, c.read-before.ensures, c.in_ok-held.ensures.within))
