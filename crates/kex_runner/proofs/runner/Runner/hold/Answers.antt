use Rattle.std.proofs.Common.{◌≡◌, ◌+◌, [], true, nat_lt, length, take, sym, ap, subst, arith}
use Rattle.std.proofs.lemmas.Bool.{ltb-true, ltb-false}
use Rattle.std.proofs.lemmas.List.{length-take-le}
use Rattle.kex_script.specs.Pieces.{code_over}
use Rattle.kex_runner.specs.declared.answers.Fed.TheVariants.{Dead}
use Rattle.kex_runner.specs.declared.quiet.Guide.{Guide}
use Rattle.kex_runner.specs.Noting.{contents}
use Rattle.kex_runner.specs.Following.{Follows}
use Rattle.kex_runner.specs.Running.{Running, RunnerFeeds, runner_answer}
use Rattle.kex_runner.proofs.FedRunners.{feeds, feeds_after, none_pending}
use Rattle.kex_runner.proofs.runner.Runner.hold.Goals as goal

pub returns-then-self-clause-fed : goal.returns-then-self-clause-fed
returns-then-self-clause-fed c =
    let script = c.self.inside.guide.script in
    let r : Running = record { table = c.self.inside.table.now; words = script.words; state = c.self.inside.place.state; pending = code_over script.words c.self.inside.pending.items; registers = contents script c.self.inside.place.registers; read = c.self.inside.read; dead = c.self.inside.dead; ended = c.self.inside.ended; usable = c.self.inside.usable } in
    let n : Running = record r { pending = []; usable = true } in
    let piece = take (length c.args.piece.now) c.args.piece.now in
    let pieces = c.hand_over.new.pieces.items in
    let told : code_over script.words pieces ≡ r.pending = ap (λ z. code_over script.words z) c.hand_over.ensures.pieces in
    none_pending Dead c.args.self.now n piece [] (code_over c.args.self.now.words pieces) (code_over script.words c.hand_over.new.pending.items) (ap (λ z. code_over script.words z) c.hand_over.ensures.none)
    (subst (λ (z : Running). RunnerFeeds Dead z n piece [] (code_over z.words pieces)) c.self.view_is (feeds_after r piece [] (code_over script.words pieces) c.if-self.true told))

pub returns-clause-fed : goal.returns-clause-fed
returns-clause-fed c =
    let script = c.self.inside.guide.script in
    let r : Running = record { table = c.self.inside.table.now; words = script.words; state = c.self.inside.place.state; pending = code_over script.words c.self.inside.pending.items; registers = contents script c.self.inside.place.registers; read = c.self.inside.read; dead = c.self.inside.dead; ended = c.self.inside.ended; usable = c.self.inside.usable } in
    let good = c.in_ok-taken.field-0.good in
    let taken = c.in_ok-taken.field-0.taken in
    let piece = take taken c.args.piece.now in
    let long : length piece ≡ taken = length-take-le taken c.args.piece.now c.in_ok-taken.ensures.taken in
    let dead = nat_lt good taken in
    let n : Running = record r { state = c.follow_held.new.self.state; pending = []; registers = contents script c.follow_held.new.self.registers; read = c.self.inside.read + good; dead = dead; usable = true } in
    let before = c.hand_over.new.pieces.items in
    let pieces = c.follow_held.new.pieces.items in
    let told : code_over script.words before ≡ r.pending = ap (λ z. code_over script.words z) c.hand_over.ensures.pieces in
    let follows : Follows r.table r.state r.registers piece good n.state n.registers (code_over script.words before) (code_over script.words pieces) =
    subst (λ (g : Guide). Follows r.table r.state (contents g.script c.self.inside.place.registers) piece good n.state (contents g.script c.follow_held.new.self.registers) (code_over g.script.words before) (code_over g.script.words pieces)) c.get.ensures c.in_ok-taken.ensures.follows in
    subst (λ z. RunnerFeeds z c.args.self.now (record n { pending = code_over script.words c.hand_over.new.pending.items }) piece [] (code_over c.args.self.now.words pieces)) (sym c.answer_of.ensures)
    (none_pending (runner_answer dead) c.args.self.now n piece [] (code_over c.args.self.now.words pieces) (code_over script.words c.hand_over.new.pending.items) (ap (λ z. code_over script.words z) c.hand_over.ensures.none)
    (subst (λ (z : Running). RunnerFeeds (runner_answer dead) z n piece [] (code_over z.words pieces)) c.self.view_is
    (feeds r piece good n.state n.registers [] (code_over script.words before) (code_over script.words pieces) dead c.if-self.false told follows
    (λ e. omega (arith, long, ltb-true good taken e))
    (λ e. omega (arith, long, ltb-false good taken e)))))
