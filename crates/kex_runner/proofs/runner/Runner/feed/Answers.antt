use Rattle.std.proofs.Common.{◌≡◌, ◌+◌, ◌++◌, [], true, nat_lt, length, refl, sym, ap, ap₂, ◌∙◌, subst}
use Rattle.std.proofs.lemmas.Bool.{ltb-true, ltb-false}
use Rattle.kex_script.specs.Pieces.{code_over}
use Rattle.kex_runner.specs.declared.answers.Fed.TheVariants.{Dead}
use Rattle.kex_runner.specs.declared.quiet.Guide.{Guide}
use Rattle.kex_runner.specs.Noting.{contents}
use Rattle.kex_runner.specs.Running.{Running, RunnerFeeds, runner_answer}
use Rattle.kex_runner.specs.Following.{Follows}
use Rattle.kex_runner.proofs.FedRunners.{feeds, feeds_after, none_pending}
use Rattle.kex_runner.proofs.ScriptSteps.{follows_behind}
use Rattle.kex_runner.proofs.runner.Runner.feed.Goals as goal

pub returns-then-self-clause-fed : goal.returns-then-self-clause-fed
returns-then-self-clause-fed g c =
    let script = c.self.inside.guide.script in
    let r : Running = record { table = c.self.inside.table.now; words = script.words; state = c.self.inside.place.state; pending = code_over script.words c.self.inside.pending.items; registers = contents script c.self.inside.place.registers; read = c.self.inside.read; dead = c.self.inside.dead; ended = c.self.inside.ended; usable = c.self.inside.usable } in
    let n : Running = record r { pending = []; usable = true } in
    let told : c.spell.new.code ≡ c.args.code.now ++ r.pending = c.in_ok-spell.ensures ∙ ap₂ (λ y z. c.args.code.now ++ code_over y z) (c.words.ensures ∙ ap (λ (g : Guide). g.script.words) c.get.ensures) c.deref.ensures.value in
    none_pending Dead c.args.self.now n c.args.piece.now c.args.code.now c.spell.new.code (code_over script.words c.clear.new.self.items) (ap (λ z. code_over script.words z) c.clear.ensures.items)
    (subst (λ z. RunnerFeeds Dead z n c.args.piece.now c.args.code.now c.spell.new.code) c.self.view_is (feeds_after r c.args.piece.now c.args.code.now c.spell.new.code c.if-self.true told))

pub returns-clause-fed : goal.returns-clause-fed
returns-clause-fed g c =
    let script = c.self.inside.guide.script in
    let r : Running = record { table = c.self.inside.table.now; words = script.words; state = c.self.inside.place.state; pending = code_over script.words c.self.inside.pending.items; registers = contents script c.self.inside.place.registers; read = c.self.inside.read; dead = c.self.inside.dead; ended = c.self.inside.ended; usable = c.self.inside.usable } in
    let count = c.in_ok-count.count in
    let piece = c.args.piece.now in
    let dead = nat_lt count (length piece) in
    let n : Running = record r { state = c.follow.new.self.state; pending = []; registers = contents script c.follow.new.self.registers; read = c.self.inside.read + count; dead = dead; usable = true } in
    let follows : Follows r.table r.state r.registers piece count n.state n.registers r.pending (code_over script.words c.follow.new.pieces.items) =
    subst (λ (g : Guide). Follows r.table r.state (contents g.script c.self.inside.place.registers) piece count n.state (contents g.script c.follow.new.self.registers) (code_over g.script.words c.self.inside.pending.items) (code_over g.script.words c.follow.new.pieces.items)) c.get.ensures c.in_ok-count.ensures.follows in
    let told : c.spell-2.new.code ≡ c.args.code.now ++ code_over script.words c.follow.new.pieces.items = c.in_ok-spell-2.ensures ∙ ap₂ (λ y z. c.args.code.now ++ code_over y z) (c.words-2.ensures ∙ ap (λ (g : Guide). g.script.words) c.get.ensures) c.deref-2.ensures.value in
    let f : Follows r.table r.state r.registers piece count n.state n.registers (c.args.code.now ++ r.pending) c.spell-2.new.code =
    subst (λ z. Follows r.table r.state r.registers piece count n.state n.registers (c.args.code.now ++ r.pending) z) (sym told) (follows_behind r.table r.state r.registers piece count n.state n.registers c.args.code.now r.pending (code_over script.words c.follow.new.pieces.items) follows) in
    subst (λ z. RunnerFeeds z c.args.self.now (record n { pending = code_over script.words c.clear-2.new.self.items }) piece c.args.code.now c.spell-2.new.code) (sym c.answer_of.ensures)
    (none_pending (runner_answer dead) c.args.self.now n piece c.args.code.now c.spell-2.new.code (code_over script.words c.clear-2.new.self.items) (ap (λ z. code_over script.words z) c.clear-2.ensures.items)
    (subst (λ z. RunnerFeeds (runner_answer dead) z n piece c.args.code.now c.spell-2.new.code) c.self.view_is
    (feeds r piece count n.state n.registers c.args.code.now (c.args.code.now ++ r.pending) c.spell-2.new.code dead c.if-self.false refl f
    (λ e. ltb-true count (length piece) e)
    (λ e. ltb-false count (length piece) e))))
