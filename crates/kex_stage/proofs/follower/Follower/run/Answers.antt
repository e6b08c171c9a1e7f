use Rattle.std.proofs.Common.{take, sym, ap, subst}
use Rattle.std.proofs.lemmas.List.{length-take-le}
use Rattle.kex_moves.specs.Along.{RunsOn, IsBareState}
use Rattle.kex_stage.specs.declared.oracle.Oracle.TheVariants.{Table}
use Rattle.kex_stage.proofs.Followers.{bare_place, goes_nowhere, none_held, place_bare, runs_go}
use Rattle.kex_stage.proofs.follower.Follower.run.Goals as goal

pub returns-then-held-piece-clause-goes : goal.returns-then-held-piece-clause-goes
returns-then-held-piece-clause-goes c = goes_nowhere (Table c.args.self.now) c.args.actor.now c.args.out.now.items

pub returns-then-holds_registers-clause-goes : goal.returns-then-holds_registers-clause-goes
returns-then-holds_registers-clause-goes c = goes_nowhere (Table c.args.self.now) c.args.actor.now c.args.out.now.items

pub jump-requires-clause-place : goal.jump-requires-clause-place
jump-requires-clause-place c =
    let runner = c.args.self.now.runner in
    let none = none_held c.holds_registers.result runner.registers c.if-holds_registers.false c.holds_registers.ensures.1 in
    let here = bare_place runner.table c.state-state.result runner.registers none c.state-state.ensures.place in
    let same = c.args.self.now.same_table in
    let there = c.in_ok-ran.ensures.bare (subst (λ t. IsBareState t c.state-state.result) (sym same) here) in
    place_bare runner.table c.in_ok-ran.ran.state (subst (λ t. IsBareState t c.in_ok-ran.ran.state) same there)

pub returns-clause-goes : goal.returns-clause-goes
returns-clause-goes c =
    runs_go c.args.self.now _ c.args.actor.now c.run_past.new.actor c.in_ok-ran.ran.state c.in_ok-ran.ran.count (take c.in_ok-ran.ran.count c.args.piece.now) c.args.out.now.items c.run_past.new.out.items
    c.requires.told
    (none_held c.holds_registers.result c.args.self.now.runner.registers c.if-holds_registers.false c.holds_registers.ensures.1)
    c.in_ok-ran.ensures.same
    (ap (λ z. z.table) c.jump.ensures.jumped)
    c.in_ok-ran.ensures.machine
    (length-take-le c.in_ok-ran.ran.count c.args.piece.now c.in_ok-ran.ensures.within)
    (subst (λ q. RunsOn c.args.self.now.moves.table c.args.actor.now c.run_past.new.actor q c.in_ok-ran.ran.state (take c.in_ok-ran.ran.count c.args.piece.now) c.args.out.now.items c.run_past.new.out.items) c.state-state.ensures.same c.in_ok-ran.ensures.runs)
    c.jump.ensures.stands
