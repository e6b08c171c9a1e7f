use Rattle.std.proofs.Common.{◌≡◌, ◌-◌, [], List, ℕ, length, take, drop, ap, subst, ◌∙◌, arith, length-drop}
use Rattle.std.proofs.lemmas.List.{take_all, take_rest}
use Rattle.kex_stage.proofs.Followers.{taken_both}
use Rattle.kex_single.specs.Told.{WritesFed}
use Rattle.kex_single.proofs.TableCodes.{writes_more}
use Rattle.kex_single.proofs.table_codes.CodeRunner.take_all.Goals as goal

pub takes-init : goal.takes-init
takes-init c =
    let n = c.in_ok-begun.ensures in
    let none : c.in_ok-begun.begun.taken ≡ 0 = omega (arith, n.taken) in
    record {
      at = omega arith;
      writes = subst (λ p. WritesFed c.in_ok-begun.begun.fed c.args.self.now.runner c.take.new.self.runner p c.args.out.now.items c.take.new.out.items) (ap (λ k. take k []) none) n.fed;
      read = (n.read.0, omega (arith, n.within, none));
      table = n.table;
      usable = n.usable;
      open_ = n.open;
    }

pub takes-preserved : goal.takes-preserved
takes-preserved c =
    let rest : List ℕ = take (length c.args.piece.now - c.takes.at) (drop c.takes.at c.args.piece.now) in
    let i = c.takes.invariant in
    let n = c.in_ok-noted.ensures in
    let taken = c.in_ok-noted.noted.taken in
    let long = ap length (take_rest c.args.piece.now c.takes.at) ∙ length-drop c.takes.at c.args.piece.now in
    record {
      at = omega (arith, n.taken, long, i.at);
      writes = subst (λ p. WritesFed c.in_ok-noted.noted.fed c.args.self.now.runner c.take-in-takes.new.self.runner p c.args.out.now.items c.take-in-takes.new.out.items) (taken_both c.args.piece.now c.takes.at taken i.at)
          (writes_more c.takes.fed c.in_ok-noted.noted.fed c.args.self.now.runner c.takes.self.runner c.take-in-takes.new.self.runner (take c.takes.at c.args.piece.now) (take taken rest) c.args.out.now.items c.takes.out.items c.take-in-takes.new.out.items i.writes n.fed);
      read = (omega (arith, i.read.0, n.read.0), omega (arith, i.read.1, n.within));
      table = n.table ∙ i.table;
      usable = n.usable;
      open_ = n.open;
    }

pub returns-clause-fed : goal.returns-clause-fed
returns-clause-fed c =
    subst (λ p. WritesFed c.takes.fed c.args.self.now.runner c.takes.self.runner p c.args.out.now.items c.takes.out.items) (take_all c.takes.at c.args.piece.now (omega (arith, c.takes-test.false))) c.takes.invariant.writes
