use Rattle.std.proofs.Common.{◌-◌, ap₂, refl, sym, subst}
use Rattle.kex_single.specs.Standing.{stopped_at}
use Rattle.kex_single.specs.Told.{TellsMore}
use Rattle.kex_single.specs.declared.code_oracle.CodeOracle.TheVariants.{Table}
use Rattle.kex_single.proofs.TableCodes.{table_tells}
use Rattle.kex_single.proofs.table_codes.CodeRunner.go_on.Goals as goal

pub returns-clause-tells : goal.returns-clause-tells
returns-clause-tells c = λ g w d trimmed of s good.
    let a = c.in_ok-fed.ensures in
    let r0 = c.args.self.now.runner in
    let new = c.take_all.new.self in
    subst (λ bad. TellsMore g (Table new) w c.args.piece.now bad d c.args.out.now.items c.take_all.new.out.items) (sym c.stopped_at.ensures)
    (subst (λ k. TellsMore g (Table new) w c.args.piece.now (stopped_at c.in_ok-fed.fed k) d c.args.out.now.items c.take_all.new.out.items) (ap₂ (λ a b. a - b) (sym c.read.ensures) (sym c.read-before.ensures))
    (table_tells g r0.table of r0 new.runner new refl c.args.piece.now c.args.out.now.items c.take_all.new.out.items trimmed refl a.table a.read.0 w d s good c.in_ok-fed.fed a.fed))
