use Rattle.std.proofs.Common.{◌≡◌, ℕ, ◌/◌, ◌%◌, Some, length, sym, subst, arith}
use Rattle.std.specs.Prelude.{slice_get}
use Rattle.kex_script.specs.Scripts.{entry_at}
use Rattle.kex_runner.specs.declared.quiet.Quiet.{Quiet}
use Rattle.kex_runner.specs.Quiet.{IsQuietIf}
use Rattle.kex_runner.proofs.QuietUpdates.{push_each}
use Rattle.kex_runner.proofs.quiet.quiets_of.Goals as goal

pub loop-i-preserved : goal.loop-i-preserved
loop-i-preserved c =
    let s = c.args.script.now in
    let w = c.args.width in
    let tells = λ (k : ℕ) (q : Quiet). IsQuietIf (entry_at s (k / w) (k % w)) w c.args.count q in
    let q = c.quiet_of.result in
    let all = c.loop-i.all.items in
    let last : tells (length all) q = subst (λ k. tells k q) (sym c.loop-i.invariant.long) (subst (λ e. IsQuietIf e w c.args.count q) c.entry-entry.ensures c.quiet_of.ensures) in
    let pushed = c.in_ok-push.ensures.items in
    record {
      long = omega (arith, c.loop-i.invariant.long, c.in_ok-push.ensures.len);
      quiet = λ k y at. push_each tells all q c.loop-i.invariant.quiet last k y (subst (λ z. slice_get z k ≡ Some y) pushed at);
    }
