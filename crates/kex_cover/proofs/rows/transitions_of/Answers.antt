use Rattle.std.proofs.Common.{◌≡◌, ℕ, ◌+◌, ◌<◌, length, sym, ap, subst, ◌∙◌, arith}
use Rattle.std.proofs.lemmas.List.{length_push}
use Rattle.kex_byteset.specs.Classes.{class_at}
use Rattle.kex_cover.specs.Keeping.{AreBestTo, WhereLeft}
use Rattle.kex_cover.specs.Optimal.{DoesBest}
use Rattle.kex_cover.proofs.BestRows.{one_transition}
use Rattle.kex_cover.proofs.rows.transitions_of.Goals as goal

pub loop-class-preserved : goal.loop-class-preserved
loop-class-preserved c =
    let g = c.args.tools.now.workspace in
    let t = c.args.table.now in
    let n = c.loop-class.class in
    let r = c.in_ok-transition.transition in
    record {
      does = λ k s at.
          let here : WhereLeft g t c.args.lefts.now c.args.state (λ states s. (b : ℕ) → b < 256 → class_at t.classes b ≡ n → DoesBest g states s b r) =
          subst (λ z. WhereLeft z t c.args.lefts.now c.args.state (λ states s. (b : ℕ) → b < 256 → class_at t.classes b ≡ n → DoesBest z states s b r)) c.loop-class.invariant.workspace c.in_ok-transition.ensures.does in
          subst (λ z. AreBestTo g (n + 1) t.classes k.left.states s z) (sym c.in_ok-push.ensures) (one_transition g t.classes k.left.states s n c.loop-class.go r (c.loop-class.invariant.does k s at) (here k s at));
      size = omega (arith, ap length c.in_ok-push.ensures, length_push c.loop-class.go r, c.loop-class.invariant.size);
      workspace = c.in_ok-transition.ensures.workspace ∙ c.loop-class.invariant.workspace;
      long = c.in_ok-transition.ensures.long ∙ c.loop-class.invariant.long;
    }
