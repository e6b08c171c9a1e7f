use Rattle.std.proofs.Common.{◌≡◌, true, refl, subst, rules, arith}
use Rattle.std.specs.Bool.{Decides}
use Rattle.kex_cover.specs.declared.pairs.SetPair.{SetPair}
use Rattle.kex_cover.specs.contracts.pairs.SetPairPartialEq.TheImpl.{eq-value}
use Rattle.kex_cover.proofs.Keys.{entered, entered_long, entered_new}
use Rattle.kex_cover.proofs.pairs.Pairs.enter.Goals as goal

same : (p q : SetPair) → eq-value.it p q ≡ true → p ≡ q
same p q e = search rules

own : (p : SetPair) → eq-value.it p p ≡ true
own p = search rules

decides : (p q : SetPair) → Decides (eq-value.it p q) (p ≡ q)
decides p q = (same p q, (λ e. subst (λ z. eq-value.it p z ≡ true) e (own p)))

pub returns-then-len-self-clause-err : goal.returns-then-len-self-clause-err
returns-then-len-self-clause-err c =
    let h = entered eq-value.it decides c.args.self.now.met.keys c.insert_full.new.self.keys c.args.pair c.in_ok-insert_full.ensures.keys in
    let long = entered_long c.args.self.now.met.keys c.insert_full.new.self.keys c.args.pair h in
    (refl, (entered_new c.args.self.now.met.keys c.insert_full.new.self.keys c.args.pair h (omega (arith, c.requires.room)), omega (arith, long)))

pub returns-clause-ok : goal.returns-clause-ok
returns-clause-ok c = entered eq-value.it decides c.args.self.now.met.keys c.insert_full.new.self.keys c.args.pair c.in_ok-insert_full.ensures.keys
