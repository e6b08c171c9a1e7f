-- A runner that is fed pieces one after the other.
use Rattle.std.proofs.Common.{◌≡◌, ℕ, ◌+◌, ◌-◌, ◌<◌, ◌⊎◌, inr, ⊎_elim, List, [], ◌++◌, length, take, drop, sym, ap, subst, ◌∙◌, append_assoc, arith}
use Rattle.std.proofs.lemmas.List.{length-drop, take-append-drop, take_all}
use Rattle.kex_code.specs.declared.symbol.Symbol.{Symbol}
use Rattle.kex_runner.specs.declared.answers.Fed.{Fed}
use Rattle.kex_runner.specs.declared.answers.Fed.TheVariants.{On, Dead}
use Rattle.kex_runner.specs.Running.{Running, RunnerFeeds, IsRunOf, IsRunnerFed}

stands : (answer : Fed) (r : Running) (w : List ℕ) (c : List Symbol) → IsRunnerFed answer r w c → IsRunOf r w c
stands On r w c h = h.1
stands Dead r w c h = h.1

-- one piece after the other is one piece
pub feeds_more : (answer : Fed) (old mid new : Running) (x y : List ℕ) (before between after : List Symbol) → RunnerFeeds On old mid x before between → RunnerFeeds answer mid new y between after → RunnerFeeds answer old new (x ++ y) before after
feeds_more answer old mid new x y before between after f g = record {
  more = f.more ++ g.more;
  code = g.code ∙ ap (λ z. z ++ g.more) f.code ∙ append_assoc before f.more g.more;
  fed = λ w c s.
      let h = g.fed (w ++ x) (c ++ f.more) (stands On mid (w ++ x) (c ++ f.more) (f.fed w c s)) in
      subst (λ z. IsRunnerFed answer new z (c ++ (f.more ++ g.more))) (append_assoc w x y) (subst (λ z. IsRunnerFed answer new ((w ++ x) ++ y) z) (append_assoc c f.more g.more) h);
  told = g.told;
}

-- nothing was done, or a piece was fed
abbrev pub HasGone : Running → Running → List ℕ → List Symbol → List Symbol → Type 0
HasGone old new x before after = ((new ≡ old) × (x ≡ []) × (after ≡ before)) ⊎ RunnerFeeds On old new x before after

pub gone_more : (answer : Fed) (old mid new : Running) (x y : List ℕ) (before between after : List Symbol) → HasGone old mid x before between → RunnerFeeds answer mid new y between after → RunnerFeeds answer old new (x ++ y) before after
gone_more answer old mid new x y before between after h g = ⊎_elim
    (λ e. subst (λ z. RunnerFeeds answer z new (x ++ y) before after) e.0 (subst (λ z. RunnerFeeds answer mid new (z ++ y) before after) (sym e.1) (subst (λ z. RunnerFeeds answer mid new y z after) e.2 g)))
    (λ f. feeds_more answer old mid new x y before between after f g)
    h

-- where a piece isn't empty it was fed
pub gone_some : (old new : Running) (x : List ℕ) (before after : List Symbol) → 0 < length x → HasGone old new x before after → RunnerFeeds On old new x before after
gone_some old new x before after some h = ⊎_elim (λ e. let none : length x ≡ 0 = ap length e.1 in absurd (omega (arith, some, none))) (λ f. f) h

-- what is left of a piece is fed
pub rest_fed : (answer : Fed) (old mid new : Running) (piece : List ℕ) (at : ℕ) (before between after : List Symbol) → HasGone old mid (take at piece) before between → RunnerFeeds answer mid new (take (length piece - at) (drop at piece)) between after → RunnerFeeds answer old new piece before after
rest_fed answer old mid new piece at before between after h g =
    let long = length-drop at piece in
    let rest : take (length piece - at) (drop at piece) ≡ drop at piece = take_all (length piece - at) (drop at piece) (omega (arith, long)) in
    subst (λ z. RunnerFeeds answer old new z before after) (take-append-drop at piece)
    (gone_more answer old mid new (take at piece) (drop at piece) before between after h (subst (λ z. RunnerFeeds answer mid new z between after) rest g))

-- a part more was fed
pub part_fed : (old mid new : Running) (piece part : List ℕ) (at : ℕ) (before between after : List Symbol) → take (at + length part) piece ≡ take at piece ++ part → HasGone old mid (take at piece) before between → RunnerFeeds On mid new part between after → HasGone old new (take (at + length part) piece) before after
part_fed old mid new piece part at before between after e h g =
    inr (subst (λ z. RunnerFeeds On old new z before after) (sym e) (gone_more On old mid new (take at piece) part before between after h g))
