use Rattle.std.proofs.Common.{rules, ◌≡◌, ◌+◌, ◌++◌, ◌||◌, not, ℕ, List, Bool, Option, None, true, false, nat_lt, length, refl, sym, subst}
use Rattle.std.specs.Prelude.{IsTrue}
use Rattle.std.proofs.lemmas.Bool.{ltb-true, ltb-false}
use Rattle.kex_pipe.specs.Bounds.{StandsAs, fate_of}
use Rattle.kex_pipe.specs.Histories.{Feeds, bytes_fed, said_text}
use Rattle.kex_pipe.specs.declared.turn.Fate.{Fate}
use Rattle.kex_pipe.specs.declared.turn.Fate.TheVariants.{Stopped}
use Rattle.kex_pipe.specs.declared.turn.Stop.{Stop}
use Rattle.kex_pipe.proofs.BoundedTurns.{drops, feeds, may_go_on, open_of, usable_is}
use Rattle.kex_pipe.proofs.bounded.BoundedTurn.feed.Goals as goal

pub go_on-requires-clause-ready : goal.go_on-requires-clause-ready
go_on-requires-clause-ready g c =
    let s = c.args.self.now in
    let usable : s.usable ≡ true = usable_is g.W.Worker.may_want s.usable s.wanted c.requires in
    s.ready usable (search rules) (search rules)

pub returns-clause-feeds : goal.returns-clause-feeds
returns-clause-feeds g c = λ h stands e.
    let w = g.W.Worker in
    let s = c.args.self.now in
    let m = w.machine s.worker in
    let piece = c.args.piece.now in
    let front = c.front_of-front.result.now in
    let none : s.stop ≡ None = search rules in
    let on : s.over ≡ false = search rules in
    let open_ = open_of (λ u x b. w.gives m s.limit u x b) (λ u t. w.follows s.worker u t × (s.count ≡ length u)) s.stop s.over h stands.0 e none in
    let reads = c.in_ok-at.ensures.reads (bytes_fed h) (said_text h) open_.0 in
    let more = feeds (w.says m) (w.closes m) w.gives m (g.met.W.Worker.answers m) s.limit h s.count piece front open_.1 s.within c.front_of-front.ensures
    (λ u t. w.follows c.go_on.new.self u t) (IsTrue (not w.may_want || true)) (w.machine c.go_on.new.self) c.in_ok-at.at (nat_lt (length front) (length piece))
    c.args.out.now.items c.go_on.new.out.items c.go_on.ensures.same (may_go_on w.may_want)
    (λ t. ltb-true (length front) (length piece) t) (λ t. ltb-false (length front) (length piece) t) reads in
    let F : Option Stop → Bool → Fate → Type 0 = λ stop over fate.
    Feeds (λ u x b. w.gives m s.limit u x b)
    (λ k. StandsAs (λ u x b. w.gives (w.machine c.go_on.new.self) s.limit u x b) (λ u t. w.follows c.go_on.new.self u t × (s.count + length front ≡ length u)) stop over k × IsTrue (not w.may_want || true))
    h (bytes_fed h ++ piece) false c.args.out.now.items c.go_on.new.out.items fate in
    let stopped = subst (λ z. F z false (fate_of z)) (sym c.stop_after-self.ensures) more in
    subst (λ over. F c.stop_after-self.result over c.fate_of-2.result) (sym on) (subst (λ z. F c.stop_after-self.result false z) (sym c.fate_of-2.ensures) stopped)

pub returns-in-Some-clause-feeds : goal.returns-in-Some-clause-feeds
returns-in-Some-clause-feeds g c = λ h stands e.
    let w = g.W.Worker in
    let s = c.args.self.now in
    let m = w.machine s.worker in
    let piece = c.args.piece.now in
    let on : s.over ≡ false = search rules in
    let Open : List ℕ → List ℕ → Type 0 = λ u t. w.follows s.worker u t × (s.count ≡ length u) in
    let S : Option Stop → Type 0 = λ stop. StandsAs (λ u x b. w.gives m s.limit u x b) Open stop s.over h in
    let more = drops (w.says m) (w.closes m) w.gives m (g.met.W.Worker.answers m) s.limit Open (IsTrue (not w.may_want || s.usable)) c.in-Some.field-0 s.over h (bytes_fed h ++ piece) false c.args.out.now.items
    c.requires (subst S c.in-Some.is stands.0) e (piece, refl) in
    let F : Option Stop → Bool → Type 0 = λ stop over.
    Feeds (λ u x b. w.gives m s.limit u x b) (λ k. StandsAs (λ u x b. w.gives m s.limit u x b) Open stop over k × IsTrue (not w.may_want || s.usable)) h (bytes_fed h ++ piece) false c.args.out.now.items c.args.out.now.items Stopped in
    subst (λ o. F s.stop o) (sym on) (subst (λ stop. F stop false) (sym c.in-Some.is) more)
