use Rattle.std.proofs.Common.{rules, ◌≡◌, ◌||◌, not, ℕ, List, [], Option, None, true, length, sym, subst, append-nil}
use Rattle.std.specs.Prelude.{IsTrue}
use Rattle.kex_pipe.specs.Bounds.{StandsAs, fate_of}
use Rattle.kex_pipe.specs.Histories.{Feeds, bytes_fed, said_text}
use Rattle.kex_pipe.specs.declared.turn.Fate.{Fate}
use Rattle.kex_pipe.specs.declared.turn.Fate.TheVariants.{Stopped}
use Rattle.kex_pipe.specs.declared.turn.Stop.{Stop}
use Rattle.kex_pipe.proofs.BoundedTurns.{drops, ends, may_go_on, open_of, usable_is}
use Rattle.kex_pipe.proofs.bounded.BoundedTurn.end.Goals as goal

pub finish-requires : goal.finish-requires
finish-requires g c =
    let s = c.args.self.now in
    let usable : s.usable ≡ true = usable_is g.W.Worker.may_want s.usable s.wanted c.requires in
    s.ready usable (search rules) (search rules)

pub returns-clause-feeds : goal.returns-clause-feeds
returns-clause-feeds g c = λ h stands e.
    let w = g.W.Worker in
    let s = c.args.self.now in
    let m = w.machine s.worker in
    let none : s.stop ≡ None = search rules in
    let open_ = open_of (λ u x b. w.gives m s.limit u x b) (λ u t. w.follows s.worker u t × (s.count ≡ length u)) s.stop s.over h stands.0 e none in
    let closed = c.in_ok-parsed.ensures.ends (bytes_fed h) (said_text h) open_.0 in
    let more = ends (w.says m) (w.closes m) w.gives m (g.met.W.Worker.answers m) s.limit h s.count open_.1 s.within
    (λ u t. w.follows c.finish.new.self u t × (s.count ≡ length u)) (IsTrue (not w.may_want || true)) (w.machine c.finish.new.self) c.in_ok-parsed.parsed
    c.args.out.now.items c.finish.new.out.items c.finish.ensures.same (may_go_on w.may_want) closed in
    let F : Option Stop → Fate → Type 0 = λ stop fate.
    Feeds (λ u x b. w.gives m s.limit u x b)
    (λ k. StandsAs (λ u x b. w.gives (w.machine c.finish.new.self) s.limit u x b) (λ u t. w.follows c.finish.new.self u t × (s.count ≡ length u)) stop true k × IsTrue (not w.may_want || true))
    h (bytes_fed h) true c.args.out.now.items c.finish.new.out.items fate in
    let stopped = subst (λ z. F z (fate_of z)) (sym c.end_stop-self.ensures) more in
    subst (λ z. F c.end_stop-self.result z) (sym c.fate_of-2.ensures) stopped

pub returns-in-Some-clause-feeds : goal.returns-in-Some-clause-feeds
returns-in-Some-clause-feeds g c = λ h stands e.
    let w = g.W.Worker in
    let s = c.args.self.now in
    let m = w.machine s.worker in
    let Open : List ℕ → List ℕ → Type 0 = λ u t. w.follows s.worker u t × (s.count ≡ length u) in
    let S : Option Stop → Type 0 = λ stop. StandsAs (λ u x b. w.gives m s.limit u x b) Open stop s.over h in
    let more = drops (w.says m) (w.closes m) w.gives m (g.met.W.Worker.answers m) s.limit Open (IsTrue (not w.may_want || s.usable)) c.in-Some.field-0 s.over h (bytes_fed h) true c.args.out.now.items
    c.requires (subst S c.in-Some.is stands.0) e ([], sym (append-nil (bytes_fed h))) in
    let F : Option Stop → Type 0 = λ stop.
    Feeds (λ u x b. w.gives m s.limit u x b) (λ k. StandsAs (λ u x b. w.gives m s.limit u x b) Open stop true k × IsTrue (not w.may_want || s.usable)) h (bytes_fed h) true c.args.out.now.items c.args.out.now.items Stopped in
    subst F (sym c.in-Some.is) more
