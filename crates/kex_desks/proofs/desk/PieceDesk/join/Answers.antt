use Rattle.std.proofs.Common.{rules, ◌≡◌, ◌+◌, ◌-◌, ◌++◌, None, true, take, drop, sym, ap, subst, ◌∙◌, arith, take-add}
use Rattle.kex_desks.specs.Drafts.{GoesOver}
use Rattle.kex_desks.proofs.PieceJoins.{goes_more, goes_on, takes_over}
use Rattle.kex_desks.proofs.desk.PieceDesk.join.Goals as goal

pub returns-clause-comes : goal.returns-clause-comes
returns-clause-comes g c =
    let w = g.W.Worker in
    let drafted : c.self.inside.drafted ≡ true = search rules in
    let d = c.self.invariant.2 drafted in
    let ahead = c.in-Some.ahead in
    let rest = c.args.rest.now in
    let bytes = c.self.inside.draft.bytes.items in
    let text = c.self.inside.draft.text.items in
    let out = c.go_on.new.out.items in
    let here : c.begins.result ≡ true = search rules in
    let on : c.in_ok-stop.stop ≡ None = search rules in
    let first : GoesOver (w.follows c.args.worker.now) (w.follows c.go_on.new.self) (take ahead rest) c.args.out.now.items out =
    goes_on (w.says (w.machine c.args.worker.now)) (w.follows c.args.worker.now) (w.follows c.go_on.new.self) (take ahead rest) c.in_ok-stop.stop c.args.out.now.items out on c.in_ok-stop.ensures.reads in
    let same : w.machine c.go_on.new.self ≡ w.machine d.begun = c.go_on.ensures.same ∙ sym c.requires.same ∙ ap w.machine (sym c.self.view_is) ∙ sym d.same in
    let alike = g.met.W.KnowsPlace.alike c.go_on.new.self d.begun c.self.inside.draft.place same (c.begins.ensures.place here) d.stood in
    let then : GoesOver (w.follows c.go_on.new.self) (w.follows c.self.inside.worker) bytes out (out ++ text) = takes_over (w.follows c.go_on.new.self) (w.follows d.begun) (w.follows c.self.inside.worker) bytes text out alike.1 d.went in
    let long : (ahead + c.len.result) - ahead ≡ c.len.result = omega arith in
    let cut : take ahead rest ++ bytes ≡ take (ahead + c.len.result) rest = ap (λ z. take ahead rest ++ z) (sym (c.begins.ensures.bytes here) ∙ ap (λ k. take k (drop ahead rest)) long) ∙ sym (take-add ahead c.len.result rest) in
    let both = goes_more (w.follows c.args.worker.now) (w.follows c.go_on.new.self) (w.follows c.self.inside.worker) (take ahead rest) bytes c.args.out.now.items out (out ++ text) first then in
    let written : c.extend_from_slice.new.self.items ≡ out ++ text = search rules in
    subst (λ z. GoesOver (w.follows c.args.worker.now) (w.follows z) (take (ahead + c.len.result) rest) c.args.out.now.items c.extend_from_slice.new.self.items) (sym c.swap.ensures.x_after)
    (subst (λ z. GoesOver (w.follows c.args.worker.now) (w.follows c.self.inside.worker) (take (ahead + c.len.result) rest) c.args.out.now.items z) (sym written)
    (subst (λ z. GoesOver (w.follows c.args.worker.now) (w.follows c.self.inside.worker) z c.args.out.now.items (out ++ text)) cut both))
